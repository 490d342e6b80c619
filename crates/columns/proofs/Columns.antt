-- A row's columns, tested one by one, as one expression.
use mathlib.Core.Path.{◌≡◌, refl, sym, ap, ◌∙◌}
use mathlib.Core.Bool.{Bool, true, false, ◌&&◌, ◌||◌, not}
use mathlib.Core.List.{List, [], ◌∷◌, ◌++◌}
use Prim.Native.Nat.{ℕ, zero, suc, ◌+◌, ◌-◌, ◌*◌, ◌/◌, ◌≤◌, ◌<◌}
use native.Mathlib.Omega.{arith}
use lib.Dec.{eqb, leb, leb-zero, leb-suc-suc}
use lib.ListN.{length, get_or, take, drop, drop_of_length-le, length-drop, replicate}
use lib.Seq.{drop-cons, length-take-le, get_or-take, get_or-drop}
use Rattle.definition.specs.Rows.{Row, Table, Class, free, own, doc_id, above, mark, len, code, row, existing, text, by, spare, num, Store}
use native.Mathlib.Numerals.{add-one}
use borrow.Author.Tests.{ne_eqb, le-leb, lt-leb, eqb-true, eqb-false}
use Rattle.definition.specs.Elements.{Role}
use Rattle.columns.specs.Cells.{texts_inside, zeros_from}
use Rattle.definition.specs.Rules.{is_inside, following, chosen, keeps, columns_keep, rows_keep}
use Rattle.definition.proofs.Base.{and_true, elim_and}

-- Of what follows a value only the next one is looked at.
keeps_next : (s : Store) (r : Row) (c : Class) (v : ℕ) (vs : Row) → keeps s r c v vs ≡ keeps s r c v (following vs ∷ [])
unfolding keeps following
keeps_next s r free v vs = refl
keeps_next s r own v vs = refl
keeps_next s r doc_id v vs = refl
keeps_next s r above v vs = refl
keeps_next s r mark v vs = refl
keeps_next s r len v vs = refl
keeps_next s r (code a b) v vs = refl
keeps_next s r (row t) v vs = refl
keeps_next s r (existing t) v vs = refl
keeps_next s r (text q) v vs = refl
keeps_next s r (by c k) v vs = refl

following_drop : (r : Row) (i : ℕ) → following (drop i r) ≡ num r i
unfolding following
following_drop [] zero = refl
following_drop [] (suc i) = refl
following_drop (v ∷ r) zero = refl
following_drop (v ∷ r) (suc i) = following_drop r i

-- The columns from i on.
unfoldable pub all : Store → Row → List Class → ℕ → Bool
unfolding keeps chosen
all s r [] i = true
all s r (c ∷ cs) i = keeps s r (chosen r c) (num r i) (num r (suc i) ∷ []) && all s r cs (suc i)

from : (s : Store) (r : Row) (cs : List Class) (i : ℕ) → length r ≡ i + length cs → columns_keep s r cs (drop i r) ≡ all s r cs i
unfolding columns_keep all
from s r [] i e = let h : length r ≤ i = omega arith in rw (drop_of_length-le r h)
from s r (c ∷ cs) i e =
    let h : i < length r = omega arith in
    rw (drop-cons r i 0 h, columns_keep)
    (elim_and (keeps s r (chosen r c) (num r i) (drop (suc i) r)) (columns_keep s r cs (drop (suc i) r))
    ∙ rw (keeps_next s r (chosen r c) (num r i) (drop (suc i) r), following_drop r (suc i), from s r cs (suc i) (omega arith)))

pub columns_all : (s : Store) (r : Row) (cs : List Class) → length r ≡ length cs → columns_keep s r cs r ≡ all s r cs 0
columns_all s r cs e = from s r cs 0 (omega arith)

-- ---- texts

pub inside_is : (used at n : ℕ) {x y z : ℕ} → x ≡ at → y ≡ n → z ≡ used → (leb (x + y) (z + 1) && (not (eqb at 0) || eqb n 0)) ≡ is_inside used at n
unfolding is_inside
inside_is used zero zero e f g = rw (e, f, g, le-leb (0 + 0) (used + 1) (omega arith))
inside_is used zero (suc n) e f g = rw (e, f, g, ne_eqb (suc n) 0 (λ q. omega arith)) (and_false (leb (0 + suc n) (used + 1)))
  where
    and_false : (b : Bool) → (b && false) ≡ false
    and_false true = refl
    and_false false = refl
inside_is used (suc i) n e f g =
    let p : suc i + n ≡ suc (i + n) = omega arith in
    let q : used + 1 ≡ suc used = omega arith in
    rw (e, f, g, ne_eqb (suc i) 0 (λ q. omega arith), p, q) (and_true (leb (suc (i + n)) (suc used)) ∙ leb-suc-suc (i + n) used)

module _ (used : ℕ) (r : Row) (at : ℕ) {x y : ℕ} {b : Bool} (ex : x ≡ num r at) (ey : y ≡ num r (at + 1)) (eb : b ≡ is_inside used x y) where
  pub texts_more : (n : ℕ) → 0 < n → b ≡ true → texts_inside used r (at + 2) (n - 1) ≡ texts_inside used r at n
  unfolding texts_inside
  texts_more zero h e = let z : ⊥ = omega arith in absurd z
  texts_more (suc n) h e =
      let z : suc n - 1 ≡ n = omega arith in
      let w : at + 2 ≡ suc (suc at) = omega arith in
      let v : is_inside used (num r at) (num r (suc at)) ≡ true = rw (← add-one at, ← ex, ← ey, ← eb) e in
      rw (z, w, v)

  pub texts_stop : (n : ℕ) → 0 < n → b ≡ false → false ≡ texts_inside used r at n
  unfolding texts_inside
  texts_stop zero h e = let z : ⊥ = omega arith in absurd z
  texts_stop (suc n) h e = let v : is_inside used (num r at) (num r (suc at)) ≡ false = rw (← add-one at, ← ex, ← ey, ← eb) e in rw v

  pub texts_step : (k : Bool) (n : ℕ) → 0 < n → (k && b) && texts_inside used r (at + 2) (n - 1) ≡ k && texts_inside used r at n
  texts_step false n h = refl
  texts_step true n h = go b refl
    where
      go : (c : Bool) → b ≡ c → b && texts_inside used r (at + 2) (n - 1) ≡ texts_inside used r at n
      go true e = rw e (texts_more n h e)
      go false e = rw e (texts_stop n h e)

pub texts_end : (used : ℕ) (r : Row) (at n : ℕ) → n ≤ 0 → true ≡ texts_inside used r at n
unfolding texts_inside
texts_end used r at zero h = refl
texts_end used r at (suc n) h = let z : ⊥ = omega arith in absurd z

-- ---- rows numbered by creation

pub up_to_is : (v n : ℕ) → leb v n ≡ (eqb v 0 || (leb 1 v && leb v n))
up_to_is zero n = le-leb 0 n (omega arith)
up_to_is (suc v) n = rw (ne_eqb (suc v) 0 (λ e. omega arith), le-leb 1 (suc v) (omega arith))

-- ---- spare columns

pub spare_is : (v : ℕ) → leb v 0 ≡ eqb v 0
spare_is zero = refl
spare_is (suc v) = lt-leb (suc v) 0 (omega arith) ∙ sym (ne_eqb (suc v) 0 (λ e. omega arith))

pub spares_all : (s : Store) (r : Row) (i n : ℕ) → all s r (replicate n spare) i ≡ zeros_from r i n
unfolding all zeros_from keeps chosen
spares_all s r i zero = refl
spares_all s r i (suc n) = rw (leb-zero (num r i), spare_is (num r i), spares_all s r (suc i) n)

-- ---- what a row ends with: texts, then spare columns

unfoldable pub texts_of : List Role → List Class
texts_of [] = []
texts_of (q ∷ qs) = text q ∷ len ∷ texts_of qs

unfoldable pub past_texts : List Role → ℕ → ℕ
past_texts [] i = i
past_texts (q ∷ qs) i = past_texts qs (suc (suc i))

pub ending : (s : Store) (r : Row) (qs : List Role) (i n : ℕ) → all s r (texts_of qs ++ replicate n spare) i ≡ texts_inside (length s.text) r i (length qs) && zeros_from r (past_texts qs i) n
unfolding all keeps chosen following texts_inside texts_of past_texts
ending s r [] i n = spares_all s r i n
ending s r (q ∷ qs) i n = rw (ending s r qs (suc (suc i)) n) (assoc (is_inside (length s.text) (num r i) (num r (suc i))) (texts_inside (length s.text) r (suc (suc i)) (length qs)) (zeros_from r (past_texts qs (suc (suc i))) n))
  where
    assoc : (a b c : Bool) → a && (b && c) ≡ (a && b) && c
    assoc true b c = refl
    assoc false b c = refl

module _ (r : Row) (at : ℕ) {x : ℕ} (ex : x ≡ num r at) where
  pub zeros_more : (n : ℕ) → 0 < n → x ≡ 0 → zeros_from r (at + 1) (n - 1) ≡ zeros_from r at n
  unfolding zeros_from
  zeros_more zero h e = let z : ⊥ = omega arith in absurd z
  zeros_more (suc n) h e = let z : suc n - 1 ≡ n = omega arith in rw (z, add-one at, ← ex, e)

  pub zeros_stop : (n : ℕ) → 0 < n → (x ≡ 0 → ⊥) → false ≡ zeros_from r at n
  unfolding zeros_from
  zeros_stop zero h e = let z : ⊥ = omega arith in absurd z
  zeros_stop (suc n) h e = rw (← ex, ne_eqb x 0 e)

  pub zeros_step : (k : Bool) (n : ℕ) → 0 < n → (k && eqb x 0) && zeros_from r (at + 1) (n - 1) ≡ k && zeros_from r at n
  zeros_step false n h = refl
  zeros_step true n h = go (eqb x 0) refl
    where
      go : (c : Bool) → eqb x 0 ≡ c → eqb x 0 && zeros_from r (at + 1) (n - 1) ≡ zeros_from r at n
      go true e = rw e (zeros_more n h (eqb-true _ _ e))
      go false e = rw e (zeros_stop n h (eqb-false _ _ e))

pub zeros_end : (r : Row) (at n : ℕ) → n ≤ 0 → true ≡ zeros_from r at n
unfolding zeros_from
zeros_end r at zero h = refl
zeros_end r at (suc n) h = let z : ⊥ = omega arith in absurd z

-- ---- rows

module _ (s : Store) (cs : List Class) (t : Table) (i : ℕ) {b : Bool} where
  pub rows_more : i < length t → b ≡ columns_keep s (get_or t i []) cs (get_or t i []) → b ≡ true → rows_keep s cs (drop (i + 1) t) ≡ rows_keep s cs (drop i t)
  unfolding rows_keep
  rows_more h e f = rw (add-one, drop-cons t i [] h, ← e, f, rows_keep)

  pub rows_stop : i < length t → b ≡ columns_keep s (get_or t i []) cs (get_or t i []) → b ≡ false → false ≡ rows_keep s cs (drop i t)
  unfolding rows_keep
  rows_stop h e f = rw (drop-cons t i [] h, ← e, f, rows_keep)

pub rows_end : (s : Store) (cs : List Class) (t : Table) (i : ℕ) → length t ≤ i → true ≡ rows_keep s cs (drop i t)
unfolding rows_keep
rows_end s cs t i h = rw (drop_of_length-le t h)

pub next_is : (v n : ℕ) → leb (v - 1) n ≡ leb v (suc n)
next_is zero n = leb-zero n ∙ sym (leb-zero (suc n))
next_is (suc v) n = let e : suc v - 1 ≡ v = omega arith in rw e (sym (leb-suc-suc v n))

-- ---- a run of columns as a slice of its row

module _ (r : Row) (i m : ℕ) (h : i + m ≤ length r) where
  abbrev part : Row
  part = take (i + m - i) (drop i r)

  part_length : length part ≡ m
  part_length = omega (arith, length-take-le (i + m - i) (drop i r) (omega (arith, length-drop i r)))

  part_at : (j : ℕ) → j < m → num part j ≡ num r (i + j)
  part_at j l = get_or-take (i + m - i) (drop i r) j 0 (omega arith) ∙ get_or-drop i r j 0

  zeros_at : (j n : ℕ) → j + n ≤ m → zeros_from part j n ≡ zeros_from r (i + j) n
  unfolding zeros_from
  zeros_at j zero l = refl
  zeros_at j (suc n) l =
      let k : i + suc j ≡ suc (i + j) = omega arith in
      rw (part_at j (omega arith), zeros_at (suc j) n (omega arith), k)

  texts_at : (used j n : ℕ) → j + 2 * n ≤ m → texts_inside used part j n ≡ texts_inside used r (i + j) n
  unfolding texts_inside
  texts_at used j zero l = refl
  texts_at used j (suc n) l =
      let k : i + suc j ≡ suc (i + j) = omega arith in
      let k₂ : i + suc (suc j) ≡ suc (suc (i + j)) = omega arith in
      rw (part_at j (omega arith), part_at (suc j) (omega arith), texts_at used (suc (suc j)) n (omega arith), k, k₂)

  pub zeros_part : {b : Bool} → b ≡ zeros_from part 0 (length part) → b ≡ zeros_from r i m
  zeros_part e =
      let k : i + 0 ≡ i = omega arith in
      e ∙ ap (zeros_from part 0) part_length ∙ zeros_at 0 m (omega arith) ∙ ap (λ (n : ℕ). zeros_from r n m) k

  pub texts_part : (used : ℕ) {b : Bool} → b ≡ texts_inside used part 0 (length part / 2) → b ≡ texts_inside used r i (m / 2)
  texts_part used e =
      let k : i + 0 ≡ i = omega arith in
      e ∙ ap (λ (n : ℕ). texts_inside used part 0 (n / 2)) part_length ∙ texts_at used 0 (m / 2) (omega arith) ∙ ap (λ (n : ℕ). texts_inside used r n (m / 2)) k
