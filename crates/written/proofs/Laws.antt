-- What the writers need: runs of stores, digits, and escapes byte by byte.
use mathlib.Core.Path.{◌≡◌, refl, ap, sym, ◌∙◌}
use mathlib.Core.List.{List, [], ◌∷◌, ◌++◌, append-nil}
use mathlib.Core.Bool.{Bool, true, false}
use Prim.Native.Nat.{ℕ, zero, suc, ◌+◌, ◌-◌, ◌/◌, ◌%◌, ◌≤◌, ◌<◌}
use native.Mathlib.Nat.{add-zero, zero-add, mod-eq_of_lt}
use native.Mathlib.Numerals.{add-one}
use native.Mathlib.Omega.{arith}
use lib.Dec.{eqb, ltb}
use lib.ListN.{length, get_or, drop, set, drop_of_length-le, length-append}
use borrow.Rule.Slice.PartMut.{put_mid}
use Rattle.std.proofs.lemmas.List.{append_assoc, drop-drop, drop-set}
use lib.Seq.{drop-cons, sets, sets-eq, length-sets}
use borrow.Author.Tests.{lt-ltb, le-ltb, ltb-true, ltb-false, le-leb, lt-leb, eq-eqb, ne_eqb, eqb-true, eqb-false}
use Rattle.words.proofs.Laws.{by}
use Rattle.definition.specs.Text.{digits, decimal, generated_name, str, escaped_quotes, quoted, trimmed}
use Rattle.std.specs.Prelude.{count_by}
use Rattle.std.proofs.lemmas.List.Sums.{sum_by-cons}
use mathlib.Core.Bool.{cond}
use Rattle.written.specs.Written.{written, written_length, escape, in_quotes}

-- ---- runs of stores

-- a run goes on where another ends
pub sets_on : (x y l : List ℕ) (i j : ℕ) → j ≡ i + length x → sets (sets l i x) j y ≡ sets l i (x ++ y)
sets_on [] y l i j h = ap (λ (k : ℕ). sets l k y) (h ∙ add-zero i)
sets_on (a ∷ x) y l i j h = sets_on x y (set l i a) (suc i) j (omega arith)

-- ---- a text in a buffer

module _ (w t : List ℕ) where
  pub written_is : length w ≤ length t → w ++ drop (length w) t ≡ written w t
  unfolding written
  written_is h = rw (le-leb _ _ h, written)

  pub written_all : length w ≤ length t → sets t 0 w ≡ written w t
  unfolding written
  written_all h = rw (le-leb _ _ h, written) (sets-eq w t 0 (omega arith) ∙ ap (λ (n : ℕ). w ++ drop n t) (zero-add (length w)))

  pub written_none : length t < length w → t ≡ written w t
  unfolding written
  written_none h = rw (lt-leb _ _ h, written)

  pub length_all : length w ≤ length t → length w ≡ written_length w t
  unfolding written_length
  length_all h = rw (le-leb _ _ h, written_length)

  pub length_none : length t < length w → 0 ≡ written_length w t
  unfolding written_length
  length_none h = rw (lt-leb _ _ h, written_length)

-- ---- digits

module _ (f m : ℕ) where
  pub digits_one : m < 10 → digits (suc f) m ≡ (48 + m % 10) ∷ []
  unfolding digits
  digits_one h = rw (mod-eq_of_lt h, lt-ltb _ _ h, digits)

  pub digits_more : 10 ≤ m → digits (suc f) m ≡ digits f (m / 10) ++ (48 + m % 10) ∷ []
  unfolding digits
  digits_more h = rw (le-ltb _ _ h, digits)

-- counting: k digits are passed, of twenty
module _ (k m : ℕ) where
  pub count_one : k < 20 → m < 10 → k + 1 ≡ k + length (digits (20 - k) m)
  count_one h l = let e : 20 - k ≡ suc (20 - (k + 1)) = omega arith in rw (e, digits_one (20 - (k + 1)) m l)

  pub count_more : k < 20 → 10 ≤ m → k + 1 + length (digits (20 - (k + 1)) (m / 10)) ≡ k + length (digits (20 - k) m)
  count_more h l =
      let f : ℕ = 20 - (k + 1) in
      let e : 20 - k ≡ suc f = omega arith in
      omega (arith, ap (λ (n : ℕ). length (digits n m)) e, ap length (digits_more f m l), length-append (digits f (m / 10)) ((48 + m % 10) ∷ []))

  pub count_end : 20 ≤ k → k ≡ k + length (digits (20 - k) m)
  unfolding digits
  count_end h = let e : 20 - k ≡ 0 = omega arith in rw (e, add-zero)

-- as much fuel as there are digits is enough
digits_exact : (f c n : ℕ) → length (digits f n) ≡ c → digits c n ≡ digits f n
unfolding digits
digits_exact zero c n h = let e : c ≡ 0 = sym h in rw e
digits_exact (suc f) c n h =
    by (ltb n 10) (λ e.
    let l : n < 10 = ltb-true _ _ e in
    let k : c ≡ 1 = omega (arith, ap length (digits_one f n l)) in
    rw k (digits_one 0 n l ∙ sym (digits_one f n l)))
    (λ e.
    let l : 10 ≤ n = ltb-false _ _ e in
    let k : suc (length (digits f (n / 10))) ≡ c = omega (arith, ap length (digits_more f n l), length-append (digits f (n / 10)) ((48 + n % 10) ∷ [])) in
    ap (λ (m : ℕ). digits m n) (sym k)
    ∙ digits_more (length (digits f (n / 10))) n l
    ∙ ap (λ (x : List ℕ). x ++ (48 + n % 10) ∷ []) (digits_exact f (length (digits f (n / 10))) (n / 10) refl)
    ∙ sym (digits_more f n l))

pub digits_all : (c n : ℕ) → c ≡ length (decimal n) → digits c n ≡ decimal n
unfolding decimal
digits_all c n e = digits_exact 20 c n (sym e)

-- storing from the last one to the first: i digits are left, and i places
module _ (l : List ℕ) (i m : ℕ) (some : 0 < i) (there : i ≤ length l) (long : length (digits i m) ≡ i) where
  left : i ≡ suc (i - 1)
  left = omega arith

  one : m < 10 → digits i m ≡ (48 + m % 10) ∷ []
  one h = ap (λ (k : ℕ). digits k m) left ∙ digits_one (i - 1) m h

  more : 10 ≤ m → digits i m ≡ digits (i - 1) (m / 10) ++ (48 + m % 10) ∷ []
  more h = ap (λ (k : ℕ). digits k m) left ∙ digits_more (i - 1) m h

  stored : drop (i - 1) (set l (i - 1) (48 + m % 10)) ≡ (48 + m % 10) ∷ drop i l
  stored = drop-set l (i - 1) (48 + m % 10) (omega arith) ∙ ap (λ (k : ℕ). (48 + m % 10) ∷ drop k l) (omega arith)

  no_more : m < 10 → digits (i - 1) (m / 10) ≡ []
  unfolding digits
  no_more h = let e : i - 1 ≡ 0 = omega (arith, ap length (one h)) in rw e

  pub put_long : length (digits (i - 1) (m / 10)) ≡ i - 1
  put_long =
      by (ltb m 10) (λ e. let h : m < 10 = ltb-true _ _ e in omega (arith, ap length (one h), ap length (no_more h)))
      (λ e. let h : 10 ≤ m = ltb-false _ _ e in omega (arith, ap length (more h), length-append (digits (i - 1) (m / 10)) ((48 + m % 10) ∷ [])))

  split : digits i m ≡ digits (i - 1) (m / 10) ++ (48 + m % 10) ∷ []
  split =
      by (ltb m 10) (λ e. let h : m < 10 = ltb-true _ _ e in one h ∙ ap (λ (x : List ℕ). x ++ (48 + m % 10) ∷ []) (sym (no_more h)))
      (λ e. more (ltb-false _ _ e))

  pub put_digit : digits (i - 1) (m / 10) ++ drop (i - 1) (set l (i - 1) (48 + m % 10)) ≡ digits i m ++ drop i l
  put_digit =
      ap (λ (x : List ℕ). digits (i - 1) (m / 10) ++ x) stored
      ∙ sym (append_assoc (digits (i - 1) (m / 10)) ((48 + m % 10) ∷ []) (drop i l))
      ∙ ap (λ (x : List ℕ). x ++ drop i l) (sym split)

pub digits_begin : (l : List ℕ) (n : ℕ) → length l ≡ length (decimal n) → digits (length l) n ++ drop (length l) l ≡ decimal n
digits_begin l n e = let k : length l ≤ length l = omega arith in rw (drop_of_length-le l k) (append-nil (digits (length l) n) ∙ digits_all (length l) n e)

pub digits_end : (l : List ℕ) (i m : ℕ) → i ≤ 0 → l ≡ digits i m ++ drop i l
unfolding digits
digits_end l i m h = let e : i ≡ 0 = omega arith in rw e

-- ---- generated names

pub name_length_lem : (n : ℕ) → length (generated_name n) ≡ 4 + length (decimal n)
unfolding generated_name str
name_length_lem n = length-append (str "__id") (decimal n)

module _ (n : ℕ) (t x : List ℕ) (e : x ≡ decimal n) where
  pub name_length : 4 + length x ≤ length t → 4 + length x ≡ written_length (generated_name n) t
  name_length h =
      let k : 4 + length x ≡ length (generated_name n) = omega (arith, ap length e, name_length_lem n) in
      k ∙ length_all (generated_name n) t (omega arith)

  pub name_put : 4 + length x ≤ length t → put_mid 4 (length x) ((95 ∷ 95 ∷ 105 ∷ 100 ∷ []) ++ drop 4 t) x ≡ written (generated_name n) t
  unfolding generated_name str
  name_put h =
      let k : 4 + length x ≡ length (generated_name n) = omega (arith, ap length e, name_length_lem n) in
      ap (λ (y : List ℕ). 95 ∷ 95 ∷ 105 ∷ 100 ∷ (x ++ y)) (drop-drop (length x) 4 t ∙ ap (λ (m : ℕ). drop m t) k)
      ∙ ap (λ (y : List ℕ). 95 ∷ 95 ∷ 105 ∷ 100 ∷ (y ++ drop (length (generated_name n)) t)) e
      ∙ written_is (generated_name n) t (omega arith)

-- ---- escapes

escape_cons : (b : ℕ) (bs : List ℕ) → escaped_quotes (b ∷ bs) ≡ escape b ++ escaped_quotes bs
unfolding escaped_quotes escape
escape_cons b bs = go (eqb b 34) (eqb b 10) (escaped_quotes bs)
  where
    go :
        (t u : Bool) (x : List ℕ) →
        elim t [ true ↦ 92 ∷ 34 ∷ x | false ↦ elim u [ true ↦ 32 ∷ x | false ↦ b ∷ x ] ] ≡ elim t [ true ↦ 92 ∷ 34 ∷ [] | false ↦ elim u [ true ↦ 32 ∷ [] | false ↦ b ∷ [] ] ] ++ x
    go true u x = refl
    go false true x = refl
    go false false x = refl

module _ (b : ℕ) where
  pub escape_mark : b ≡ 34 → escape b ≡ 92 ∷ 34 ∷ []
  unfolding escape
  escape_mark e = rw (eq-eqb _ _ e, escape)

  escape_none : (b ≡ 34 → ⊥) → escape b ≡ elim (eqb b 10) [ true ↦ 32 ∷ [] | false ↦ b ∷ [] ]
  unfolding escape
  escape_none h = rw (ne_eqb _ _ h, escape)

  pub escape_line : (b ≡ 34 → ⊥) → b ≡ 10 → escape b ≡ 32 ∷ []
  escape_line h e = escape_none h ∙ ap (λ (t : Bool). elim t [ true ↦ 32 ∷ [] | false ↦ b ∷ [] ]) (eq-eqb _ _ e)

  pub escape_other : (b ≡ 34 → ⊥) → (b ≡ 10 → ⊥) → escape b ≡ b ∷ []
  escape_other h e = escape_none h ∙ ap (λ (t : Bool). elim t [ true ↦ 32 ∷ [] | false ↦ b ∷ [] ]) (ne_eqb _ _ e)

  pub escape_short : (b ≡ 34 → ⊥) → length (escape b) ≡ 1
  escape_short h = by (eqb b 10) (λ e. ap length (escape_line h (eqb-true _ _ e))) (λ e. ap length (escape_other h (eqb-false _ _ e)))

escape_length_is : (b : ℕ) → length (escape b) ≡ cond (eqb b 34) 1 0 + 1
escape_length_is b = by (eqb b 34) (λ e. ap length (escape_mark b (eqb-true _ _ e)) ∙ rw e) (λ e. escape_short b (eqb-false _ _ e) ∙ rw e)

-- In quotes a text has as many bytes more as it has quotation marks.
pub marks_by : (w : List ℕ) → count_by (λ (b : ℕ). eqb b 34) w + length w ≡ length (escaped_quotes w)
unfolding escaped_quotes
marks_by [] = refl
marks_by (b ∷ w) = omega (arith, sum_by-cons (λ (x : ℕ). cond (eqb x 34) 1 0) b w, marks_by w, ap length (escape_cons b w), length-append (escape b) (escaped_quotes w), escape_length_is b)

module _ (w : List ℕ) (i : ℕ) where
  pub escape_at : i < length w → escaped_quotes (drop i w) ≡ escape (get_or w i 0) ++ escaped_quotes (drop (i + 1) w)
  escape_at h = ap escaped_quotes (drop-cons w i 0 h) ∙ escape_cons (get_or w i 0) (drop (suc i) w) ∙ rw add-one

  pub escape_length : i < length w → length (escaped_quotes (drop i w)) ≡ length (escape (get_or w i 0)) + length (escaped_quotes (drop (i + 1) w))
  escape_length h = ap length (escape_at h) ∙ length-append (escape (get_or w i 0)) (escaped_quotes (drop (i + 1) w))

  pub escape_end : length w ≤ i → escaped_quotes (drop i w) ≡ []
  unfolding escaped_quotes
  escape_end h = rw (drop_of_length-le w h)

  pub escape_put : (l : List ℕ) (p : ℕ) → i < length w → sets (sets l p (escape (get_or w i 0))) (p + length (escape (get_or w i 0))) (escaped_quotes (drop (i + 1) w)) ≡ sets l p (escaped_quotes (drop i w))
  escape_put l p h = sets_on (escape (get_or w i 0)) (escaped_quotes (drop (i + 1) w)) l p _ refl ∙ ap (sets l p) (sym (escape_at h))

-- ---- quotes

pub quotes_length : (w : List ℕ) → length (in_quotes w) ≡ length (escaped_quotes w) + 2
unfolding in_quotes
quotes_length w = omega (arith, length-append (escaped_quotes w) (34 ∷ []))

pub quotes_put : (w t : List ℕ) (at : ℕ) → at ≡ 1 + length (escaped_quotes w) → length (in_quotes w) ≤ length t → set (sets (set t 0 34) 1 (escaped_quotes w)) at 34 ≡ written (in_quotes w) t
unfolding in_quotes
quotes_put w t at e h = sets_on (34 ∷ escaped_quotes w) (34 ∷ []) t 0 at (omega arith) ∙ written_all (in_quotes w) t h

pub quoted_part : (v : List ℕ) → quoted v ≡ in_quotes (trimmed v)
unfolding quoted in_quotes
quoted_part v = refl

-- what a store of one escape leaves
module _ (l : List ℕ) (at b : ℕ) where
  pub stored_mark : b ≡ 34 → set (set l at 92) (at + 1) 34 ≡ sets l at (escape b)
  stored_mark e = rw (escape_mark b e, add-one)

  pub stored_line : (b ≡ 34 → ⊥) → b ≡ 10 → set l at 32 ≡ sets l at (escape b)
  stored_line h e = rw (escape_line b h e)

  pub stored_other : (b ≡ 34 → ⊥) → (b ≡ 10 → ⊥) → set l at b ≡ sets l at (escape b)
  stored_other h e = ap (sets l at) (sym (escape_other b h e))

pub escape_step : (w : List ℕ) (i : ℕ) (l m : List ℕ) (p q : ℕ) → i < length w → m ≡ sets l p (escape (get_or w i 0)) → q ≡ p + length (escape (get_or w i 0)) → sets m q (escaped_quotes (drop (i + 1) w)) ≡ sets l p (escaped_quotes (drop i w))
escape_step w i l m p q h e f = rw (e, f) (escape_put w i l p h)

pub kept_length : (l m x : List ℕ) (p : ℕ) → m ≡ sets l p x → length m ≡ length l
kept_length l m x p e = ap length e ∙ length-sets l p x

-- ---- what the two writers leave

module _ (n count : ℕ) (t : List ℕ) (e : count ≡ length (decimal n)) where
  pub name_short : length t < 4 + count → (0 ≡ written_length (generated_name n) t) × (t ≡ written (generated_name n) t)
  name_short h = let k : length t < length (generated_name n) = omega (arith, name_length_lem n) in (length_none _ _ k, written_none _ _ k)

module _ (w t : List ℕ) where
  pub quotes_short : length t < length (escaped_quotes w) + 2 → (0 ≡ written_length (in_quotes w) t) × (t ≡ written (in_quotes w) t)
  quotes_short h = let k : length t < length (in_quotes w) = omega (arith, quotes_length w) in (length_none _ _ k, written_none _ _ k)

  pub quotes_done : (m : List ℕ) (at : ℕ) → at ≡ 1 + length (escaped_quotes w) → length (escaped_quotes w) + 2 ≤ length t → m ≡ sets (set t 0 34) 1 (escaped_quotes w) → (at + 1 ≡ written_length (in_quotes w) t) × (set m at 34 ≡ written (in_quotes w) t)
  quotes_done m at e h f =
      let k : at + 1 ≡ length (in_quotes w) = omega (arith, quotes_length w) in
      (k ∙ length_all (in_quotes w) t (omega arith), ap (λ (l : List ℕ). set l at 34) f ∙ quotes_put w t at e (omega arith))
