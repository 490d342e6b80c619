-- A row as it is read, kind by kind, against the definition.
use mathlib.Core.Path.{◌≡◌, refl, sym, ap, ◌∙◌}
use mathlib.Core.Bool.{Bool, true, false, ◌&&◌}
use mathlib.Core.List.{List, [], ◌∷◌, ◌++◌}
use Prim.Native.Nat.{ℕ, zero, suc, ◌+◌, ◌-◌, ◌≤◌, ◌<◌}
use native.Mathlib.Omega.{arith}
use lib.Dec.{eqb, leb, ltb}
use lib.ListN.{length, get_or, take, drop, set, replicate}
use lib.Seq.{take-append-add}
use borrow.Author.Tests.{eq-eqb, ne_eqb, lt-ltb, le-ltb, le-leb, lt-leb}
use Rattle.definition.specs.Elements.{among}
use Rattle.definition.specs.Rows.{Row, Table, Cell, num, row_of, cell_at, with_cell, root, Numbers, table_of}
use Rattle.definition.specs.Actions.{place_of_number}
use Rattle.definition.specs.Rules.{has_own_number}
use Rattle.definition.specs.Reader.{widened, exists, has_left, is_empty, place_of, row_read, with_name, state_name_of, state_kept}
use Rattle.rows.proofs.Laws.{there}
use Rattle.reading.specs.Read.{refusal, placed, own_place, shown_with, read_at, chart_read, parameter_read, read_of}

-- ---- a row with zeros behind it

abbrev zs : ℕ → List ℕ
zs n = replicate n 0

take_zeros : (k n : ℕ) → k ≤ n → take k (zs n) ≡ zs k
take_zeros zero n h = refl
take_zeros (suc k) zero h = let z : ⊥ = omega arith in absurd z
take_zeros (suc k) (suc n) h = ap (λ (l : List ℕ). 0 ∷ l) (take_zeros k n (omega arith))

drop_zeros : (k j n : ℕ) → j + k ≡ n → drop j (zs n) ≡ zs k
drop_zeros k zero n e = let z : n ≡ k = omega arith in rw z
drop_zeros k (suc j) zero e = let z : ⊥ = omega arith in absurd z
drop_zeros k (suc j) (suc n) e = drop_zeros k j n (omega arith)

pub wide : {r w : Row} → length r ≤ 48 → w ≡ r → w ++ drop (length r) (zs 50) ≡ widened r
unfolding widened
wide {r} {w} fits e =
    let k : ℕ = 50 - length r in
    let a : length r + k ≡ 50 = omega arith in
    let b : take 50 (r ++ zs 50) ≡ r ++ zs k = ap (λ (n : ℕ). take n (r ++ zs 50)) (sym a) ∙ take-append-add r (zs 50) k ∙ ap (λ (l : List ℕ). r ++ l) (take_zeros k 50 (omega arith)) in
    rw (e, drop_zeros k (length r) 50 a, b)

pub shown_lem : (st : Table) (k : ℕ) (r : Row) {a b : ℕ} {w : Row} → a ≡ num (row_of st k) 0 → b ≡ num (row_of st k) 1 → w ≡ widened r → set (set w 48 a) 49 b ≡ shown_with st k r
unfolding shown_with with_cell cell_at
shown_lem st k r e f g = rw (e, f, g)

-- ---- places

pub placed_past : (n k : ℕ) {j : ℕ} → j ≡ k → n < j → 0 ≡ placed n k
unfolding placed
placed_past n zero e h = refl
placed_past n (suc k) e h = let z : n ≤ k = omega arith in rw (le-ltb k n z, placed)

pub placed_in : (n k : ℕ) {j : ℕ} → j ≡ k → j ≤ n → j ≡ placed n k
unfolding placed
placed_in n zero e h = e
placed_in n (suc k) e h = let z : k < n = omega arith in rw (lt-ltb k n z, placed) e

placed_is : (n i : ℕ) → (placed n i ≡ 0 → ⊥) → placed n i ≡ i
unfolding placed
placed_is n zero f = refl
placed_is n (suc i) f = go (ltb i n) refl
  where
    go : (b : Bool) → ltb i n ≡ b → placed n (suc i) ≡ suc i
    go true g = rw (g, placed)
    go false g = let z : placed n (suc i) ≡ 0 = rw (g, placed) in let y : ⊥ = f z in absurd y

pub own_some : (t : Table) (k : ℕ) → (k ≡ 0 → ⊥) → place_of_number t k ≡ own_place t k
unfolding own_place
own_some t zero f = let z : ⊥ = f refl in absurd z
own_some t (suc k) f = refl

-- ---- a row at a place

pub at_none : (st : Table) (j k : ℕ) (r : Row) → k ≡ 0 → refusal 16 ≡ read_at st j k r
unfolding read_at
at_none st j k r e = rw (e, read_at)

pub at_some : (st : Table) (j k : ℕ) (t : Table) → (k ≡ 0 → ⊥) → {w : List ℕ} → w ≡ shown_with st j (get_or t (k - 1) []) → record { number = 0; row = w } ≡ read_at st j k (row_of t k)
unfolding read_at
at_some st j zero t f e = let z : ⊥ = f refl in absurd z
at_some st j (suc k) t f e = rw (there t (suc k) f, e)

-- Of state 0 no table has a name.
pub any_states : (st : Table) (k : ℕ) (r : Row) → read_at [] 0 k r ≡ read_at st 0 k r
unfolding read_at shown_with row_of
any_states st zero r = refl
any_states st (suc k) r = refl

-- ---- the definition, kind by kind

place_plain : (n : Numbers) (t i : ℕ) → has_own_number t ≡ false → place_of n t i ≡ placed (length (table_of n t)) i
unfolding place_of placed
place_plain n t zero e = refl
place_plain n t (suc i) e = rw (e, place_of)

place_own : (n : Numbers) (t i : ℕ) → has_own_number t ≡ true → place_of n t i ≡ own_place (table_of n t) i
unfolding place_of own_place
place_own n t zero e = refl
place_own n t (suc i) e = rw (e, place_of)

-- A state's name by its number; of 0 there is none.
name_of : (n : Numbers) (k : ℕ) → cell_at (row_of (table_of n 1) k) 0 ≡ state_name_of n k
unfolding state_name_of cell_at row_of
name_of n zero = refl
name_of n (suc k) = refl

shown_is : (n : Numbers) (t : ℕ) (r : Row) → shown_with (table_of n 1) (state_kept t r) r ≡ with_name n t r
unfolding shown_with with_name
shown_is n t r = ap (λ (x : Cell). with_cell 48 x (widened r)) (name_of n (state_kept t r))

shown_read : (n : Numbers) (t i : ℕ) {k j : ℕ} → k ≡ place_of n t i → j ≡ state_kept t (row_of (table_of n t) k) → shown_with (table_of n 1) j (row_of (table_of n t) k) ≡ row_read n t i
unfolding row_read
shown_read n t i {k} {j} p q = rw q (shown_is n t (row_of (table_of n t) k)) ∙ ap (λ (x : ℕ). with_name n t (row_of (table_of n t) x)) p

read_is : (n : Numbers) (t i : ℕ) → leb t 8 ≡ true → eqb t 7 ≡ false → eqb t 0 ≡ false → {k j : ℕ} → k ≡ place_of n t i → j ≡ state_kept t (row_of (table_of n t) k) → read_at (table_of n 1) j k (row_of (table_of n t) k) ≡ read_of n t i
unfolding read_of exists read_at row_of
read_is n t i e f o {k} {j} p q = go k refl
  where
    go : (m : ℕ) → k ≡ m → read_at (table_of n 1) j k (row_of (table_of n t) k) ≡ read_of n t i
    go zero g = rw (e, f, o, ← p, g, read_of, read_at)
    go (suc m) g = let h : leb 1 (suc m) ≡ true = le-leb 1 (suc m) (omega arith) in rw (e, f, o, ← p, g, read_of, h, read_of, read_at, read_of) (ap (λ (w : Row). record { number = 0; row = w }) (ap (λ (x : ℕ). shown_with (table_of n 1) j (row_of (table_of n t) x)) (sym g) ∙ shown_read n t i p q))

module _ (n : Numbers) (t i : ℕ) {st rs : Table} (s : table_of n 1 ≡ st) (r : table_of n t ≡ rs) (e : leb t 8 ≡ true) (f : eqb t 7 ≡ false) (o : eqb t 0 ≡ false) where
  pub plain_read : has_own_number t ≡ false → {k j : ℕ} → k ≡ placed (length rs) i → j ≡ state_kept t (row_of rs k) → read_at st j k (row_of rs k) ≡ read_of n t i
  plain_read g {k} {j} h q = rw (← s, ← r) (read_is n t i e f o (rw (← r) at h ∙ sym (place_plain n t i g)) (rw (← r) at q))

  pub own_read : has_own_number t ≡ true → {j : ℕ} → j ≡ state_kept t (row_of rs (own_place rs i)) → read_at st j (own_place rs i) (row_of rs (own_place rs i)) ≡ read_of n t i
  own_read g {j} q = rw (← s, ← r) (read_is n t i e f o (sym (place_own n t i g)) (rw (← r) at q))

pub no_kind : (n : Numbers) (t i : ℕ) → 8 < t → refusal 16 ≡ read_of n t i
unfolding read_of exists
no_kind n t i h = rw (lt-leb t 8 h, read_of)

-- ---- the chart

unless_placed : (t : Table) (i : ℕ) → placed (length t) i ≡ 0 → read_at [] 0 (placed (length t) i) (row_of t (placed (length t) i)) ≡ refusal 16
unfolding read_at
unless_placed t i e = rw (e, read_at)

module _ (t : Table) (i : ℕ) {k : ℕ} (e : k ≡ placed (length t) i) where
  pub chart_none : k ≡ 0 → refusal 16 ≡ chart_read t i
  unfolding chart_read
  chart_none f = go (eqb (num (get_or t 0 []) 0) 0) refl
    where
      go : (b : Bool) → eqb (num (get_or t 0 []) 0) 0 ≡ b → refusal 16 ≡ chart_read t i
      go true g = rw (g, chart_read)
      go false g = rw (g, chart_read) (sym (unless_placed t i (sym e ∙ f)))

  pub chart_empty : num (get_or t 0 []) 0 ≡ 0 → refusal 16 ≡ chart_read t i
  unfolding chart_read
  chart_empty f = rw (eq-eqb _ _ f, chart_read)

  pub chart_there : (num (get_or t 0 []) 0 ≡ 0 → ⊥) → read_at [] 0 k (row_of t k) ≡ chart_read t i
  unfolding chart_read
  chart_there f = rw (ne_eqb _ _ f, chart_read, e)

pub chart_read_lem : (n : Numbers) (i : ℕ) → chart_read (table_of n 0) i ≡ read_of n 0 i
unfolding chart_read read_of exists is_empty root row_read with_name read_at shown_with state_kept state_name_of has_own_number among
chart_read_lem n i = go (place_of n 0 i) refl (eqb (num (get_or (table_of n 0) 0 []) 0) 0) refl
  where
    pl : place_of n 0 i ≡ placed (length (table_of n 0)) i
    pl = place_plain n 0 i refl

    go : (k : ℕ) → place_of n 0 i ≡ k → (b : Bool) → eqb (num (get_or (table_of n 0) 0 []) 0) 0 ≡ b → chart_read (table_of n 0) i ≡ read_of n 0 i
    go zero e true f = rw (f, chart_read, e, read_of)
    go zero e false f = rw (f, chart_read, ← pl, e, read_of, read_at)
    go (suc k) e true f = let h : leb 1 (suc k) ≡ true = le-leb 1 (suc k) (omega arith) in rw (f, chart_read, e, h, read_of)
    go (suc k) e false f = let h : leb 1 (suc k) ≡ true = le-leb 1 (suc k) (omega arith) in rw (f, chart_read, ← pl, e, h, read_of, read_at, read_of, e)

-- ---- parameters

module _ (t st : Table) (i : ℕ) {k : ℕ} (e : k ≡ placed (length t) i) where
  abbrev left : Bool
  left = eqb (num (row_of t i) 0) 3 && ltb i (num (row_of st (num (row_of t i) 1)) 8)

  pub parameter_none : k ≡ 0 → refusal 16 ≡ parameter_read t st i
  unfolding parameter_read
  parameter_none f = go left refl
    where
      go : (b : Bool) → left ≡ b → refusal 16 ≡ parameter_read t st i
      go true g = rw (g, parameter_read)
      go false g = rw (g, parameter_read) (sym (unless_placed t i (sym e ∙ f)))

  module _ (f : k ≡ 0 → ⊥) {b : Bool} (g : b ≡ (eqb (num (get_or t (k - 1) []) 0) 3 && ltb i (num (row_of st (num (get_or t (k - 1) []) 1)) 8))) where
    here : get_or t (k - 1) [] ≡ row_of t i
    here = sym (there t k f) ∙ ap (row_of t) (e ∙ placed_is (length t) i (λ z. f (e ∙ z)))

    test : left ≡ b
    test = sym (g ∙ rw here)

    pub parameter_left : b ≡ true → refusal 16 ≡ parameter_read t st i
    unfolding parameter_read
    parameter_left h = rw (test, h, parameter_read)

    pub parameter_there : b ≡ false → read_at [] 0 k (row_of t k) ≡ parameter_read t st i
    unfolding parameter_read
    parameter_there h = rw (test, h, parameter_read, e)

pub parameter_read_lem : (n : Numbers) (i : ℕ) → parameter_read (table_of n 7) (table_of n 1) i ≡ read_of n 7 i
unfolding parameter_read read_of exists has_left row_read with_name read_at shown_with state_kept state_name_of has_own_number among
parameter_read_lem n i = go (place_of n 7 i) refl (eqb (num (row_of (table_of n 7) i) 0) 3 && ltb i (num (row_of (table_of n 1) (num (row_of (table_of n 7) i) 1)) 8)) refl
  where
    pl : place_of n 7 i ≡ placed (length (table_of n 7)) i
    pl = place_plain n 7 i refl

    go : (k : ℕ) → place_of n 7 i ≡ k → (b : Bool) → (eqb (num (row_of (table_of n 7) i) 0) 3 && ltb i (num (row_of (table_of n 1) (num (row_of (table_of n 7) i) 1)) 8)) ≡ b → parameter_read (table_of n 7) (table_of n 1) i ≡ read_of n 7 i
    go zero e true f = rw (f, parameter_read, e, read_of)
    go zero e false f = rw (f, parameter_read, ← pl, e, read_of, read_at)
    go (suc k) e true f = let h : leb 1 (suc k) ≡ true = le-leb 1 (suc k) (omega arith) in rw (f, parameter_read, e, h, read_of)
    go (suc k) e false f = let h : leb 1 (suc k) ≡ true = le-leb 1 (suc k) (omega arith) in rw (f, parameter_read, ← pl, e, h, read_of, read_at, read_of, e)
