-- Rows that exist go on existing when tables grow.
use Prim.Native.Nat.{ℕ, zero, suc, ◌+◌, ◌≤◌}
use mathlib.Core.Path.{◌≡◌, refl, ap, ◌∙◌}
use mathlib.Core.Bool.{Bool, true, false, ◌&&◌, not}
use mathlib.Core.List.{List, [], ◌∷◌, ◌++◌}
use lib.ListN.{length, get_or, set, length-append}
use lib.Dec.{eqb, leb}
use native.Mathlib.Omega.{arith}
use Rattle.definition.specs.Rows.{Row, Table, Class, free, own, doc_id, above, mark, len, code, row, existing, text, by, num}
use Rattle.definition.specs.Actions.{place_of_number}
use Rattle.definition.specs.Change.{alter_row}
use Rattle.definition.specs.Rules.{has_own_number, is_row, is_inside, following, chosen}
use Rattle.definition.proofs.Changes.{alter_length}
use Rattle.kept.proofs.Base.{false_is_true, and_left, and_right, and_both, le_of, leb_of, eqb_of, neqb_of, neq_of, All, get_d_set}
use Rattle.kept.proofs.Classes.{View, HasRow, OrZero, Fits, Nums, Laid, Texts}

-- ---- numbers of rows

-- No row has this number of its own.
abbrev pub Absent : Table → ℕ → Type 0
Absent rs v = All (λ (r : Row). ¬ (num r 0 ≡ v)) rs

pub absent_to : (rs : Table) (v : ℕ) → Absent rs v → place_of_number rs v ≡ 0
unfolding place_of_number
absent_to [] v a = refl
absent_to (r ∷ rs) v a = rw (neqb_of (num r 0) v a.0, place_of_number, absent_to rs v a.1, place_of_number)

pub absent_from : (rs : Table) (v : ℕ) → place_of_number rs v ≡ 0 → Absent rs v
unfolding place_of_number
absent_from [] v e = tt
absent_from (r ∷ rs) v e = go (eqb (num r 0) v) (place_of_number rs v) refl refl (absent_from rs v)
  where
    go : (b : Bool) (p : ℕ) → eqb (num r 0) v ≡ b → place_of_number rs v ≡ p → (place_of_number rs v ≡ 0 → Absent rs v) → Absent (r ∷ rs) v
    go true p f g ih = let z : ◌≡◌ {A = ℕ} 1 0 = rw (f, place_of_number) at e in absurd (omega arith)
    go false zero f g ih = (neq_of (num r 0) v f, ih g)
    go false (suc p) f g ih = let z : suc (suc p) ≡ 0 = rw (f, place_of_number, g, place_of_number) at e in absurd (omega arith)

-- A table after another: as many rows at least, and no number lost where rows have numbers of their own.
pub record Ext (t : ℕ) (rs us : Table) : Type 0 where
  pub longer : length rs ≤ length us
  pub numbers : has_own_number t ≡ true → (v : ℕ) → Absent us v → Absent rs v

abbrev pub ExtAll : List Table → List Table → Type 0
ExtAll T U = (t : ℕ) → Ext t (get_or T t []) (get_or U t [])

pub ext_refl : (t : ℕ) (rs : Table) → Ext t rs rs
ext_refl t rs = record { longer = omega arith; numbers = λ h v a. a }

pub ext_trans : (t : ℕ) (rs us ws : Table) → Ext t rs us → Ext t us ws → Ext t rs ws
ext_trans t rs us ws e f = record { longer = omega (arith, e.longer, f.longer); numbers = λ h v a. e.numbers h v (f.numbers h v a) }

absent_left : (rs us : Table) (v : ℕ) → Absent (rs ++ us) v → Absent rs v
absent_left [] us v a = tt
absent_left (r ∷ rs) us v a = (a.0, absent_left rs us v a.1)

pub ext_append : (t : ℕ) (rs us : Table) → Ext t rs (rs ++ us)
ext_append t rs us = record { longer = omega (arith, length-append rs us); numbers = λ h v a. absent_left rs us v a }

pub absent_alter : (i : ℕ) (f : Row → Row) (rs : Table) (v : ℕ) → ((r : Row) → num (f r) 0 ≡ num r 0) → Absent (alter_row i f rs) v → Absent rs v
unfolding alter_row
absent_alter zero f rs v h a = a
absent_alter (suc i) f [] v h a = tt
absent_alter (suc zero) f (r ∷ rs) v h a = (λ e. a.0 (h r ∙ e), a.1)
absent_alter (suc (suc i)) f (r ∷ rs) v h a = (a.0, absent_alter (suc i) f rs v h a.1)

pub ext_alter : (t i : ℕ) (f : Row → Row) (rs : Table) → (has_own_number t ≡ true → (r : Row) → num (f r) 0 ≡ num r 0) → Ext t rs (alter_row i f rs)
ext_alter t i f rs h = record { longer = omega (arith, alter_length i f rs); numbers = λ o v a. absent_alter i f rs v (h o) a }

pub ext_on : (k : ℕ) (T : List Table) (us : Table) → Ext k (get_or T k []) us → ExtAll T (set T k us)
ext_on k T us e = λ t. get_d_set (λ i x. Ext i (get_or T i []) x) T [] k us (λ i. ext_refl i (get_or T i [])) e t

pub all_trans : (T U X : List Table) → ExtAll T U → ExtAll U X → ExtAll T X
all_trans T U X e f = λ t. ext_trans t (get_or T t []) (get_or U t []) (get_or X t []) (e t) (f t)

-- ---- rows that exist

module _ (T : List Table) (t v : ℕ) where
  pub own_from : has_own_number t ≡ true → HasRow T t v → (¬ (v ≡ 0)) × ¬ (Absent (get_or T t []) v)
  unfolding is_row
  own_from o h =
      let e : (not (eqb v 0) && leb 1 (place_of_number (get_or T t []) v)) ≡ true = rw (o, is_row) at h in
      let p : 1 ≤ place_of_number (get_or T t []) v = le_of 1 (place_of_number (get_or T t []) v) (and_right (not (eqb v 0)) (leb 1 (place_of_number (get_or T t []) v)) e) in (
        λ z. let f : not (eqb v 0) ≡ true = and_left (not (eqb v 0)) (leb 1 (place_of_number (get_or T t []) v)) e in let g : not true ≡ true = rw (eqb_of v 0 z) at f in false_is_true g,
        λ a. omega (arith, absent_to (get_or T t []) v a),
      )

  pub own_to : has_own_number t ≡ true → ¬ (v ≡ 0) → ¬ (Absent (get_or T t []) v) → HasRow T t v
  unfolding is_row
  own_to o z a =
      rw (o, is_row)
      (and_both (not (eqb v 0)) (leb 1 (place_of_number (get_or T t []) v)) (ap not (neqb_of v 0 z))
      (leb_of 1 (place_of_number (get_or T t []) v) (go (place_of_number (get_or T t []) v) refl)))
    where
      go : (p : ℕ) → place_of_number (get_or T t []) v ≡ p → 1 ≤ p
      go zero e = absurd (a (absent_from (get_or T t []) v e))
      go (suc p) e = omega arith

  pub nth_from : has_own_number t ≡ false → HasRow T t v → (1 ≤ v) × (v ≤ length (get_or T t []))
  unfolding is_row
  nth_from o h =
      let e : (leb 1 v && leb v (length (get_or T t []))) ≡ true = rw (o, is_row) at h in
      (le_of 1 v (and_left (leb 1 v) (leb v (length (get_or T t []))) e), le_of v (length (get_or T t [])) (and_right (leb 1 v) (leb v (length (get_or T t []))) e))

  pub nth_to : has_own_number t ≡ false → 1 ≤ v → v ≤ length (get_or T t []) → HasRow T t v
  unfolding is_row
  nth_to o a b = rw (o, is_row) (and_both (leb 1 v) (leb v (length (get_or T t []))) (leb_of 1 v a) (leb_of v (length (get_or T t [])) b))

pub row_grow : (T U : List Table) → ExtAll T U → (t v : ℕ) → HasRow T t v → HasRow U t v
row_grow T U e t v h = go (has_own_number t) refl
  where
    go : (b : Bool) → has_own_number t ≡ b → HasRow U t v
    go true o = let x = own_from T t v o h in own_to U t v o x.0 (λ a. x.1 ((e t).numbers o v a))
    go false o = let x = nth_from T t v o h in nth_to U t v o x.0 (omega (arith, x.1, (e t).longer))

pub zero_grow : (T U : List Table) → ExtAll T U → (t v : ℕ) → OrZero T t v → OrZero U t v
zero_grow T U e t v h = λ z. row_grow T U e t v (h z)

-- ---- what a row shows goes on holding

pub record Grows (W U : View) : Type 0 where
  pub rows : ExtAll W.tables U.tables
  pub ids : W.ids ≤ U.ids
  pub docs : W.docs ≤ U.docs
  pub used : W.used ≤ U.used

pub fits_grow : (W U : View) → Grows W U → (r : Row) (c : Class) (v : ℕ) → Fits W r c v → Fits U r c v
unfolding Fits
fits_grow W U g r free v h = tt
fits_grow W U g r own v h = (h.0, omega (arith, h.1, g.ids))
fits_grow W U g r doc_id v h = omega (arith, h, g.docs)
fits_grow W U g r above v h = λ z. (row_grow W.tables U.tables g.rows 3 v (h z).0, (h z).1)
fits_grow W U g r mark v h = omega (arith, h, (g.rows 7).longer)
fits_grow W U g r len v h = tt
fits_grow W U g r (code a b) v h = h
fits_grow W U g r (row t) v h = zero_grow W.tables U.tables g.rows t v h
fits_grow W U g r (existing t) v h = row_grow W.tables U.tables g.rows t v h
fits_grow W U g r (text q) v h = tt
fits_grow W U g r (by c k) v h = tt

pub nums_grow : (W U : View) → Grows W U → (r : Row) (cs : List Class) (vs : Row) → Nums W r cs vs → Nums U r cs vs
unfolding Nums
nums_grow W U g r [] [] h = tt
nums_grow W U g r [] (v ∷ vs) h = h
nums_grow W U g r (c ∷ cs) [] h = h
nums_grow W U g r (c ∷ cs) (v ∷ vs) h = (fits_grow W U g r (chosen r c) v h.0, nums_grow W U g r cs vs h.1)

pub inside_grow : (a b v k : ℕ) → a ≤ b → is_inside a v k ≡ true → is_inside b v k ≡ true
unfolding is_inside
inside_grow a b zero k h e = e
inside_grow a b (suc i) k h e = leb_of (i + k) b (omega (arith, h, le_of (i + k) a e))

laid_grow : (a b : ℕ) (c : Class) (v : ℕ) (vs : Row) → a ≤ b → Laid a c v vs → Laid b c v vs
unfolding Laid
laid_grow a b (text q) v vs h e = inside_grow a b v (following vs) h e
laid_grow a b free v vs h e = tt
laid_grow a b own v vs h e = tt
laid_grow a b doc_id v vs h e = tt
laid_grow a b above v vs h e = tt
laid_grow a b mark v vs h e = tt
laid_grow a b len v vs h e = tt
laid_grow a b (code x y) v vs h e = tt
laid_grow a b (row t) v vs h e = tt
laid_grow a b (existing t) v vs h e = tt
laid_grow a b (by c k) v vs h e = tt

pub texts_grow : (a b : ℕ) (cs : List Class) (vs : Row) → a ≤ b → Texts a cs vs → Texts b cs vs
unfolding Texts
texts_grow a b [] [] h e = tt
texts_grow a b [] (v ∷ vs) h e = e
texts_grow a b (c ∷ cs) [] h e = e
texts_grow a b (c ∷ cs) (v ∷ vs) h e = (laid_grow a b c v vs h e.0, texts_grow a b cs vs h e.1)
