-- Rows go on keeping their rules where only the tables that can be read go on growing.
use Prim.Native.Nat.{ℕ, ◌≤◌}
use mathlib.Core.Path.{◌≡◌, refl, ap, subst}
use mathlib.Core.Bool.{Bool, true, ◌&&◌}
use mathlib.Core.List.{List, [], ◌∷◌}
use lib.ListN.{length, get_or}
use lib.Dec.{leb}
use native.Mathlib.Omega.{arith}
use Rattle.definition.specs.Rows.{Row, Table, Class, free, own, doc_id, above, mark, len, code, row, existing, text, by, choices, schema, num, columns_of}
use Rattle.definition.specs.Rules.{has_own_number, chosen}
use Rattle.kept.proofs.Base.{test, and_left, and_right, All, All-map, All-get_or}
use Rattle.kept.proofs.Classes.{View, HasRow, Fits, Nums}
use Rattle.kept.proofs.Grow.{Absent, own_from, own_to, nth_from, nth_to, texts_grow}
use Rattle.kept.proofs.Tables.{RowOk}

pub record Grows8 (W U : View) : Type 0 where
  pub rows : (t v : ℕ) → leb t 8 ≡ true → HasRow W.tables t v → HasRow U.tables t v
  pub marks : length (get_or W.tables 7 []) ≤ length (get_or U.tables 7 [])
  pub ids : W.ids ≤ U.ids
  pub docs : W.docs ≤ U.docs
  pub used : W.used ≤ U.used

unfoldable low_class : Class → Bool
low_class (row t) = leb t 8
low_class (existing t) = leb t 8
low_class (text q) = true
low_class len = true
low_class free = true
low_class own = true
low_class doc_id = true
low_class above = true
low_class mark = true
low_class (code a b) = true
low_class (by c k) = true

fits_low : (W U : View) → Grows8 W U → (r : Row) (c : Class) (v : ℕ) → low_class c ≡ true → Fits W r c v → Fits U r c v
unfolding Fits low_class
fits_low W U g r free v e h = tt
fits_low W U g r own v e h = (h.0, omega (arith, h.1, g.ids))
fits_low W U g r doc_id v e h = omega (arith, h, g.docs)
fits_low W U g r above v e h = λ z. (g.rows 3 v refl (h z).0, (h z).1)
fits_low W U g r mark v e h = omega (arith, h, g.marks)
fits_low W U g r len v e h = tt
fits_low W U g r (code a b) v e h = h
fits_low W U g r (row t) v e h = λ z. g.rows t v e (h z)
fits_low W U g r (existing t) v e h = g.rows t v e h
fits_low W U g r (text q) v e h = tt
fits_low W U g r (by c k) v e h = tt

all_low : List Class → Bool
all_low [] = true
all_low (c ∷ cs) = low_class c && all_low cs

low_all : (cs : List Class) → all_low cs ≡ true → All (λ (c : Class). low_class c ≡ true) cs
unfolding all_low
low_all [] e = tt
low_all (c ∷ cs) e = (and_left (low_class c) (all_low cs) e, low_all cs (and_right (low_class c) (all_low cs) e))

low_chosen : (r : Row) (c : Class) → low_class c ≡ true → low_class (chosen r c) ≡ true
unfolding chosen low_class choices all_low
low_chosen r (by c k) e =
    All-get_or (λ (x : Class). low_class x ≡ true) free refl (get_or choices k [])
    (low_all (get_or choices k []) (All-get_or (λ (cs : List Class). all_low cs ≡ true) [] refl choices (refl, (refl, (refl, (refl, (refl, tt))))) k)) (num r c)
low_chosen r free e = refl
low_chosen r own e = refl
low_chosen r doc_id e = refl
low_chosen r above e = refl
low_chosen r mark e = refl
low_chosen r len e = refl
low_chosen r (code a b) e = refl
low_chosen r (row t) e = e
low_chosen r (existing t) e = e
low_chosen r (text q) e = refl

nums_low : (W U : View) → Grows8 W U → (r : Row) (cs : List Class) (vs : Row) → all_low cs ≡ true → Nums W r cs vs → Nums U r cs vs
unfolding Nums all_low
nums_low W U g r [] [] e h = tt
nums_low W U g r [] (v ∷ vs) e h = h
nums_low W U g r (c ∷ cs) [] e h = h
nums_low W U g r (c ∷ cs) (v ∷ vs) e h =
    (fits_low W U g r (chosen r c) v (low_chosen r c (and_left (low_class c) (all_low cs) e)) h.0, nums_low W U g r cs vs (and_right (low_class c) (all_low cs) e) h.1)

columns_low : (t : ℕ) → all_low (columns_of t) ≡ true
unfolding columns_of schema all_low low_class
columns_low t =
    All-get_or (λ (cs : List Class). all_low cs ≡ true) [] refl schema
    (refl, (refl, (refl, (refl, (refl, (refl, (refl, (refl, (refl, (refl, (refl, (refl, tt)))))))))))) t

pub row_ok_low : (W U : View) → Grows8 W U → (t : ℕ) (r : Row) → RowOk W t r → RowOk U t r
row_ok_low W U g t r h =
    record { nums = nums_low W U g r (columns_of t) r (columns_low t) h.nums; texts = texts_grow W.used U.used (columns_of t) r g.used h.texts }

pub rows_ok_low : (W U : View) → Grows8 W U → (t : ℕ) (rs : Table) → All (RowOk W t) rs → All (RowOk U t) rs
rows_ok_low W U g t rs a = All-map (RowOk W t) (RowOk U t) (row_ok_low W U g t) rs a

-- A row exists by its table alone.
pub has_same : (T U : List Table) (t v : ℕ) → get_or U t [] ≡ get_or T t [] → HasRow T t v → HasRow U t v
has_same T U t v e h =
    test (has_own_number t) (λ o. let x = own_from T t v o h in own_to U t v o x.0 (λ a. x.1 (subst (λ (rs : Table). Absent rs v) e a))) (λ o.
    let x = nth_from T t v o h in nth_to U t v o x.0 (omega (arith, x.1, ap length e)))
