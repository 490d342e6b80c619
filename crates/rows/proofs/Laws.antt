-- Reads of lent tables: what the loops and the cuts need.
use mathlib.Core.Path.{◌≡◌, refl, sym, ap, ◌∙◌}
use mathlib.Core.List.{List, []}
use Prim.Native.Nat.{ℕ, zero, suc, ◌+◌, ◌-◌, ◌≤◌, ◌<◌}
use native.Mathlib.Omega.{arith}
use lib.ListN.{length, get_or, set, take, drop, length-drop, get_or-eq_default}
use lib.Seq.{take_all}
use Rattle.std.proofs.lemmas.Iterator.Adapters.{position_from-zero}
use Rattle.std.specs.List.{position_from}
use Rattle.std.proofs.lemmas.List.{drop_min}
use Rattle.std.proofs.Common.{Bool, true, false, cond, min, ◌∷◌, Option, None, Some, MatchOption, slice_get, position, ◌==◌}
use Rattle.rows.specs.Place.{row_at, altered}
use Rattle.definition.specs.Text.{bytes_at}
use Rattle.definition.specs.Rows.{Row, Table, num, row_of, text_from}
use Rattle.definition.specs.Change.{alter_row}
use Rattle.definition.specs.Actions.{place_of_number}

-- ---- a row by its number, from 1

pub there : (t : Table) (k : ℕ) → (k ≡ 0 → ⊥) → row_of t k ≡ get_or t (k - 1) []
unfolding row_of
there t zero f = let z : ⊥ = f refl in absurd z
there t (suc j) f = let z : suc j - 1 ≡ j = omega arith in rw z

pub row_some : (t : Table) (n : ℕ) (r : Row) → row_at t n ≡ Some r → row_of t n ≡ r
unfolding row_of
row_some t zero r e = cc
row_some t (suc i) r e = go t i e
  where
    go : (t : Table) (i : ℕ) → slice_get t i ≡ Some r → get_or t i [] ≡ r
    go [] i e = cc
    go (x ∷ t) zero e = cc
    go (x ∷ t) (suc i) e = go t i e

pub row_none : (t : Table) (n : ℕ) → row_at t n ≡ None → row_of t n ≡ []
unfolding row_of
row_none t zero e = refl
row_none t (suc i) e = go t i e
  where
    go : (t : Table) (i : ℕ) → slice_get t i ≡ None → get_or t i [] ≡ []
    go [] i e = let z : length {A = Row} [] ≤ i = omega arith in get_or-eq_default [] [] z
    go (x ∷ t) zero e = cc
    go (x ∷ t) (suc i) e = go t i e

-- ---- a row changed

pub altered_none : {A : Type 0} (n : ℕ) (f : A → A) (t : List A) → n ≡ 0 → altered n f t ≡ t
unfolding altered
altered_none zero f t e = refl
altered_none (suc i) f t e = absurd (omega arith)

pub altered_past : {A : Type 0} (n : ℕ) (f : A → A) (t : List A) → length t ≤ n - 1 → altered n f t ≡ t
unfolding altered
altered_past zero f t h = refl
altered_past (suc i) f [] h = refl
altered_past (suc zero) f (x ∷ t) h = absurd (omega arith)
altered_past (suc (suc i)) f (x ∷ t) h = ap (λ z. x ∷ z) (altered_past (suc i) f t (omega arith))

pub altered_at : {A : Type 0} (n : ℕ) (f : A → A) (t : List A) (x y : A) → (n ≡ 0 → ⊥) → n - 1 < length t → x ≡ get_or t (n - 1) x → y ≡ f x → altered n f t ≡ set t (n - 1) y
unfolding altered
altered_at {A} zero f t x y p h e g = absurd (p refl)
altered_at {A} (suc i) f t x y p h e g = let z : suc i - 1 ≡ i = omega arith in rw z (go i t (omega arith) (e ∙ ap (λ (k : ℕ). get_or t k x) z))
  where
    go : (i : ℕ) (t : List A) → i < length t → x ≡ get_or t i x → altered (suc i) f t ≡ set t i y
    go i [] h e = absurd (omega arith)
    go zero (r ∷ t) h e = ap (λ z. z ∷ t) (ap f (sym e) ∙ sym g)
    go (suc i) (r ∷ t) h e = ap (λ z. r ∷ z) (go i t (omega arith) e)

-- The same in the definition's words.
pub altered_row : (n : ℕ) (f : Row → Row) (t : Table) → altered n f t ≡ alter_row n f t
unfolding altered alter_row
altered_row zero f t = refl
altered_row (suc i) f [] = refl
altered_row (suc zero) f (x ∷ t) = refl
altered_row (suc (suc i)) f (x ∷ t) = ap (λ z. x ∷ z) (altered_row (suc i) f t)

-- ---- the place of a number

next : Bool → ℕ → ℕ
next b p = elim b [ true ↦ 1 | false ↦ elim p [ zero ↦ 0 | suc q ↦ suc (suc q) ] ]

step : (b : Bool) (o : Option ℕ) (p i : ℕ) → MatchOption o (p ≡ 0) (λ k. (k + 1 ≡ i + 1 + p) × (0 < p)) → MatchOption (cond b (Some i) o) (next b p ≡ 0) (λ k. (k + 1 ≡ i + next b p) × (0 < next b p))
unfolding next
step true o p i h = (refl, omega arith)
step false None zero i h = refl
step false None (suc p) i h = absurd (omega arith)
step false (Some k) zero i h = absurd (omega arith)
step false (Some k) (suc p) i h = (omega arith, omega arith)

from : (t : Table) (n i : ℕ) → MatchOption (position_from (λ row. num row 0 == n) i t) (place_of_number t n ≡ 0) (λ k. (k + 1 ≡ i + place_of_number t n) × (0 < place_of_number t n))
unfolding place_of_number next
from [] n i = refl
from (r ∷ t) n i = step (num r 0 == n) (position_from (λ row. num row 0 == n) (i + 1) t) (place_of_number t n) i (from t n (i + 1))

pub place_some : (t : Table) (n i : ℕ) → position (λ row. num row 0 == n) t ≡ Some i → place_of_number t n ≡ i + 1
place_some t n i e = go _ (from t n 0) (sym (position_from-zero {B = Row} _ t) ∙ e)
  where
    go : (o : Option ℕ) → MatchOption o (place_of_number t n ≡ 0) (λ k. (k + 1 ≡ 0 + place_of_number t n) × (0 < place_of_number t n)) → o ≡ Some i → place_of_number t n ≡ i + 1
    go None h e = cc
    go (Some k) h e = let z : k ≡ i = cc in omega (arith, h.0)

pub place_none : (t : Table) (n : ℕ) → position (λ row. num row 0 == n) t ≡ None → place_of_number t n ≡ 0
place_none t n e = go _ (from t n 0) (sym (position_from-zero {B = Row} _ t) ∙ e)
  where
    go : (o : Option ℕ) → MatchOption o (place_of_number t n ≡ 0) (λ k. (k + 1 ≡ 0 + place_of_number t n) × (0 < place_of_number t n)) → o ≡ None → place_of_number t n ≡ 0
    go None h e = h
    go (Some k) h e = cc

-- ---- texts

pub from_none : (t : List ℕ) (at n : ℕ) → at ≡ 0 → text_from t at n ≡ []
unfolding text_from
from_none t zero n e = refl
from_none t (suc i) n e = absurd (omega arith)

pub from_some : (t : List ℕ) (at n k : ℕ) → 0 < at → k ≡ min (at - 1) (length t) → text_from t at n ≡ take n (take (length t - k) (drop k t))
unfolding text_from bytes_at
from_some t zero n k h e = absurd (omega arith)
from_some t (suc i) n k h e =
    let z : k ≡ min i (length t) = omega arith in
    ap (take n) (sym (drop_min i t) ∙ ap (λ (j : ℕ). drop j t) (sym z) ∙ sym (take_all (length t - k) (drop k t) (omega (arith, length-drop k t))))
