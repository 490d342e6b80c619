-- Rows added, altered, taken off and found by a number.
use Prim.Native.Nat.{ℕ, zero, suc, ◌+◌, ◌≤◌}
use mathlib.Core.Path.{◌≡◌, refl, ap, ◌∙◌}
use mathlib.Core.Bool.{Bool, true, false}
use mathlib.Core.List.{List, [], ◌∷◌, ◌++◌}
use lib.ListN.{length, get_or, set, length-set}
use lib.Dec.{eqb}
use native.Mathlib.Omega.{arith}
use Rattle.definition.specs.Rows.{Row, Table, num, last_of, Cell, with_cell}
use Rattle.definition.specs.Look.{Look}
use Rattle.definition.specs.Change.{Edit, without_last, alter_row, edited, edited_by}
use Rattle.definition.specs.Actions.{last_with, place_of_number}

pub last_snoc : (d : Row) (rs : Table) (r : Row) → last_of d (rs ++ r ∷ []) ≡ r
unfolding last_of
last_snoc d [] r = refl
last_snoc d (s ∷ rs) r = last_snoc s rs r

pub without_snoc : (rs : Table) (r : Row) → without_last (rs ++ r ∷ []) ≡ rs
unfolding without_last
without_snoc [] r = refl
without_snoc (s ∷ []) r = refl
without_snoc (s ∷ t ∷ rs) r = ap (λ (z : Table). s ∷ z) (without_snoc (t ∷ rs) r)

pub alter_length : (i : ℕ) (f : Row → Row) (rs : Table) → length (alter_row i f rs) ≡ length rs
unfolding alter_row
alter_length zero f rs = refl
alter_length (suc i) f [] = refl
alter_length (suc zero) f (r ∷ rs) = refl
alter_length (suc (suc i)) f (r ∷ rs) = ap suc (alter_length (suc i) f rs)

pub alter_set : (i : ℕ) (f : Row → Row) (rs : Table) → alter_row (suc i) f rs ≡ set rs i (f (get_or rs i []))
unfolding alter_row
alter_set i f [] = refl
alter_set zero f (r ∷ rs) = refl
alter_set (suc i) f (r ∷ rs) = ap (λ (z : Table). r ∷ z) (alter_set i f rs)

pub cell_length : (c : ℕ) (x : Cell) (r : Row) → length (with_cell c x r) ≡ length r
unfolding with_cell
cell_length c x r = length-set (set r c x.at) (suc c) x.len ∙ length-set r c x.at

pub edits_append : (l : Look) (es fs : List Edit) (ts : List Table) → edited_by l (es ++ fs) ts ≡ edited_by l fs (edited_by l es ts)
unfolding edited_by
edits_append l [] fs ts = refl
edits_append l (e ∷ es) fs ts = edits_append l es fs (edited l e ts)

-- ---- places by number, and the last row with a number

pub place_le : (rs : Table) (i : ℕ) → place_of_number rs i ≤ length rs
unfolding place_of_number
place_le [] i = omega arith
place_le (r ∷ rs) i = go (eqb (num r 0) i) (place_of_number rs i) (place_le rs i)
  where
    go : (b : Bool) (p : ℕ) → p ≤ length rs → elim b [ true ↦ 1 | false ↦ elim p [ zero ↦ 0 | suc q ↦ suc (suc q) ] ] ≤ suc (length rs)
    go true p h = omega arith
    go false zero h = omega arith
    go false (suc p) h = omega arith

pub last_le : (c v i a : ℕ) (rs : Table) → a ≤ i → last_with c v i a rs ≤ i + length rs
unfolding last_with
last_le c v i a [] h = omega arith
last_le c v i a (r ∷ rs) h = go (eqb (num r c) v) (last_le c v (suc i) (suc i) rs (omega arith)) (last_le c v (suc i) a rs (omega arith))
  where
    go : (b : Bool) → last_with c v (suc i) (suc i) rs ≤ suc i + length rs → last_with c v (suc i) a rs ≤ suc i + length rs
        → elim b [ true ↦ last_with c v (suc i) (suc i) rs | false ↦ last_with c v (suc i) a rs ] ≤ i + suc (length rs)
    go true x y = omega (arith, x)
    go false x y = omega (arith, y)
