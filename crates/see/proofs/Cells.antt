-- What the reads cite.
use Prim.Native.Nat.{ℕ, zero, suc}
use mathlib.Core.Path.{◌≡◌, refl}
use mathlib.Core.Bool.{Bool, true, false}
use mathlib.Core.List.{[], ◌∷◌}
use lib.ListN.{length}
use lib.Dec.{eqb}
use native.Mathlib.Omega.{arith}
use Rattle.std.proofs.Common.{◌-◌, slice_get, Option, Some, None}
use Rattle.definition.specs.Rows.{Row, Table, table, num, row_of, last_of, Numbers, table_of}
use Rattle.definition.specs.Actions.{last_with, last_entry, Walk, meets, no_if, else_walk, walk_from}
use Rattle.plan.specs.declared.Closing.{Closing}
use Rattle.plan.specs.declared.Walked.{Walked}
use Rattle.plan.specs.declared.Walked.TheVariants.{NoIf, Met}
use Rattle.plan.specs.Ids.{state_id, transition_id}
use Rattle.plan.specs.Seen.{walked_as, walk_in}
use Rattle.see.specs.Scans.{walk_over}
use Rattle.see.specs.View.{walk_at, walk_after, inside_of}

-- ---- the innermost open element

last_some : (t : Table) (d r : Row) → slice_get t (length t - 1) ≡ Some r → r ≡ last_of d t
unfolding last_of
last_some [] d r e = cc
last_some (x ∷ []) d r e = cc
last_some (x ∷ y ∷ t) d r e = let z : suc (suc (length t)) - 1 ≡ suc (suc (length t) - 1) = omega arith in last_some (y ∷ t) x r (rw z at e)

last_none : (t : Table) → slice_get t (length t - 1) ≡ None → t ≡ []
last_none [] e = refl
last_none (x ∷ []) e = cc
last_none (x ∷ y ∷ t) e =
    let z : suc (suc (length t)) - 1 ≡ suc (suc (length t) - 1) = omega arith in
    let w : y ∷ t ≡ [] = last_none (y ∷ t) (rw z at e) in
    cc

pub inside_some : (t : Table) (r : Row) → slice_get t (length t - 1) ≡ Some r → record { state = state_id (num r 1); transition = transition_id (num r 2); tag = num r 0 } ≡ inside_of t
unfolding inside_of
inside_some t r e = let z : r ≡ last_of [] t = last_some t [] r e in rw z

pub inside_none : (t : Table) → slice_get t (length t - 1) ≡ None → record { state = state_id 0; transition = transition_id 0; tag = 0 } ≡ inside_of t
unfolding inside_of last_of
inside_none t e = let z : t ≡ [] = last_none t e in rw z

-- ---- the definition's own functions, of the rows in use

walk_is : (f : ℕ) (n : Numbers) (r : ℕ) → walk_over f (table_of n 4) r ≡ walked_as (else_walk f n r)
unfolding walk_over else_walk walked_as last_entry
walk_is zero n r = refl
walk_is (suc f) n r = go (eqb (num (row_of (table_of n 4) (last_with 0 r 0 0 (table_of n 4))) 1) 1) (eqb (num (row_of (table_of n 4) (last_with 0 r 0 0 (table_of n 4))) 4) 0) _ (else_walk f n (num (row_of (table_of n 4) (last_with 0 r 0 0 (table_of n 4))) 4)) (walk_is f n (num (row_of (table_of n 4) (last_with 0 r 0 0 (table_of n 4))) 4)) where
  go : (a b : Bool) (W : Walked) (X : Walk) → W ≡ walked_as X → elim a [ false ↦ NoIf | true ↦ elim b [ true ↦ Met (last_with 0 r 0 0 (table_of n 4)) | false ↦ W ] ]
      ≡ walked_as (elim a [ false ↦ no_if | true ↦ elim b [ true ↦ meets (last_with 0 r 0 0 (table_of n 4)) | false ↦ X ] ])
  go false b W X e = refl
  go true true W X e = refl
  go true false W X e = e

pub walk_in_lem : (n : Numbers) (x : Option Closing) → walk_after x (length (table_of n table.regions)) (table_of n table.entries) ≡ walk_in n x
unfolding walk_after walk_in walk_at walk_from walked_as
walk_in_lem n None = refl
walk_in_lem n (Some x) = go x.current.0 where
  go : (c : ℕ) → walk_at (length (table_of n 3)) (table_of n 4) c ≡ walked_as (walk_from n c)
  go zero = refl
  go (suc c) = walk_is (length (table_of n 3)) n (suc c)
