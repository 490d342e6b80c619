-- Steps of the code.
use Prim.Native.Nat.{ℕ}
use mathlib.Core.Path.{◌≡◌, ap, ◌∙◌}
use Rattle.std.specs.Prelude.{Option, Some, None}
use Rattle.definition.specs.Rows.{Row, Table}
use Rattle.definition.specs.Change.{alter_row}
use Rattle.rows.specs.Place.{altered}
use Rattle.rows.proofs.Laws.{altered_row}
use Rattle.plan.specs.After.{altered_if}

-- A row is altered, after another one was added.
pub then_altered : {A : Type 0} (at : A → ℕ) (f : A → Row → Row) (p : Option A) (x : A) (t u v : Table) → p ≡ Some x → u ≡ t → v ≡ altered (at x) (f x) u → v ≡ altered_if at f p t
unfolding altered_if
then_altered {A} at f None x t u v i e h = cc
then_altered {A} at f (Some y) x t u v i e h =
    let z : x ≡ y = cc in
    h ∙ ap (λ (w : Table). altered (at x) (f x) w) e ∙ altered_row (at x) (f x) t ∙ ap (λ (w : A). alter_row (at w) (f w) t) z
