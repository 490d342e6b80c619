use mathlib.Core.Path.{◌≡◌}
use mathlib.Core.Bool.{Bool}
use lib.ListN.{drop}
use Rattle.std.specs.List.{list_all}
use Rattle.rules.proofs.rows_keep.Given as goal

abbrev pub invariant-loop-row : goal.invariant-loop-row
invariant-loop-row g l = goal.F-IsAlwaysCallable g l.keeps × ((p : _ → Bool) → ((x : _) (b : Bool) → goal.F-post g l.keeps x l.k b → b ≡ p x) → list_all p l.table ≡ list_all p (drop l.row-index l.table))
