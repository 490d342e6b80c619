use lib.ListN.{drop}
use mathlib.Core.Path.{◌≡◌}
use Rattle.definition.specs.Rules.{open_names_fit}
use Rattle.definition.specs.Limits.{limits01}
use Rattle.order.proofs.open_names_fit.Given as goal

abbrev pub invariant-loop-i : goal.invariant-loop-i
invariant-loop-i l = (open_names_fit limits01 (drop l.i l.opened) (drop l.i l.names) ≡ open_names_fit limits01 l.opened l.names)
