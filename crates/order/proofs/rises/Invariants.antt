use Rattle.definition.specs.Rules.{rises}
use mathlib.Core.Path.{◌≡◌}
use lib.ListN.{drop}
use Rattle.order.proofs.rises.Given as goal

abbrev pub invariant-loop-row : goal.invariant-loop-row
invariant-loop-row l =
    (rises l.low (drop l.row-index l.t) ≡ rises 0 l.t)
