use Rattle.definition.specs.Rules.{open_tags_fit}
use mathlib.Core.Path.{◌≡◌}
use lib.ListN.{drop}
use Rattle.order.proofs.open_tags_fit.Given as goal

abbrev pub invariant-loop-row : goal.invariant-loop-row
invariant-loop-row l =
    (open_tags_fit l.below (drop l.row-index l.t) ≡ open_tags_fit 0 l.t)
