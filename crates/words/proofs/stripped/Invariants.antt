use Rattle.std.proofs.Common.{◌≡◌, length}
use Rattle.definition.specs.Text.{stripped}
use Rattle.words.proofs.stripped.Given as goal

abbrev pub invariant-loop-left : goal.invariant-loop-left
invariant-loop-left l = stripped l.rest ≡ stripped l.w

abbrev pub decreases-loop-left : goal.decreases-loop-left
decreases-loop-left l = length l.rest
