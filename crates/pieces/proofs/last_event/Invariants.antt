use Rattle.pieces.proofs.Laws.{Walked}
use Prim.Native.Nat.{◌-◌}
use lib.ListN.{length}
use Rattle.pieces.proofs.last_event.Given as goal

abbrev pub invariant-loop-at : goal.invariant-loop-at
invariant-loop-at l = Walked l.stream l.last.at l.last.before

abbrev pub decreases-loop-at : goal.decreases-loop-at
decreases-loop-at l = length l.stream - l.last.at
