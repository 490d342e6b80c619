use lib.ListN.{length}
use Prim.Native.Nat.{◌-◌, ◌+◌}
use Rattle.order.proofs.Laws.{Walk}
use Rattle.order.proofs.none_in.Given as goal

abbrev pub invariant-loop-i : goal.invariant-loop-i
invariant-loop-i l = Walk l.others l.t l.i l.j

abbrev pub decreases-loop-i : goal.decreases-loop-i
decreases-loop-i l = length l.t - l.i + (length l.others - l.j)
