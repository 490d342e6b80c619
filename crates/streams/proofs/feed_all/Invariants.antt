use Prim.Native.Nat.{◌-◌}
use lib.ListN.{length}
use Rattle.rows.specs.Lent.{lent_of, SameLoans}
use Rattle.streams.proofs.Laws.{Ran}
use Rattle.streams.proofs.feed_all.Given as goal

abbrev pub invariant-loop-i : goal.invariant-loop-i
invariant-loop-i l =
    record {
      loans : SameLoans l.initial.lent l.lent;
      ran : Ran (lent_of l.initial.lent) l.initial.q l.bytes (lent_of l.lent) l.q l.i l.n;
    }

abbrev pub decreases-loop-i : goal.decreases-loop-i
decreases-loop-i l = length l.bytes - l.i
