use Rattle.std.proofs.Common.{◌≡◌, ◌≤◌, ◌+◌, ◌-◌, length, drop}
use Rattle.see.specs.Scans.{first_with}
use Rattle.see.proofs.next_with.Given as goal

abbrev pub invariant-loop-i : goal.invariant-loop-i
invariant-loop-i l = (l.i ≤ length l.members) × (l.i + first_with l.c l.v (drop l.i l.members) ≡ l.from + first_with l.c l.v (drop l.from l.members))

abbrev pub decreases-loop-i : goal.decreases-loop-i
decreases-loop-i l = length l.members - l.i
