use Rattle.std.proofs.Common.{◌≡◌, ◌≤◌, ◌-◌, length, drop}
use Rattle.plan.specs.Seen.{first_child_or}
use Rattle.see.proofs.first_child.Given as goal

abbrev pub invariant-loop-i : goal.invariant-loop-i
invariant-loop-i l = (l.from ≤ length l.members) × (first_child_or l.d l.s.0 (drop l.from l.members) ≡ first_child_or l.d l.s.0 l.members)

abbrev pub decreases-loop-i : goal.decreases-loop-i
decreases-loop-i l = length l.members - l.from
