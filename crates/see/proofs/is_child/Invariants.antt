use Rattle.std.proofs.Common.{◌≡◌, ◌≤◌, ◌-◌, length, drop}
use Rattle.see.specs.Scans.{is_child_in}
use Rattle.see.proofs.is_child.Given as goal

abbrev pub invariant-loop-i : goal.invariant-loop-i
invariant-loop-i l = (l.from ≤ length l.members) × (is_child_in l.p.0 l.s.0 (drop l.from l.members) ≡ is_child_in l.p.0 l.s.0 l.members)

abbrev pub decreases-loop-i : goal.decreases-loop-i
decreases-loop-i l = length l.members - l.from
