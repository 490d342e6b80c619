use Rattle.std.proofs.Common.{◌≤◌, length}
use Rattle.lines.proofs.EscapeLaws.{Unescaping}
use Rattle.lines.proofs.unescape.Given as goal

abbrev pub invariant-loop-b : goal.invariant-loop-b
invariant-loop-b l = Unescaping l.raw l.initial.out l.len l.out l.rest l.n × (l.len ≤ length l.initial.out)

abbrev pub decreases-loop-b : goal.decreases-loop-b
decreases-loop-b l = length l.rest
