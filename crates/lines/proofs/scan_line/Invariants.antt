use Rattle.std.proofs.Common.{◌≡◌, ◌≤◌, ◌+◌, length}
use Rattle.definition.specs.Event.{legible}
use Rattle.lines.specs.Escapes.{counted, scanned}
use Rattle.lines.proofs.scan_line.Given as goal

abbrev pub invariant-loop-left : goal.invariant-loop-left
invariant-loop-left l = (counted l.n (legible l.rest) ≡ scanned l.raw) × (l.n + length l.rest ≤ length l.raw)

abbrev pub decreases-loop-left : goal.decreases-loop-left
decreases-loop-left l = length l.rest
