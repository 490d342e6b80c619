use Rattle.lines.specs.Lines.{line_length, event_length}
use lib.ListN.{length, drop}
use mathlib.Core.Path.{◌≡◌}
use Prim.Native.Nat.{◌+◌, ◌-◌}
use Rattle.lines.proofs.next_event.Given as goal

abbrev pub invariant-loop-i : goal.invariant-loop-i
invariant-loop-i l = (line_length (drop l.i l.stream) ≡ 0) × (l.i + event_length (drop l.i l.stream) ≡ l.from + event_length (drop l.from l.stream))

abbrev pub decreases-loop-i : goal.decreases-loop-i
decreases-loop-i l = length l.stream - l.i
