use Prim.Native.Nat.{◌-◌, ◌≤◌}
use lib.ListN.{length}
use Rattle.pieces.specs.Windows.{SameBuffer}
use Rattle.pieces.proofs.Window.fill.Given as goal

abbrev pub invariant-loop-self : goal.invariant-loop-self
invariant-loop-self l = SameBuffer l.initial.self l.self × (l.self.held ≤ length l.self.buffer.now)

abbrev pub decreases-loop-self : goal.decreases-loop-self
decreases-loop-self l = length l.self.buffer.now - l.self.held
