use Prim.Native.Nat.{◌*◌, ◌-◌, ◌/◌}
use mathlib.Core.Path.{◌≡◌}
use mathlib.Core.Bool.{◌&&◌}
use lib.ListN.{length}
use Rattle.columns.specs.Cells.{texts_inside}
use Rattle.columns.proofs.texts.Given as goal

abbrev pub invariant-loop-i : goal.invariant-loop-i
invariant-loop-i l = (l.keeps && texts_inside l.used l.cells (2 * l.i) (length l.cells / 2 - l.i)) ≡ texts_inside l.used l.cells 0 (length l.cells / 2)
