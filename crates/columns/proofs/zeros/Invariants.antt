use Prim.Native.Nat.{◌-◌}
use mathlib.Core.Path.{◌≡◌}
use mathlib.Core.Bool.{◌&&◌}
use lib.ListN.{length}
use Rattle.columns.specs.Cells.{zeros_from}
use Rattle.columns.proofs.zeros.Given as goal

abbrev pub invariant-loop-cell : goal.invariant-loop-cell
invariant-loop-cell l = (l.keeps && zeros_from l.cells l.cell-index (length l.cells - l.cell-index)) ≡ zeros_from l.cells 0 (length l.cells)
