use Prim.Native.Nat.{◌+◌, ◌-◌}
use native.Mathlib.Omega.{arith}
use lib.ListN.{length}
use mathlib.Core.Path.{◌≡◌, refl, sym, ap, ◌∙◌}
use mathlib.Core.Bool.{Bool, ◌&&◌}
use Rattle.definition.proofs.Base.{and_true}
use Rattle.columns.proofs.Columns.{zeros_step, zeros_end}
use Rattle.columns.proofs.zeros.Goals as goal

pub loop-cell-preserved : goal.loop-cell-preserved
loop-cell-preserved c =
    let left : length c.args.cells.now - (c.loop-cell.cell-index + 1) ≡ length c.args.cells.now - c.loop-cell.cell-index - 1 = omega arith in
    rw left (zeros_step c.args.cells.now c.loop-cell.cell-index refl c.loop-cell.keeps _ (omega arith) ∙ c.loop-cell.invariant)

pub returns : goal.returns
returns c = sym (and_true c.loop-cell.keeps) ∙ ap (λ (b : Bool). c.loop-cell.keeps && b) (zeros_end _ _ _ (omega arith)) ∙ c.loop-cell.invariant
