use Prim.Native.Nat.{◌+◌, ◌*◌, ◌-◌, ◌/◌}
use native.Mathlib.Omega.{arith}
use lib.ListN.{length}
use mathlib.Core.Path.{◌≡◌, refl, sym, ap, ◌∙◌}
use mathlib.Core.Bool.{Bool, ◌&&◌}
use Rattle.definition.proofs.Base.{and_true}
use Rattle.columns.proofs.Columns.{texts_step, texts_end}
use Rattle.columns.proofs.texts.Goals as goal

pub loop-i-preserved : goal.loop-i-preserved
loop-i-preserved c =
    let next : 2 * (c.loop-i.i + 1) ≡ 2 * c.loop-i.i + 2 = omega arith in
    let left : length c.args.cells.now / 2 - (c.loop-i.i + 1) ≡ length c.args.cells.now / 2 - c.loop-i.i - 1 = omega arith in
    rw (next, left) (texts_step _ c.args.cells.now (2 * c.loop-i.i) refl refl c.inside-keeps.ensures c.loop-i.keeps _ (omega arith) ∙ c.loop-i.invariant)

pub returns : goal.returns
returns c = sym (and_true c.loop-i.keeps) ∙ ap (λ (b : Bool). c.loop-i.keeps && b) (texts_end _ _ _ _ (omega arith)) ∙ c.loop-i.invariant
