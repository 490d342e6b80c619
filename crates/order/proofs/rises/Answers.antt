use Rattle.order.proofs.Laws.{rises_more, rises_stop, rises_end}
use mathlib.Core.Path.{refl, ◌∙◌}
use Rattle.order.proofs.rises.Goals as goal

pub loop-row-init : goal.loop-row-init
loop-row-init c = (refl)

pub returns-then-row-low : goal.returns-then-row-low
returns-then-row-low c = rises_stop c.args.t.now c.loop-row.row-index c.loop-row.low c.loop-row-test.true c.if-row-low.true ∙ c.loop-row.invariant

pub loop-row-preserved : goal.loop-row-preserved
loop-row-preserved c = (rises_more c.args.t.now c.loop-row.row-index c.loop-row.low c.loop-row-test.true c.if-row-low.false ∙ c.loop-row.invariant)

pub returns : goal.returns
returns c = rises_end c.args.t.now c.loop-row.row-index c.loop-row.low c.loop-row-test.false ∙ c.loop-row.invariant
