use mathlib.Core.Path.{refl, ◌∙◌}
use Rattle.order.proofs.Laws.{hash_more, hash_end}
use Rattle.order.proofs.hash.Goals as goal

pub loop-b-init : goal.loop-b-init
loop-b-init c = (refl)

pub loop-b-preserved : goal.loop-b-preserved
loop-b-preserved c = (hash_more c.args.name.now c.loop-b.b-index c.loop-b.h c.from.ensures c.loop-b-test.true ∙ c.loop-b.invariant)

pub returns : goal.returns
returns c = hash_end c.args.name.now c.loop-b.b-index c.loop-b.h c.loop-b-test.false ∙ c.loop-b.invariant
