use mathlib.Core.Bool.{not}
use Rattle.order.proofs.Laws.{tags_more, tags_stop, tags_end}
use borrow.Author.Tests.{not-true, not-false}
use mathlib.Core.Path.{ap, refl, ◌∙◌}
use Rattle.order.proofs.open_tags_fit.Goals as goal

pub loop-row-init : goal.loop-row-init
loop-row-init c = (refl)

pub returns-then-not-is_block-tag : goal.returns-then-not-is_block-tag
returns-then-not-is_block-tag c = tags_stop c.loop-row.below c.args.t.now c.loop-row.row-index c.is_block.ensures c.loop-row-test.true (not-true _ (ap not c.if-not-is_block-tag.true)) ∙ c.loop-row.invariant

pub loop-row-preserved : goal.loop-row-preserved
loop-row-preserved c = (tags_more c.loop-row.below c.args.t.now c.loop-row.row-index c.is_block.ensures c.loop-row-test.true (not-false _ (ap not c.if-not-is_block-tag.false)) ∙ c.loop-row.invariant)

pub returns : goal.returns
returns c = tags_end c.loop-row.below c.args.t.now c.loop-row.row-index c.loop-row-test.false ∙ c.loop-row.invariant
