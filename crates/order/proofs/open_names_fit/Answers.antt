use mathlib.Core.Bool.{not}
use native.Mathlib.Omega.{arith}
use mathlib.Core.Path.{ap, refl, ◌∙◌}
use borrow.Author.Tests.{not-true, not-false}
use Rattle.order.proofs.Laws.{opened_uneven, opened_stop, opened_more, opened_end}
use Rattle.order.proofs.open_names_fit.Goals as goal

pub returns-then-opened-names : goal.returns-then-opened-names
returns-then-opened-names c = opened_uneven _ _ c.if-opened-names.true

pub loop-i-init : goal.loop-i-init
loop-i-init c = (refl)

pub returns-then-not-open_name_fits : goal.returns-then-not-open_name_fits
returns-then-not-open_name_fits c = opened_stop c.args.opened.now c.args.names.now c.loop-i.i c.open_name_fits.ensures c.loop-i-test.true (omega arith) (not-true _ (ap not c.if-not-open_name_fits.true)) ∙ c.loop-i.invariant

pub loop-i-preserved : goal.loop-i-preserved
loop-i-preserved c = (opened_more c.args.opened.now c.args.names.now c.loop-i.i c.open_name_fits.ensures c.loop-i-test.true (omega arith) (not-false _ (ap not c.if-not-open_name_fits.false)) ∙ c.loop-i.invariant)

pub returns : goal.returns
returns c = opened_end c.args.opened.now c.args.names.now c.loop-i.i c.if-opened-names.false c.loop-i-test.false ∙ c.loop-i.invariant
