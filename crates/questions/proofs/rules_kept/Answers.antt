use mathlib.Core.Bool.{not}
use mathlib.Core.Path.{ap, sym, ◌∙◌}
use borrow.Author.Tests.{not-true, not-false}
use Rattle.definition.specs.Elements.{among}
use Rattle.definition.specs.Rules.{names_distinct, open_regions_fit, is_row_or_zero, is_row, has_own_number}
use Rattle.order.proofs.Laws.{rising}
use Rattle.questions.proofs.Laws.{not_rising, nor_rising, not_apart, it_is, sees, fit_is, kept_is}
use Rattle.questions.proofs.rules_kept.Goals as goal

pub returns-then-not-rises : goal.returns-then-not-rises
returns-then-not-rises c = not_rising c.args.tables c.args.p c.rises.ensures (not-true _ (ap not c.if-not-rises.true))

pub returns-then-not-rises-2 : goal.returns-then-not-rises-2
returns-then-not-rises-2 c = nor_rising c.args.tables c.args.p c.rises-2.ensures (not-true _ (ap not c.if-not-rises-2.true))

pub none_in-requires : goal.none_in-requires
none_in-requires c = (rising c.args.tables.regions.now (sym c.rises-2.ensures ∙ not-false _ (ap not c.if-not-rises-2.false)), rising c.args.tables.transitions.now (sym c.rises.ensures ∙ not-false _ (ap not c.if-not-rises.false)))

pub returns-then-not-none_in : goal.returns-then-not-none_in
returns-then-not-none_in c = not_apart c.args.tables c.args.p c.none_in.ensures (not-true _ (ap not c.if-not-none_in.true))

pub known-k-requires-clause-rising : goal.known-k-requires-clause-rising
known-k-requires-clause-rising c = (rising c.args.tables.transitions.now (sym c.rises.ensures ∙ not-false _ (ap not c.if-not-rises.false)), rising c.args.tables.regions.now (sym c.rises-2.ensures ∙ not-false _ (ap not c.if-not-rises-2.false)))

pub returns : goal.returns
unfolding names_distinct open_regions_fit is_row_or_zero is_row has_own_number among
returns c = kept_is (it_is c.args.tables c.args.p) (c.rows_kept.ensures (it_is c.args.tables c.args.p) (sees c.args.tables c.args.p c.known-k.ensures)) c.names_lead.ensures (fit_is (it_is c.args.tables c.args.p).numbers (sym c.rises.ensures ∙ not-false _ (ap not c.if-not-rises.false)) (sym c.rises-2.ensures ∙ not-false _ (ap not c.if-not-rises-2.false)) (sym c.none_in.ensures ∙ not-false _ (ap not c.if-not-none_in.false))) c.open_names_fit.ensures (rw (c.open_tags_fit.ensures, c.blocks_in.ensures, c.blocks_in-2.ensures)) (rw c.known-k.ensures.regions c.region_or_zero.ensures)
