use mathlib.Core.Bool.{not}
use lib.ListN.{length}
use mathlib.Core.Path.{sym, ap, ◌∙◌}
use borrow.Author.Tests.{not-true, not-false}
use Rattle.questions.proofs.Bounds.{in_order_counts, in_order_counters, in_order_rest, few, cut_kept}
use Rattle.questions.proofs.in_order.Goals as goal

pub returns-then-not-counts_fit : goal.returns-then-not-counts_fit
returns-then-not-counts_fit c = in_order_counts _ _ _ (sym c.counts_fit.ensures ∙ not-true _ (ap not c.if-not-counts_fit.true))

pub returns-then-not-counters_fit : goal.returns-then-not-counters_fit
returns-then-not-counters_fit c = in_order_counters _ _ _ (sym c.counts_fit.ensures ∙ not-false _ (ap not c.if-not-counts_fit.false)) (ap length c.in_use-used.ensures.text) (sym c.counters_fit.ensures ∙ not-true _ (ap not c.if-not-counters_fit.true))

pub rules_kept-requires : goal.rules_kept-requires
rules_kept-requires c = few c.in_use-used.ensures (sym c.counts_fit.ensures ∙ not-false _ (ap not c.if-not-counts_fit.false))

pub returns : goal.returns
returns c = c.rules_kept.ensures ∙ cut_kept c.in_use-used.ensures ∙ in_order_rest _ _ _ (sym c.counts_fit.ensures ∙ not-false _ (ap not c.if-not-counts_fit.false)) (ap length c.in_use-used.ensures.text) (sym c.counters_fit.ensures ∙ not-false _ (ap not c.if-not-counters_fit.false))
