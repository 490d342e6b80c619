use borrow.Author.Rules.{rules}
use Rattle.printing.proofs.Laws.{put_is, put_then}
use Rattle.listing.proofs.Laws.{printed, chart-is}
use Rattle.definition.specs.Text.{str}
use Rattle.listing.proofs.put_chart.Goals as goal

pub returns-clause-out_after : goal.returns-clause-out_after
unfolding str
returns-clause-out_after c =
    printed
    (put_is (chart-is c.args.tables.chart.now c.root_of.ensures c.in_use-used.ensures.states c.in_use-used.ensures.transitions c.in_use-used.ensures.members c.in_use-used.ensures.text)
    (put_then (put_then (put_then (put_then (put_then c.put_cell_line.ensures c.put_cell_line-2.ensures) c.put_number_line.ensures) c.put_number_line-2.ensures) c.put_states.ensures) c.put_transitions.ensures))
    c.new-page.ensures.empty
    (search rules)
