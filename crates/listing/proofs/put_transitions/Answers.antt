use Rattle.printing.proofs.Laws.{goes_on, ended}
use Rattle.listing.proofs.Laws.{transitions_more, transitions_end}
use Rattle.listing.proofs.put_transitions.Goals as goal

pub loop-row-preserved : goal.loop-row-preserved
loop-row-preserved c = goes_on c.loop-row.invariant (transitions_more _ c.args.transitions.now c.loop-row.row-index c.loop-row-test.true) c.put_transition.ensures

pub returns : goal.returns
returns c = ended c.loop-row.invariant (transitions_end _ c.args.transitions.now c.loop-row.row-index c.loop-row-test.false)
