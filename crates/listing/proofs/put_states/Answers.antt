use Rattle.printing.proofs.Laws.{goes_on, ended}
use Rattle.listing.proofs.Laws.{states_more, states_end}
use Rattle.listing.proofs.put_states.Goals as goal

pub loop-i-preserved : goal.loop-i-preserved
loop-i-preserved c = goes_on c.loop-i.invariant (states_more _ _ c.args.states.now c.loop-i.i c.loop-i-test.true) c.put_state.ensures

pub returns : goal.returns
returns c = ended c.loop-i.invariant (states_end _ _ c.args.states.now c.loop-i.i c.loop-i-test.false)
