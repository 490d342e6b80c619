use Rattle.nesting.proofs.Laws.{state_named}
use Rattle.nesting.proofs.names_state.Goals as goal

pub returns : goal.returns
returns c = state_named _
