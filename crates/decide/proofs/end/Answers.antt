use Rattle.plan.specs.Plans.{end_p, ends_p, end_state_p}
use Rattle.decide.proofs.end.Goals as goal

pub returns-in-State : goal.returns-in-State
unfolding end_p ends_p end_state_p
returns-in-State c = rw c.in-State.is c.default_initial-in-State.ensures
