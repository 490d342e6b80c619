use Rattle.plan.specs.Plans.{start_p, starts_p, plain_p, state_p}
use Rattle.decide.proofs.start.Goals as goal

pub returns-in-State : goal.returns-in-State
unfolding start_p starts_p plain_p state_p
returns-in-State c = rw c.in-State.is c.child.ensures
