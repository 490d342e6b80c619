use Rattle.plan.specs.Plans.{both_p, boths_p}
use Rattle.decide.proofs.both.Goals as goal

pub returns-in-State : goal.returns-in-State
unfolding both_p boths_p
returns-in-State c = rw c.in-State.is c.both_state.ensures
