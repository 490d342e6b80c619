use mathlib.Core.Path.{ap₂}
use mathlib.Core.Bool.{Bool, not, ◌&&◌}
use Rattle.plain.specs.Plain.{parsed_in}
use Rattle.asked.proofs.not_both.Goals as goal

pub returns : goal.returns
unfolding parsed_in
returns c = ap₂ (λ (a b : Bool). not (a && b)) c.has.ensures c.has-2.ensures
