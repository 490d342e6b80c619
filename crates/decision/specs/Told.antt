-- A decision, as the definition of plans has it.
use Rattle.std.specs.Prelude.{Result, Ok, Err}
use Rattle.definition.specs.Codes.{refusal_number}
use Rattle.definition.specs.declared.codes.Refusal.{Refusal}
use Rattle.plan.specs.declared.Plan.{Plan}
use Rattle.plan.specs.Plan.{Planned, planned, refused}

abbrev pub told : Result Plan Refusal → Planned
told (Ok p) = planned p
told (Err k) = refused (refusal_number k)

-- What is decided, with the plan that was lent.
abbrev pub placed : Result Unit Refusal → Plan → Result Plan Refusal
placed (Ok u) p = Ok p
placed (Err k) p = Err k
