-- An event that gets 0, and the store after it.
use Rattle.std.specs.Prelude.{ℕ, ◌≡◌, Bool, true}
use Rattle.definition.specs.declared.Position.{Position}
use Rattle.definition.specs.Limits.{limits01}
use Rattle.definition.specs.Event.{Event, in_form, keys_differ}
use Rattle.definition.specs.Rows.{Store}
use Rattle.definition.specs.Look.{Look, look, text_after}
use Rattle.definition.specs.Change.{entered}
use Rattle.definition.specs.Reader.{Lent, store_of, long_enough, in_order, questions, first_no}
use Rattle.plain.specs.Plain.{Parsed, parsed_of}
use Rattle.payload.specs.Payload.{made_in, charge_in}
use Rattle.plan.specs.declared.Plan.{Plan}
use Rattle.plan.specs.Plan.{planned}
use Rattle.plan.specs.Plans.{plan_of}
use Rattle.plan.specs.After.{applied, move_of}
use Rattle.plan.specs.Decided.{stays_within}

-- v is what is seen of the event, q its plan.
pub record Accepted (x : Lent) (p : Position) (v : Parsed) (q : Plan) : Type 0 where
  pub event : Event
  pub parsed : v ≡ parsed_of event
  pub form : in_form limits01 event ≡ true
  pub differ : keys_differ event.attributes ≡ true
  pub long : long_enough limits01 x ≡ true
  pub order : in_order limits01 x p ≡ true
  pub first : first_no (questions limits01 (store_of x p).numbers (look (store_of x p) event)) ≡ 0
  pub plan : plan_of (store_of x p).numbers (look (store_of x p) event) ≡ planned q
  pub within : stays_within limits01 (look (store_of x p) event) q (store_of x p).numbers ≡ true

-- The event gets 0 by the plan q; made: it draws a name; charge: what it takes of the budget.
pub record Ready (x : Lent) (p : Position) (v : Parsed) (q : Plan) (made : Bool) (charge : ℕ) : Type 0 where
  pub accepted : Accepted x p v q
  pub makes : made ≡ made_in v
  pub takes : charge ≡ charge_in v p.names

unfoldable pub afterwards : Store → Event → Plan → Store
unfolding applied move_of entered text_after look
afterwards s e q = let l : Look = look s e in record { numbers = applied (move_of l.kind) l q (entered l s.numbers); text = text_after s e }
