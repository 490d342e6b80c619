-- An event in form, settled: what is answered, and what is ready to be written.
use Rattle.std.specs.Prelude.{ℕ, zero, suc, ◌≡◌, Bool, true, false, Result, Ok, Err, MatchResult}
use Rattle.std.proofs.Math.Option.{some}
use Rattle.definition.specs.declared.Position.{Position}
use Rattle.definition.specs.Codes.{refusal_number}
use Rattle.definition.specs.Limits.{limits01}
use Rattle.definition.specs.declared.codes.Refusal.{Refusal}
use Rattle.definition.specs.Event.{Event, in_form, keys_differ}
use Rattle.definition.specs.Reader.{Lent, store_of, long_enough, in_order, reply_to}
use Rattle.plan.specs.declared.Plan.{Plan}
use Rattle.plan.specs.declared.Effect.{Effect}
use Rattle.plain.specs.Plain.{Parsed, parsed_of}
use Rattle.whole.specs.Accepted.{Ready, afterwards}

-- The questions 1 to 4 are yes; v is what is parsed of the event.
pub record InForm (x : Lent) (p : Position) (v : Parsed) : Type 0 where
  pub event : Event
  pub parsed : v ≡ parsed_of event
  pub form : in_form limits01 event ≡ true
  pub differ : keys_differ event.attributes ≡ true
  pub long : long_enough limits01 x ≡ true
  pub order : in_order limits01 x p ≡ true

-- The first no of 5 to 12, then the decision's, then 15: w says whether the chart stays within the limits.
unfoldable pub first_of : ℕ → Result Plan Refusal → (Plan → Bool) → ℕ
first_of zero (Ok plan) w = elim (w plan) [ true ↦ 0 | false ↦ 15 ]
first_of zero (Err k) w = refusal_number k
first_of (suc k) d w = suc k

-- The event gets 0 and does f.
pub record Takes (x : Lent) (p : Position) (v : Parsed) (f : Effect) : Type 0 where
  pub reply : (A : InForm x p v) → reply_to limits01 (store_of x p) (some A.event) ≡ record { number = 0; store = afterwards (store_of x p) A.event f.plan.now }
  pub ready : InForm x p v → Ready x p v f.plan.now f.made f.charge
  pub same : (A : InForm x p v) → (ready A).accepted.event ≡ A.event

-- The event gets the number of k.
abbrev pub Refuses : Lent → Position → Parsed → Refusal → Type 0
Refuses x p v k = (A : InForm x p v) → reply_to limits01 (store_of x p) (some A.event) ≡ record { number = refusal_number k; store = store_of x p }

abbrev pub Settles : Lent → Position → Parsed → Result Effect Refusal → Type 0
Settles x p v r = MatchResult r (λ f. Takes x p v f) (λ k. Refuses x p v k)
