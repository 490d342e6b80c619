-- What a first child adds.
use Rattle.std.proofs.Common.{◌≡◌, ◌<◌, ℕ, zero, suc, refl, sym, ◌∙◌, eqb, Bool, true, false, Option, Some, None}
use Rattle.definition.specs.declared.codes.ListKind.TheVariants as L
use Rattle.decision.proofs.Laws.{there}
use Rattle.plan.specs.declared.ChartPlan.{ChartPlan}
use Rattle.plan.specs.declared.Plan.{Plan}
use Rattle.plan.specs.declared.Declared.{Declared}
use Rattle.plan.specs.declared.Heard.{Heard}
use Rattle.plan.specs.declared.Seen.{Seen}
use Rattle.plan.specs.Plan.{Planned, planned, member, on_chart, inside, counting, on_state, on_transition, on_members, on_counters}
use Rattle.plan.specs.Plans.{idle_in, declared_plan, declared_row, default_row, default_to, defaulted, initial_to, one_member, both_declared}

pub default_some : (s f : ℕ) (v : Seen) → ¬ (f ≡ 0)
    → default_to s f v ≡ on_counters (counting v.current.0 (suc v.ids) v.docs) (on_members (one_member L.Targets (suc v.ids) f) (on_state (Some (initial_to s (suc v.ids))) (on_transition (default_row (suc v.ids) s) (idle_in (inside 0 0) v))))
unfolding default_to
default_some s zero v e = absurd (e refl)
default_some s (suc f) v e = refl

pub defaulted_some : (f : ℕ) (x : Declared) (v : Seen) (q : Heard) → ¬ (f ≡ 0)
    → defaulted f x v q ≡ on_counters (counting v.current.0 (suc v.ids) (suc v.docs)) (on_members (record { words = None; targets = None; one = x.joins; two = Some (member L.Targets (suc v.ids) f) }) (
    on_state (Some (declared_row q.own.0 (Some (suc v.ids)) (suc v.docs) x)) (on_transition (default_row (suc v.ids) q.own.0) (declared_plan false x v q))))
unfolding defaulted
defaulted_some zero x v q e = absurd (e refl)
defaulted_some (suc f) x v q e = refl

none : (k : ℕ) (P Q : Planned) → k ≡ 0 → elim (eqb k 0) [ true ↦ P | false ↦ Q ] ≡ P
none k P Q e = rw e

-- An empty state without an initial.
pub both_default : (ch : Option ChartPlan) (b : Bool) (x : Declared) (v : Seen) (q : Heard) (p : Plan) → b ≡ false → v.own.0 ≡ 0 → 0 < q.own.0 → p ≡ defaulted v.eldest.0 x v q
    → planned (on_chart ch p) ≡ both_declared ch b x v q
unfolding both_declared
both_default ch b x v q p e z h g =
    let P : Planned = planned (on_chart ch (defaulted v.eldest.0 x v q)) in
    let Q : Planned = planned (on_chart ch (declared_plan false x v q)) in
    rw (e, g) (sym (there q.own.0 (elim (eqb v.own.0 0) [ true ↦ P | false ↦ Q ]) h ∙ none v.own.0 P Q z))
