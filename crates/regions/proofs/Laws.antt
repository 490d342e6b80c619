-- Start and end as one: the region drawn is the content.
use Rattle.std.proofs.Common.{◌≡◌, ℕ, suc, ap}
use Rattle.definition.specs.Change.{◌▷◌}
use Rattle.plan.specs.declared.Heard.{Heard}
use Rattle.plan.specs.declared.Seen.{Seen}
use Rattle.plan.specs.Plan.{on_counters, counting}
use Rattle.plan.specs.Plans.{transition_plan, transition_by, both_transition_p, whole_transition}

pub whole : (r : ℕ) (v : Seen) (q : Heard) → r ≡ suc (suc v.ids) → transition_by (λ inner. transition_plan inner r v q ▷ on_counters (counting 0 (suc (suc v.ids)) (suc v.docs))) v ≡ both_transition_p v q
unfolding both_transition_p whole_transition
whole r v q e = ap (λ (x : ℕ). transition_by (λ inner. transition_plan inner x v q ▷ on_counters (counting 0 (suc (suc v.ids)) (suc v.docs))) v) e
