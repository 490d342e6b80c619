-- An event decided by its plan alone: the questions, the plan on the store before the event, and 15 by counting.
use Rattle.std.specs.Prelude.{ℕ, zero, suc, ◌+◌, Bool, true, false, Option, Some, None, ◌&&◌, List, [], ◌∷◌, length, drop, leb}
use Rattle.definition.specs.declared.Limits.{Limits}
use Rattle.definition.specs.Rows.{table, Numbers, table_of}
use Rattle.definition.specs.Look.{Look}
use Rattle.definition.specs.Change.{entered}
use Rattle.definition.specs.Rules.{chart_limits}
use Rattle.definition.specs.Reader.{Verdict, accept, reject, first_no, questions, all_at_most}
use Rattle.plan.specs.declared.MemberPlan.{MemberPlan}
use Rattle.plan.specs.declared.TargetPlan.{TargetPlan}
use Rattle.plan.specs.declared.MembersPlan.{MembersPlan}
use Rattle.plan.specs.declared.Plan.{Plan}
use Rattle.plan.specs.Plan.{Planned, planned, refused}
use Rattle.plan.specs.After.{applied, move_of}
use Rattle.plan.specs.Plans.{plan_of}

-- One row more where there is one.
unfoldable pub one_there : {A : Type 0} → Option A → ℕ
one_there None = 0
one_there (Some p) = 1

unfoldable pub words_added : Option MemberPlan → ℕ
words_added None = 0
words_added (Some p) = p.value

unfoldable pub targets_added : Look → Option TargetPlan → ℕ
targets_added l None = 0
targets_added l (Some p) = length (drop p.skip l.refs)

unfoldable pub members_added : Look → MembersPlan → ℕ
unfolding one_there words_added targets_added
members_added l p = words_added p.words + targets_added l p.targets + one_there p.one + one_there p.two

-- How many rows each table of the chart has after the event.
unfoldable pub counts_after : Look → Plan → Numbers → List ℕ
unfolding one_there members_added
counts_after l p n =
    length (table_of n table.chart)
    ∷ (length (table_of n table.states) + length (drop (length (table_of n table.states)) l.known))
    ∷ (length (table_of n table.transitions) + one_there p.transitions.added)
    ∷ (length (table_of n table.regions) + one_there p.regions.one + one_there p.regions.two)
    ∷ (length (table_of n table.entries) + one_there p.entries.added)
    ∷ (length (table_of n table.invokes) + one_there p.invokes.added)
    ∷ (length (table_of n table.datums) + one_there p.datums.added)
    ∷ (length (table_of n table.parameters) + one_there p.parameters)
    ∷ (length (table_of n table.members) + members_added l p.members)
    ∷ []

-- "Would the chart stay within the limits? 15", of numbers alone.
unfoldable pub stays_within : Limits → Look → Plan → Numbers → Bool
unfolding counts_after all_at_most chart_limits
stays_within L l p n =
    all_at_most (counts_after l p n) (chart_limits L)
    && (leb p.counters.ids L.drawn && leb p.counters.docs L.drawn && leb (n.names + l.generated) L.drawn && leb (n.charge + l.charge) L.charge)

unfoldable pub limited_p : Limits → Look → Numbers → Planned → Verdict
unfolding stays_within applied move_of entered
limited_p L l n (refused k) = reject k
limited_p L l n (planned p) = elim (stays_within L l p n) [ true ↦ accept (applied (move_of l.kind) l p (entered l n)) | false ↦ reject 15 ]

unfoldable pub decided_p : Limits → Numbers → Look → Verdict
unfolding limited_p plan_of first_no questions
decided_p L n l = elim (first_no (questions L n l)) [ zero ↦ limited_p L l n (plan_of n l) | suc k ↦ reject (suc k) ]
