-- Question 15 of numbers alone.
use Rattle.std.specs.Prelude.{ℕ, ◌+◌, ◌-◌, Option, Some, None, Bool, ◌&&◌, leb}
use Rattle.definition.specs.declared.Limits.{Limits}
use Rattle.definition.specs.declared.Position.{Position}
use Rattle.definition.specs.Look.{one_if}
use Rattle.plan.specs.declared.Plan.{Plan}
use Rattle.plan.specs.declared.TargetPlan.{TargetPlan}
use Rattle.plan.specs.declared.MembersPlan.{MembersPlan}
use Rattle.plan.specs.Decided.{one_there, words_added}

unfoldable pub targets_more : Option TargetPlan → ℕ → ℕ
targets_more None refs = 0
targets_more (Some p) refs = refs - p.skip

unfoldable pub members_more : MembersPlan → ℕ → ℕ
unfolding one_there words_added targets_more
members_more m refs = words_added m.words + targets_more m.targets refs + one_there m.one + one_there m.two

unfoldable pub rows_within : Limits → Position → ℕ → ℕ → Plan → Bool
unfolding one_there members_more
rows_within L n refs new p =
    leb (n.states + new) L.states
    && leb (n.transitions + one_there p.transitions.added) L.transitions
    && leb (n.regions + one_there p.regions.one + one_there p.regions.two) L.regions
    && leb (n.entries + one_there p.entries.added) L.entries
    && leb (n.invokes + one_there p.invokes.added) L.invokes
    && leb (n.datums + one_there p.datums.added) L.datums
    && leb (n.parameters + one_there p.parameters) L.parameters
    && leb (n.members + members_more p.members refs) L.members

-- made: whether a name is generated.
unfoldable pub drawn_within : Limits → Position → Bool → ℕ → Plan → Bool
unfolding one_if
drawn_within L n made charge p =
    leb p.counters.ids L.drawn && leb p.counters.docs L.drawn && leb (n.names + one_if made) L.drawn && leb (n.charge + charge) L.charge

unfoldable pub within : Limits → Position → ℕ → ℕ → Bool → ℕ → Plan → Bool
unfolding rows_within drawn_within
within L n refs new made charge p = rows_within L n refs new p && drawn_within L n made charge p
