-- What the code of a decision requires: all numbers are far below 2 to the 32. Question 2 and the event's own limits give it.
use Rattle.std.specs.Prelude.{ℕ, ◌<◌}
use Rattle.definition.specs.declared.Position.{Position}
use Rattle.plan.specs.declared.Seen.{Seen}
use Rattle.plan.specs.declared.Heard.{Heard}
use Rattle.plan.specs.declared.Plan.{Plan}
use Rattle.plan.specs.Decided.{words_added}

-- Of what is seen and heard.
abbrev pub Small : Seen → Heard → Type 0
Small v q =
    (v.ids < 65536) × (v.docs < 65536) × (v.current.0 < 65536) × (v.state.0 < 65536) × (v.entries < 65536) × (v.invokes < 65536) × (v.datums < 65536)
    × (v.parameters < 65536) × (q.own.0 < 65536) × (q.binding < 65536) × (q.history < 65536)

-- Of the position.
abbrev pub Counted : Position → Type 0
Counted n =
    (n.states < 65536) × (n.transitions < 65536) × (n.regions < 65536) × (n.entries < 65536) × (n.invokes < 65536) × (n.datums < 65536) × (n.parameters < 65536)
    × (n.members < 65536) × (n.names < 65536) × (n.charge < 65536)

-- Of what an event brings: references to states, new states, a charge; and words.
unfoldable pub words_on : Plan → ℕ
unfolding words_added
words_on p = words_added p.members.words

abbrev pub Brought : ℕ → ℕ → ℕ → Plan → Type 0
Brought refs new charge p = (refs < 65536) × (new < 65536) × (charge < 65536) × (words_on p < 65536)
