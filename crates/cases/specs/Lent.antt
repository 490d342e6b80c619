-- Questions 1 and 2 from lent stores. A lent store for each clause of question 2 that gets 2 by that clause alone, and a good one with junk beyond its
-- rows that gets 0. Each row alters one thing in the good store, and breaks the clauses named and no other.
use Rattle.std.specs.Prelude.{ℕ, suc, List, [], ◌∷◌, ◌++◌, map, replicate}
use Rattle.definition.specs.Text.{str}
use Rattle.definition.specs.Elements.{tag}
use Rattle.definition.specs.Rows.{table, chart, state, transition, region, entry, invoke, datum, parameter, member, opened, open_region}
use Rattle.definition.specs.Reader.{reading}
use Rattle.cases.specs.Made.{
  limit,
  position,
  Alter,
  cell,
  field,
  bound,
  short,
  short_text,
  bytes,
  altered_by,
  Clause,
  too_many,
  counter,
  falling,
  over_charged,
  uncharged,
  name_twice,
  number_twice,
  open_name,
  open_tag,
  open_blocks,
  current_region,
  column,
  Case,
}
use Rattle.cases.specs.Base.{good, chart_row}

-- The chart's row is read.
abbrev passes : List Alter → Case
passes as' = record { made = altered_by as' good; call = reading 0 1; breaks = []; answer = 0; row = chart_row; holds = [] }

abbrev breaks : List Alter → List Clause → Case
breaks as' cs = record { made = altered_by as' good; call = reading 0 1; breaks = cs; answer = 2; row = []; holds = [] }

-- A value that the column's class does not admit.
abbrev spoils : ℕ → ℕ → ℕ → ℕ → Case
spoils t i c v = breaks (cell t i c v ∷ []) (column t i c ∷ [])

abbrev too_short : List Alter → List Clause → Case
too_short as' cs = record { made = altered_by as' good; call = reading 0 1; breaks = cs; answer = 1; row = []; holds = [] }

-- "Are the lent slices long enough for every limit? 1"; it is put before question 2.
unfoldable pub question_one : List Case
unfolding altered_by good
question_one =
    passes []
    ∷ map (λ (t : ℕ). too_short (short t ∷ []) []) (0 ∷ 1 ∷ 2 ∷ 3 ∷ 4 ∷ 5 ∷ 6 ∷ 7 ∷ 8 ∷ 9 ∷ 10 ∷ 11 ∷ [])
    ++ too_short (short_text ∷ []) []
    ∷ too_short (short table.states ∷ cell table.chart 1 chart.root 9 ∷ []) (column table.chart 1 chart.root ∷ [])
    ∷ []

-- Codes.
unfoldable pub codes : List Case
unfolding altered_by good
codes =
    spoils table.chart 1 chart.binding 2
    ∷ spoils table.states 1 state.parallel 2
    ∷ spoils table.states 1 state.final 2
    ∷ spoils table.states 1 state.history 3
    ∷ spoils table.states 2 state.has_content 2
    ∷ spoils table.transitions 1 transition.type 2
    ∷ spoils table.transitions 2 transition.wildcard 2
    ∷ spoils table.entries 4 entry.kind 0
    ∷ spoils table.entries 4 entry.kind 9
    ∷ spoils table.entries 2 entry.has_content 2
    ∷ spoils table.invokes 1 invoke.autoforward 2
    ∷ spoils table.invokes 1 invoke.has_content 2
    ∷ spoils table.parameters 4 parameter.kind 0
    ∷ spoils table.parameters 4 parameter.kind 4
    ∷ spoils table.members 7 member.list 0
    ∷ spoils table.members 7 member.list 10
    ∷ spoils table.opened 2 opened.tag 28
    ∷ []

-- Columns that hold nothing yet are 0, the first and the last of each table; so is the number of a member that is a word.
unfoldable pub spares : List Case
unfolding altered_by good
spares =
    spoils table.chart 1 9 1
    ∷ spoils table.chart 1 23 1
    ∷ spoils table.states 2 14 1
    ∷ spoils table.states 1 23 1
    ∷ spoils table.regions 5 1 1
    ∷ spoils table.regions 1 7 1
    ∷ spoils table.entries 2 44 1
    ∷ spoils table.entries 4 47 1
    ∷ spoils table.invokes 1 20 1
    ∷ spoils table.invokes 1 23 1
    ∷ spoils table.datums 1 7 1
    ∷ spoils table.members 9 5 1
    ∷ spoils table.members 1 7 1
    ∷ spoils table.members 7 member.value 1
    ∷ spoils table.members 8 member.value 2
    ∷ spoils table.members 9 member.value 1
    ∷ spoils table.opened 1 4 1
    ∷ spoils table.opened 3 7 1
    ∷ spoils table.open_regions 1 2 1
    ∷ spoils table.open_regions 2 7 1
    ∷ []

-- "Every transition's source and targets are existing states; every other number that a row holds for a row is 0 or names one that exists." State 3 lies
-- beyond the rows in use; 2 is a region's number and 1 a transition's.
unfoldable pub numbers : List Case
unfolding altered_by good
numbers =
    spoils table.chart 1 chart.root 3
    ∷ passes (cell table.opened 1 opened.state 0 ∷ [])
    ∷ spoils table.chart 1 chart.script 6
    ∷ spoils table.states 2 state.initial 2
    ∷ spoils table.states 2 state.parent 3
    ∷ spoils table.transitions 1 transition.source 0
    ∷ spoils table.transitions 1 transition.source 3
    ∷ spoils table.transitions 1 transition.content 1
    ∷ spoils table.entries 2 entry.region 6
    ∷ passes (cell table.entries 2 entry.region 0 ∷ [])
    ∷ spoils table.entries 2 entry.state 3
    ∷ spoils table.entries 4 entry.content 8
    ∷ spoils table.entries 4 entry.else 8
    ∷ spoils table.entries 3 entry.else 8
    ∷ spoils table.invokes 1 invoke.state 3
    ∷ spoils table.invokes 1 invoke.finalize 6
    ∷ spoils table.datums 1 datum.state 3
    ∷ passes (cell table.datums 1 datum.state 0 ∷ [])
    ∷ spoils table.parameters 2 parameter.owner 3
    ∷ spoils table.parameters 3 parameter.owner 5
    ∷ spoils table.parameters 4 parameter.owner 2
    ∷ spoils table.members 1 member.owner 3
    ∷ spoils table.members 2 member.owner 3
    ∷ spoils table.members 3 member.owner 3
    ∷ spoils table.members 4 member.owner 3
    ∷ spoils table.members 5 member.owner 3
    ∷ spoils table.members 6 member.owner 2
    ∷ spoils table.members 7 member.owner 2
    ∷ spoils table.members 8 member.owner 5
    ∷ spoils table.members 9 member.owner 2
    ∷ spoils table.members 1 member.value 0
    ∷ spoils table.members 1 member.value 3
    ∷ spoils table.members 2 member.value 0
    ∷ spoils table.members 3 member.value 0
    ∷ spoils table.members 3 member.value 1
    ∷ spoils table.members 4 member.value 6
    ∷ spoils table.members 5 member.value 0
    ∷ spoils table.members 5 member.value 2
    ∷ spoils table.members 6 member.value 0
    ∷ spoils table.members 6 member.value 3
    ∷ spoils table.opened 3 opened.state 3
    ∷ spoils table.opened 3 opened.transition 2
    ∷ spoils table.open_regions 1 open_region.region 6
    ∷ breaks (field position.current 6 ∷ []) (current_region ∷ [])
    ∷ passes (field position.current 0 ∷ [])
    -- "A region number in an if or foreach is 0 or names a region above the one that holds the entry."
    ∷ spoils table.entries 1 entry.content 2
    ∷ spoils table.entries 1 entry.content 6
    ∷ spoils table.entries 1 entry.else 2
    ∷ spoils table.entries 1 entry.else 8
    ∷ spoils table.entries 3 entry.content 3
    ∷ passes (cell table.entries 1 entry.content 7 ∷ cell table.entries 1 entry.else 0 ∷ [])
    -- A donedata began with at most as many parameters as there are.
    ∷ spoils table.states 1 state.donedata 6
    ∷ passes (cell table.states 1 state.donedata 5 ∷ [])
    ∷ []

-- A text that is absent has no length; any other lies inside the text in use, which has 12 bytes.
unfoldable pub texts : List Case
unfolding altered_by good
texts =
    spoils table.chart 1 chart.version 14
    ∷ breaks (cell table.chart 1 (suc chart.version) 1 ∷ []) (column table.chart 1 chart.version ∷ [])
    ∷ passes (cell table.states 2 state.expr 13 ∷ [])
    ∷ spoils table.states 2 state.expr 14
    ∷ spoils table.states 2 state.name 13
    ∷ spoils table.states 2 state.text 13
    ∷ spoils table.transitions 1 transition.cond 13
    ∷ breaks (cell table.transitions 1 (suc transition.cond) 10 ∷ []) (column table.transitions 1 transition.cond ∷ [])
    ∷ spoils table.entries 2 entry.event 12
    ∷ spoils table.entries 3 entry.array 0
    ∷ spoils table.entries 4 entry.expr 13
    ∷ spoils table.invokes 1 invoke.src 13
    ∷ spoils table.datums 1 datum.id 13
    ∷ spoils table.datums 1 datum.expr 13
    ∷ spoils table.parameters 3 parameter.name 13
    ∷ spoils table.members 7 member.word 13
    -- "Names are distinct; state i's name leads to i."
    ∷ breaks (cell table.states 2 state.name 1 ∷ []) (name_twice ∷ [])
    ∷ []

-- "The reading position's counters and text charge cover all rows and text stored, and keep the limits."
unfoldable pub counters : List Case
unfolding altered_by good
counters =
    breaks (field position.ids 6 ∷ []) (column table.regions 5 region.number ∷ [])
    ∷ breaks (field position.docs 2 ∷ []) (column table.transitions 1 transition.doc ∷ [])
    ∷ breaks (field position.docs 3 ∷ cell table.states 2 state.doc 4 ∷ []) (column table.states 2 state.doc ∷ [])
    ∷ breaks (field position.charge 11 ∷ []) (uncharged ∷ [])
    ∷ passes (field position.charge 12 ∷ [])
    ∷ breaks (bound limit.charge 13 ∷ []) (over_charged ∷ [])
    ∷ passes (bound limit.charge 14 ∷ [])
    ∷ breaks (field position.ids 65536 ∷ []) (counter 1 ∷ [])
    ∷ breaks (field position.docs 65536 ∷ []) (counter 2 ∷ [])
    ∷ breaks (field position.names 65536 ∷ []) (counter 3 ∷ [])
    ∷ passes (field position.ids 65535 ∷ field position.docs 65535 ∷ field position.names 65535 ∷ [])
    ∷ breaks (bound limit.states 1 ∷ []) (too_many table.states ∷ [])
    ∷ breaks (bound limit.transitions 1 ∷ []) (too_many table.transitions ∷ [])
    ∷ breaks (bound limit.regions 4 ∷ []) (too_many table.regions ∷ [])
    ∷ breaks (bound limit.entries 3 ∷ []) (too_many table.entries ∷ [])
    ∷ breaks (bound limit.invokes 0 ∷ []) (too_many table.invokes ∷ [])
    ∷ breaks (bound limit.datums 0 ∷ []) (too_many table.datums ∷ [])
    ∷ breaks (bound limit.parameters 3 ∷ []) (too_many table.parameters ∷ [])
    ∷ breaks (bound limit.members 8 ∷ []) (too_many table.members ∷ [])
    ∷ breaks (bound limit.opened 2 ∷ []) (too_many table.opened ∷ too_many table.open_names ∷ [])
    ∷ passes (
    bound limit.states 2 ∷ bound limit.transitions 2 ∷ bound limit.regions 5 ∷ bound limit.entries 4 ∷ bound limit.invokes 1 ∷ bound limit.datums 1
    ∷ bound limit.parameters 4 ∷ bound limit.members 9 ∷ bound limit.opened 3 ∷ [])
    -- Numbers rise along transitions and along regions, and none is both.
    ∷ breaks (cell table.transitions 2 transition.number 1 ∷ []) (falling table.transitions ∷ [])
    ∷ breaks (cell table.regions 5 region.number 5 ∷ []) (falling table.regions ∷ [])
    -- A number 0 is not drawn, and does not rise.
    ∷ breaks (cell table.transitions 2 transition.number 0 ∷ []) (column table.transitions 2 transition.number ∷ falling table.transitions ∷ [])
    ∷ breaks (cell table.transitions 2 transition.number 7 ∷ []) (number_twice ∷ [])
    ∷ []

-- The open rows.
unfoldable pub open_rows : List Case
unfolding altered_by good str
open_rows =
    breaks (cell table.opened 1 opened.length 0 ∷ []) (open_name ∷ [])
    ∷ passes (cell table.opened 1 opened.length 64 ∷ [])
    ∷ breaks (cell table.opened 1 opened.length 65 ∷ []) (open_name ∷ [])
    ∷ breaks (cell table.opened 1 opened.length 2 ∷ bytes 1 (str "if") ∷ []) (open_name ∷ [])
    ∷ passes (cell table.opened 1 opened.length 2 ∷ bytes 1 (str "If") ∷ [])
    ∷ breaks (cell table.open_regions 1 open_region.tag tag.foreach ∷ []) (open_tag ∷ [])
    ∷ breaks (field position.open_regions 1 ∷ cell table.open_regions 1 open_region.tag tag.onentry ∷ []) (open_tag ∷ [])
    ∷ breaks (field position.open_regions 1 ∷ cell table.open_regions 1 open_region.tag tag.elseif ∷ []) (open_tag ∷ [])
    ∷ breaks (cell table.open_regions 2 open_region.tag tag.if ∷ []) (open_blocks ∷ [])
    ∷ passes (cell table.open_regions 2 open_region.tag tag.if ∷ cell table.opened 2 opened.tag tag.foreach ∷ [])
    -- Two open regions for each open element, and a position that says one more.
    ∷ breaks (
    bound limit.opened 1 ∷ field position.opened 1 ∷ cell table.opened 1 opened.tag tag.if ∷ field position.open_regions 3
    ∷ replicate 8 (short table.open_regions)) (too_many table.open_regions ∷ [])
    ∷ []
