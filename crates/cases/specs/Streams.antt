-- Streams from lent slices: the number, the event that is refused, the whole reading position that comes back, and what the chart holds then. "In a stream
-- an event runs to the next line beginning `event=` or to the end."
use Rattle.std.specs.Prelude.{ℕ, suc, Bool, ◌&&◌, List, [], ◌∷◌, ◌++◌, take, drop, replicate, eqb}
use Prim.Native.String.{String}
use Rattle.definition.specs.declared.Position.{Position}
use Rattle.definition.specs.Text.{str, same}
use Rattle.definition.specs.Elements.{tag}
use Rattle.definition.specs.Rows.{table, list, chart, state, transition, entry, opened, open_region, blank}
use Rattle.definition.specs.Reader.{Lent, Streamed, stream, counts, store_of}
use Rattle.definition.specs.Stars.{Held, holds_all, rows, number, name, members, words}
use Rattle.cases.specs.Made.{Made, position, limits_of, position_from, numbers_of, same_tables, beyond, Alter, cell, field, altered_by}
use Rattle.cases.specs.Base.{good, zeros}
use Rattle.cases.specs.Internal.{inside}

pub record Fed : Type 0 where
  pub made : Made
  pub stream : List ℕ
  pub answer : ℕ
  pub refused : ℕ
  pub position : List ℕ
  pub holds : List Held

-- What lies beyond the rows and the text in use is as it was; of the three last tables, the open rows, an event may have used and left some.
unfoldable pub fed_right : Fed → Bool
unfolding stream limits_of position_from same numbers_of same_tables beyond counts holds_all store_of
fed_right f =
    let m : Made = f.made in
    let x : Lent = record { tables = m.tables; text = m.text } in
    let o : Streamed = stream (limits_of m.limits) x (position_from m.position) f.stream in
    let p : Position = o.position in
    eqb o.number f.answer && eqb o.event f.refused && same (numbers_of p) f.position
    && same_tables (beyond (take 9 (counts p)) o.lent.tables) (beyond (take 9 (counts p)) m.tables) && same (drop p.used o.lent.text) (drop p.used m.text)
    && holds_all (store_of o.lent p) f.holds

-- From the empty chart: the stream's event i gets the number k; position and chart are those that the events before it left.
abbrev from_empty : String → ℕ → ℕ → List ℕ → List Held → Fed
from_empty t k i p hs = record { made = zeros; stream = str t; answer = k; refused = i; position = p; holds = hs }

-- position: open elements, states, transitions, regions, entries, invokes, data, parameters, members, open regions; current region; drawn ids, doc ids, names;
-- bytes used, charged.
unfoldable pub from_nothing : List Fed
unfolding str good blank
from_nothing =
    -- A text of no bytes has no event.
    from_empty "" 0 0 (replicate 16 0) (rows table.states 0 ∷ [])
    -- Bytes before the first line that begins an event are an event by themselves, which is out of form.
    ∷ from_empty "x\nevent=open\nname=scxml\n" 3 1 (replicate 16 0) []
    ∷ from_empty "\nevent=open\nname=scxml\n" 3 1 (replicate 16 0) []
    -- Each event goes on from the one before it. An assign's text is charged twice and two more, and takes two more bytes here.
    ∷ from_empty
    "event=open\nname=scxml\nevent=open\nname=state\nkey=id\nvalue=ab\nevent=open\nname=onentry\nevent=whole\nname=assign\nkey=location\nvalue=x\ntext=yy\n" 0 0 (
    3 ∷ 2 ∷ 0 ∷ 1 ∷ 1 ∷ 0 ∷ 0 ∷ 0 ∷ 1 ∷ 0 ∷ 1 ∷ 1 ∷ 2 ∷ 1 ∷ 12 ∷ 14 ∷ []) (
    name table.states 1 state.name "__id1"
    ∷ name table.states 2 state.name "ab"
    ∷ number table.states 2 state.parent 1
    ∷ members list.children 1 (2 ∷ [])
    ∷ name table.entries 1 entry.text "\"yy\""
    ∷ number table.entries 1 entry.expr 0
    ∷ [])
    -- Event 3 is refused: what 1 and 2 made stands, and event 4 is not looked at.
    ∷ from_empty "event=open\nname=scxml\nevent=open\nname=state\nkey=id\nvalue=ab\nevent=end\nname=scxml\nevent=end\nname=state\n" 5 3 (
    2 ∷ 2 ∷ 0 ∷ 0 ∷ 0 ∷ 0 ∷ 0 ∷ 0 ∷ 1 ∷ 0 ∷ 0 ∷ 0 ∷ 2 ∷ 1 ∷ 7 ∷ 7 ∷ []) (
    name table.states 2 state.name "ab" ∷ number table.states 1 state.initial 0 ∷ [])
    -- The same ended rightly: state and scxml get what they get at their ends.
    ∷ from_empty "event=open\nname=scxml\nevent=open\nname=state\nkey=id\nvalue=ab\nevent=end\nname=state\nevent=end\nname=scxml\n" 0 0 (
    0 ∷ 2 ∷ 1 ∷ 0 ∷ 0 ∷ 0 ∷ 0 ∷ 0 ∷ 2 ∷ 0 ∷ 0 ∷ 1 ∷ 2 ∷ 1 ∷ 7 ∷ 7 ∷ []) (
    number table.states 1 state.initial 1 ∷ members list.targets 1 (2 ∷ []) ∷ [])
    -- What begins an event inside a line does not.
    ∷ from_empty "event=open\nname=scxml\nkey=name\nvalue=event=open\nkey=event=x\nvalue=\\nevent=end\n" 0 0 (
    1 ∷ 1 ∷ 0 ∷ 0 ∷ 0 ∷ 0 ∷ 0 ∷ 0 ∷ 0 ∷ 0 ∷ 0 ∷ 0 ∷ 1 ∷ 1 ∷ 25 ∷ 25 ∷ []) (name table.chart 1 chart.name "event=open" ∷ [])
    -- A last event cut off after its first bytes.
    ∷ from_empty "event=open\nname=scxml\nevent=" 3 2 (1 ∷ 1 ∷ 0 ∷ 0 ∷ 0 ∷ 0 ∷ 0 ∷ 0 ∷ 0 ∷ 0 ∷ 0 ∷ 0 ∷ 1 ∷ 1 ∷ 5 ∷ 5 ∷ []) []
    ∷ []

-- From the good store, altered.
abbrev from_made : List Alter → String → ℕ → ℕ → List ℕ → List Held → Fed
from_made as' t k i p hs = record { made = altered_by as' good; stream = str t; answer = k; refused = i; position = p; holds = hs }

unfoldable pub from_stores : List Fed
unfolding altered_by good str
from_stores =
    -- "An event word loses a trailing `.*`, then a trailing `.`, repeated until neither is left": of the word `.` nothing is left.
    from_made (inside tag.state 1 0 4) "event=open\nname=transition\nkey=event\nvalue=. a\n" 0 0 (
    4 ∷ 2 ∷ 3 ∷ 6 ∷ 4 ∷ 1 ∷ 1 ∷ 4 ∷ 12 ∷ 0 ∷ 9 ∷ 9 ∷ 5 ∷ 2 ∷ 15 ∷ 17 ∷ []) (
    words list.events 8 ("" ∷ "a" ∷ []) ∷ number table.transitions 8 transition.wildcard 0 ∷ [])
    -- A count of two digits and of three.
    ∷ from_made (field position.names 9 ∷ inside tag.state 1 0 4) "event=open\nname=state\n" 0 0 (
    4 ∷ 3 ∷ 2 ∷ 5 ∷ 4 ∷ 1 ∷ 1 ∷ 4 ∷ 10 ∷ 0 ∷ 4 ∷ 7 ∷ 5 ∷ 10 ∷ 18 ∷ 20 ∷ []) (name table.states 3 state.name "__id10" ∷ [])
    ∷ from_made (field position.names 120 ∷ inside tag.state 1 0 4) "event=open\nname=state\n" 0 0 (
    4 ∷ 3 ∷ 2 ∷ 5 ∷ 4 ∷ 1 ∷ 1 ∷ 4 ∷ 10 ∷ 0 ∷ 4 ∷ 7 ∷ 5 ∷ 121 ∷ 19 ∷ 21 ∷ []) (name table.states 3 state.name "__id121" ∷ [])
    -- An elseif stands in no foreach; in an if inside one it closes to the if's outer region, and the foreach stays open.
    ∷ from_made (inside tag.foreach 1 0 4) "event=empty\nname=elseif\nkey=cond\nvalue=x\n" 8 1 (
    3 ∷ 2 ∷ 2 ∷ 5 ∷ 4 ∷ 1 ∷ 1 ∷ 4 ∷ 9 ∷ 0 ∷ 4 ∷ 7 ∷ 4 ∷ 2 ∷ 12 ∷ 14 ∷ []) []
    ∷ from_made (
    inside tag.if 1 0 4
    ++ field position.open_regions 2
    ∷ cell table.opened 2 opened.tag tag.foreach
    ∷ cell table.open_regions 1 open_region.region 5
    ∷ cell table.open_regions 1 open_region.tag tag.foreach
    ∷ cell table.open_regions 2 open_region.region 2
    ∷ cell table.open_regions 2 open_region.tag tag.if
    ∷ cell table.entries 1 entry.else 0
    ∷ []) "event=empty\nname=elseif\nkey=cond\nvalue=x\n" 0 0 (3 ∷ 2 ∷ 2 ∷ 7 ∷ 5 ∷ 1 ∷ 1 ∷ 4 ∷ 9 ∷ 3 ∷ 9 ∷ 9 ∷ 4 ∷ 2 ∷ 13 ∷ 15 ∷ []) (
    number table.entries 1 entry.else 8
    ∷ number table.entries 5 entry.region 8
    ∷ number table.entries 5 entry.content 9
    ∷ number table.open_regions 1 open_region.tag tag.foreach
    ∷ number table.open_regions 2 open_region.tag tag.if
    ∷ number table.open_regions 3 open_region.tag tag.elseif
    ∷ number table.open_regions 3 open_region.region 8
    ∷ [])
    -- An onentry that opens over leftover open regions: all are discarded, and its region is the current one.
    ∷ from_made (
    inside tag.state 1 0 4 ++ field position.open_regions 2 ∷ cell table.opened 2 opened.tag tag.if ∷ []) "event=open\nname=onentry\n" 0 0 (
    4 ∷ 2 ∷ 2 ∷ 6 ∷ 4 ∷ 1 ∷ 1 ∷ 4 ∷ 9 ∷ 0 ∷ 8 ∷ 8 ∷ 4 ∷ 2 ∷ 12 ∷ 14 ∷ []) (number table.regions 8 0 8 ∷ [])
    -- The first scxml stands anywhere, inside a state too: it has no parent, and is nobody's child. Texts of the chart that it does not give stay.
    ∷ from_made (
    cell table.chart 1 chart.root 0
    ∷ cell table.chart 1 chart.datamodel 3
    ∷ cell table.chart 1 (suc chart.datamodel) 1
    ∷ cell table.chart 1 chart.version 4
    ∷ cell table.chart 1 (suc chart.version) 1
    ∷ inside tag.state 1 0 4) "event=open\nname=scxml\n" 0 0 (4 ∷ 3 ∷ 2 ∷ 5 ∷ 4 ∷ 1 ∷ 1 ∷ 4 ∷ 9 ∷ 0 ∷ 4 ∷ 7 ∷ 5 ∷ 3 ∷ 17 ∷ 19 ∷ []) (
    number table.chart 1 chart.root 3
    ∷ name table.chart 1 chart.name "ab"
    ∷ name table.chart 1 chart.datamodel "c"
    ∷ name table.chart 1 chart.version "d"
    ∷ number table.chart 1 chart.script 5
    ∷ number table.chart 1 chart.binding 1
    ∷ number table.states 3 state.parent 0
    ∷ number table.opened 4 opened.state 3
    ∷ members list.children 1 (2 ∷ [])
    ∷ [])
    ∷ []

unfoldable pub streams : List Fed
unfolding from_nothing from_stores
streams = from_nothing ++ from_stores
