-- "Reading a row, by kind and number, puts 1, 2 and 16 only; rows that have no number of their own are numbered by creation from 1." Every kind of row once.
use Rattle.std.specs.Prelude.{ℕ, suc, Bool, true, false, ◌&&◌, List, [], ◌∷◌, ◌++◌, get_or, replicate, eqb}
use Prim.Native.String.{String}
use Rattle.definition.specs.Text.{str, same}
use Rattle.definition.specs.Elements.{tag}
use Rattle.definition.specs.Rows.{Row, Table, table, list, owner_kind, entry_kind, chart, state, transition, entry, datum, parameter, member, blank}
use Rattle.definition.specs.Change.{◌≔◌}
use Rattle.definition.specs.Reader.{Call, event, reading, Answer, run}
use Rattle.cases.specs.Made.{Made, made, limits_of, position_from, cell, altered_by, shown_row, Case}
use Rattle.cases.specs.Base.{lies, good, zeros, chart_row, states, transitions, regions, entries, invokes, datums, parameters, members}
use Rattle.cases.specs.Internal.{inside}

abbrev reads : ℕ → ℕ → Row → Case
reads t i r = record { made = good; call = reading t i; breaks = []; answer = 0; row = r; holds = [] }

-- A refused reading gives zeros.
abbrev absent_row : ℕ → ℕ → Case
absent_row t i = record { made = good; call = reading t i; breaks = []; answer = 16; row = []; holds = [] }

abbrev place : Table → ℕ → Row
place t i = get_or t i []

unfoldable pub readings : List Case
unfolding altered_by good str
readings =
    reads 0 1 chart_row
    ∷ reads 1 2 (place states 1)
    -- Transitions and regions by their own numbers: 6 is the second transition's, 7 the fifth region's.
    ∷ reads 2 6 (place transitions 1)
    ∷ reads 3 7 (place regions 4)
    ∷ reads 4 1 (place entries 0)
    ∷ reads 4 4 (place entries 3)
    -- A send and an invoke show their state's name: state 2's lies at 2, state 1's at 1.
    ∷ reads 4 2 (place entries 1 ++ 2 ∷ 1 ∷ [])
    ∷ reads 5 1 (place invokes 0 ++ replicate 24 0 ++ 1 ∷ 1 ∷ [])
    ∷ reads 6 1 (place datums 0)
    ∷ reads 7 2 (place parameters 1)
    ∷ reads 7 3 (place parameters 2)
    ∷ reads 7 4 (place parameters 3)
    ∷ reads 8 1 (place members 0)
    ∷ reads 8 9 (place members 8)
    -- A parameter that has left; the chart's row before any scxml.
    ∷ absent_row 7 1
    ∷ record { made = altered_by (cell table.chart 1 chart.root 0 ∷ []) good; call = reading 0 1; breaks = []; answer = 16; row = []; holds = [] }
    -- Number 0, the next number, and junk beyond the rows.
    ∷ absent_row 0 0
    ∷ absent_row 0 2
    ∷ absent_row 1 0
    ∷ absent_row 1 3
    ∷ absent_row 2 0
    ∷ absent_row 2 2
    ∷ absent_row 2 9
    ∷ absent_row 3 0
    ∷ absent_row 3 1
    ∷ absent_row 3 9
    ∷ absent_row 4 0
    ∷ absent_row 4 5
    ∷ absent_row 5 0
    ∷ absent_row 5 2
    ∷ absent_row 6 0
    ∷ absent_row 6 2
    ∷ absent_row 7 0
    ∷ absent_row 7 5
    ∷ absent_row 8 0
    ∷ absent_row 8 10
    -- The open rows are no kind of row, and there is no other.
    ∷ absent_row 9 1
    ∷ absent_row 10 1
    ∷ absent_row 11 1
    ∷ absent_row 12 1
    ∷ absent_row 4294967295 1
    ∷ []

-- ---- calls one after another

-- What a call is answered: the number, and the row as it is read, without zeros at its end.
pub record Told : Type 0 where
  pub number : ℕ
  pub row : Row

-- An event, or a reading that is refused: no row.
abbrev told : ℕ → Told
told k = record { number = k; row = [] }

abbrev shows : Row → Told
shows r = record { number = 0; row = r }

pub record Run : Type 0 where
  pub made : Made
  pub calls : List Call
  pub answers : List Told

unfoldable pub all_told : List Answer → List Told → Bool
unfolding same shown_row
all_told [] [] = true
all_told [] (t ∷ ts) = false
all_told (a ∷ as') [] = false
all_told (a ∷ as') (t ∷ ts) = eqb a.number t.number && same a.row (shown_row t.row) && all_told as' ts

unfoldable pub run_right : Run → Bool
unfolding run limits_of position_from all_told
run_right x =
    all_told (run (limits_of x.made.limits) (record { tables = x.made.tables; text = x.made.text }) (position_from x.made.position) x.calls)
    x.answers

abbrev feeds : String → Call
feeds e = event (str e)

abbrev feeds_param : Call
feeds_param = feeds "event=empty\nname=param\nkey=name\nvalue=p\n"

-- A parameter of state 2's donedata, its name of one byte at i.
abbrev of_donedata : ℕ → Row
of_donedata i = made table.parameters ((parameter.kind ≔ owner_kind.donedata ∷ parameter.owner ≔ 2 ∷ []) ++ lies parameter.name i 1)

unfoldable pub runs : List Run
unfolding altered_by good str blank made
runs =
    -- "A second donedata in a final begins empty; the parameters of the first leave the chart (reading one gives 16) but keep their numbers and still count."
    record {
      made = altered_by (cell table.states 2 state.expr 4 ∷ cell table.states 2 (suc state.expr) 1 ∷ inside tag.final 2 0 4) good;
      calls =
          reading 7 2 ∷ feeds "event=open\nname=donedata\n" ∷ reading 1 2 ∷ reading 7 2 ∷ reading 7 3 ∷ feeds_param ∷ reading 7 5 ∷ reading 7 2 ∷ feeds_param ∷ reading 7 5 ∷ [];
      answers =
          shows (place parameters 1)
          ∷ told 0
          ∷ shows (made table.states (lies state.name 2 1 ++ state.doc ≔ 2 ∷ state.parent ≔ 1 ∷ state.final ≔ 1 ∷ state.donedata ≔ 5 ∷ []))
          ∷ told 16
          ∷ shows (place parameters 2)
          ∷ told 0
          ∷ shows (of_donedata 13)
          ∷ told 16
          ∷ told 15
          ∷ shows (of_donedata 13)
          ∷ [];
    }
    ∷ record {
      made = zeros;
      calls =
          reading 0 1 ∷ reading 1 1 ∷ feeds "event=open\nname=scxml\n" ∷ reading 0 1 ∷ reading 1 1 ∷ feeds "event=open\nname=final\n" ∷ feeds "event=open\nname=donedata\n" ∷ feeds_param
          ∷ reading 7 1 ∷ feeds "event=end\nname=donedata\n" ∷ feeds "event=open\nname=donedata\n" ∷ reading 7 1 ∷ reading 7 2 ∷ feeds_param ∷ reading 7 1 ∷ reading 7 2 ∷ [];
      answers =
          told 16
          ∷ told 16
          ∷ told 0
          ∷ shows (made table.chart (chart.root ≔ 1 ∷ []))
          ∷ shows (made table.states (lies state.name 1 5 ++ state.doc ≔ 1 ∷ []))
          ∷ told 0
          ∷ told 0
          ∷ told 0
          ∷ shows (of_donedata 11)
          ∷ told 0
          ∷ told 0
          ∷ told 16
          ∷ told 16
          ∷ told 0
          ∷ told 16
          ∷ shows (of_donedata 12)
          ∷ [];
    }
    -- A refusal leaves all as it was: the next event is answered as if it had not been.
    ∷ record {
      made = zeros;
      calls =
          feeds "event=open\nname=scxml\n" ∷ feeds "event=open\nname=transition\nkey=target\nvalue=a b\n" ∷ reading 1 2 ∷ feeds "event=open\nname=state\nkey=id\nvalue=a\n" ∷ reading 1 2 ∷ reading 1 3
          ∷ feeds "event=end\nname=scxml\n" ∷ feeds "event=end\nname=state\n" ∷ feeds "event=end\nname=scxml\n" ∷ reading 2 1 ∷ reading 8 2 ∷ [];
      answers =
          told 0
          ∷ told 8
          ∷ told 16
          ∷ told 0
          ∷ shows (made table.states (lies state.name 6 1 ++ state.doc ≔ 2 ∷ state.parent ≔ 1 ∷ []))
          ∷ told 16
          ∷ told 5
          ∷ told 0
          ∷ told 0
          ∷ shows (made table.transitions (transition.number ≔ 1 ∷ transition.source ≔ 1 ∷ []))
          ∷ shows (made table.members (member.list ≔ list.targets ∷ member.owner ≔ 1 ∷ member.value ≔ 2 ∷ []))
          ∷ [];
    }
    -- A new send, and data repeated: with expr in place of its text, and with a text in place of its expr.
    ∷ record {
      made = altered_by (inside tag.onentry 2 0 4) good;
      calls = feeds "event=empty\nname=send\nkey=event\nvalue=e\n" ∷ reading 4 5 ∷ [];
      answers =
          told 0
          ∷ shows (
          made table.entries (
          (entry.region ≔ 4 ∷ entry.kind ≔ entry_kind.send ∷ entry.state ≔ 2 ∷ []) ++ lies entry.event 13 1) ++ 2 ∷ 1 ∷ [])
          ∷ [];
    }
    ∷ record {
      made = altered_by (inside tag.datamodel 1 0 4) good;
      calls =
          feeds "event=whole\nname=data\nkey=id\nvalue=i\ntext= tt\n" ∷ reading 6 1 ∷ feeds "event=empty\nname=data\nkey=id\nvalue=i\nkey=expr\nvalue=e\n" ∷ reading 6 1 ∷ reading 6 2 ∷ [];
      answers =
          told 0
          ∷ shows (made table.datums ((datum.state ≔ 1 ∷ []) ++ lies datum.id 13 1 ++ lies datum.text 15 2))
          ∷ told 0
          ∷ shows (made table.datums ((datum.state ≔ 1 ∷ []) ++ lies datum.id 17 1 ++ lies datum.expr 18 1))
          ∷ told 16
          ∷ [];
    }
    ∷ []
