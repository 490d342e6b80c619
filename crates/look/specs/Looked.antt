-- Stage 1 by what is parsed of an event, and what it tells of the definition's look.
use Rattle.std.specs.Prelude.{ℕ, ◌+◌, ◌≡◌, Bool, true, List, [], length, get_or}
use Rattle.definition.specs.declared.Position.{Position}
use Rattle.definition.specs.Limits.{limits01}
use Rattle.definition.specs.Event.{Event, in_form, keys_differ}
use Rattle.definition.specs.Rows.{Row, Table, table, chart, opened, num, last_of, table_of, Store}
use Rattle.definition.specs.Look.{Look, look, name_cells, is_innermost, one_if}
use Rattle.definition.specs.Reader.{questions, first_no, position_of}
use Rattle.definition.proofs.Base.{All}
use Rattle.names.specs.declared.Names.{Names}
use Rattle.names.specs.Names.{Inside, names_in}
use Rattle.plain.specs.Plain.{Parsed, parsed_of}
use Rattle.definition.specs.Codes.{outcome}
use Rattle.plan.specs.declared.Heard.{Heard}
use Rattle.plan.specs.Heard.{heard}
use Rattle.heard.specs.Heard.{heard_in}
use Rattle.asked.specs.Asked.{asked_in, questions_by}
use Rattle.found.specs.Found.{ids, found_in}
use Rattle.payload.specs.Payload.{made_in, charge_in}
use Rattle.look.specs.declared.Looked.{Looked}

-- What is looked up, with the number of the first no of the questions 5 to 12, 0 where all are yes.
pub record Told : Type 0 where
  pub no : ℕ
  pub heard : Heard
  pub refs : ℕ
  pub new : ℕ
  pub made : Bool
  pub charge : ℕ

abbrev pub as_told : Looked → Told
as_told l = record { no = outcome l.asked; heard = l.heard; refs = l.refs; new = l.new; made = l.made; charge = l.charge }

-- Of the chart's row, the states, the data, the open elements and their names, the text, the position.
unfoldable pub looked_in : Table → Table → Table → Table → Table → List ℕ → Position → Parsed → Told
unfolding names_in found_in heard_in asked_in questions_by first_no is_innermost made_in charge_in
looked_in cs ss ds xs ns t p v =
    let inner : Row = last_of [] xs in
    let n : Names = names_in t (name_cells ss) p.names v in
    let h : Heard = heard_in n.own (found_in t ds (num inner opened.state) v) v in
    record {
      no = first_no (questions_by h (asked_in v) (is_innermost xs ns v.tag v.name) p.opened (num inner opened.tag) (num (get_or cs 0 []) chart.root));
      heard = h;
      refs = n.refs;
      new = n.new;
      made = made_in v;
      charge = charge_in v p.names;
    }

-- Of a store.
unfoldable pub looked_of : Store → Parsed → Told
unfolding looked_in
looked_of s v =
    looked_in (table_of s.numbers table.chart) (table_of s.numbers table.states) (table_of s.numbers table.datums) (table_of s.numbers table.opened)
    (table_of s.numbers table.open_names) s.text (position_of s) v

-- What is told of the look l.
pub record Tells (s : Store) (l : Look) (r : Told) : Type 0 where
  pub no : r.no ≡ first_no (questions limits01 s.numbers l)
  pub heard : r.heard ≡ heard l
  pub refs : r.refs ≡ length l.refs
  pub new : length (table_of s.numbers table.states) + r.new ≡ length l.known
  pub made : one_if r.made ≡ l.generated
  pub charge : r.charge ≡ l.charge

-- THE CLAIM: of an event in form with different keys, in a store whose names and ids stand in its text, what is parsed of it tells the definition's look.
abbrev pub LooksRight : Type 0
LooksRight =
    (s : Store) (e : Event) → in_form limits01 e ≡ true → keys_differ e.attributes ≡ true → All (Inside s.text) (name_cells (table_of s.numbers table.states))
    → All (Inside s.text) (ids (table_of s.numbers table.datums)) → Tells s (look s e) (looked_of s (parsed_of e))
