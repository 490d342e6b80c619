-- Made-up stores: lent slices, position and limits as lists of numbers, so that a case can say what it alters; and a row of the table of calls.
use Rattle.std.specs.Prelude.{ℕ, zero, suc, ◌-◌, Bool, true, false, ◌&&◌, length, get_or, set, take, drop, replicate, eqb, leb}
use mathlib.Core.List.{List, [], ◌∷◌, ◌++◌}
use Rattle.definition.specs.declared.Limits.{Limits}
use Rattle.definition.specs.Text.{same}
use Rattle.definition.specs.Rows.{Row, Table, Class, table, shown, blank, schema, Numbers, table_of, Store}
use Rattle.definition.specs.Change.{Put, alter_row, on_table}
use Rattle.definition.specs.Rules.{
  table_limits,
  keeps,
  chosen,
  names_distinct,
  rises,
  none_in,
  open_names_fit,
  open_tags_fit,
  blocks_in,
  is_row_or_zero,
}
use Rattle.definition.specs.declared.Position.{Position}
use Rattle.definition.specs.Reader.{Lent, Call, event, reading, Answer, call, in_order, counts, store_of}
use Rattle.definition.specs.Stars.{Held, holds_all}

-- ---- numbers of limits and of a position

abbrev pub limit : record {
  name : ℕ;
  value : ℕ;
  text : ℕ;
  opened : ℕ;
  states : ℕ;
  transitions : ℕ;
  regions : ℕ;
  entries : ℕ;
  invokes : ℕ;
  datums : ℕ;
  parameters : ℕ;
  members : ℕ;
  drawn : ℕ;
  charge : ℕ;
}
limit =
    record {
      name = 0;
      value = 1;
      text = 2;
      opened = 3;
      states = 4;
      transitions = 5;
      regions = 6;
      entries = 7;
      invokes = 8;
      datums = 9;
      parameters = 10;
      members = 11;
      drawn = 12;
      charge = 13;
    }

unfoldable pub limits_of : List ℕ → Limits
limits_of ns =
    record {
      name = get_or ns limit.name 0;
      attributes = 16;
      key = 64;
      value = get_or ns limit.value 0;
      text = get_or ns limit.text 0;
      opened = get_or ns limit.opened 0;
      states = get_or ns limit.states 0;
      transitions = get_or ns limit.transitions 0;
      regions = get_or ns limit.regions 0;
      entries = get_or ns limit.entries 0;
      invokes = get_or ns limit.invokes 0;
      datums = get_or ns limit.datums 0;
      parameters = get_or ns limit.parameters 0;
      members = get_or ns limit.members 0;
      drawn = get_or ns limit.drawn 0;
      charge = get_or ns limit.charge 0;
    }

abbrev pub position : record {
  opened : ℕ;
  states : ℕ;
  transitions : ℕ;
  regions : ℕ;
  entries : ℕ;
  invokes : ℕ;
  datums : ℕ;
  parameters : ℕ;
  members : ℕ;
  open_regions : ℕ;
  current : ℕ;
  ids : ℕ;
  docs : ℕ;
  names : ℕ;
  used : ℕ;
  charge : ℕ;
}
position =
    record {
      opened = 0;
      states = 1;
      transitions = 2;
      regions = 3;
      entries = 4;
      invokes = 5;
      datums = 6;
      parameters = 7;
      members = 8;
      open_regions = 9;
      current = 10;
      ids = 11;
      docs = 12;
      names = 13;
      used = 14;
      charge = 15;
    }

unfoldable pub position_from : List ℕ → Position
position_from ns =
    record {
      opened = get_or ns position.opened 0;
      states = get_or ns position.states 0;
      transitions = get_or ns position.transitions 0;
      regions = get_or ns position.regions 0;
      entries = get_or ns position.entries 0;
      invokes = get_or ns position.invokes 0;
      datums = get_or ns position.datums 0;
      parameters = get_or ns position.parameters 0;
      members = get_or ns position.members 0;
      open_regions = get_or ns position.open_regions 0;
      current = record { 0 = get_or ns position.current 0 };
      ids = get_or ns position.ids 0;
      docs = get_or ns position.docs 0;
      names = get_or ns position.names 0;
      used = get_or ns position.used 0;
      charge = get_or ns position.charge 0;
    }

unfoldable pub numbers_of : Position → List ℕ
numbers_of p =
    p.opened ∷ p.states ∷ p.transitions ∷ p.regions ∷ p.entries ∷ p.invokes ∷ p.datums ∷ p.parameters ∷ p.members ∷ p.open_regions ∷ p.current.0 ∷ p.ids
    ∷ p.docs ∷ p.names ∷ p.used ∷ p.charge ∷ []

-- ---- made-up stores and what a case alters in one

pub record Made : Type 0 where
  pub limits : List ℕ
  pub tables : List Table
  pub text : List ℕ
  pub position : List ℕ

-- A row of a table; the columns that are not named are 0.
unfoldable pub filled : List Put → Row → Row
filled [] r = r
filled (p ∷ ps) r = filled ps (set r p.column p.to)

unfoldable pub made : ℕ → List Put → Row
unfolding filled blank
made t ps = filled ps (blank t)

-- cell       of a table, the row in this place from 1: a column's value
-- field      a number of the position
-- bound      a limit
-- short      a table's slice is one row shorter
-- short_text  the text's slice is one byte shorter
-- bytes      of the open names, the row in this place from 1
pub data Alter : Type 0 where
  cell : ℕ → ℕ → ℕ → ℕ → Alter
  field bound : ℕ → ℕ → Alter
  short : ℕ → Alter
  short_text : Alter
  bytes : ℕ → List ℕ → Alter

unfoldable pub with_tables : List Table → Made → Made
with_tables ts m = record { limits = m.limits; tables = ts; text = m.text; position = m.position }

unfoldable pub all_but_last : {A : Type 0} → List A → List A
all_but_last xs = take (length xs - 1) xs

unfoldable pub altered : Alter → Made → Made
unfolding with_tables on_table alter_row all_but_last
altered (cell t i c v) m = with_tables (on_table t (alter_row i (λ r. set r c v)) m.tables) m
altered (field f v) m = record { limits = m.limits; tables = m.tables; text = m.text; position = set m.position f v }
altered (bound f v) m = record { limits = set m.limits f v; tables = m.tables; text = m.text; position = m.position }
altered (short t) m = with_tables (on_table t all_but_last m.tables) m
altered short_text m = record { limits = m.limits; tables = m.tables; text = all_but_last m.text; position = m.position }
altered (bytes i w) m = with_tables (on_table table.open_names (alter_row i (λ r. w ++ replicate (64 - length w) 0)) m.tables) m

unfoldable pub altered_by : List Alter → Made → Made
unfolding altered
altered_by [] m = m
altered_by (a ∷ as') m = altered_by as' (altered a m)

-- ---- the clauses of question 2, and which of them a store breaks

-- too_many        more rows of a table are in use than its limit
-- counter        more is drawn from a counter than its limit: 1 for ids, 2 for doc ids, 3 for generated names
-- over_charged    the text charge is past its limit
-- uncharged      more text is used than charged
-- column         of a table, the row in this place from 1: the column does not keep its class
-- name_twice      a state's name leads to another state
-- falling        the numbers of a table do not rise
-- number_twice    a number is a transition's and a region's
-- open_name       an open unknown name is too short, too long or known
-- open_tag        an open region has another tag than if, foreach, or elseif above if
-- open_blocks     more open regions of if and foreach than open elements
-- current_region  the current region does not exist
pub data Clause : Type 0 where
  too_many counter falling : ℕ → Clause
  over_charged uncharged name_twice number_twice open_name open_tag open_blocks current_region : Clause
  column : ℕ → ℕ → ℕ → Clause

unfoldable pub code_of : Clause → List ℕ
code_of (too_many t) = 1 ∷ t ∷ []
code_of (counter k) = 2 ∷ k ∷ []
code_of (falling t) = 3 ∷ t ∷ []
code_of over_charged = 4 ∷ []
code_of uncharged = 5 ∷ []
code_of name_twice = 6 ∷ []
code_of number_twice = 7 ∷ []
code_of open_name = 8 ∷ []
code_of open_tag = 9 ∷ []
code_of open_blocks = 10 ∷ []
code_of current_region = 11 ∷ []
code_of (column t i c) = 12 ∷ t ∷ i ∷ c ∷ []

unfoldable pub same_clauses : List Clause → List Clause → Bool
unfolding same code_of
same_clauses [] [] = true
same_clauses [] (y ∷ ys) = false
same_clauses (x ∷ xs) [] = false
same_clauses (x ∷ xs) (y ∷ ys) = elim (same (code_of x) (code_of y)) [ true ↦ same_clauses xs ys | false ↦ false ]

unfoldable pub unless : Bool → Clause → List Clause → List Clause
unless b c cs = elim b [ true ↦ cs | false ↦ c ∷ cs ]

unfoldable pub over_limits : ℕ → List ℕ → List ℕ → List Clause → List Clause
unfolding unless
over_limits t [] ms cs = cs
over_limits t (k ∷ ks) [] cs = cs
over_limits t (k ∷ ks) (m ∷ ms) cs = unless (leb k m) (too_many t) (over_limits (suc t) ks ms cs)

module _ (s : Store) where
  unfoldable pub broken_columns : Row → ℕ → ℕ → ℕ → List Class → Row → List Clause → List Clause
  unfolding unless keeps chosen
  broken_columns r t i c [] [] rest = rest
  broken_columns r t i c [] (v ∷ vs) rest = column t i c ∷ rest
  broken_columns r t i c (k ∷ ks) [] rest = column t i c ∷ rest
  broken_columns r t i c (k ∷ ks) (v ∷ vs) rest = unless (keeps s r (chosen r k) v vs) (column t i c) (broken_columns r t i (suc c) ks vs rest)

  unfoldable pub broken_rows : ℕ → ℕ → List Class → Table → List Clause → List Clause
  unfolding broken_columns
  broken_rows t i ks [] rest = rest
  broken_rows t i ks (r ∷ rs) rest = broken_columns r t i 0 ks r (broken_rows t (suc i) ks rs rest)

  unfoldable pub broken_tables : ℕ → List (List Class) → List Table → List Clause → List Clause
  unfolding broken_rows
  broken_tables t [] ts rest = rest
  broken_tables t (ks ∷ kss) [] rest = rest
  broken_tables t (ks ∷ kss) (u ∷ us) rest = broken_rows t 1 ks u (broken_tables (suc t) kss us rest)

-- All clauses that do not hold.
unfoldable pub broken : Limits → Lent → Position → List Clause
unfolding over_limits counts table_limits unless broken_tables schema names_distinct rises none_in open_names_fit open_tags_fit blocks_in is_row_or_zero store_of
broken L x p =
    let s : Store = store_of x p in
    let n : Numbers = s.numbers in
    over_limits 0 (counts p) (table_limits L) (
    unless (leb p.ids L.drawn) (counter 1) (
    unless (leb p.docs L.drawn) (counter 2) (
    unless (leb p.names L.drawn) (counter 3) (
    unless (leb p.charge L.charge) over_charged (
    unless (leb p.used p.charge) uncharged (
    broken_tables s 0 schema n.tables (
    unless (names_distinct s) name_twice (
    unless (rises 0 (table_of n table.transitions)) (falling table.transitions) (
    unless (rises 0 (table_of n table.regions)) (falling table.regions) (
    unless (none_in (table_of n table.regions) (table_of n table.transitions)) number_twice (
    unless (open_names_fit L (table_of n table.opened) (table_of n table.open_names)) open_name (
    unless (open_tags_fit 0 (table_of n table.open_regions)) open_tag (
    unless (leb (blocks_in 1 (table_of n table.open_regions)) (blocks_in 0 (table_of n table.opened))) open_blocks (
    unless (is_row_or_zero n table.regions n.current) current_region []))))))))))))))

-- ---- a row of the table: a call from a made-up store

-- breaks: the clauses of question 2 that the store breaks, and no others. row: what is read, but for zeros at its end. holds: what the chart holds after it.
pub record Case : Type 0 where
  pub made : Made
  pub call : Call
  pub breaks : List Clause
  pub answer : ℕ
  pub row : Row
  pub holds : List Held

unfoldable pub same_table : Table → Table → Bool
unfolding same
same_table [] [] = true
same_table [] (u ∷ us) = false
same_table (t ∷ ts) [] = false
same_table (t ∷ ts) (u ∷ us) = elim (same t u) [ true ↦ same_table ts us | false ↦ false ]

unfoldable pub same_tables : List Table → List Table → Bool
unfolding same_table
same_tables [] [] = true
same_tables [] (u ∷ us) = false
same_tables (t ∷ ts) [] = false
same_tables (t ∷ ts) (u ∷ us) = elim (same_table t u) [ true ↦ same_tables ts us | false ↦ false ]

unfoldable pub beyond : List ℕ → List Table → List Table
beyond [] ts = []
beyond (k ∷ ks) [] = []
beyond (k ∷ ks) (t ∷ ts) = drop k t ∷ beyond ks ts

-- "Nothing lent has changed then; the reading position comes back as it was."
unfoldable pub unchanged : Made → Answer → Bool
unfolding same_tables same numbers_of
unchanged m a = same_tables a.lent.tables m.tables && same a.lent.text m.text && same (numbers_of a.position) m.position

-- What lies beyond the rows and the text in use is as it was, and the rules hold.
unfoldable pub kept_up : Made → Answer → Bool
unfolding same_tables beyond counts same in_order limits_of
kept_up m a =
    same_tables (beyond (counts a.position) a.lent.tables) (beyond (counts a.position) m.tables)
    && same (drop a.position.used a.lent.text) (drop a.position.used m.text)
    && in_order (limits_of m.limits) a.lent a.position

unfoldable pub leaves : Made → Call → Answer → Bool
unfolding unchanged kept_up
leaves m (reading t i) a = unchanged m a
leaves m (event raw) a = elim a.number [ zero ↦ kept_up m a | suc k ↦ unchanged m a ]

-- Any other answer than 1 and 2 says that no clause is broken.
unfoldable pub breaks_only : Limits → Lent → Position → ℕ → List Clause → Bool
unfolding same_clauses broken
breaks_only L x p k cs = elim (leb 1 k && leb k 2) [ true ↦ same_clauses (broken L x p) cs | false ↦ true ]

-- A row as it is read, from one without the zeros at its end.
unfoldable pub shown_row : Row → Row
shown_row r = take shown.width (r ++ replicate shown.width 0)

unfoldable pub right : Case → Bool
unfolding call limits_of position_from breaks_only same shown_row leaves holds_all store_of
right c =
    let m : Made = c.made in
    let L : Limits = limits_of m.limits in
    let x : Lent = record { tables = m.tables; text = m.text } in
    let p : Position = position_from m.position in
    let a : Answer = call L x p c.call in
    eqb a.number c.answer && breaks_only L x p c.answer c.breaks && same a.row (shown_row c.row) && leaves m c.call a
    && holds_all (store_of a.lent a.position) c.holds
