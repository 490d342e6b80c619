-- What handlers say and what it does: a change is rows added and numbers set, in order, with what was drawn from the counters. Numbers only.
use Rattle.std.specs.Prelude.{ℕ, zero, suc, ◌+◌, Bool, true, false, List, [], ◌∷◌, ◌++◌, map, reverse, length, get_or, set, drop, eqb}
use Rattle.std.proofs.Math.Option.{Option, none, some}
use Rattle.definition.specs.Elements.{key}
use Rattle.definition.specs.Rows.{Row, Table, table, state, region, member, open_region, num, blank, columns_of, Class, free, own, doc_id, above, mark, len, code, row, existing, text, by, Cell, no_cell, cell_at, with_cell, Numbers, table_of, current_state, current_transition}
use Rattle.definition.specs.Shapes.{Source, absent, trimmed, content, quoted, value, filled, given, word, Filling, Shape, shape_at}
use Rattle.definition.specs.Look.{Field, Look}

-- ---- the words of a change

-- A number column's new value.
pub record Put : Type 0 where
  pub column : ℕ
  pub to : ℕ

infix 90 ◌≔◌
abbrev pub ◌≔◌ : ℕ → ℕ → Put
c ≔ v = record { column = c; to = v }

-- A row without texts of its own, in a table; or one of the element's shapes.
pub data Which : Type 0 where
  numbers shape : ℕ → Which

-- add: a new row, with one of the words if its shape asks for one. alter: a row by its number from 1.
pub data Edit : Type 0 where
  add : Which → ℕ → List Put → Edit
  alter : Which → ℕ → List Put → Edit

-- regions: the open regions, innermost first. state, transition: the current ones, inside the element that begins.
pub record Change : Type 0 where
  pub edits : List Edit
  pub regions : List Row
  pub current : ℕ
  pub ids : ℕ
  pub docs : ℕ
  pub state : ℕ
  pub transition : ℕ

pub data Outcome : Type 0 where
  done : Change → Outcome
  refuse : ℕ → Outcome

-- Steps of a handler follow one another.
infixl 20 ◌▷◌
abbrev pub ◌▷◌ {ℓ κ} : {A : Type ℓ} {B : Type κ} → A → (A → B) → B
x ▷ f = f x

unfoldable pub nothing : Numbers → Change
unfolding current_state current_transition
nothing n =
    record {
      edits = [];
      regions = reverse (table_of n table.open_regions);
      current = n.current;
      ids = n.ids;
      docs = n.docs;
      state = current_state n;
      transition = current_transition n;
    }

unfoldable pub also : Edit → Change → Change
also e c =
    record {
      edits = c.edits ++ e ∷ [];
      regions = c.regions;
      current = c.current;
      ids = c.ids;
      docs = c.docs;
      state = c.state;
      transition = c.transition;
    }

unfoldable pub adding : Which → List Put → Change → Change
unfolding also
adding w ps c = also (add w 0 ps) c

unfoldable pub altering : Which → ℕ → List Put → Change → Change
unfolding also
altering w i ps c = also (alter w i ps) c

-- "One counter from 1 numbers transitions and regions together, in the Rust's order; a second from 1 gives doc ids."
unfoldable pub next_id : Change → ℕ
next_id c = suc c.ids

unfoldable pub next_doc : Change → ℕ
next_doc c = suc c.docs

unfoldable pub drawn : ℕ → ℕ → Change → Change
drawn i d c =
    record {
      edits = c.edits;
      regions = c.regions;
      current = c.current;
      ids = c.ids + i;
      docs = c.docs + d;
      state = c.state;
      transition = c.transition;
    }

unfoldable pub draw_id : Change → Change
unfolding drawn
draw_id c = drawn 1 0 c

unfoldable pub draw_doc : Change → Change
unfolding drawn
draw_doc c = drawn 0 1 c

unfoldable pub inside : ℕ → ℕ → Change → Change
inside s t c =
    record {
      edits = c.edits;
      regions = c.regions;
      current = c.current;
      ids = c.ids;
      docs = c.docs;
      state = s;
      transition = t;
    }

unfoldable pub in_state : ℕ → Change → Change
unfolding inside
in_state s c = inside s c.transition c

unfoldable pub in_transition : ℕ → Change → Change
unfolding inside
in_transition t c = inside c.state t c

-- ---- members of lists

unfoldable pub add_member : ℕ → ℕ → ℕ → Change → Change
unfolding adding
add_member l o v c = adding (numbers table.members) (member.list ≔ l ∷ member.owner ≔ o ∷ member.value ≔ v ∷ []) c

unfoldable pub add_members : ℕ → ℕ → List ℕ → Change → Change
unfolding add_member
add_members l o [] c = c
add_members l o (v ∷ vs) c = add_members l o vs (add_member l o v c)

-- A member for each of n words from the word i on.
unfoldable pub add_words_from : Which → ℕ → ℕ → ℕ → ℕ → Change → Change
unfolding also
add_words_from w l o i zero c = c
add_words_from w l o i (suc n) c = add_words_from w l o (suc i) n (also (add w i (member.list ≔ l ∷ member.owner ≔ o ∷ [])) c)

unfoldable pub add_words : Which → ℕ → ℕ → ℕ → Change → Change
unfolding add_words_from
add_words w l o n c = add_words_from w l o 0 n c

-- ---- regions

unfoldable pub open_region_row : ℕ → ℕ → Row
open_region_row r g = r ∷ g ∷ 0 ∷ 0 ∷ 0 ∷ 0 ∷ 0 ∷ 0 ∷ []

-- A new region is drawn and is the current one; rs are the open regions then.
unfoldable pub region_over : List Row → Change → Change
unfolding also
region_over rs c =
    let c₁ : Change = also (add (numbers table.regions) 0 (region.number ≔ suc c.ids ∷ [])) c in
    record {
      edits = c₁.edits;
      regions = rs;
      current = suc c.ids;
      ids = suc c.ids;
      docs = c.docs;
      state = c.state;
      transition = c.transition;
    }

-- The Rust's start_executable_content_region without stack: the open regions are discarded.
unfoldable pub fresh_region : Change → Change
unfolding region_over
fresh_region c = region_over [] c

-- With stack: the current region goes on when the element's region is closed.
unfoldable pub nested_region : ℕ → Change → Change
unfolding region_over open_region_row
nested_region g c = region_over (open_region_row c.current g ∷ c.regions) c

pub record Closed : Type 0 where
  pub current : ℕ
  pub regions : List Row

-- The Rust's end_executable_content_region: "closing a region recurses over the open regions, their number falling." none: no region is current.
unfoldable pub closed_by : ℕ → List Row → ℕ → Option Closed
closed_by g [] c = elim c [ zero ↦ none | suc i ↦ some (record { current = 0; regions = [] }) ]
closed_by g (r ∷ rs) c =
    elim c [
      | zero ↦ none
      | suc i ↦
          elim (eqb (num r open_region.tag) g) [
            | true ↦ some (record { current = num r open_region.region; regions = rs })
            | false ↦ closed_by g rs (num r open_region.region)
          ]
    ]

unfoldable pub on_closed : Option Closed → Change → (Change → Outcome) → Outcome
on_closed none c next = refuse 2
on_closed (some x) c next =
    next (record {
      edits = c.edits;
      regions = x.regions;
      current = x.current;
      ids = c.ids;
      docs = c.docs;
      state = c.state;
      transition = c.transition;
    })

-- The change goes on with the region of the element g closed; where no region is current it is an internal error.
unfoldable pub closing : ℕ → Change → (Change → Outcome) → Outcome
unfolding on_closed closed_by
closing g c next = on_closed (closed_by g c.regions c.current) c next

-- An internal error where the number is 0.
unfoldable pub unless_zero : ℕ → Outcome → Outcome
unless_zero zero o = refuse 2
unless_zero (suc i) o = o

-- ---- what an event carries

unfoldable pub field_in : List Field → ℕ → Option Field
field_in [] k = none
field_in (f ∷ fs) k = elim (eqb f.key k) [ true ↦ some f | false ↦ field_in fs k ]

unfoldable pub present : Option Field → Bool
present none = false
present (some f) = true

unfoldable pub has : Look → ℕ → Bool
unfolding present field_in
has l k = present (field_in l.fields k)

unfoldable pub field_length : Option Field → ℕ
field_length none = 0
field_length (some f) = f.cell.len

unfoldable pub length_of : Look → ℕ → ℕ
unfolding field_length field_in
length_of l k = field_length (field_in l.fields k)

unfoldable pub field_code : ℕ → Option Field → ℕ
field_code d none = d
field_code d (some f) = f.code

-- The code of a key's value; d without it.
unfoldable pub code_for : Look → ℕ → ℕ → ℕ
unfolding field_code field_in
code_for l k d = field_code d (field_in l.fields k)

unfoldable pub field_words : Option Field → List Cell
field_words none = []
field_words (some f) = f.words

unfoldable pub words_of : Look → ℕ → List Cell
unfolding field_words field_in
words_of l k = field_words (field_in l.fields k)

-- ---- sources to cells

unfoldable pub field_cell : Option Field → Cell
unfolding no_cell
field_cell none = no_cell
field_cell (some f) = f.cell

unfoldable pub if_filled : Cell → Cell
unfolding no_cell
if_filled c = elim (eqb c.len 0) [ true ↦ no_cell | false ↦ c ]

unfoldable pub if_given : Cell → Option Field → Cell
if_given old none = old
if_given old (some f) = f.cell

unfoldable pub trimmed_cell : Cell → Option Field → Cell
unfolding no_cell
trimmed_cell d none = d
trimmed_cell d (some f) = get_or f.words 0 no_cell

-- The cell that a source gives; i is the word's place, old what the column held.
unfoldable pub cell_of : Look → ℕ → Cell → Source → Cell
unfolding field_cell field_in if_filled if_given trimmed_cell no_cell field_words
cell_of l i old absent = no_cell
cell_of l i old trimmed = trimmed_cell no_cell (field_in l.fields key.text)
cell_of l i old content = trimmed_cell (record { at = suc l.base; len = 0 }) (field_in l.fields key.text)
cell_of l i old quoted = field_cell (field_in l.fields key.quoted)
cell_of l i old (value k) = field_cell (field_in l.fields k)
cell_of l i old (filled k) = if_filled (field_cell (field_in l.fields k))
cell_of l i old (given k) = if_given old (field_in l.fields k)
cell_of l i old (word k) = get_or (field_words (field_in l.fields k)) i no_cell

unfoldable pub filled_by : Look → ℕ → List Filling → Row → Row
unfolding with_cell cell_of cell_at
filled_by l i [] r = r
filled_by l i (f ∷ fs) r = filled_by l i fs (with_cell f.column (cell_of l i (cell_at r f.column) f.source) r)

-- Numbers go into number columns only: what a text column holds is its source's alone.
unfoldable pub is_number : Class → Bool
is_number (text r) = false
is_number len = false
is_number free = true
is_number own = true
is_number doc_id = true
is_number above = true
is_number mark = true
is_number (code a b) = true
is_number (row t) = true
is_number (existing t) = true
is_number (by c k) = true

unfoldable pub put_one : List Class → Put → Row → Row
unfolding is_number
put_one cs p r = elim (is_number (get_or cs p.column free)) [ true ↦ set r p.column p.to | false ↦ r ]

unfoldable pub put_all : List Class → List Put → Row → Row
unfolding put_one
put_all cs [] r = r
put_all cs (p ∷ ps) r = put_all cs ps (put_one cs p r)

-- ---- edits to tables

unfoldable pub shape_of : ℕ → Which → Shape
unfolding shape_at
shape_of g (numbers t) = record { into = t; texts = [] }
shape_of g (shape i) = shape_at g i

unfoldable pub alter_row : ℕ → (Row → Row) → Table → Table
alter_row zero f rs = rs
alter_row (suc i) f [] = []
alter_row (suc zero) f (r ∷ rs) = f r ∷ rs
alter_row (suc (suc i)) f (r ∷ rs) = r ∷ alter_row (suc i) f rs

unfoldable pub on_table : ℕ → (Table → Table) → List Table → List Table
on_table t f ts = set ts t (f (get_or ts t []))

unfoldable pub edited : Look → Edit → List Table → List Table
unfolding on_table filled_by put_all blank shape_of alter_row columns_of
edited l (add w i ps) ts =
    let h : Shape = shape_of l.tag w in
    on_table h.into (λ rs. rs ++ put_all (columns_of h.into) ps (filled_by l i h.texts (blank h.into)) ∷ []) ts
edited l (alter w n ps) ts =
    let h : Shape = shape_of l.tag w in
    on_table h.into (λ rs. alter_row n (λ r. put_all (columns_of h.into) ps (filled_by l 0 h.texts r)) rs) ts

unfoldable pub edited_by : Look → List Edit → List Table → List Table
unfolding edited
edited_by l [] ts = ts
edited_by l (e ∷ es) ts = edited_by l es (edited l e ts)

-- ---- a change made

-- The state names that the event brings, as rows; what it adds to the generated names and to the text charge.
unfoldable pub state_row : Cell → Row
unfolding with_cell blank
state_row c = with_cell state.name c (blank table.states)

unfoldable pub entered : Look → Numbers → Numbers
unfolding on_table state_row
entered l n =
    record {
      tables = on_table table.states (λ rs. rs ++ map state_row (drop (length rs) l.known)) n.tables;
      current = n.current;
      ids = n.ids;
      docs = n.docs;
      names = n.names + l.generated;
      charge = n.charge + l.charge;
    }

unfoldable pub made : Look → Change → Numbers → Numbers
unfolding on_table edited_by
made l c n =
    record {
      tables = on_table table.open_regions (λ rs. reverse c.regions) (edited_by l c.edits n.tables);
      current = c.current;
      ids = c.ids;
      docs = c.docs;
      names = n.names;
      charge = n.charge;
    }

unfoldable pub with_tables : List Table → Numbers → Numbers
with_tables ts n =
    record {
      tables = ts;
      current = n.current;
      ids = n.ids;
      docs = n.docs;
      names = n.names;
      charge = n.charge;
    }

unfoldable pub opened_row : Look → Change → Row
opened_row l c = l.tag ∷ c.state ∷ c.transition ∷ l.name_length ∷ 0 ∷ 0 ∷ 0 ∷ 0 ∷ []

-- The Rust's push: the element is open, with the state and the transition that are current inside it.
unfoldable pub pushed : Look → Change → Numbers → Numbers
unfolding with_tables on_table opened_row
pushed l c n = with_tables (on_table table.opened (λ rs. rs ++ opened_row l c ∷ []) (on_table table.open_names (λ rs. rs ++ l.name ∷ []) n.tables)) n

unfoldable pub without_last : Table → Table
without_last [] = []
without_last (r ∷ []) = []
without_last (r ∷ s ∷ rs) = r ∷ without_last (s ∷ rs)

unfoldable pub popped : Numbers → Numbers
unfolding with_tables on_table without_last
popped n = with_tables (on_table table.opened without_last (on_table table.open_names without_last n.tables)) n
