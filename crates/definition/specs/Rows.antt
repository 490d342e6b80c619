-- Document 01, module 3: Rows. THE SCHEMA of tables: their columns and each column's class. Question 2, reading a row and demand 3 follow from it.
use Rattle.std.specs.Prelude.{ℕ, zero, suc, Bool, true, false, ◌&&◌, List, [], ◌∷◌, ◌++◌, length, get_or, set, replicate, eqb}
use Rattle.std.proofs.Math.Option.{Option, none, some}
use Rattle.definition.specs.Text.{bytes_at}
use Rattle.definition.specs.Elements.{Role, name, masked, plain}

abbrev pub Row : Type 0
Row = List ℕ

abbrev pub Table : Type 0
Table = List Row

-- ---- tables, codes and columns by number

-- The first nine are the kinds of row that can be read; the last three are the open elements.
abbrev pub table : record {
  chart : ℕ;
  states : ℕ;
  transitions : ℕ;
  regions : ℕ;
  entries : ℕ;
  invokes : ℕ;
  datums : ℕ;
  parameters : ℕ;
  members : ℕ;
  opened : ℕ;
  open_names : ℕ;
  open_regions : ℕ;
}
table =
    record {
      chart = 0;
      states = 1;
      transitions = 2;
      regions = 3;
      entries = 4;
      invokes = 5;
      datums = 6;
      parameters = 7;
      members = 8;
      opened = 9;
      open_names = 10;
      open_regions = 11;
    }

-- What an entry is.
abbrev pub entry_kind : record {
  if : ℕ;
  script : ℕ;
  log : ℕ;
  foreach : ℕ;
  send : ℕ;
  raise : ℕ;
  cancel : ℕ;
  assign : ℕ;
}
entry_kind =
    record {
      if = 1;
      script = 2;
      log = 3;
      foreach = 4;
      send = 5;
      raise = 6;
      cancel = 7;
      assign = 8;
    }

-- Whose parameter it is.
abbrev pub owner_kind : record {
  send : ℕ;
  invoke : ℕ;
  donedata : ℕ;
}
owner_kind =
    record {
      send = 1;
      invoke = 2;
      donedata = 3;
    }

-- "Members in all lists together (children, history, onentry, onexit and transitions of states, targets, event words, namelists)."
abbrev pub list : record {
  children : ℕ;
  history : ℕ;
  onentry : ℕ;
  onexit : ℕ;
  transitions : ℕ;
  targets : ℕ;
  events : ℕ;
  send_names : ℕ;
  invoke_names : ℕ;
}
list =
    record {
      children = 1;
      history = 2;
      onentry = 3;
      onexit = 4;
      transitions = 5;
      targets = 6;
      events = 7;
      send_names = 8;
      invoke_names = 9;
    }

-- First values are 0: history none, binding early, type external.
abbrev pub shallow : ℕ
shallow = 1

abbrev pub internal : ℕ
internal = 1

-- The chart's one row.
abbrev pub chart : record {
  root : ℕ;
  script : ℕ;
  binding : ℕ;
  name : ℕ;
  datamodel : ℕ;
  version : ℕ;
}
chart =
    record {
      root = 0;
      script = 1;
      binding = 2;
      name = 3;
      datamodel = 5;
      version = 7;
    }

-- A state's row. `donedata` is 0 without one, and else one more than the parameters there were when it began.
abbrev pub state : record {
  name : ℕ;
  doc : ℕ;
  initial : ℕ;
  parent : ℕ;
  parallel : ℕ;
  final : ℕ;
  history : ℕ;
  donedata : ℕ;
  has_content : ℕ;
  text : ℕ;
  expr : ℕ;
}
state =
    record {
      name = 0;
      doc = 2;
      initial = 3;
      parent = 4;
      parallel = 5;
      final = 6;
      history = 7;
      donedata = 8;
      has_content = 9;
      text = 10;
      expr = 12;
    }

-- A transition's row: it keeps its own number.
abbrev pub transition : record {
  number : ℕ;
  doc : ℕ;
  source : ℕ;
  type : ℕ;
  wildcard : ℕ;
  content : ℕ;
  cond : ℕ;
}
transition =
    record {
      number = 0;
      doc = 1;
      source = 2;
      type = 3;
      wildcard = 4;
      content = 5;
      cond = 6;
    }

-- A region's row: its entries are those that name it, in order.
abbrev pub region : record {
  number : ℕ;
}
region =
    record {
      number = 0;
    }

-- An entry's row: one column a key.
abbrev pub entry : record {
  region : ℕ;
  kind : ℕ;
  state : ℕ;
  content : ℕ;
  else : ℕ;
  has_content : ℕ;
  cond : ℕ;
  array : ℕ;
  expr : ℕ;
  event : ℕ;
  eventexpr : ℕ;
  target : ℕ;
  targetexpr : ℕ;
  type : ℕ;
  typeexpr : ℕ;
  id : ℕ;
  idlocation : ℕ;
  delayexpr : ℕ;
  sendid : ℕ;
  sendidexpr : ℕ;
  location : ℕ;
  label : ℕ;
  item : ℕ;
  index : ℕ;
  text : ℕ;
}
entry =
    record {
      region = 0;
      kind = 1;
      state = 2;
      content = 3;
      else = 4;
      has_content = 5;
      cond = 6;
      array = 8;
      expr = 10;
      event = 12;
      eventexpr = 14;
      target = 16;
      targetexpr = 18;
      type = 20;
      typeexpr = 22;
      id = 24;
      idlocation = 26;
      delayexpr = 28;
      sendid = 30;
      sendidexpr = 32;
      location = 34;
      label = 36;
      item = 38;
      index = 40;
      text = 42;
    }

-- An invoke's row.
abbrev pub invoke : record {
  state : ℕ;
  autoforward : ℕ;
  finalize : ℕ;
  has_content : ℕ;
  type : ℕ;
  typeexpr : ℕ;
  src : ℕ;
  srcexpr : ℕ;
  id : ℕ;
  idlocation : ℕ;
  text : ℕ;
  expr : ℕ;
}
invoke =
    record {
      state = 0;
      autoforward = 1;
      finalize = 2;
      has_content = 3;
      type = 4;
      typeexpr = 6;
      src = 8;
      srcexpr = 10;
      id = 12;
      idlocation = 14;
      text = 16;
      expr = 18;
    }

-- A row of the data: its value is in one of two columns.
abbrev pub datum : record {
  state : ℕ;
  id : ℕ;
  expr : ℕ;
  text : ℕ;
}
datum =
    record {
      state = 0;
      id = 1;
      expr = 3;
      text = 5;
    }

-- A parameter's row: `kind` says what its owner is.
abbrev pub parameter : record {
  kind : ℕ;
  owner : ℕ;
  name : ℕ;
  expr : ℕ;
  location : ℕ;
}
parameter =
    record {
      kind = 0;
      owner = 1;
      name = 2;
      expr = 4;
      location = 6;
    }

-- A member's row: one of a list, in order of creation.
abbrev pub member : record {
  list : ℕ;
  owner : ℕ;
  value : ℕ;
  word : ℕ;
}
member =
    record {
      list = 0;
      owner = 1;
      value = 2;
      word = 3;
    }

-- An open element's row: state and transition as they are inside it; the length of its name if that is unknown.
abbrev pub opened : record {
  tag : ℕ;
  state : ℕ;
  transition : ℕ;
  length : ℕ;
}
opened =
    record {
      tag = 0;
      state = 1;
      transition = 2;
      length = 3;
    }

-- An open region's row: the region that goes on when it is closed, and the element that opened it.
abbrev pub open_region : record {
  region : ℕ;
  tag : ℕ;
}
open_region =
    record {
      region = 0;
      tag = 1;
    }

-- A row as it is read: the row of its table, and behind the widest of them the name of the state that a send or an invoke keeps.
abbrev pub shown : record {
  state_name : ℕ;
  width : ℕ;
}
shown =
    record {
      state_name = 48;
      width = 50;
    }

-- ---- classes

-- What a column holds.
--   free      a number that names nothing
--   code      a code in a range
--   own       the row's own number
--   doc_id     a number drawn from the doc ids, or 0
--   row       0, or the number of a row of a table
--   existing  the number of a row of a table
--   above     0, or the number of a region above the one that holds the entry
--   mark      one more than a count of parameters, or 0
--   text      where a text begins; its length is in the next column, whose class is `len`
--   by        of another column and a row of `choices`: a class for each code in that column
pub data Class : Type 0 where
  free own doc_id above mark len : Class
  code : ℕ → ℕ → Class
  row existing : ℕ → Class
  text : Role → Class
  by : ℕ → ℕ → Class

-- A column that holds nothing yet is 0, so that rows with the same texts and numbers are the same rows.
abbrev pub spare : Class
spare = code 0 0

-- What a text column's text is in demand 3; other columns have none.
unfoldable pub text_role : Class → Option Role
text_role (text q) = some q
text_role free = none
text_role own = none
text_role doc_id = none
text_role above = none
text_role mark = none
text_role len = none
text_role (code a b) = none
text_role (row t) = none
text_role (existing t) = none
text_role (by c k) = none

abbrev choice : record {
  content : ℕ;
  else : ℕ;
  parameter_owner : ℕ;
  member_owner : ℕ;
  member_value : ℕ;
}
choice =
    record {
      content = 0;
      else = 1;
      parameter_owner = 2;
      member_owner = 3;
      member_value = 4;
    }

-- Classes that go by a code, from 0. "A region number in an if or foreach is 0 or names a region above the one that holds the entry"; "every
-- transition's source and targets are existing states; every other number that a row holds for a row is 0 or names one that exists." A member is never 0.
unfoldable pub choices : List (List Class)
choices =
    (free ∷ above ∷ row table.regions ∷ row table.regions ∷ above ∷ replicate 4 (row table.regions))
    ∷ (free ∷ above ∷ replicate 7 (row table.regions))
    ∷ (free ∷ row table.entries ∷ row table.invokes ∷ row table.states ∷ [])
    ∷ (free ∷ replicate 5 (row table.states) ++ row table.transitions ∷ row table.transitions ∷ row table.entries ∷ row table.invokes ∷ [])
    ∷ (
    free ∷ existing table.states ∷ existing table.states ∷ existing table.regions ∷ existing table.regions ∷ existing table.transitions
    ∷ existing table.states ∷ spare ∷ spare ∷ spare ∷ [])
    ∷ []

unfoldable pub chart_columns : List Class
chart_columns =
    row table.states  -- root
    ∷ row table.regions  -- script
    ∷ code 0 1  -- binding
    ∷ text plain ∷ len  -- name
    ∷ text plain ∷ len  -- datamodel
    ∷ text plain ∷ len  -- version
    ∷ replicate 15 spare

unfoldable pub state_columns : List Class
state_columns =
    text name ∷ len  -- name
    ∷ doc_id  -- doc
    ∷ row table.transitions  -- initial
    ∷ row table.states  -- parent
    ∷ code 0 1  -- parallel
    ∷ code 0 1  -- final
    ∷ code 0 2  -- history
    ∷ mark  -- donedata
    ∷ code 0 1  -- has_content
    ∷ text plain ∷ len  -- text
    ∷ text masked ∷ len  -- expr
    ∷ replicate 10 spare

unfoldable pub transition_columns : List Class
transition_columns =
    own  -- number
    ∷ doc_id  -- doc
    ∷ existing table.states  -- source
    ∷ code 0 1  -- type
    ∷ code 0 1  -- wildcard
    ∷ row table.regions  -- content
    ∷ text masked ∷ len  -- cond
    ∷ []

unfoldable pub region_columns : List Class
region_columns =
    own  -- number
    ∷ replicate 7 spare

unfoldable pub entry_columns : List Class
entry_columns =
    row table.regions  -- region
    ∷ code 1 8  -- kind
    ∷ row table.states  -- state
    ∷ by entry.kind choice.content  -- content
    ∷ by entry.kind choice.else  -- else
    ∷ code 0 1  -- has_content
    ∷ text masked ∷ len  -- cond
    ∷ text masked ∷ len  -- array
    ∷ text masked ∷ len  -- expr
    ∷ text plain ∷ len  -- event
    ∷ text plain ∷ len  -- eventexpr
    ∷ text plain ∷ len  -- target
    ∷ text plain ∷ len  -- targetexpr
    ∷ text plain ∷ len  -- type
    ∷ text plain ∷ len  -- typeexpr
    ∷ text plain ∷ len  -- id
    ∷ text plain ∷ len  -- idlocation
    ∷ text plain ∷ len  -- delayexpr
    ∷ text plain ∷ len  -- sendid
    ∷ text plain ∷ len  -- sendidexpr
    ∷ text plain ∷ len  -- location
    ∷ text plain ∷ len  -- label
    ∷ text plain ∷ len  -- item
    ∷ text plain ∷ len  -- index
    ∷ text plain ∷ len  -- text
    ∷ replicate 4 spare

unfoldable pub invoke_columns : List Class
invoke_columns =
    row table.states  -- state
    ∷ code 0 1  -- autoforward
    ∷ row table.regions  -- finalize
    ∷ code 0 1  -- has_content
    ∷ text plain ∷ len  -- type
    ∷ text plain ∷ len  -- typeexpr
    ∷ text plain ∷ len  -- src
    ∷ text plain ∷ len  -- srcexpr
    ∷ text plain ∷ len  -- id
    ∷ text plain ∷ len  -- idlocation
    ∷ text plain ∷ len  -- text
    ∷ text masked ∷ len  -- expr
    ∷ replicate 4 spare

unfoldable pub datum_columns : List Class
datum_columns =
    row table.states  -- state
    ∷ text plain ∷ len  -- id
    ∷ text masked ∷ len  -- expr
    ∷ text plain ∷ len  -- text
    ∷ replicate 1 spare

unfoldable pub parameter_columns : List Class
parameter_columns =
    code 1 3  -- kind
    ∷ by parameter.kind choice.parameter_owner  -- owner
    ∷ text plain ∷ len  -- name
    ∷ text masked ∷ len  -- expr
    ∷ text plain ∷ len  -- location
    ∷ []

unfoldable pub member_columns : List Class
member_columns =
    code 1 9  -- list
    ∷ by member.list choice.member_owner  -- owner
    ∷ by member.list choice.member_value  -- value
    ∷ text plain ∷ len  -- word
    ∷ replicate 3 spare

unfoldable pub opened_columns : List Class
opened_columns =
    code 0 27  -- tag
    ∷ row table.states  -- state
    ∷ row table.transitions  -- transition
    ∷ free  -- length
    ∷ replicate 4 spare

unfoldable pub open_region_columns : List Class
open_region_columns =
    row table.regions  -- region
    ∷ free  -- tag
    ∷ replicate 6 spare

unfoldable pub schema : List (List Class)
unfolding chart_columns state_columns transition_columns region_columns entry_columns invoke_columns datum_columns parameter_columns member_columns opened_columns open_region_columns
schema =
    chart_columns ∷ state_columns ∷ transition_columns ∷ region_columns ∷ entry_columns ∷ invoke_columns ∷ datum_columns ∷ parameter_columns ∷ member_columns
    ∷ opened_columns ∷ replicate 64 free ∷ open_region_columns ∷ []

unfoldable pub columns_of : ℕ → List Class
unfolding schema
columns_of t = get_or schema t []

-- The role of a text column.
unfoldable pub role_at : ℕ → ℕ → Option Role
unfolding text_role columns_of
role_at t c = text_role (get_or (columns_of t) c free)

-- ---- rows

unfoldable pub blank : ℕ → Row
unfolding columns_of
blank t = replicate (length (columns_of t)) 0

abbrev pub num : Row → ℕ → ℕ
num r c = get_or r c 0

-- The row with a number from 1; of 0 there is none.
unfoldable pub row_of : Table → ℕ → Row
row_of rs zero = []
row_of rs (suc i) = get_or rs i []

-- Where a text lies, as rows keep it: its place in the text plus one, and its length; 0 0 is absent.
pub record Cell : Type 0 where
  pub at : ℕ
  pub len : ℕ

unfoldable pub no_cell : Cell
no_cell = record { at = 0; len = 0 }

unfoldable pub cell_at : Row → ℕ → Cell
cell_at r c = record { at = num r c; len = num r (suc c) }

unfoldable pub with_cell : ℕ → Cell → Row → Row
with_cell c x r = set (set r c x.at) (suc c) x.len

unfoldable pub text_from : List ℕ → ℕ → ℕ → List ℕ
unfolding bytes_at
text_from t zero n = []
text_from t (suc i) n = bytes_at t (record { off = i; len = n })

unfoldable pub text_at : List ℕ → Cell → List ℕ
unfolding text_from
text_at t x = text_from t x.at x.len

-- ---- lists

unfoldable pub same_list : ℕ → ℕ → Row → Bool
same_list l o m = eqb (num m member.list) l && eqb (num m member.owner) o

-- The members of one list of one owner, in order of creation.
unfoldable pub listed : ℕ → ℕ → Table → List Row
unfolding same_list
listed l o [] = []
listed l o (m ∷ ms) = elim (same_list l o m) [ true ↦ m ∷ listed l o ms | false ↦ listed l o ms ]

unfoldable pub values_of : List Row → List ℕ
values_of [] = []
values_of (m ∷ ms) = num m member.value ∷ values_of ms

-- ---- what the reader holds

-- All numbers: the tables, the current region, what is drawn from each counter, and the text charge.
pub record Numbers : Type 0 where
  pub tables : List Table
  pub current : ℕ
  pub ids : ℕ
  pub docs : ℕ
  pub names : ℕ
  pub charge : ℕ

abbrev pub table_of : Numbers → ℕ → Table
table_of n t = get_or n.tables t []

pub record Store : Type 0 where
  pub numbers : Numbers
  pub text : List ℕ

-- "The empty chart has no row and no text, nothing open, no current region, nothing drawn from a counter, text charge 0." Its one row of the chart is zeros.
unfoldable pub no_tables : List Table
unfolding blank
no_tables = (blank table.chart ∷ []) ∷ replicate 11 []

unfoldable pub empty : Store
unfolding no_tables
empty = record { numbers = record { tables = no_tables; current = 0; ids = 0; docs = 0; names = 0; charge = 0 }; text = [] }

-- The row of the innermost open element; zeros where nothing is open.
unfoldable pub last_of : Row → Table → Row
last_of d [] = d
last_of d (r ∷ rs) = last_of r rs

unfoldable pub innermost : Numbers → Row
unfolding last_of
innermost n = last_of [] (table_of n table.opened)

unfoldable pub current_state : Numbers → ℕ
unfolding innermost
current_state n = num (innermost n) opened.state

unfoldable pub current_transition : Numbers → ℕ
unfolding innermost
current_transition n = num (innermost n) opened.transition

unfoldable pub parent_tag : Numbers → ℕ
unfolding innermost
parent_tag n = num (innermost n) opened.tag

unfoldable pub root : Numbers → ℕ
root n = num (get_or (table_of n table.chart) 0 []) chart.root
