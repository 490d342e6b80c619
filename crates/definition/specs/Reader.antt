-- Document 01, 'The reader's questions': an event, a reading, a call from lent slices, a list of calls, a stream.
use Rattle.std.specs.Prelude.{ℕ, zero, suc, Bool, true, false, ◌&&◌, not, ◌||◌, List, [], ◌∷◌, ◌++◌, length, get_or, take, drop, replicate, eqb, leb, ltb}
use Rattle.std.proofs.Math.Option.{Option, none, some}
use Rattle.definition.specs.declared.Limits.{Limits}
use Rattle.definition.specs.declared.Position.{Position}
use Rattle.definition.specs.Elements.{tag, key, left_out_keys, requirements, required_in, Apart, exclusions, codings, words_taken}
use Rattle.definition.specs.Nesting.{parent_allowed}
use Rattle.definition.specs.Event.{Event, read_event, in_form, keys_differ, kind, events_of}
use Rattle.definition.specs.Rows.{Row, Table, table, shown, entry_kind, owner_kind, list, state, entry, invoke, parameter, blank, num, row_of, Cell, no_cell, cell_at, with_cell, Numbers, table_of, Store, parent_tag, root}
use Rattle.definition.specs.Look.{Look, look, text_after}
use Rattle.definition.specs.Change.{Change, Outcome, done, refuse, nothing, entered, made, pushed, popped, has, length_of, code_for, words_of}
use Rattle.definition.specs.States.{start_scxml, start_state, start_parallel, start_final, start_history, start_initial, start_donedata, start_data, end_state, end_scxml}
use Rattle.definition.specs.Actions.{start_invoke, start_region, start_else, start_else_if, start_param, start_content, start_transition, start_send, entry_of, start_log, start_assign, block, start_script, end_transition, end_listed, end_finalize, end_block, place_of_number}
use Rattle.definition.specs.Rules.{has_own_number, table_limits, within_limits, keeps_rules}

-- ---- handlers, by the element's number

-- "Unknown names only nest." So does datamodel.
unfoldable pub only_nest : Numbers → Look → Outcome
unfolding nothing
only_nest n l = done (nothing n)

unfoldable pub starts : List (Numbers → Look → Outcome)
unfolding only_nest start_scxml start_state start_parallel start_final start_history start_initial start_invoke start_data start_donedata start_region start_else start_else_if start_param start_content start_transition
    start_send entry_of start_log start_assign block start_script
starts =
    only_nest
    ∷ start_scxml
    ∷ start_state
    ∷ start_parallel
    ∷ only_nest
    ∷ start_final
    ∷ start_history
    ∷ start_initial
    ∷ start_invoke
    ∷ start_data
    ∷ start_donedata
    ∷ start_region
    ∷ start_else
    ∷ start_else_if
    ∷ start_param
    ∷ start_content
    ∷ start_transition
    ∷ start_region
    ∷ start_region
    ∷ start_send
    ∷ entry_of 0 entry_kind.raise
    ∷ entry_of 0 entry_kind.cancel
    ∷ start_log
    ∷ start_assign
    ∷ block tag.if entry_kind.if
    ∷ block tag.foreach entry_kind.foreach
    ∷ start_script
    ∷ []

unfoldable pub start_of : ℕ → Numbers → Look → Outcome
unfolding starts only_nest
start_of g = get_or starts g only_nest

pub record Ends : Type 0 where
  pub element : ℕ
  pub handler : Numbers → Outcome

unfoldable pub ends : List Ends
unfolding end_scxml end_state end_finalize end_transition end_listed end_block
ends =
    record { element = tag.scxml; handler = end_scxml }
    ∷ record { element = tag.state; handler = end_state }
    ∷ record { element = tag.finalize; handler = end_finalize }
    ∷ record { element = tag.transition; handler = end_transition }
    ∷ record { element = tag.onentry; handler = end_listed tag.onentry list.onentry }
    ∷ record { element = tag.onexit; handler = end_listed tag.onexit list.onexit }
    ∷ record { element = tag.if; handler = end_block tag.if }
    ∷ record { element = tag.foreach; handler = end_block tag.foreach }
    ∷ []

unfoldable pub end_in : List Ends → ℕ → Numbers → Outcome
unfolding nothing
end_in [] g n = done (nothing n)
end_in (e ∷ es) g n = elim (eqb e.element g) [ true ↦ e.handler n | false ↦ end_in es g n ]

unfoldable pub end_of : ℕ → Numbers → Outcome
unfolding end_in ends
end_of g n = end_in ends g n

-- ---- the questions 5 to 12

unfoldable pub is_start : Look → Bool
is_start l = not (eqb l.kind kind.ends)

unfoldable pub has_one_of : Look → List ℕ → Bool
unfolding has
has_one_of l [] = false
has_one_of l (k ∷ ks) = has l k || has_one_of l ks

unfoldable pub has_all : Look → List (List ℕ) → Bool
unfolding has_one_of
has_all l [] = true
has_all l (ks ∷ kss) = has_one_of l ks && has_all l kss

unfoldable pub are_apart : Look → List Apart → Bool
unfolding has
are_apart l [] = true
are_apart l (a ∷ as') = not (eqb a.element l.tag && has l a.one && has l a.other) && are_apart l as'

unfoldable pub is_whole : Look → Bool
is_whole l = eqb l.kind kind.whole

unfoldable pub trimmed_length : List Cell → ℕ
trimmed_length [] = 0
trimmed_length (c ∷ cs) = c.len

-- "data's expr with trimmed text of some length, content's expr with `whole`, assign's non-empty expr with `whole`"
unfoldable pub text_apart : Look → Bool
unfolding has is_whole trimmed_length words_of length_of
text_apart l =
    not (eqb l.tag tag.datum && has l key.expr && leb 1 (trimmed_length (words_of l key.text)))
    && not (eqb l.tag tag.content && has l key.expr && is_whole l) && not (eqb l.tag tag.assign && leb 1 (length_of l key.expr) && is_whole l)

-- A word that is not taken has the code after the last.
unfoldable pub word_taken : Look → ℕ → Bool
unfolding has code_for words_taken codings
word_taken l k = let ws : List (List ℕ) = words_taken codings l.tag k in eqb (length ws) 0 || not (has l k) || ltb (code_for l k 0) (length ws)

-- "Is it neither include, nor data or script with `src`, nor send with `delay`?"
unfoldable pub is_left_out : Look → Bool
unfolding has_one_of left_out_keys
is_left_out l = eqb l.tag tag.include || has_one_of l (left_out_keys l.tag)

pub record Question : Type 0 where
  pub yes : Bool
  pub otherwise : ℕ

infix 25 ◌otherwise◌
abbrev pub ◌otherwise◌ : Bool → ℕ → Question
b otherwise k = record { yes = b; otherwise = k }

unfoldable pub questions : Limits → Numbers → Look → List Question
unfolding is_start is_left_out parent_allowed parent_tag root has_all required_in requirements are_apart exclusions text_apart word_taken
questions L n l =
    ((is_start l || l.innermost) otherwise 5)
    ∷ (not (is_left_out l) otherwise 6)
    ∷ ((not (is_start l) || ltb (length (table_of n table.opened)) L.opened) otherwise 7)
    ∷ ((not (is_start l) || parent_allowed l.tag (parent_tag n)) otherwise 8)
    ∷ ((not (is_start l) || not (eqb l.tag tag.scxml) || eqb (root n) 0) otherwise 9)
    ∷ ((not (is_start l) || has_all l (required_in requirements l.tag)) otherwise 10)
    ∷ ((are_apart l exclusions && text_apart l) otherwise 11)
    ∷ ((word_taken l key.binding && word_taken l key.type) otherwise 12)
    ∷ []

-- "Put in this order; the first no gives the number." 0: all yes.
unfoldable pub first_no : List Question → ℕ
first_no [] = 0
first_no (q ∷ qs) = elim q.yes [ true ↦ first_no qs | false ↦ q.otherwise ]

-- ---- an event

pub data Verdict : Type 0 where
  accept : Numbers → Verdict
  reject : ℕ → Verdict

unfoldable pub on_done : Outcome → (Change → Verdict) → Verdict
on_done (refuse k) next = reject k
on_done (done c) next = next c

unfoldable pub started : Look → Numbers → (Numbers → Verdict) → Verdict
unfolding on_done start_of pushed made
started l n next = on_done (start_of l.tag n l) (λ c. next (pushed l c (made l c n)))

unfoldable pub finished : Look → Numbers → Verdict
unfolding on_done end_of popped made
finished l n = on_done (end_of l.tag n) (λ c. accept (popped (made l c n)))

-- "`empty` is start and end as one event." So is `whole`: its four elements do nothing at their end.
unfoldable pub handled : ℕ → Look → Numbers → Verdict
unfolding started finished
handled zero l n = started l n accept
handled (suc zero) l n = started l n (finished l)
handled (suc (suc zero)) l n = started l n (finished l)
handled (suc (suc (suc k))) l n = finished l n

-- "Would the chart stay within the limits? 15"
unfoldable pub limited : Limits → Verdict → Verdict
unfolding within_limits
limited L (reject k) = reject k
limited L (accept n) = elim (within_limits L n) [ true ↦ accept n | false ↦ reject 15 ]

unfoldable pub decided : Limits → Numbers → Look → Verdict
unfolding limited handled entered first_no questions
decided L n l = elim (first_no (questions L n l)) [ zero ↦ limited L (handled l.kind l (entered l n)) | suc k ↦ reject (suc k) ]

-- What an event or a reading gives: the number, and the store after it.
pub record Reply : Type 0 where
  pub number : ℕ
  pub store : Store

unfoldable pub settled : Store → List ℕ → Verdict → Reply
settled s t (accept n) = record { number = 0; store = record { numbers = n; text = t } }
settled s t (reject k) = record { number = k; store = s }

unfoldable pub reply_to : Limits → Store → Option Event → Reply
unfolding in_form keys_differ settled decided look text_after
reply_to L s none = record { number = 3; store = s }
reply_to L s (some e) =
    elim (in_form L e) [
      | false ↦ record { number = 3; store = s }
      | true ↦ elim (keys_differ e.attributes) [ false ↦ record { number = 4; store = s } | true ↦ settled s (text_after s e) (decided L s.numbers (look s e)) ]
    ]

unfoldable pub event_reply : Limits → Store → List ℕ → Reply
unfolding reply_to read_event
event_reply L s raw = reply_to L s (read_event raw)

-- ---- a reading

unfoldable pub no_row : Row
no_row = replicate shown.width 0

unfoldable pub widened : Row → Row
widened r = take shown.width (r ++ replicate shown.width 0)

unfoldable pub state_name_of : Numbers → ℕ → Cell
unfolding cell_at row_of no_cell
state_name_of n zero = no_cell
state_name_of n (suc i) = cell_at (row_of (table_of n table.states) (suc i)) state.name

-- The state that a row keeps: a send's or an invoke's.
unfoldable pub state_kept : ℕ → Row → ℕ
state_kept t r =
    elim (eqb t table.entries) [
      | true ↦ num r entry.state
      | false ↦ elim (eqb t table.invokes) [ true ↦ num r invoke.state | false ↦ 0 ]
    ]

-- "A state's name that another row keeps is a state name too and adds nothing to the text charge": tables keep the state's number, and the row as it is read
-- has the name.
unfoldable pub with_name : Numbers → ℕ → Row → Row
unfolding with_cell state_name_of state_kept widened
with_name n t r = with_cell shown.state_name (state_name_of n (state_kept t r)) (widened r)

-- A parameter of a donedata that another replaced: its number is below the mark.
unfoldable pub has_left : Numbers → ℕ → Row → Bool
unfolding row_of
has_left n i r =
    eqb (num r parameter.kind) owner_kind.donedata
    && ltb i (num (row_of (table_of n table.states) (num r parameter.owner)) state.donedata)

-- The place of a row, from 1; 0 if it does not exist.
unfoldable pub place_of : Numbers → ℕ → ℕ → ℕ
unfolding has_own_number place_of_number
place_of n t zero = 0
place_of n t (suc i) =
    elim (has_own_number t) [
      | true ↦ place_of_number (table_of n t) (suc i)
      | false ↦ elim (ltb i (length (table_of n t))) [ true ↦ suc i | false ↦ 0 ]
    ]

-- "The empty chart has no row": the chart's is there from the first scxml on.
unfoldable pub is_empty : Numbers → Bool
unfolding root
is_empty n = eqb (root n) 0

unfoldable pub exists : Numbers → ℕ → ℕ → Bool
unfolding place_of has_left row_of is_empty
exists n t i =
    leb t table.members && leb 1 (place_of n t i) && not (eqb t table.chart && is_empty n) && not (eqb t table.parameters && has_left n i (row_of (table_of n t) i))

-- "For reading a row by id: does the row exist? 16"
unfoldable pub row_read : Numbers → ℕ → ℕ → Row
unfolding with_name row_of place_of
row_read n t i = with_name n t (row_of (table_of n t) (place_of n t i))

-- ---- lent slices and the reading position

-- Twelve tables, and the text.
pub record Lent : Type 0 where
  pub tables : List Table
  pub text : List ℕ

-- "The reading position (depth, counters, current region) goes in by value and comes back": `Position`, declared in src. How many rows of each table are in
-- use; the chart has one row, and as many names are open as elements.
unfoldable pub counts : Position → List ℕ
counts p =
    1 ∷ p.states ∷ p.transitions ∷ p.regions ∷ p.entries ∷ p.invokes ∷ p.datums ∷ p.parameters ∷ p.members ∷ p.opened ∷ p.opened ∷ p.open_regions ∷ []

unfoldable pub taken : List ℕ → List Table → List Table
taken [] ts = []
taken (k ∷ ks) [] = []
taken (k ∷ ks) (t ∷ ts) = take k t ∷ taken ks ts

-- What is in use of the lent slices.
unfoldable pub store_of : Lent → Position → Store
unfolding taken counts
store_of x p =
    record {
      numbers = record { tables = taken (counts p) x.tables; current = p.current.0; ids = p.ids; docs = p.docs; names = p.names; charge = p.charge };
      text = take p.used x.text;
    }

unfoldable pub rows_in : Numbers → ℕ → ℕ
rows_in n t = length (table_of n t)

unfoldable pub position_of : Store → Position
unfolding rows_in
position_of s =
    let n : Numbers = s.numbers in
    record {
      opened = rows_in n table.opened;
      states = rows_in n table.states;
      transitions = rows_in n table.transitions;
      regions = rows_in n table.regions;
      entries = rows_in n table.entries;
      invokes = rows_in n table.invokes;
      datums = rows_in n table.datums;
      parameters = rows_in n table.parameters;
      members = rows_in n table.members;
      open_regions = rows_in n table.open_regions;
      current = record { 0 = n.current };
      ids = n.ids;
      docs = n.docs;
      names = n.names;
      used = length s.text;
      charge = n.charge;
    }

-- What lies beyond the rows in use stays as it was.
unfoldable pub over {ℓ} : {A : Type ℓ} → List A → List A → List A
over used now = used ++ drop (length used) now

unfoldable pub over_all : List Table → List Table → List Table
unfolding over
over_all us [] = []
over_all [] (t ∷ ts) = t ∷ ts
over_all (u ∷ us) (t ∷ ts) = over u t ∷ over_all us ts

unfoldable pub lent_after : Lent → Store → Lent
unfolding over over_all
lent_after x s = record { tables = over_all s.numbers.tables x.tables; text = over s.text x.text }

-- ---- question 1: "Are the lent slices long enough for every limit?"

unfoldable pub all_long : List ℕ → List Table → Bool
all_long [] ts = true
all_long (m ∷ ms) [] = false
all_long (m ∷ ms) (t ∷ ts) = elim (leb m (length t)) [ true ↦ all_long ms ts | false ↦ false ]

unfoldable pub long_enough : Limits → Lent → Bool
unfolding all_long table_limits
long_enough L x = all_long (table_limits L) x.tables && leb L.charge (length x.text)

-- ---- question 2

unfoldable pub all_at_most : List ℕ → List ℕ → Bool
all_at_most [] ms = true
all_at_most (k ∷ ks) [] = true
all_at_most (k ∷ ks) (m ∷ ms) = elim (leb k m) [ true ↦ all_at_most ks ms | false ↦ false ]

unfoldable pub in_order : Limits → Lent → Position → Bool
unfolding all_at_most counts table_limits keeps_rules store_of
in_order L x p = elim (all_at_most (counts p) (table_limits L) && leb p.used L.charge) [ true ↦ keeps_rules L (store_of x p) | false ↦ false ]

-- ---- a call

pub data Call : Type 0 where
  event : List ℕ → Call
  reading : ℕ → ℕ → Call

pub record Answer : Type 0 where
  pub number : ℕ
  pub row : Row
  pub lent : Lent
  pub position : Position

-- "The first no gives the number, and nothing lent has changed then; the reading position comes back as it was, and a row asked for is all zeros."
unfoldable pub refused : ℕ → Lent → Position → Answer
unfolding no_row
refused k x p = record { number = k; row = no_row; lent = x; position = p }

unfoldable pub answer_of : Lent → Position → Reply → Answer
unfolding refused no_row lent_after position_of
answer_of x p r =
    elim r.number [
      | zero ↦ record { number = 0; row = no_row; lent = lent_after x r.store; position = position_of r.store }
      | suc k ↦ refused (suc k) x p
    ]

unfoldable pub answer_to : Limits → Lent → Position → Call → Answer
unfolding answer_of event_reply store_of exists row_read refused
answer_to L x p (event raw) = answer_of x p (event_reply L (store_of x p) raw)
answer_to L x p (reading t i) =
    let n : Numbers = (store_of x p).numbers in
    elim (exists n t i) [ true ↦ record { number = 0; row = row_read n t i; lent = x; position = p } | false ↦ refused 16 x p ]

-- THE DEFINITION that every exported contract cites and that demand 3 speaks of.
unfoldable pub call : Limits → Lent → Position → Call → Answer
unfolding long_enough in_order answer_to refused
call L x p c =
    elim (long_enough L x) [
      | false ↦ refused 1 x p
      | true ↦ elim (in_order L x p) [ false ↦ refused 2 x p | true ↦ answer_to L x p c ]
    ]

-- "Each call gets the slices and the reading position that the call before it in its own list left and gave back."
unfoldable pub run : Limits → Lent → Position → List Call → List Answer
unfolding call
run L x p [] = []
run L x p (c ∷ cs) = let a : Answer = call L x p c in a ∷ run L a.lent a.position cs

-- ---- a stream

pub record Streamed : Type 0 where
  pub number : ℕ
  pub event : ℕ
  pub lent : Lent
  pub position : Position

-- The first refusal ends it; i events were taken before.
unfoldable pub streamed : Limits → Lent → Position → ℕ → List (List ℕ) → Streamed
unfolding call
streamed L x p i [] = record { number = 0; event = 0; lent = x; position = p }
streamed L x p i (e ∷ es) =
    let a : Answer = call L x p (event e) in
    elim a.number [
      | zero ↦ streamed L a.lent a.position (suc i) es
      | suc k ↦ record { number = suc k; event = suc i; lent = x; position = p }
    ]

unfoldable pub stream : Limits → Lent → Position → List ℕ → Streamed
unfolding streamed events_of
stream L x p t = streamed L x p 0 (events_of t)

-- "The empty chart has no row and no text, nothing open, no current region, nothing drawn from a counter, text charge 0."
unfoldable pub start : Position
start =
    record {
      opened = 0;
      states = 0;
      transitions = 0;
      regions = 0;
      entries = 0;
      invokes = 0;
      datums = 0;
      parameters = 0;
      members = 0;
      open_regions = 0;
      current = record { 0 = 0 };
      ids = 0;
      docs = 0;
      names = 0;
      used = 0;
      charge = 0;
    }

-- The chart that both lists of demand 3 start from: slices of zeros, of any lengths.
unfoldable pub zero_tables : ℕ → List ℕ → List Table
unfolding blank
zero_tables t [] = []
zero_tables t (k ∷ ks) = replicate k (blank t) ∷ zero_tables (suc t) ks

-- ks: how many rows each of the twelve slices has; k: how many bytes the text.
unfoldable pub zeros : List ℕ → ℕ → Lent
unfolding zero_tables
zeros ks k = record { tables = zero_tables 0 ks; text = replicate k 0 }
