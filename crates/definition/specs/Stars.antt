-- Document 01, 'Charts at the edges': the lines marked ★, as rows of one table. A row is a stream of raw events from the empty chart, the answer, the event
-- that is refused, and what the chart holds then. proofs/Stars.antt proves that no row is wrong.
use Rattle.std.specs.Prelude.{ℕ, zero, suc, Bool, true, false, ◌&&◌, List, [], ◌∷◌, ◌++◌, length, eqb}
use Prim.Native.String.{String}
use Rattle.definition.specs.Limits.{limits01}
use Rattle.definition.specs.Text.{str, same}
use Rattle.definition.specs.Event.{events_of}
use Rattle.definition.specs.Rows.{Row, table, list, state, transition, entry, member, num, row_of, cell_at, text_at, table_of, Store, empty, listed, values_of, internal}
use Rattle.definition.specs.Reader.{Reply, event_reply, place_of}

-- ---- a stream from the empty chart

-- The first refusal's number and its event from 1, or 0 and 0; and the store then.
pub record Fed : Type 0 where
  pub number : ℕ
  pub event : ℕ
  pub store : Store

-- i events were taken before.
unfoldable pub feed : Store → ℕ → List (List ℕ) → Fed
unfolding event_reply
feed s i [] = record { number = 0; event = 0; store = s }
feed s i (e ∷ es) =
    let r : Reply = event_reply limits01 s e in
    elim r.number [ zero ↦ feed r.store (suc i) es | suc k ↦ record { number = suc k; event = suc i; store = s } ]

-- ---- what a chart holds

-- rows     how many rows a table has
-- number   of a table, the row with a number: what stands in a column
-- name     of a table, the row with a number: the text of a column
-- members  of a list and its owner: the numbers
-- words    of a list and its owner: the words
pub data Held : Type 0 where
  rows : ℕ → ℕ → Held
  number : ℕ → ℕ → ℕ → ℕ → Held
  name : ℕ → ℕ → ℕ → String → Held
  members : ℕ → ℕ → List ℕ → Held
  words : ℕ → ℕ → List String → Held

unfoldable pub row_with : Store → ℕ → ℕ → Row
unfolding row_of place_of
row_with s t i = row_of (table_of s.numbers t) (place_of s.numbers t i)

unfoldable pub are_words : List ℕ → List Row → List String → Bool
unfolding same str text_at cell_at
are_words t [] [] = true
are_words t [] (w ∷ ws) = false
are_words t (m ∷ ms) [] = false
are_words t (m ∷ ms) (w ∷ ws) = elim (same (text_at t (cell_at m member.word)) (str w)) [ true ↦ are_words t ms ws | false ↦ false ]

unfoldable pub holds : Store → Held → Bool
unfolding row_with same str text_at cell_at values_of listed are_words
holds s (rows t k) = eqb (length (table_of s.numbers t)) k
holds s (number t i c v) = eqb (num (row_with s t i) c) v
holds s (name t i c w) = same (text_at s.text (cell_at (row_with s t i) c)) (str w)
holds s (members l o vs) = same (values_of (listed l o (table_of s.numbers table.members))) vs
holds s (words l o ws) = are_words s.text (listed l o (table_of s.numbers table.members)) ws

unfoldable pub holds_all : Store → List Held → Bool
unfolding holds
holds_all s [] = true
holds_all s (h ∷ hs) = elim (holds s h) [ true ↦ holds_all s hs | false ↦ false ]

-- ---- rows of the table

pub record Star : Type 0 where
  pub stream : List ℕ
  pub answer : ℕ
  pub refused : ℕ
  pub held : List Held

unfoldable pub right : Star → Bool
unfolding feed events_of empty holds_all
right x =
    let f : Fed = feed empty 0 (events_of x.stream) in
    eqb f.number x.answer && eqb f.event x.refused && holds_all f.store x.held

-- The places, from i, of the rows that are not right.
unfoldable pub wrong : {A : Type 0} → (A → Bool) → ℕ → List A → List ℕ
wrong right i [] = []
wrong right i (x ∷ xs) = elim (right x) [ true ↦ wrong right (suc i) xs | false ↦ i ∷ wrong right (suc i) xs ]

-- A stream that is taken, and what the chart holds after it.
abbrev gives : List ℕ → List Held → Star
gives t hs = record { stream = t; answer = 0; refused = 0; held = hs }

-- A stream whose event i gets the number k.
abbrev gets : List ℕ → ℕ → ℕ → Star
gets t k i = record { stream = t; answer = k; refused = i; held = [] }

-- ---- raw events

abbrev scxml : List ℕ
scxml = str "event=open\nname=scxml\n"

abbrev in_a : List ℕ
in_a = scxml ++ str "event=open\nname=state\nkey=id\nvalue=a\n"

abbrev transition_on : String → List ℕ
transition_on w = in_a ++ str "event=empty\nname=transition\nkey=event\nvalue=" ++ str w ++ str "\n"

abbrev initial_b : List ℕ
initial_b = scxml ++ str "event=open\nname=state\nkey=id\nvalue=a\nkey=initial\nvalue=b\n"

abbrev if_else : List ℕ
if_else = in_a ++ str "event=open\nname=onentry\nevent=open\nname=if\nkey=cond\nvalue=c\nevent=empty\nname=else\n"

abbrev in_send : List ℕ
in_send = in_a ++ str "event=open\nname=onentry\nevent=open\nname=send\n"

abbrev in_invoke : List ℕ
in_invoke = in_a ++ str "event=open\nname=invoke\n"

abbrev in_donedata : List ℕ
in_donedata = scxml ++ str "event=open\nname=final\nevent=open\nname=donedata\n"

abbrev empty_content : List ℕ
empty_content = str "event=empty\nname=content\nkey=expr\nvalue=x\n"

abbrev whole_content : List ℕ
whole_content = str "event=whole\nname=content\nkey=expr\nvalue=x\ntext=\n"

-- The one transition of `transition_on`: its words and its wildcard.
abbrev strips : String → List String → ℕ → Star
strips w ws k = gives (transition_on w) (words list.events 1 ws ∷ number table.transitions 1 transition.wildcard k ∷ [])

-- ---- the table

unfoldable pub stars : List Star
unfolding str
stars =
    -- "★ `foo.*` gives `foo`; ★ `*.*` gives `*`, wildcard; ★ `a..*` gives `a`; ★ `.*` gives the empty word; ★ `a*` stays."
    strips "foo.*" ("foo" ∷ []) 0
    ∷ strips "*.*" ("*" ∷ []) 1
    ∷ strips "a..*" ("a" ∷ []) 0
    ∷ strips ".*" ("" ∷ []) 0
    ∷ strips "a*" ("a*" ∷ []) 0
    -- "★ Byte 11 parts events, not targets."
    ∷ gives (in_a ++ str "event=empty\nname=transition\nkey=event\nvalue=e\u{b}f\nkey=target\nvalue=c\u{b}d\n") (
    words list.events 1 ("e" ∷ "f" ∷ [])
    ∷ members list.targets 1 (3 ∷ [])
    ∷ rows table.states 3
    ∷ name table.states 3 state.name "c\u{b}d"
    ∷ [])
    -- "★ scxml, state a, onentry, if c, else, if d, end if, else: regions 1 to 5; d's else is 5. ★ With no inner if: 14."
    ∷ gives (if_else ++ str "event=open\nname=if\nkey=cond\nvalue=d\nevent=end\nname=if\nevent=empty\nname=else\n") (
    rows table.regions 5
    ∷ number table.regions 1 0 1
    ∷ number table.regions 2 0 2
    ∷ number table.regions 3 0 3
    ∷ number table.regions 4 0 4
    ∷ number table.regions 5 0 5
    ∷ rows table.entries 2
    ∷ name table.entries 2 entry.cond "d"
    ∷ number table.entries 2 entry.else 5
    ∷ [])
    ∷ gets (if_else ++ str "event=empty\nname=else\n") 14 6
    -- "★ scxml, state `id=a initial=b`: a is 2, b is 3, transition 1 has doc id 2, a has 3."
    ∷ gives initial_b (
    name table.states 2 state.name "a"
    ∷ name table.states 3 state.name "b"
    ∷ number table.transitions 1 transition.doc 2
    ∷ number table.transitions 1 transition.source 2
    ∷ number table.transitions 1 transition.type internal
    ∷ members list.targets 1 (3 ∷ [])
    ∷ number table.states 2 state.initial 1
    ∷ number table.states 2 state.doc 3
    ∷ [])
    -- "★ `initial` under that a: 13."
    ∷ gets (initial_b ++ str "event=open\nname=initial\n") 13 3
    -- "★ Empty-element content with expr: 0; `whole` with expr and empty text: 11": in each of the three parents.
    ∷ gives (in_send ++ empty_content) []
    ∷ gives (in_invoke ++ empty_content) []
    ∷ gives (in_donedata ++ empty_content) []
    ∷ gets (in_send ++ whole_content) 11 5
    ∷ gets (in_invoke ++ whole_content) 11 4
    ∷ gets (in_donedata ++ whole_content) 11 4
    -- The next rows have no ★. "An event word loses a trailing `.*`, then a trailing `.`, repeated until neither is left."
    ∷ strips "a.*.* b.. *" ("a" ∷ "b" ∷ "*" ∷ []) 1
    -- "Targets, `initial` and namelists split at 9, 10, 12, 13, 32 only"; "contents trim at bytes 9 to 13 and 32."
    ∷ gives (scxml ++ str "event=open\nname=state\nkey=id\nvalue=a\nkey=initial\nvalue=b\u{b}c\td\n") (
    members list.targets 1 (3 ∷ 4 ∷ []) ∷ name table.states 3 state.name "b\u{b}c" ∷ name table.states 4 state.name "d" ∷ [])
    ∷ gives (in_a ++ str "event=open\nname=onentry\nevent=open\nname=send\nkey=namelist\nvalue=x\u{b}y\u{c}z\n") (words list.send_names 1 ("x\u{b}y" ∷ "z" ∷ []) ∷ [])
    ∷ gives (in_a ++ str "event=open\nname=invoke\nkey=namelist\nvalue= x\u{b}y\rz\n") (words list.invoke_names 1 ("x\u{b}y" ∷ "z" ∷ []) ∷ [])
    ∷ gives (scxml ++ str "event=whole\nname=script\ntext= \u{b}x y\u{c}\t\\n\n") (name table.entries 1 entry.text "x y" ∷ [])
    -- "Transition: transition number, doc id, region number, targets."
    ∷ gives (in_a ++ str "event=open\nname=transition\nkey=target\nvalue=b a b\n") (
    number table.transitions 1 transition.doc 3
    ∷ number table.regions 2 0 2
    ∷ members list.targets 1 (3 ∷ 2 ∷ 3 ∷ [])
    ∷ members list.transitions 2 (1 ∷ [])
    ∷ [])
    -- "An ending state or scxml with initial 0 and a first child gets an external transition to it with doc id 0; parallel doesn't."
    ∷ gives (scxml ++ str "event=open\nname=parallel\nevent=empty\nname=state\nkey=id\nvalue=a\nevent=end\nname=parallel\n") (
    rows table.states 3
    ∷ members list.children 2 (3 ∷ [])
    ∷ number table.states 2 state.initial 0
    ∷ rows table.transitions 0
    ∷ [])
    -- The chart of the program's example: "open scxml, empty state `id=a`, end scxml".
    ∷ gives (scxml ++ str "event=empty\nname=state\nkey=id\nvalue=a\nevent=end\nname=scxml\n") (
    rows table.states 2
    ∷ rows table.transitions 1
    ∷ name table.states 1 state.name "__id1"
    ∷ number table.states 1 state.parent 0
    ∷ number table.states 1 state.initial 1
    ∷ number table.states 1 state.doc 1
    ∷ members list.children 1 (2 ∷ [])
    ∷ name table.states 2 state.name "a"
    ∷ number table.states 2 state.parent 1
    ∷ number table.states 2 state.initial 0
    ∷ number table.states 2 state.doc 2
    ∷ members list.children 2 []
    ∷ number table.transitions 1 transition.source 1
    ∷ members list.targets 1 (2 ∷ [])
    ∷ number table.transitions 1 transition.type 0
    ∷ number table.transitions 1 transition.doc 0
    ∷ number table.transitions 1 transition.content 0
    ∷ [])
    ∷ []
