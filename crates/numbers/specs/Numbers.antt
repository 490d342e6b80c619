-- Document 01, 'The reader's questions': refusal numbers, written by hand from the list, at least two for each number, and beside them what is taken. The Rust
-- gives no numbers. (1, 2 and 16 are in the table of calls from lent stores, and so are 13 to 15 where the order is tried.)
use Rattle.std.specs.Prelude.{ℕ, zero, suc, ◌-◌, Bool, ◌&&◌, List, [], ◌∷◌, ◌++◌, replicate, set, eqb}
use Prim.Native.String.{String}
use Rattle.definition.specs.Text.{str}
use Rattle.definition.specs.Elements.{tag}
use Rattle.definition.specs.Event.{events_of}
use Rattle.definition.specs.Rows.{Row, Table, table, state, region, invoke, opened, blank, Store, empty, no_tables}
use Rattle.definition.specs.Change.{◌≔◌}
use Rattle.definition.specs.Stars.{Fed, feed}
use Rattle.cases.specs.Made.{made}

-- A stream from a store, the answer, and the event that is refused, from 1.
pub record Given : Type 0 where
  pub from : Store
  pub stream : List ℕ
  pub answer : ℕ
  pub refused : ℕ

unfoldable pub right : Given → Bool
unfolding feed events_of
right g = let f : Fed = feed g.from 0 (events_of g.stream) in eqb f.number g.answer && eqb f.event g.refused

-- The stream's event i gets the number k.
abbrev gets : List ℕ → ℕ → ℕ → Given
gets t k i = record { from = empty; stream = t; answer = k; refused = i }

abbrev taken : List ℕ → Given
taken t = record { from = empty; stream = t; answer = 0; refused = 0 }

-- ---- raw events

abbrev opens : String → List ℕ
opens n = str "event=open\nname=" ++ str n ++ 10 ∷ []

abbrev empties : String → List ℕ
empties n = str "event=empty\nname=" ++ str n ++ 10 ∷ []

abbrev wholes : String → List ℕ
wholes n = str "event=whole\nname=" ++ str n ++ 10 ∷ []

abbrev ends : String → List ℕ
ends n = str "event=end\nname=" ++ str n ++ 10 ∷ []

abbrev pair : String → String → List ℕ
pair k v = str "key=" ++ str k ++ str "\nvalue=" ++ str v ++ 10 ∷ []

abbrev text : String → List ℕ
text v = str "text=" ++ str v ++ 10 ∷ []

abbrev scxml : List ℕ
scxml = opens "scxml"

abbrev in_state : List ℕ
in_state = scxml ++ opens "state"

abbrev in_entry : List ℕ
in_entry = in_state ++ opens "onentry"

abbrev in_if : List ℕ
in_if = in_entry ++ opens "if" ++ pair "cond" "c"

abbrev in_send : List ℕ
in_send = in_entry ++ opens "send"

abbrev in_model : List ℕ
in_model = scxml ++ opens "datamodel"

-- ---- "Is the event in form and within its own limits, bytes up to 127? 3"

unfoldable pub three : List Given
unfolding str feed empty
three =
    taken []
    ∷ gets (str "event=open\nname=scxml") 3 1
    ∷ gets (scxml ++ str "event=open") 3 2
    ∷ gets (scxml ++ str "event=open\n") 3 2
    ∷ gets (str "name=scxml\n") 3 1
    ∷ gets (str "\n" ++ scxml) 3 1
    ∷ gets (str " event=open\nname=scxml\n") 3 1
    ∷ gets (str "event=begin\nname=scxml\n") 3 1
    ∷ gets (str "event=Open\nname=scxml\n") 3 1
    ∷ gets (str "event=open \nname=scxml\n") 3 1
    ∷ gets (opens "") 3 1
    ∷ gets (str "event=open\nname=scxml\nname=scxml\n") 3 1
    ∷ gets (scxml ++ str "\n") 3 1
    ∷ gets (scxml ++ str "key=id\n") 3 1
    ∷ gets (scxml ++ str "value=a\n") 3 1
    ∷ gets (scxml ++ str "key=id\nkey=id\nvalue=a\n") 3 1
    ∷ gets (scxml ++ pair "" "a") 3 1
    -- "`text=` last and exactly for `whole`."
    ∷ gets (scxml ++ text "") 3 1
    ∷ gets (in_entry ++ empties "script" ++ text "") 3 4
    ∷ gets (in_entry ++ wholes "script") 3 4
    ∷ gets (in_entry ++ wholes "script" ++ text "x" ++ text "x") 3 4
    ∷ gets (in_entry ++ wholes "script" ++ text "x" ++ pair "id" "x") 3 4
    ∷ taken (in_entry ++ wholes "script" ++ pair "id" "x" ++ text "x")
    -- "`end` has no pairs."
    ∷ gets (scxml ++ ends "scxml" ++ pair "id" "x") 3 2
    ∷ gets (scxml ++ ends "scxml" ++ text "") 3 2
    -- "`data`, `script`, `content`, `assign` come as `whole` or `empty`, never `open`, and nothing else is `whole`."
    ∷ gets (in_model ++ opens "data" ++ pair "id" "x") 3 3
    ∷ gets (in_entry ++ opens "script") 3 4
    ∷ gets (in_send ++ opens "content") 3 5
    ∷ gets (in_entry ++ opens "assign" ++ pair "location" "x") 3 4
    ∷ gets (wholes "state" ++ text "") 3 1
    ∷ gets (wholes "other" ++ text "") 3 1
    -- "Byte 10 is written `\n` and backslash `\\`."
    ∷ gets (scxml ++ pair "id" "\\x") 3 1
    ∷ gets (scxml ++ pair "id" "x\\") 3 1
    ∷ gets (scxml ++ pair "i\\d" "x") 3 1
    ∷ gets (opens "a\\") 3 1
    ∷ taken (scxml ++ pair "i\\nd" "\\\\n\\n")
    -- Bytes.
    ∷ taken (scxml ++ pair "id" "\u{7f}\0\r")
    ∷ gets (scxml ++ pair "id" "\u{80}") 3 1
    ∷ gets (opens "ÿ") 3 1
    ∷ gets (in_entry ++ wholes "script" ++ text "\u{80}") 3 4
    -- Lengths: a name of 64 bytes and of 65, a key, 16 attributes and 17, a value of 1,024 bytes and of 1,025.
    ∷ taken (str "event=open\nname=" ++ replicate 64 120 ++ 10 ∷ [])
    ∷ gets (str "event=open\nname=" ++ replicate 65 120 ++ 10 ∷ []) 3 1
    ∷ taken (scxml ++ str "key=" ++ replicate 64 120 ++ str "\nvalue=\n")
    ∷ gets (scxml ++ str "key=" ++ replicate 65 120 ++ str "\nvalue=\n") 3 1
    ∷ []

abbrev sixteen : List ℕ
sixteen =
    pair "a" "" ++ pair "b" "" ++ pair "c" "" ++ pair "d" "" ++ pair "e" "" ++ pair "f" "" ++ pair "g" "" ++ pair "h" "" ++ pair "i" "" ++ pair "j" "" ++ pair "k" ""
    ++ pair "l" "" ++ pair "m" "" ++ pair "n" "" ++ pair "o" "" ++ pair "p" ""

unfoldable pub lengths : List Given
unfolding str feed empty
lengths =
    taken (scxml ++ sixteen)
    ∷ gets (scxml ++ sixteen ++ pair "q" "") 3 1
    ∷ taken (scxml ++ str "key=x\nvalue=" ++ replicate 1024 120 ++ 10 ∷ [])
    ∷ gets (scxml ++ str "key=x\nvalue=" ++ replicate 1025 120 ++ 10 ∷ []) 3 1
    ∷ []

-- ---- "Are its keys different? 4"

unfoldable pub four : List Given
unfolding str feed empty
four =
    gets (scxml ++ pair "id" "a" ++ pair "id" "a") 4 1
    ∷ gets (scxml ++ pair "any" "a" ++ pair "id" "b" ++ pair "any" "c") 4 1
    ∷ gets (opens "other" ++ pair "x\\n" "" ++ pair "x\\n" "") 4 1
    ∷ taken (scxml ++ pair "id" "a" ++ pair "Id" "a" ++ pair "id " "a")
    -- After 3; before 6 and 8.
    ∷ gets (scxml ++ pair "id" "a" ++ pair "id" "\u{80}") 3 1
    ∷ gets (opens "include" ++ pair "id" "a" ++ pair "id" "a") 4 1
    ∷ gets (opens "state" ++ pair "id" "a" ++ pair "id" "a") 4 1
    ∷ []

-- ---- "For `end`: is it the innermost open name? 5"

unfoldable pub five : List Given
unfolding str feed empty
five =
    gets (ends "scxml") 5 1
    ∷ gets (scxml ++ ends "state") 5 2
    ∷ gets (in_state ++ ends "scxml") 5 3
    ∷ gets (in_state ++ ends "state" ++ ends "state") 5 4
    ∷ gets (opens "x" ++ ends "y") 5 2
    ∷ gets (opens "x" ++ ends "X") 5 2
    ∷ taken (opens "x" ++ ends "x")
    -- What is `whole` or `empty` is closed already.
    ∷ gets (in_entry ++ wholes "script" ++ text "" ++ ends "script") 5 5
    ∷ gets (in_model ++ empties "data" ++ pair "id" "x" ++ ends "data") 5 4
    ∷ []

-- ---- "Is it neither include, nor data or script with `src`, nor send with `delay`? 6"

unfoldable pub six : List Given
unfolding str feed empty
six =
    gets (opens "include") 6 1
    ∷ gets (scxml ++ empties "include" ++ pair "href" "x") 6 2
    ∷ taken (opens "Include")
    ∷ gets (in_model ++ empties "data" ++ pair "id" "x" ++ pair "src" "") 6 3
    ∷ gets (in_entry ++ wholes "script" ++ pair "src" "x" ++ text "") 6 4
    ∷ gets (in_entry ++ empties "send" ++ pair "delay" "1s") 6 4
    ∷ taken (in_entry ++ empties "send" ++ pair "delayexpr" "1s")
    ∷ taken (in_state ++ opens "invoke" ++ pair "src" "x")
    -- After 5; before 8, 10 and 11.
    ∷ gets (ends "include") 5 1
    ∷ gets (empties "send" ++ pair "delay" "") 6 1
    ∷ gets (empties "data" ++ pair "src" "x") 6 1
    ∷ gets (in_entry ++ empties "send" ++ pair "delay" "" ++ pair "event" "" ++ pair "eventexpr" "") 6 4
    ∷ []

-- ---- "Are fewer than 32 open? 7 (starts only)": from a store with k open elements x.

abbrev open_element : Row
open_element = made table.opened (opened.length ≔ 1 ∷ [])

abbrev with_open : ℕ → Store
with_open k =
    record {
      numbers =
          record {
            tables = set (set no_tables table.opened (replicate k open_element)) table.open_names (replicate k (120 ∷ replicate 63 0));
            current = 0;
            ids = 0;
            docs = 0;
            names = 0;
            charge = 0;
          };
      text = [];
    }

abbrev under : ℕ → List ℕ → ℕ → ℕ → Given
under k t a i = record { from = with_open k; stream = t; answer = a; refused = i }

unfoldable pub seven : List Given
unfolding str feed empty no_tables made
seven =
    under 31 (opens "x") 0 0
    ∷ under 32 (opens "x") 7 1
    ∷ under 31 (opens "x" ++ opens "x") 7 2
    ∷ under 31 (empties "x" ++ opens "x") 0 0
    ∷ under 32 (empties "x") 7 1
    ∷ under 32 (wholes "script" ++ text "") 7 1
    ∷ under 32 (ends "x" ++ opens "x") 0 0
    ∷ under 31 scxml 0 0
    -- After 6; before 8.
    ∷ under 32 (empties "include") 6 1
    ∷ under 32 (opens "state") 7 1
    ∷ under 31 (opens "state") 8 1
    ∷ []

-- ---- "Is the parent allowed? 8"

unfoldable pub eight : List Given
unfolding str feed empty
eight =
    gets (opens "state") 8 1
    ∷ gets (scxml ++ opens "transition") 8 2
    ∷ gets (scxml ++ opens "other" ++ opens "state") 8 3
    ∷ gets (scxml ++ ends "scxml" ++ opens "state") 8 3
    ∷ taken (scxml ++ ends "scxml" ++ opens "other")
    ∷ gets (in_state ++ opens "parallel" ++ empties "final") 8 4
    ∷ gets (in_entry ++ empties "else") 8 4
    ∷ gets (in_if ++ opens "else" ++ empties "log") 8 6
    ∷ gets (in_state ++ opens "invoke" ++ opens "finalize" ++ empties "send") 8 5
    ∷ taken (in_state ++ opens "invoke" ++ opens "finalize" ++ opens "if" ++ pair "cond" "c" ++ empties "send")
    ∷ gets (in_state ++ empties "script") 8 3
    ∷ taken (scxml ++ empties "script")
    -- Before 10 to 13.
    ∷ gets (in_state ++ empties "raise") 8 3
    ∷ gets (in_state ++ empties "send" ++ pair "event" "" ++ pair "eventexpr" "") 8 3
    ∷ gets (scxml ++ opens "history" ++ pair "type" "x") 8 2
    ∷ gets (scxml ++ opens "initial") 8 2
    ∷ []

-- ---- "Is an scxml the first? 9"

unfoldable pub nine : List Given
unfolding str feed empty
nine =
    gets (scxml ++ scxml) 9 2
    ∷ gets (scxml ++ ends "scxml" ++ empties "scxml") 9 3
    ∷ gets (in_entry ++ opens "other" ++ scxml) 9 5
    ∷ taken (opens "other" ++ scxml)
    -- Before 12.
    ∷ gets (scxml ++ scxml ++ pair "binding" "x") 9 2
    ∷ []

-- ---- "Are required attributes there (data id; foreach array, item; if, elseif cond; param name; assign location; raise event; cancel sendid or
-- sendidexpr)? 10"

unfoldable pub ten : List Given
unfolding str feed empty
ten =
    gets (in_model ++ empties "data") 10 3
    ∷ taken (in_model ++ empties "data" ++ pair "id" "")
    ∷ gets (in_entry ++ opens "foreach" ++ pair "array" "x") 10 4
    ∷ gets (in_entry ++ opens "foreach" ++ pair "item" "x") 10 4
    ∷ taken (in_entry ++ opens "foreach" ++ pair "item" "" ++ pair "array" "")
    ∷ gets (in_entry ++ opens "if") 10 4
    ∷ taken (in_entry ++ opens "if" ++ pair "cond" "")
    ∷ gets (in_if ++ opens "elseif") 10 5
    ∷ gets (in_send ++ empties "param" ++ pair "expr" "x") 10 5
    ∷ gets (in_entry ++ empties "assign" ++ pair "expr" "x") 10 4
    ∷ gets (in_entry ++ empties "raise" ++ pair "eventexpr" "x") 10 4
    ∷ gets (in_entry ++ empties "cancel") 10 4
    ∷ taken (in_entry ++ empties "cancel" ++ pair "sendid" "")
    ∷ taken (in_entry ++ empties "cancel" ++ pair "sendidexpr" "")
    -- Before 11.
    ∷ gets (in_send ++ empties "param" ++ pair "expr" "x" ++ pair "location" "x") 10 5
    ∷ gets (in_entry ++ wholes "assign" ++ pair "expr" "x" ++ text "y") 10 4
    ∷ gets (in_model ++ wholes "data" ++ pair "expr" "x" ++ text "y") 10 3
    ∷ []

-- ---- "Are these apart: send's and cancel's attribute with its -expr, send's id with idlocation, param's expr with location, data's expr with trimmed text
-- of some length, content's expr with `whole`, assign's non-empty expr with `whole`? 11"

unfoldable pub eleven : List Given
unfolding str feed empty
eleven =
    gets (in_entry ++ opens "send" ++ pair "event" "" ++ pair "eventexpr" "") 11 4
    ∷ gets (in_entry ++ opens "send" ++ pair "targetexpr" "x" ++ pair "target" "x") 11 4
    ∷ gets (in_entry ++ opens "send" ++ pair "type" "" ++ pair "typeexpr" "x") 11 4
    ∷ gets (in_entry ++ opens "send" ++ pair "id" "" ++ pair "idlocation" "") 11 4
    ∷ taken (in_entry ++ opens "send" ++ pair "event" "" ++ pair "targetexpr" "" ++ pair "typeexpr" "" ++ pair "id" "")
    ∷ gets (in_entry ++ empties "cancel" ++ pair "sendid" "" ++ pair "sendidexpr" "") 11 4
    ∷ gets (in_send ++ empties "param" ++ pair "name" "n" ++ pair "expr" "" ++ pair "location" "") 11 5
    ∷ gets (in_model ++ wholes "data" ++ pair "id" "x" ++ pair "expr" "" ++ text " y ") 11 3
    ∷ taken (in_model ++ wholes "data" ++ pair "id" "x" ++ pair "expr" "x" ++ text " \\n\u{b}\t ")
    ∷ gets (in_send ++ wholes "content" ++ pair "expr" "" ++ text "") 11 5
    ∷ gets (in_entry ++ wholes "assign" ++ pair "location" "l" ++ pair "expr" "x" ++ text "") 11 4
    ∷ taken (in_entry ++ wholes "assign" ++ pair "location" "l" ++ pair "expr" "" ++ text "x")
    -- An invoke has no such pairs.
    ∷ taken (
    in_state ++ opens "invoke" ++ pair "type" "" ++ pair "typeexpr" "" ++ pair "src" "" ++ pair "srcexpr" "" ++ pair "id" "" ++ pair "idlocation" "")
    ∷ []

-- ---- "Are binding, history type, transition type words that src/fsm.rs takes? 12"

unfoldable pub twelve : List Given
unfolding str feed empty
twelve =
    gets (scxml ++ pair "binding" "x") 12 1
    ∷ gets (scxml ++ pair "binding" "") 12 1
    ∷ taken (scxml ++ pair "binding" "LATE")
    ∷ gets (in_state ++ opens "history" ++ pair "type" "none") 12 3
    ∷ taken (in_state ++ opens "history" ++ pair "type" "")
    ∷ taken (in_state ++ opens "history" ++ pair "type" "Deep")
    ∷ gets (in_state ++ opens "transition" ++ pair "type" "x") 12 3
    ∷ gets (in_state ++ opens "transition" ++ pair "type" " internal") 12 3
    ∷ taken (in_state ++ opens "transition" ++ pair "type" "Internal")
    ∷ taken (in_state ++ opens "transition" ++ pair "type" "")
    -- On other elements the words are free.
    ∷ taken (in_state ++ opens "state" ++ pair "type" "x" ++ pair "binding" "x")
    -- Before 13.
    ∷ gets (in_state ++ opens "initial" ++ empties "transition" ++ empties "transition" ++ pair "type" "x") 12 5
    ∷ []

-- ---- "For `initial`, and a transition in it: is the state's initial 0? 13"

unfoldable pub thirteen : List Given
unfolding str feed empty
thirteen =
    gets (scxml ++ opens "state" ++ pair "initial" "" ++ opens "initial") 13 3
    ∷ gets (in_state ++ opens "initial" ++ empties "transition" ++ empties "transition") 13 5
    ∷ gets (in_state ++ opens "initial" ++ empties "transition" ++ ends "initial" ++ empties "initial") 13 6
    ∷ taken (in_state ++ empties "initial" ++ opens "initial" ++ empties "transition")
    -- After a default initial was given.
    ∷ gets (scxml ++ opens "state" ++ pair "id" "a" ++ empties "state" ++ ends "state" ++ opens "state" ++ pair "id" "a" ++ opens "initial") 13 6
    ∷ taken (scxml ++ opens "parallel" ++ opens "initial" ++ empties "transition")
    ∷ []

-- ---- "Does the else walk meet an if in every region? 14"

unfoldable pub fourteen : List Given
unfolding str feed empty
fourteen =
    gets (in_if ++ empties "else" ++ empties "else") 14 6
    ∷ gets (in_if ++ empties "else" ++ empties "elseif" ++ pair "cond" "d") 14 6
    ∷ gets (in_if ++ empties "else" ++ empties "raise" ++ pair "event" "e" ++ empties "else") 14 7
    ∷ taken (in_if ++ empties "elseif" ++ pair "cond" "d" ++ empties "elseif" ++ pair "cond" "e" ++ empties "else")
    -- An if in the first branch plays no part; a log without expr does not disturb the walk.
    ∷ gets (in_if ++ empties "if" ++ pair "cond" "d" ++ empties "else" ++ empties "else") 14 7
    ∷ taken (in_if ++ empties "else" ++ empties "if" ++ pair "cond" "d" ++ empties "log" ++ empties "else")
    ∷ gets (in_if ++ empties "else" ++ empties "if" ++ pair "cond" "d" ++ empties "log" ++ pair "expr" "" ++ empties "else") 14 8
    -- d's own else region is empty.
    ∷ gets (in_if ++ empties "else" ++ opens "if" ++ pair "cond" "d" ++ empties "else" ++ ends "if" ++ empties "else") 14 9
    ∷ []

-- ---- "Would the chart stay within the limits? 15": document 01's own numbers, in stores that are nearly full. State 256 and 257: k states whose names are
-- 1, 2, .. k bytes long.

abbrev named : ℕ → Row
named k = made table.states (state.name ≔ 1 ∷ suc state.name ≔ k ∷ [])

unfoldable pub named_to : ℕ → Table
unfolding made
named_to zero = []
named_to (suc k) = named_to k ++ named (suc k) ∷ []

-- In an element g, in state 1 and region 1, with an invoke; as many are drawn and charged as is said.
abbrev nearly : ℕ → List Table → ℕ → ℕ → ℕ → ℕ → Store
nearly g ts i d n c =
    record {
      numbers =
          record {
            tables = set (set ts table.opened (made table.opened (opened.tag ≔ g ∷ opened.state ≔ 1 ∷ []) ∷ [])) table.open_names (blank table.open_names ∷ []);
            current = 1;
            ids = i;
            docs = d;
            names = n;
            charge = c;
          };
      text = replicate 256 120;
    }

abbrev few : List Table
few =
    set (
    set (set no_tables table.states (named_to 1)) table.regions (made table.regions (region.number ≔ 1 ∷ []) ∷ [])) table.invokes (made table.invokes (invoke.state ≔ 1 ∷ []) ∷ [])

-- The table t has one row fewer than its limit m, and then as many.
abbrev up_to : ℕ → ℕ → ℕ → List ℕ → List Given
up_to t m g e =
    record { from = nearly g (set few t (replicate (m - 1) (blank t))) 9 9 9 256; stream = e; answer = 0; refused = 0 }
    ∷ record { from = nearly g (set few t (replicate m (blank t))) 9 9 9 256; stream = e; answer = 15; refused = 1 }
    ∷ []

-- From a store in which i ids, d doc ids and n names are drawn and c is charged.
abbrev from : ℕ → ℕ → ℕ → ℕ → ℕ → List ℕ → ℕ → ℕ → Given
from g i d n c e k r = record { from = nearly g few i d n c; stream = e; answer = k; refused = r }

unfoldable pub fifteen : List Given
unfolding str feed empty no_tables made named_to blank
fifteen =
    record { from = nearly tag.scxml (set few table.states (named_to 255)) 9 9 9 256; stream = opens "state" ++ pair "id" "a"; answer = 0; refused = 0 }
    ∷ record { from = nearly tag.scxml (set few table.states (named_to 256)) 9 9 9 256; stream = opens "state" ++ pair "id" "a"; answer = 15; refused = 1 }
    ∷ record { from = nearly tag.scxml (set few table.states (named_to 256)) 9 9 9 256; stream = opens "state" ++ pair "id" "xxx"; answer = 0; refused = 0 }
    ∷ up_to table.transitions 512 tag.state (opens "transition")
    ++ up_to table.regions 512 tag.state (opens "onentry")
    ++ up_to table.entries 2048 tag.onentry (empties "raise" ++ pair "event" "e")
    ++ up_to table.invokes 64 tag.state (opens "invoke")
    ++ up_to table.datums 256 tag.datamodel (empties "data" ++ pair "id" "x")
    ++ up_to table.parameters 512 tag.invoke (opens "param" ++ pair "name" "x")
    ++ up_to table.members 4096 tag.onentry (ends "onentry")
    ++ from tag.state 65534 9 9 256 (opens "onentry") 0 0
    ∷ from tag.state 65535 9 9 256 (opens "onentry") 15 1
    ∷ from tag.state 9 65534 9 256 (opens "state" ++ pair "id" "x") 0 0
    ∷ from tag.state 9 65535 9 256 (opens "state" ++ pair "id" "x") 15 1
    ∷ from tag.state 9 9 65534 256 (opens "state") 0 0
    ∷ from tag.state 9 9 65535 256 (opens "state") 15 1
    ∷ from tag.onentry 9 9 9 65532 (empties "raise" ++ pair "event" "abc") 0 0
    ∷ from tag.onentry 9 9 9 65533 (empties "raise" ++ pair "event" "abc") 15 1
    ∷ []

-- ---- the table

unfoldable pub given : List Given
unfolding three lengths four five six seven eight nine ten eleven twelve thirteen fourteen fifteen
given =
    three ++ lengths ++ four ++ five ++ six ++ seven ++ eight ++ nine ++ ten ++ eleven ++ twelve ++ thirteen ++ fourteen ++ fifteen
