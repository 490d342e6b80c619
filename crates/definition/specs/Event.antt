-- Document 01, module 2: Event. Lines, escapes, the form and the event's own limits (question 3), keys that differ (question 4), a stream's events.
use Rattle.std.specs.Prelude.{ℕ, zero, suc, Bool, true, false, ◌&&◌, not, List, [], ◌∷◌, ◌++◌, map, length, eqb, leb}
use Rattle.std.proofs.Math.Option.{Option, none, some}
use Rattle.definition.specs.declared.Limits.{Limits}
use Rattle.definition.specs.Text.{str, same, all_allowed, place_in}
use Rattle.definition.specs.Elements.{tag_of, holds_text}

-- ---- lines

-- "Lines ended by byte 10": each with its bytes; w is already read.
unfoldable pub lines_from : List ℕ → List ℕ → List (List ℕ)
lines_from w [] = []
lines_from w (b ∷ bs) = elim (eqb b 10) [ true ↦ w ∷ lines_from [] bs | false ↦ lines_from (w ++ b ∷ []) bs ]

-- What follows the last byte 10.
unfoldable pub tail_from : List ℕ → List ℕ → List ℕ
tail_from w [] = w
tail_from w (b ∷ bs) = elim (eqb b 10) [ true ↦ tail_from [] bs | false ↦ tail_from (w ++ b ∷ []) bs ]

unfoldable pub is_nil : List ℕ → Bool
is_nil [] = true
is_nil (b ∷ bs) = false

-- What follows a head, if the line begins with it.
unfoldable pub after : List ℕ → List ℕ → Option (List ℕ)
after [] l = some l
after (h ∷ hs) [] = none
after (h ∷ hs) (b ∷ bs) = elim (eqb h b) [ true ↦ after hs bs | false ↦ none ]

-- A line by its head (`event=`, `name=`, `key=`, `value=`, `text=`), and what follows.
pub data Line : Type 0 where
  event name key value text : List ℕ → Line
  junk : Line

unfoldable pub headed : List ℕ → (List ℕ → Line) → Line → List ℕ → Line
unfolding after
headed h make else l = elim (after h l) [ some v ↦ make v | none ↦ else ]

unfoldable pub line_of : List ℕ → Line
unfolding headed str
line_of l =
    headed (str "value=") value (headed (str "key=") key (headed (str "event=") event (headed (str "name=") name (headed (str "text=") text junk l) l) l) l) l

-- ---- escapes

-- A byte in front of a text that can be read.
unfoldable pub prepend : ℕ → Option (List ℕ) → Option (List ℕ)
prepend b none = none
prepend b (some v) = some (b ∷ v)

-- "Byte 10 is written `\n` and backslash `\\`." Any other backslash is out of form; `true` says that the byte before was one that escapes.
unfoldable pub unescape_from : Bool → List ℕ → Option (List ℕ)
unfolding prepend
unescape_from false [] = some []
unescape_from true [] = none
unescape_from false (b ∷ bs) = elim (eqb b 92) [ true ↦ unescape_from true bs | false ↦ prepend b (unescape_from false bs) ]
unescape_from true (b ∷ bs) =
    elim (eqb b 110) [
      | true ↦ prepend 10 (unescape_from false bs)
      | false ↦ elim (eqb b 92) [ true ↦ prepend 92 (unescape_from false bs) | false ↦ none ]
    ]

unfoldable pub if_allowed : Option (List ℕ) → Option (List ℕ)
unfolding all_allowed
if_allowed none = none
if_allowed (some v) = elim (all_allowed v) [ true ↦ some v | false ↦ none ]

-- What is written on a line, unescaped, if it can be and has allowed bytes only.
unfoldable pub legible : List ℕ → Option (List ℕ)
unfolding unescape_from if_allowed
legible v = if_allowed (unescape_from false v)

-- ---- the event

pub record Attribute : Type 0 where
  pub key : List ℕ
  pub value : List ℕ

-- "`event=open`, `empty`, `whole` or `end`": in this order the kinds 0 to 3.
abbrev pub kind : record { opens : ℕ; empty : ℕ; whole : ℕ; ends : ℕ }
kind = record { opens = 0; empty = 1; whole = 2; ends = 3 }

unfoldable pub kind_names : List (List ℕ)
unfolding str
kind_names = str "open" ∷ str "empty" ∷ str "whole" ∷ str "end" ∷ []

pub record Event : Type 0 where
  pub kind : ℕ
  pub name : List ℕ
  pub attributes : List Attribute
  pub text : Option (List ℕ)

-- What follows the event's first two lines.
pub record Body : Type 0 where
  pub attributes : List Attribute
  pub text : Option (List ℕ)

unfoldable pub with_pair : Option (List ℕ) → Option (List ℕ) → Option Body → Option Body
with_pair none v b = none
with_pair (some k) none b = none
with_pair (some k) (some v) none = none
with_pair (some k) (some v) (some b) = some (record { attributes = record { key = k; value = v } ∷ b.attributes; text = b.text })

-- "`text=` last": no line follows.
unfoldable pub last_text : Option (List ℕ) → List Line → Option Body
last_text none ls = none
last_text (some v) [] = some (record { attributes = []; text = some v })
last_text (some v) (l ∷ ls) = none

-- Pairs and then perhaps a text. The first argument is the line `key=` that waits for its `value=`.
unfoldable pub body_of : Option (List ℕ) → List Line → Option Body
unfolding with_pair last_text legible
body_of none [] = some (record { attributes = []; text = none })
body_of (some k) [] = none
body_of none (key k ∷ ls) = body_of (some k) ls
body_of (some j) (key k ∷ ls) = none
body_of none (value v ∷ ls) = none
body_of (some k) (value v ∷ ls) = with_pair (legible k) (legible v) (body_of none ls)
body_of none (text v ∷ ls) = last_text (legible v) ls
body_of (some k) (text v ∷ ls) = none
body_of p (event n ∷ ls) = none
body_of p (name n ∷ ls) = none
body_of p (junk ∷ ls) = none

unfoldable pub event_with : ℕ → Option (List ℕ) → Option Body → Option Event
event_with k none b = none
event_with k (some n) none = none
event_with k (some n) (some b) = some (record { kind = k; name = n; attributes = b.attributes; text = b.text })

unfoldable pub named_event : ℕ → List Line → Option Event
unfolding event_with body_of legible
named_event k [] = none
named_event k (name n ∷ ls) = event_with k (legible n) (body_of none ls)
named_event k (event x ∷ ls) = none
named_event k (key x ∷ ls) = none
named_event k (value x ∷ ls) = none
named_event k (text x ∷ ls) = none
named_event k (junk ∷ ls) = none

unfoldable pub event_of_lines : List Line → Option Event
unfolding named_event kind_names place_in
event_of_lines [] = none
event_of_lines (event k ∷ ls) = named_event (place_in kind_names k) ls
event_of_lines (name x ∷ ls) = none
event_of_lines (key x ∷ ls) = none
event_of_lines (value x ∷ ls) = none
event_of_lines (text x ∷ ls) = none
event_of_lines (junk ∷ ls) = none

unfoldable pub lines_of : List ℕ → List Line
unfolding lines_from line_of
lines_of raw = map line_of (lines_from [] raw)

unfoldable pub read_event : List ℕ → Option Event
unfolding event_of_lines lines_of tail_from is_nil
read_event raw = elim (is_nil (tail_from [] raw)) [ true ↦ event_of_lines (lines_of raw) | false ↦ none ]

-- ---- question 3: "Is the event in form and within its own limits, bytes up to 127?"

unfoldable pub has_text : Option (List ℕ) → Bool
has_text none = false
has_text (some v) = true

unfoldable pub no_attributes : List Attribute → Bool
no_attributes [] = true
no_attributes (a ∷ ats) = false

-- "`text=` last and exactly for `whole`"; "`end` has no pairs"; "`data`, `script`, `content`, `assign` come as `whole` or `empty`, never `open`, and nothing
-- else is `whole`."
unfoldable pub kind_fits : ℕ → Event → Bool
unfolding has_text no_attributes holds_text
kind_fits zero e = not (has_text e.text) && not (holds_text (tag_of e.name))
kind_fits (suc zero) e = not (has_text e.text)
kind_fits (suc (suc zero)) e = has_text e.text && holds_text (tag_of e.name)
kind_fits (suc (suc (suc zero))) e = not (has_text e.text) && no_attributes e.attributes
kind_fits (suc (suc (suc (suc k)))) e = false

-- "Lengths are counted unescaped": names, keys, values and texts are read before they are measured.
unfoldable pub between : ℕ → ℕ → List ℕ → Bool
between low high v = leb low (length v) && leb (length v) high

unfoldable pub text_fits : Limits → Option (List ℕ) → Bool
unfolding between
text_fits L none = true
text_fits L (some v) = between 0 L.text v

unfoldable pub attributes_fit : Limits → List Attribute → Bool
unfolding between
attributes_fit L [] = true
attributes_fit L (a ∷ ats) = elim (between 1 L.key a.key && between 0 L.value a.value) [ true ↦ attributes_fit L ats | false ↦ false ]

unfoldable pub in_form : Limits → Event → Bool
unfolding kind_fits tag_of between attributes_fit text_fits
in_form L e =
    kind_fits e.kind e && between 1 L.name e.name && leb (length e.attributes) L.attributes && attributes_fit L e.attributes && text_fits L e.text

-- ---- question 4: "Are its keys different?"

unfoldable pub has_key : List ℕ → List Attribute → Bool
unfolding same
has_key k [] = false
has_key k (a ∷ ats) = elim (same a.key k) [ true ↦ true | false ↦ has_key k ats ]

unfoldable pub keys_differ : List Attribute → Bool
unfolding has_key
keys_differ [] = true
keys_differ (a ∷ ats) = elim (has_key a.key ats) [ true ↦ false | false ↦ keys_differ ats ]

-- ---- a stream

-- "In a stream an event runs to the next line beginning `event=` or to the end": the bytes of each event. e is the event that is read, and `start` says
-- that a line begins.
unfoldable pub begins_event : List ℕ → Bool
unfolding after str
begins_event t = elim (after (str "event=") t) [ some v ↦ true | none ↦ false ]

unfoldable pub flush : List ℕ → List (List ℕ) → List (List ℕ)
flush [] es = es
flush (b ∷ bs) es = (b ∷ bs) ∷ es

unfoldable pub cut : Bool → List ℕ → List ℕ → List (List ℕ)
unfolding flush begins_event
cut start e [] = flush e []
cut start e (b ∷ bs) =
    elim (start && begins_event (b ∷ bs)) [
      | true ↦ flush e (cut false (b ∷ []) bs)
      | false ↦ cut (eqb b 10) (e ++ b ∷ []) bs
    ]

unfoldable pub events_of : List ℕ → List (List ℕ)
unfolding cut
events_of t = cut true [] t
