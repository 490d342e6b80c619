-- What is seen of an event, in the definition and in a slice where all its parts stand as they are read.
use Rattle.std.specs.Prelude.{ℕ, ◌+◌, ◌*◌, ◌<◌, ◌≤◌, ◌≡◌, Bool, true, false, List, [], ◌∷◌, map, length, take, eqb}
use Rattle.std.proofs.Math.Option.{Option, none, some}
use Rattle.definition.specs.Limits.{limits01}
use Rattle.definition.specs.Elements.{tag_of}
use Rattle.definition.specs.Codes.{kind_number, tag_number, key_code}
use Rattle.definition.specs.Event.{Event, kind}
use Rattle.definition.specs.Look.{Load, value_loads}
use Rattle.lines.specs.Parts.{part}
use Rattle.parts.specs.declared.Part.{Part}
use Rattle.parts.specs.Walked.{Pair}
use Rattle.parts.specs.Parts.{part_at}
use Rattle.event.specs.Description.{Described}
use Rattle.event.specs.Described.{read}
use Rattle.plain.specs.declared.Slot.{Slot}
use Rattle.plain.specs.declared.Plain.{Plain}

-- All that `look` reads of an event.
pub record Parsed : Type 0 where
  pub kind : ℕ
  pub tag : ℕ
  pub name : List ℕ
  pub values : List Load
  pub text : Option (List ℕ)

unfoldable pub parsed_of : Event → Parsed
unfolding value_loads tag_of
parsed_of e = record { kind = e.kind; tag = tag_of e.name; name = e.name; values = value_loads e.attributes; text = e.text }

-- A text is told by the kind.
unfoldable pub text_if : ℕ → List ℕ → Option (List ℕ)
text_if k v = elim (eqb k kind.whole) [ true ↦ some v | false ↦ none ]

unfoldable pub text_part : ℕ → Part → Part
text_part k p = elim (eqb k kind.whole) [ true ↦ p | false ↦ part_at 0 0 0 ]

-- In a slice, where all parts stand as they are read.
abbrev pub slot_bytes : List ℕ → Slot → List ℕ
slot_bytes src s = part src s.at s.len

unfoldable pub loads_in : List ℕ → List Slot → List Load
unfolding part
loads_in src [] = []
loads_in src (s ∷ ss) = record { key = key_code s.code; bytes = slot_bytes src s } ∷ loads_in src ss

abbrev pub slots_of : Plain → List Slot
slots_of p = take p.count p.slots

unfoldable pub parsed_in : List ℕ → Plain → Parsed
unfolding loads_in text_if part
parsed_in src p =
    record {
      kind = kind_number p.kind;
      tag = tag_number p.tag;
      name = slot_bytes src p.name;
      values = loads_in src (slots_of p);
      text = text_if (kind_number p.kind) (slot_bytes src p.text);
    }

-- As it is written, and read unescaped.
unfoldable pub read_loads : List ℕ → List Pair → List Load
unfolding read
read_loads raw [] = []
read_loads raw (p ∷ ps) = record { key = p.code; bytes = read raw p.value } ∷ read_loads raw ps

unfoldable pub parsed_raw : List ℕ → Described → Parsed
unfolding read_loads read text_if
parsed_raw raw d =
    record {
      kind = d.kind;
      tag = d.tag;
      name = read raw d.name;
      values = read_loads raw (take d.count d.pairs);
      text = text_if d.kind (read raw d.text);
    }

-- No escape: as long as it is written.
unfoldable pub is_plain : Part → Bool
is_plain p = eqb p.len p.size

unfoldable pub all_plain : List Pair → Bool
unfolding is_plain
all_plain [] = true
all_plain (p ∷ ps) = elim (is_plain p.value) [ true ↦ all_plain ps | false ↦ false ]

unfoldable pub plainly : Described → Bool
unfolding is_plain all_plain
plainly d =
    elim (is_plain d.name) [
      | true ↦ elim (is_plain d.text) [ true ↦ all_plain (take d.count d.pairs) | false ↦ false ]
      | false ↦ false
    ]

-- A part by its key's number, 0 where it has none, and where it is written.
pub record Span : Type 0 where
  pub code : ℕ
  pub at : ℕ
  pub len : ℕ

unfoldable pub span_of : ℕ → Part → Span
span_of k p = record { code = k; at = p.at; len = p.len }

unfoldable pub slot_of : Pair → Span
unfolding span_of
slot_of p = span_of p.code p.value

-- What the code has, in numbers.
unfoldable pub span_in : Slot → Span
span_in s = record { code = key_code s.code; at = s.at; len = s.len }

-- The parts where they are written; what stands past the first `count` slots is left open.
pub record PlainOf (d : Described) (r : Plain) : Type 0 where
  pub kind : kind_number r.kind ≡ d.kind
  pub tag : tag_number r.tag ≡ d.tag
  pub count : r.count ≡ d.count
  pub name : span_in r.name ≡ span_of 0 d.name
  pub text : span_in r.text ≡ span_of 0 d.text
  pub slots : map span_in (take d.count r.slots) ≡ map slot_of (take d.count d.pairs)

-- The lengths of all values as they are read.
unfoldable pub length_read : List ℕ → List Pair → ℕ
unfolding read
length_read raw [] = 0
length_read raw (p ∷ ps) = length (read raw p.value) + length_read raw ps

-- Room for the parts of any event in form.
abbrev pub copy_size : ℕ
copy_size = limits01.name + limits01.attributes * limits01.value + limits01.text

-- A copy of some length has room for all parts.
pub record Space (raw : List ℕ) (d : Described) (size : ℕ) : Type 0 where
  pub short : size < 65536
  pub fits : length (read raw d.name) + (length (read raw (text_part d.kind d.text)) + length_read raw (take d.count d.pairs)) ≤ size
