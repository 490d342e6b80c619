-- An event's bytes taken apart: what the walk over its lines has brought, if the event is in form and its keys are different.
use Rattle.std.specs.Prelude.{ℕ, zero, suc, ◌≡◌, Bool, true, false, ◌&&◌, not, List, [], ◌∷◌, take, replicate, eqb, Result, Ok, Err}
use Rattle.definition.specs.Text.{same}
use Rattle.definition.specs.Elements.{key_of, holds_text}
use Rattle.definition.specs.Event.{legible}
use Rattle.lines.specs.Parts.{part, or_nothing}
use Rattle.parts.specs.declared.Part.{Part}
use Rattle.definition.specs.declared.codes.Refusal.{Refusal}
use Rattle.definition.specs.Codes.{kind_number, tag_number, refusal_number}
use Rattle.parts.specs.declared.Pair as code
use Rattle.parts.specs.Walked.{Walked, Pair}
use Rattle.parts.specs.Parts.{part_at, no_pair, pairs_of, text_of}
use Rattle.walk.specs.Walk.{walked}
use Rattle.event.specs.Description.{Described}
use Rattle.event.specs.declared.Head.{Head}

-- Refused: the number of the question that is answered no, and zeros.
unfoldable pub blank : ℕ → Described
blank n =
    record {
      number = n;
      kind = 0;
      tag = 0;
      name = part_at 0 0 0;
      count = 0;
      pairs = replicate 16 no_pair;
      text = part_at 0 0 0;
    }

-- What a head and the attributes beside it say together.
unfoldable pub described_by : Head → List code.Pair → Described
unfolding pairs_of
described_by h ps =
    record {
      number = 0;
      kind = kind_number h.kind;
      tag = tag_number h.tag;
      name = h.name;
      count = h.count;
      pairs = pairs_of ps;
      text = text_of h.text;
    }

-- The same where the event may be refused.
unfoldable pub told_by : Result Head Refusal → List code.Pair → Described
unfolding described_by pairs_of
told_by (Ok h) ps = described_by h ps
told_by (Err r) ps =
    record {
      number = refusal_number r;
      kind = 0;
      tag = 0;
      name = part_at 0 0 0;
      count = 0;
      pairs = pairs_of ps;
      text = part_at 0 0 0;
    }

-- Taken apart: what the lines have brought.
unfoldable pub description_of : Walked → Described
description_of w =
    record {
      number = 0;
      kind = w.kind;
      tag = w.tag;
      name = w.name;
      count = w.count;
      pairs = w.pairs;
      text = w.text;
    }

-- ---- question 3: "Is the event in form and within its own limits, bytes up to 127?"

-- "`text=` last and exactly for `whole`"; "`end` has no pairs"; "`data`, `script`, `content`, `assign` come as `whole` or `empty`, never `open`, and nothing else is
-- `whole`." `next` is 4 after a text and 2 without one.
unfoldable pub shape_fits : ℕ → ℕ → ℕ → Bool → Bool
shape_fits zero next count holds = eqb next 2 && not holds
shape_fits (suc zero) next count holds = eqb next 2
shape_fits (suc (suc zero)) next count holds = eqb next 4 && holds
shape_fits (suc (suc (suc zero))) next count holds = eqb next 2 && eqb count 0
shape_fits (suc (suc (suc (suc k)))) next count holds = false

unfoldable pub in_shape : Walked → Bool
unfolding shape_fits holds_text
in_shape w = shape_fits w.kind w.next w.count (holds_text w.tag)

-- ---- question 4: "Are its keys different?"

unfoldable pub read : List ℕ → Part → List ℕ
unfolding part or_nothing legible
read raw p = or_nothing (legible (part raw p.at p.len))

-- A pair has its key's number.
abbrev pub IsCoded : List ℕ → Pair → Type 0
IsCoded raw p = p.code ≡ key_of (read raw p.key)

-- Each pair has it.
unfoldable pub Coded : List ℕ → List Pair → Type 0
unfolding read
Coded raw [] = Unit
Coded raw (p ∷ ps) = (p.code ≡ key_of (read raw p.key)) × Coded raw ps

unfoldable pub pair_keys : List ℕ → List Pair → List (List ℕ)
unfolding read
pair_keys raw [] = []
pair_keys raw (p ∷ ps) = read raw p.key ∷ pair_keys raw ps

unfoldable pub is_among : List ℕ → List (List ℕ) → Bool
unfolding same
is_among k [] = false
is_among k (j ∷ js) = elim (same j k) [ true ↦ true | false ↦ is_among k js ]

unfoldable pub all_differ : List (List ℕ) → Bool
unfolding is_among
all_differ [] = true
all_differ (k ∷ ks) = elim (is_among k ks) [ true ↦ false | false ↦ all_differ ks ]

-- ---- the description

unfoldable pub finished : List ℕ → Walked → Described
unfolding description_of blank in_shape all_differ pair_keys
finished raw w =
    elim (in_shape w) [
      | true ↦ elim (all_differ (pair_keys raw (take w.count w.pairs))) [ true ↦ description_of w | false ↦ blank 4 ]
      | false ↦ blank 3
    ]

unfoldable pub described : List ℕ → Described
unfolding finished walked
described raw = finished raw (walked raw)
