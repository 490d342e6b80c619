-- What an event's lines have brought: each part by where it is written, and the numbers of its element and keys.
use Rattle.std.specs.Prelude.{ℕ, ◌+◌, min, Bool, true, false, List, [], ◌∷◌, set, replicate, ltb, Option, Some, None}
use Rattle.definition.specs.Limits.{limits01}
use Rattle.parts.specs.declared.Part.{Part}
use Rattle.definition.specs.Codes.{kind_code, tag_number, key_code}
use Rattle.parts.specs.declared.Pair as code
use Rattle.parts.specs.Walked.{Walked, Pair}
use Rattle.parts.specs.declared.Heading.{Heading}

abbrev pub part_at : ℕ → ℕ → ℕ → Part
part_at at len size = record { at = at; len = len; size = size }

abbrev pub no_pair : Pair
no_pair = record { code = 0; key = part_at 0 0 0; value = part_at 0 0 0 }

abbrev pub no_pairs : List Pair
no_pairs = replicate 16 no_pair

-- `next` says which line may come: 0 `event=`, 1 `name=`, 2 `key=`, `text=` or none, 3 `value=`, 4 none; 5: the event is out of form.
unfoldable pub begun : Walked
begun =
    record {
      next = 0;
      kind = 0;
      tag = 0;
      name = part_at 0 0 0;
      code = 0;
      key = part_at 0 0 0;
      count = 0;
      pairs = no_pairs;
      text = part_at 0 0 0;
    }

-- After a line that is out of form, and with a part more.
unfoldable pub broken : Walked → Walked
broken d =
    record {
      next = 5;
      kind = d.kind;
      tag = d.tag;
      name = d.name;
      code = d.code;
      key = d.key;
      count = d.count;
      pairs = d.pairs;
      text = d.text;
    }

unfoldable pub with_kind : ℕ → Walked → Walked
with_kind k d =
    record {
      next = 1;
      kind = k;
      tag = d.tag;
      name = d.name;
      code = d.code;
      key = d.key;
      count = d.count;
      pairs = d.pairs;
      text = d.text;
    }

unfoldable pub with_name : ℕ → Part → Walked → Walked
with_name g p d =
    record {
      next = 2;
      kind = d.kind;
      tag = g;
      name = p;
      code = d.code;
      key = d.key;
      count = d.count;
      pairs = d.pairs;
      text = d.text;
    }

unfoldable pub with_key : ℕ → Part → Walked → Walked
with_key c p d =
    record {
      next = 3;
      kind = d.kind;
      tag = d.tag;
      name = d.name;
      code = c;
      key = p;
      count = d.count;
      pairs = d.pairs;
      text = d.text;
    }

-- The key has its value.
unfoldable pub with_value : Part → Walked → Walked
with_value p d =
    record {
      next = 2;
      kind = d.kind;
      tag = d.tag;
      name = d.name;
      code = 0;
      key = part_at 0 0 0;
      count = d.count + 1;
      pairs = set d.pairs d.count (record { code = d.code; key = d.key; value = p });
      text = d.text;
    }

unfoldable pub with_text : Part → Walked → Walked
with_text p d =
    record {
      next = 4;
      kind = d.kind;
      tag = d.tag;
      name = d.name;
      code = d.code;
      key = d.key;
      count = d.count;
      pairs = d.pairs;
      text = p;
    }

-- "16 attributes."
unfoldable pub room_left : ℕ → Bool
room_left count = ltb count limits01.attributes

-- How many of 16 places are attributes.
abbrev pub at_most16 : ℕ → ℕ
at_most16 c = min c 16

unfoldable pub added_value : Part → Walked → Walked
unfolding room_left with_value broken
added_value p d = elim (room_left d.count) [ true ↦ with_value p d | false ↦ broken d ]

-- ---- what the code has, in numbers

unfoldable pub pair_of : code.Pair → Pair
pair_of p = record { code = key_code p.code; key = p.key; value = p.value }

unfoldable pub pairs_of : List code.Pair → List Pair
unfolding pair_of
pairs_of [] = []
pairs_of (p ∷ ps) = pair_of p ∷ pairs_of ps

-- 4 after a text, 2 without one; and the text.
abbrev pub next_of : Option Part → ℕ
next_of None = 2
next_of (Some t) = 4

abbrev pub text_of : Option Part → Part
text_of None = part_at 0 0 0
text_of (Some t) = t

-- What a heading and the attributes beside it say together, where no key awaits its value.
unfoldable pub made_by : Heading → List Pair → Walked
made_by h ps =
    record {
      next = next_of h.text;
      kind = kind_code h.kind;
      tag = tag_number h.tag;
      name = h.name;
      code = 0;
      key = part_at 0 0 0;
      count = h.count;
      pairs = ps;
      text = text_of h.text;
    }

-- Without a heading the event is out of form.
unfoldable pub walked_by : Option Heading → List code.Pair → Walked
unfolding made_by pairs_of
walked_by None ps =
    record {
      next = 5;
      kind = 0;
      tag = 0;
      name = part_at 0 0 0;
      code = 0;
      key = part_at 0 0 0;
      count = 0;
      pairs = pairs_of ps;
      text = part_at 0 0 0;
    }
walked_by (Some h) ps = made_by h (pairs_of ps)
