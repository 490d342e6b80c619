-- The lines of a stream's first event, walked before its end is known.
use Rattle.std.specs.Prelude.{ℕ, ◌+◌, ◌≤◌, ◌<◌, ◌≡◌, true, false, ◌||◌, List, [], length, take, drop, eqb, ltb}
use Rattle.definition.specs.Text.{str}
use Rattle.definition.specs.Event.{Line, line_of, lines_from, tail_from}
use Rattle.lines.specs.Lines.{line_length, has_head, rest_length, event_length}
use Rattle.parts.specs.declared.Part.{Part}
use Rattle.parts.specs.Walked.{Pair}
use Rattle.parts.specs.Walked.{Walked}
use Rattle.parts.specs.Parts.{part_at, begun, broken}
use Rattle.walk.specs.Views.{Lined}
use Rattle.walk.specs.Views.{Last}
use Rattle.walk.specs.Walk.{placed_lines, walk, walked}

abbrev pub first_event : List ℕ → List ℕ
first_event s = take (event_length s) s

-- After the last line nothing is awaited, or the event is out of form like any other.
unfoldable pub settled : Walked → Walked
unfolding begun broken
settled w = elim (eqb w.next 2 || eqb w.next 4) [ true ↦ w | false ↦ broken begun ]

-- ---- a line

-- Where the line that begins at `at` ends, and its bytes.
abbrev pub end_of : List ℕ → ℕ → ℕ
end_of s at = at + line_length (drop at s)

abbrev pub line_in : List ℕ → ℕ → List ℕ
line_in s at = take (line_length (drop at s)) (drop at s)

-- A line in form: it is ended in an event that is not too long and begins no other event, and where f is what a line does, g is what this one does.
pub record InForm (s : List ℕ) (at : ℕ) (f : Line → Walked → Walked) (g : Walked → Walked) (after : ℕ) : Type 0 where
  pub next : after ≡ end_of s at + 1
  pub ended : end_of s at < length s
  pub short : end_of s at < 49152
  pub own : 0 < at → has_head (str "event=") (drop at s) ≡ false
  pub does : (d : Walked) → f (line_of (line_in s at)) d ≡ g d

pub record Takes (s : List ℕ) (at : ℕ) (f : Line → Walked → Walked) (g : Walked → Walked) (r : Lined) : Type 0 where
  pub good : r.ok ≡ true → InForm s at f g r.next
  pub bad : r.ok ≡ false → end_of s at < length s → end_of s at < 49152 → (d : Walked) → f (line_of (line_in s at)) d ≡ broken d

-- ---- on the way

-- What is left from `at` on, walked from d, is the whole, walked from the start.
pub record Left (raw : List ℕ) (at : ℕ) (d : Walked) : Type 0 where
  pub within : at ≤ length raw
  pub rest : walk (placed_lines at (lines_from [] (drop at raw))) d ≡ walk (placed_lines 0 (lines_from [] raw)) begun
  pub tail : tail_from [] (drop at raw) ≡ tail_from [] raw

-- The lines of the first event up to `at` have brought d, and another event may begin there.
pub record Reached (s : List ℕ) (at : ℕ) (d : Walked) : Type 0 where
  pub left : Left (first_event s) at d
  pub within : at ≤ length s
  pub short : at ≤ 49152
  pub on : event_length s ≡ at + rest_length (ltb 0 at) (drop at s)

-- With attributes, and nothing awaited.
abbrev pub made : ℕ → ℕ → Part → ℕ → List Pair → Walked
made kind tag name count pairs =
    record {
      next = 2;
      kind = kind;
      tag = tag;
      name = name;
      code = 0;
      key = part_at 0 0 0;
      count = count;
      pairs = pairs;
      text = part_at 0 0 0;
    }

-- ---- what follows the attributes

abbrev pub closed : Last → Walked → Walked
closed l w =
    record {
      next = l.next;
      kind = w.kind;
      tag = w.tag;
      name = w.name;
      code = w.code;
      key = w.key;
      count = w.count;
      pairs = w.pairs;
      text = l.text;
    }

-- After the attributes of w the event is out of form, or it is w with l.
pub record Ends (s : List ℕ) (w : Walked) (l : Last) : Type 0 where
  pub lost : l.next ≡ 5 → broken begun ≡ settled (walked (first_event s))
  pub whole : (l.next ≡ 5 → ⊥) → closed l w ≡ settled (walked (first_event s))
  pub end : (l.next ≡ 5 → ⊥) → l.end ≡ event_length s

-- Whatever the attributes are that end at `at`.
abbrev pub Closes : List ℕ → ℕ → Last → Type 0
Closes s at l = (kind tag : ℕ) (name : Part) (count : ℕ) (ps : List Pair) → Reached s at (made kind tag name count ps) → Ends s (made kind tag name count ps) l
