-- An event's lines walked in order.
use Rattle.std.specs.Prelude.{ℕ, zero, suc, ◌+◌, ◌≡◌, Bool, true, false, ◌&&◌, List, [], ◌∷◌, length, leb}
use Rattle.definition.specs.Limits.{limits01}
use Rattle.definition.specs.Text.{place_in}
use Rattle.definition.specs.Elements.{tag_of, key_of}
use Rattle.definition.specs.Event as E
use Rattle.definition.specs.Event.{Line, line_of, lines_from, tail_from, is_nil, kind_names}
use Rattle.walk.specs.Views.{Scan}
use Rattle.walk.specs.Views.{measured}
use Rattle.parts.specs.declared.Part.{Part}
use Rattle.parts.specs.Walked.{Walked}
use Rattle.parts.specs.Parts.{part_at, begun, broken, with_kind, with_name, with_key, with_text, added_value}
use Rattle.walk.specs.Views.{Found}

-- A decoded line and where it begins.
pub data Placed : Type 0 where
  line : ℕ → Line → Placed

unfoldable pub placed_lines : ℕ → List (List ℕ) → List Placed
placed_lines at [] = []
placed_lines at (l ∷ ls) = line at (line_of l) ∷ placed_lines (at + suc (length l)) ls

-- Whether what was measured is legible and of a length within the limits.
unfoldable pub fits : ℕ → ℕ → Scan → Bool
fits low high s = s.ok && leb low s.len && leb s.len high

-- What is written at a place, measured.
unfoldable pub written : ℕ → List ℕ → Part
unfolding measured
written at x = part_at at (length x) (measured x).len

unfoldable pub found : ℕ → ℕ → ℕ → List ℕ → Found
unfolding fits measured written
found low high at x =
    elim (fits low high (measured x)) [
      | true ↦ record { ok = true; part = written at x }
      | false ↦ record { ok = false; part = part_at 0 0 0 }
    ]

-- A part of 1 to `high` bytes without an escape.
pub record AsWritten (high : ℕ) (x : List ℕ) : Type 0 where
  pub within : fits 1 high (measured x) ≡ true
  pub long : (measured x).len ≡ length x

-- Parts within their limits: "element name 1 to 64 bytes", "key 1 to 64; value 1,024; text 4,096".
unfoldable pub name_fits : List ℕ → Bool
unfolding fits measured
name_fits n = fits 1 limits01.name (measured n)

unfoldable pub key_fits : List ℕ → Bool
unfolding fits measured
key_fits k = fits 1 limits01.key (measured k)

unfoldable pub value_fits : List ℕ → Bool
unfolding fits measured
value_fits v = fits 0 limits01.value (measured v)

unfoldable pub text_fits : List ℕ → Bool
unfolding fits measured
text_fits v = fits 0 limits01.text (measured v)

-- ---- a step: one line more

unfoldable pub on_event : Line → Walked → Walked
unfolding with_kind broken kind_names place_in
on_event (E.event k) d = with_kind (place_in kind_names k) d
on_event (E.name n) d = broken d
on_event (E.key k) d = broken d
on_event (E.value v) d = broken d
on_event (E.text v) d = broken d
on_event E.junk d = broken d

unfoldable pub on_name : ℕ → Line → Walked → Walked
unfolding with_name broken name_fits written tag_of
on_name at (E.event k) d = broken d
on_name at (E.name n) d = elim (name_fits n) [ true ↦ with_name (tag_of n) (written (at + 5) n) d | false ↦ broken d ]
on_name at (E.key k) d = broken d
on_name at (E.value v) d = broken d
on_name at (E.text v) d = broken d
on_name at E.junk d = broken d

unfoldable pub on_key : ℕ → Line → Walked → Walked
unfolding with_key with_text broken key_fits text_fits written key_of
on_key at (E.event k) d = broken d
on_key at (E.name n) d = broken d
on_key at (E.key k) d = elim (key_fits k) [ true ↦ with_key (key_of k) (written (at + 4) k) d | false ↦ broken d ]
on_key at (E.value v) d = broken d
on_key at (E.text v) d = elim (text_fits v) [ true ↦ with_text (written (at + 5) v) d | false ↦ broken d ]
on_key at E.junk d = broken d

unfoldable pub on_value : ℕ → Line → Walked → Walked
unfolding added_value broken value_fits written
on_value at (E.event k) d = broken d
on_value at (E.name n) d = broken d
on_value at (E.key k) d = broken d
on_value at (E.value v) d = elim (value_fits v) [ true ↦ added_value (written (at + 6) v) d | false ↦ broken d ]
on_value at (E.text v) d = broken d
on_value at E.junk d = broken d

unfoldable pub step : ℕ → ℕ → Line → Walked → Walked
unfolding on_event on_name on_key on_value broken
step zero at l d = on_event l d
step (suc zero) at l d = on_name at l d
step (suc (suc zero)) at l d = on_key at l d
step (suc (suc (suc zero))) at l d = on_value at l d
step (suc (suc (suc (suc n)))) at l d = broken d

unfoldable pub walk : List Placed → Walked → Walked
unfolding step
walk [] d = d
walk (line at l ∷ ls) d = walk ls (step d.next at l d)

-- The lines of an event; out of form where the last one is not ended.
unfoldable pub walked_lines : List ℕ → Walked
unfolding walk placed_lines lines_from begun broken tail_from is_nil
walked_lines raw =
    let w : Walked = walk (placed_lines 0 (lines_from [] raw)) begun in
    elim (is_nil (tail_from [] raw)) [ true ↦ w | false ↦ broken w ]

-- "Event lines 49,152 bytes." An event in form is shorter, so this only keeps places small.
unfoldable pub walked : List ℕ → Walked
unfolding walked_lines begun broken
walked raw = elim (leb (length raw) 49152) [ true ↦ walked_lines raw | false ↦ broken begun ]
