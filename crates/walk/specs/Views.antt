-- What code finds, in flags and numbers, as the definitions of the walk say it.
use Rattle.std.specs.Prelude.{ℕ, ◌+◌, Bool, true, false, List, length, Some, None}
use Rattle.std.specs.Prelude as std
use Rattle.std.proofs.Math.Option.{Option, none, some}
use Rattle.definition.specs.Event.{legible}
use Rattle.parts.specs.declared.Part.{Part}
use Rattle.parts.specs.Parts.{part_at, next_of, text_of}
use Rattle.walk.specs.declared.LineOf.{LineOf}
use Rattle.walk.specs.declared.Last as code

-- What a scan of a line finds: whether it is legible, and its unescaped length.
pub record Scan : Type 0 where
  pub ok : Bool
  pub len : ℕ

-- Of a text that can be read: that it can, and n more than its length.
unfoldable pub counted : ℕ → Option (List ℕ) → Scan
counted n none = record { ok = false; len = 0 }
counted n (some v) = record { ok = true; len = n + length v }

unfoldable pub measured : List ℕ → Scan
unfolding counted legible
measured raw = counted 0 (legible raw)

abbrev pub scan_of : std.Option ℕ → Scan
scan_of None = record { ok = false; len = 0 }
scan_of (Some n) = record { ok = true; len = n }

-- A part, and whether it is legible and within its limits.
pub record Found : Type 0 where
  pub ok : Bool
  pub part : Part

abbrev pub found_of : std.Option Part → Found
found_of None = record { ok = false; part = part_at 0 0 0 }
found_of (Some p) = record { ok = true; part = p }

-- A line: whether it is in form, the number of its kind, element or key, its part, and where the next line begins.
pub record Lined : Type 0 where
  pub ok : Bool
  pub code : ℕ
  pub part : Part
  pub next : ℕ

abbrev pub lined : {A : Type 0} → (A → ℕ) → std.Option (LineOf A) → Lined
lined number None = record { ok = false; code = 0; part = part_at 0 0 0; next = 0 }
lined number (Some l) = record { ok = true; code = number l.what; part = l.part; next = l.next }

abbrev pub no_number : Unit {0} → ℕ
no_number u = 0

-- What follows the attributes, and where the event ends: `next` is 4 after a text and 2 without one, 5 where the event is out of form.
pub record Last : Type 0 where
  pub next : ℕ
  pub text : Part
  pub end : ℕ

abbrev pub last_of : std.Option code.Last → Last
last_of None = record { next = 5; text = part_at 0 0 0; end = 0 }
last_of (Some l) = record { next = next_of l.text; text = text_of l.text; end = l.end }
