-- The table of an event's texts: for each key where its value lies in the text after the event, and where the event's own text does.
use Rattle.std.specs.Prelude.{ℕ, suc, ◌+◌, ◌≤◌, ◌≡◌, Bool, true, false, List, length, replicate, eqb}
use Rattle.std.proofs.Math.Option.{Option, none, some}
use Rattle.definition.specs.Text.{quoted, trim}
use Rattle.definition.specs.Rows.{Cell, no_cell}
use Rattle.definition.specs.Look.{payload, text_loads, name_loads, shift}
use Rattle.plain.specs.Plain.{Parsed}
use Rattle.payload.specs.declared.Ends.{Ends}
use Rattle.payload.specs.Payload.{made_in, all_loads, ends_in}
use Rattle.fill.specs.Fill.{cell}
use Rattle.texts.specs.Texts.{texts_in, closed}

-- The text lies at `at`: trimmed, but for an assign's; d without one.
unfoldable pub trimmed_of : ℕ → ℕ → Option (List ℕ) → Cell → Cell
unfolding shift
trimmed_of g at none d = d
trimmed_of g at (some v) d = elim (eqb g 23) [ true ↦ d | false ↦ shift at (trim v) ]

-- An assign's, in quotes.
unfoldable pub quoted_of : ℕ → ℕ → Option (List ℕ) → Cell
unfolding cell no_cell
quoted_of g at none = no_cell
quoted_of g at (some v) = elim (eqb g 23) [ true ↦ cell (suc at) (length (quoted v)) | false ↦ no_cell ]

-- The payload begins at b; n names were generated before.
unfoldable pub event_texts : ℕ → ℕ → Parsed → List ℕ
unfolding closed texts_in all_loads trimmed_of quoted_of
event_texts b n v =
    let at : ℕ = b + length (payload v.values) in
    closed (trimmed_of v.tag at v.text no_cell) (quoted_of v.tag at v.text) (trimmed_of v.tag at v.text (cell (suc b) 0)) (texts_in b (all_loads v n) (replicate 64 0))

-- The values end at `values`, the text at `text`, a generated name at `all`.
pub record Ended (b : ℕ) (v : Parsed) (e : Ends) : Type 0 where
  pub values : e.values ≡ b + length (payload v.values)
  pub text : e.text ≡ e.values + length (payload (text_loads v.tag v.text))
  pub made : e.text ≤ e.all
  pub small : e.all ≤ 65535

-- Whatever name was generated from `at` to `end`.
abbrev pub Named : Bool → ℕ → ℕ → List ℕ → List ℕ → Type 0
Named made at end t u = (n : ℕ) → end ≡ at + length (payload (name_loads made n)) → u ≡ texts_in at (name_loads made n) t

-- However many names were generated before.
abbrev pub Texts : ℕ → Parsed → Bool → Ends → List ℕ → Type 0
Texts b v made e r = (n : ℕ) → made ≡ made_in v → e ≡ ends_in b v n → r ≡ event_texts b n v
