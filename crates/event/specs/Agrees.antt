-- THE CLAIM of the description: it agrees with the definition's event, in form or not, keys different or not.
use Rattle.std.specs.Prelude.{ℕ, ◌≡◌, true, false, List, length, take}
use Rattle.std.proofs.Math.Option.{Option, none, some}
use Rattle.definition.specs.Limits.{limits01}
use Rattle.definition.specs.Elements.{tag_of}
use Rattle.definition.specs.Event.{Event, read_event, in_form, keys_differ}
use Rattle.parts.specs.declared.Part.{Part}
use Rattle.walk.specs.Reads.{Reads, Pairs}
use Rattle.event.specs.Description.{Described}
use Rattle.event.specs.Described.{blank}

-- A text where the event has one.
pub data TextDescribed (raw : List ℕ) (p : Part) : Option (List ℕ) → Type 0 where
  no_text : TextDescribed raw p none
  a_text : (v : List ℕ) → Reads raw p v → TextDescribed raw p (some v)

-- d describes the event e, written in raw: every number, every attribute in order, and where each text stands.
pub record Describes (raw : List ℕ) (d : Described) (e : Event) : Type 0 where
  pub number : d.number ≡ 0
  pub kind : d.kind ≡ e.kind
  pub tag : d.tag ≡ tag_of e.name
  pub name : Reads raw d.name e.name
  pub count : d.count ≡ length e.attributes
  pub pairs : Pairs raw (take d.count d.pairs) e.attributes
  pub text : TextDescribed raw d.text e.text

-- The numbers 3 and 4 with zeros, or 0 with the event's parts.
pub data Agrees (raw : List ℕ) (d : Described) : Type 0 where
  out_of_form : d ≡ blank 3 → ((e : Event) → read_event raw ≡ some e → in_form limits01 e ≡ true → ⊥) → Agrees raw d
  keys_repeat : (e : Event) → d ≡ blank 4 → read_event raw ≡ some e → in_form limits01 e ≡ true → keys_differ e.attributes ≡ false → Agrees raw d
  in_form_lem : (e : Event) → read_event raw ≡ some e → in_form limits01 e ≡ true → keys_differ e.attributes ≡ true → Describes raw d e → Agrees raw d
