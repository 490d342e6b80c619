-- When a part of an event's bytes reads as a text of the definition's event.
use Rattle.std.specs.Prelude.{ℕ, ◌≡◌, List, [], ◌∷◌, length}
use Rattle.std.proofs.Math.Option.{some}
use Rattle.definition.specs.Elements.{key_of}
use Rattle.definition.specs.Event.{Attribute, legible}
use Rattle.lines.specs.Parts.{part}
use Rattle.parts.specs.declared.Part.{Part}
use Rattle.parts.specs.Walked.{Pair}

-- What stands there is v, unescaped, and its length is told.
pub record Reads (raw : List ℕ) (p : Part) (v : List ℕ) : Type 0 where
  pub shown : legible (part raw p.at p.len) ≡ some v
  pub long : p.size ≡ length v

-- A key by its number too.
pub record PairReads (raw : List ℕ) (p : Pair) (a : Attribute) : Type 0 where
  pub code : p.code ≡ key_of a.key
  pub key : Reads raw p.key a.key
  pub value : Reads raw p.value a.value

-- All attributes, in order.
pub data Pairs (raw : List ℕ) : List Pair → List Attribute → Type 0 where
  no_pairs_lem : Pairs raw [] []
  pair : {p : Pair} {a : Attribute} {ps : List Pair} {ats : List Attribute} → PairReads raw p a → Pairs raw ps ats → Pairs raw (p ∷ ps) (a ∷ ats)
