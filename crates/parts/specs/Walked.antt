-- What lines have brought so far.
use Rattle.std.specs.Prelude.{ℕ, List}
use Rattle.parts.specs.declared.Part.{Part}

-- An attribute: its key's number, 0 where the key is unknown, and both parts.
pub record Pair : Type 0 where
  pub code : ℕ
  pub key : Part
  pub value : Part

-- The first `count` of `pairs` are the attributes, in order; `code` and `key` are of a key that awaits its value. For `next` see Parts: begun.
pub record Walked : Type 0 where
  pub next : ℕ
  pub kind : ℕ
  pub tag : ℕ
  pub name : Part
  pub code : ℕ
  pub key : Part
  pub count : ℕ
  pub pairs : List Pair
  pub text : Part
