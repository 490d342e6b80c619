-- An event's bytes taken apart.
use Rattle.std.specs.Prelude.{ℕ, List}
use Rattle.parts.specs.declared.Part.{Part}
use Rattle.parts.specs.Walked.{Pair}

-- Its kind from 0 and its element's number; the first `count` of `pairs` are its attributes, in order. Of kind 2, `whole`, `text` is the text. A refused event has
-- the number of the question that is answered no, and zeros.
pub record Described : Type 0 where
  pub number : ℕ
  pub kind : ℕ
  pub tag : ℕ
  pub name : Part
  pub count : ℕ
  pub pairs : List Pair
  pub text : Part
