-- The words of a value that a walk has still before it.
use Rattle.std.specs.Prelude.{ℕ, Bool, List, [], drop}
use Rattle.definition.specs.Text.{Piece, pieces}

-- From a place on.
unfoldable pub words_left : (ℕ → Bool) → List ℕ → ℕ → List Piece
unfolding pieces
words_left parts v at = pieces parts at [] (drop at v)
