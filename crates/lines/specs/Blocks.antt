-- What is asked of a block of bytes before it is passed.
use Rattle.std.specs.Prelude.{ℕ, ◌≡◌, Bool, true, ◌&&◌, not, List, [], ◌∷◌, eqb}
use Rattle.definition.specs.Text.{is_allowed}

-- Whether `p` holds of each byte.
unfoldable pub all : (ℕ → Bool) → List ℕ → Bool
all p [] = true
all p (b ∷ bs) = p b && all p bs

-- What a test may answer is what `p` says.
abbrev pub Tells : (ℕ → Bool) → (ℕ → Bool → Type 0) → Type 0
Tells p post = (b : ℕ) (r : Bool) → post b r → r ≡ p b

-- Whether a byte does not end its line.
unfoldable pub is_within_line : ℕ → Bool
is_within_line b = not (eqb b 10)

-- Whether a byte on a line is the text's byte.
unfoldable pub is_plain : ℕ → Bool
unfolding is_allowed
is_plain b = not (eqb b 92) && is_allowed b

-- Whether a byte is a text's byte on its line.
unfoldable pub is_text : ℕ → Bool
unfolding is_within_line is_plain
is_text b = is_within_line b && is_plain b
