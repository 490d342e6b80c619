-- A text written into a lent buffer, and an assign's text byte by byte.
use Rattle.std.specs.Prelude.{ℕ, true, false, List, [], ◌∷◌, ◌++◌, length, drop, eqb, leb}
use Rattle.definition.specs.Text.{escaped_quotes}

-- The buffer afterwards: w, and behind it what stood there; where w does not fit, as it was.
unfoldable pub written : List ℕ → List ℕ → List ℕ
written w t = elim (leb (length w) (length t)) [ true ↦ w ++ drop (length w) t | false ↦ t ]

unfoldable pub written_length : List ℕ → List ℕ → ℕ
written_length w t = elim (leb (length w) (length t)) [ true ↦ length w | false ↦ 0 ]

-- One byte of an assign's text.
unfoldable pub escape : ℕ → List ℕ
escape b = elim (eqb b 34) [ true ↦ 92 ∷ 34 ∷ [] | false ↦ elim (eqb b 10) [ true ↦ 32 ∷ [] | false ↦ b ∷ [] ] ]

unfoldable pub in_quotes : List ℕ → List ℕ
in_quotes w = 34 ∷ escaped_quotes w ++ 34 ∷ []
