-- What the lines of the program `chartlist` are made of: names, lists, numbers.
use Rattle.std.specs.Prelude.{ℕ, Bool, true, false, List, [], ◌∷◌, ◌++◌, eqb}
use Rattle.definition.specs.Text.{decimal}
use Rattle.definition.specs.Rows.{Table, listed, values_of}

-- "Names and lists escape like events": byte 10 as `\n`, backslash as `\\`. A list has digits and spaces only.
unfoldable pub escape : ℕ → List ℕ
escape b = elim (eqb b 10) [ true ↦ 92 ∷ 110 ∷ [] | false ↦ elim (eqb b 92) [ true ↦ 92 ∷ 92 ∷ [] | false ↦ b ∷ [] ] ]

unfoldable pub escaped : List ℕ → List ℕ
escaped [] = []
escaped (b ∷ bs) = escape b ++ escaped bs

-- "Lists with single spaces": none before the first.
unfoldable pub gap : Bool → List ℕ
gap true = []
gap false = 32 ∷ []

unfoldable pub spaced_from : Bool → List ℕ → List ℕ
spaced_from first [] = []
spaced_from first (n ∷ ns) = (gap first ++ decimal n) ++ spaced_from false ns

unfoldable pub spaced : List ℕ → List ℕ
spaced ns = spaced_from true ns

unfoldable pub line : List ℕ → List ℕ → List ℕ
line head value = head ++ value ++ 10 ∷ []

-- The members of one list of an owner, by their numbers.
unfoldable pub numbers_of : ℕ → ℕ → Table → List ℕ
numbers_of l o members = values_of (listed l o members)
