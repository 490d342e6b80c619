-- The constant tables as they follow from the definition's lists.
use Rattle.std.specs.Prelude.{ℕ, ◌-◌, true, false, List, [], ◌∷◌, ◌++◌, map, length, replicate, eqb}
use Rattle.definition.specs.Nesting.{Below, nesting}

-- The parents of each element that has some, from `state` on.
unfoldable pub parents_of : List (List ℕ)
unfolding nesting
parents_of = map (λ (b : Below). b.parents) nesting

-- In seven numbers: zeros stand behind them.
unfoldable pub parent_row : List ℕ → List ℕ
parent_row ps = ps ++ replicate (7 - length ps) 0

unfoldable pub parent_rows : List (List ℕ)
unfolding parent_row parents_of
parent_rows = map parent_row parents_of

-- What stands before the first zero.
unfoldable pub listed : List ℕ → List ℕ
listed [] = []
listed (x ∷ xs) = elim (eqb x 0) [ true ↦ [] | false ↦ x ∷ listed xs ]
