-- Runs of cells in a row.
use Rattle.std.specs.Prelude.{Bool, true, ◌&&◌, ℕ, zero, suc, eqb}
use Rattle.definition.specs.Rows.{Row, num}
use Rattle.definition.specs.Rules.{is_inside}

-- n texts from a column on are absent or lie inside the text; n cells from a column on are 0.
unfoldable pub texts_inside : ℕ → Row → ℕ → ℕ → Bool
unfolding is_inside
texts_inside used r i zero = true
texts_inside used r i (suc n) = is_inside used (num r i) (num r (suc i)) && texts_inside used r (suc (suc i)) n

unfoldable pub zeros_from : Row → ℕ → ℕ → Bool
zeros_from r i zero = true
zeros_from r i (suc n) = eqb (num r i) 0 && zeros_from r (suc i) n
