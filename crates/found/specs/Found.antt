-- Rows that an event finds, by what is seen of it.
use Rattle.std.specs.Prelude.{ℕ, Bool, true, false, ◌&&◌, List, [], ◌∷◌, eqb}
use Rattle.definition.specs.Text.{same}
use Rattle.definition.specs.Elements.{tag, key}
use Rattle.definition.specs.Rows.{Row, Table, Cell, datum, text_at, cell_at, num}
use Rattle.definition.specs.Look.{find_datum}
use Rattle.plain.specs.Plain.{Parsed}
use Rattle.plain.specs.Keyed.{value_in}

-- The cells of ids.
unfoldable pub ids : Table → List Cell
unfolding cell_at
ids [] = []
ids (r ∷ rs) = cell_at r datum.id ∷ ids rs

unfoldable pub is_datum : List ℕ → Row → ℕ → List ℕ → Bool
unfolding same text_at cell_at
is_datum t r s w = eqb (num r datum.state) s && same (text_at t (cell_at r datum.id)) w

unfoldable pub found_in : List ℕ → Table → ℕ → Parsed → ℕ
unfolding find_datum
found_in t rows s v = elim (eqb v.tag tag.datum) [ true ↦ find_datum t rows s (value_in key.id v.values) | false ↦ 0 ]
