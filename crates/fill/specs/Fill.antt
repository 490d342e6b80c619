-- The text columns of a row, from a table of the event's texts: two numbers a key, and what is made of the text.
use Rattle.std.specs.Prelude.{ℕ, zero, suc, Bool, true, false, ◌&&◌, ◌||◌, List, [], ◌∷◌, get_or, drop, eqb, leb}
use Rattle.definition.specs.Rows.{Row, Cell, no_cell, cell_at, with_cell}
use Rattle.definition.specs.Look.{Field}
use Rattle.definition.specs.Change.{field_in, field_cell, trimmed_cell, if_filled}
use Rattle.fill.specs.declared.TextCell.{TextCell}
use Rattle.fill.specs.declared.Filling.{Filling}
use Rattle.fill.specs.declared.Take.{Take}
use Rattle.fill.specs.declared.Take.TheVariants.{Always, UnlessEmpty, IfThere}

unfoldable pub cell : ℕ → ℕ → Cell
cell a n = record { at = a; len = n }

unfoldable pub as_cell : TextCell → Cell
unfolding cell
as_cell c = cell c.at c.len

-- ---- the texts of an event

unfoldable pub cell_on : Cell → List ℕ → List ℕ
cell_on c xs = c.at ∷ c.len ∷ xs

-- By key; 0: none; 29: the trimmed text; 31: the same, or a text of no bytes where there is none.
unfoldable pub texts_of : ℕ → List Field → List ℕ
unfolding cell_on field_in field_cell trimmed_cell no_cell cell
texts_of b fs =
    cell_on no_cell (
    cell_on (field_cell (field_in fs 1)) (
    cell_on (field_cell (field_in fs 2)) (
    cell_on (field_cell (field_in fs 3)) (
    cell_on (field_cell (field_in fs 4)) (
    cell_on (field_cell (field_in fs 5)) (
    cell_on (field_cell (field_in fs 6)) (
    cell_on (field_cell (field_in fs 7)) (
    cell_on (field_cell (field_in fs 8)) (
    cell_on (field_cell (field_in fs 9)) (
    cell_on (field_cell (field_in fs 10)) (
    cell_on (field_cell (field_in fs 11)) (
    cell_on (field_cell (field_in fs 12)) (
    cell_on (field_cell (field_in fs 13)) (
    cell_on (field_cell (field_in fs 14)) (
    cell_on (field_cell (field_in fs 15)) (
    cell_on (field_cell (field_in fs 16)) (
    cell_on (field_cell (field_in fs 17)) (
    cell_on (field_cell (field_in fs 18)) (
    cell_on (field_cell (field_in fs 19)) (
    cell_on (field_cell (field_in fs 20)) (
    cell_on (field_cell (field_in fs 21)) (
    cell_on (field_cell (field_in fs 22)) (
    cell_on (field_cell (field_in fs 23)) (
    cell_on (field_cell (field_in fs 24)) (
    cell_on (field_cell (field_in fs 25)) (
    cell_on (field_cell (field_in fs 26)) (
    cell_on (field_cell (field_in fs 27)) (
    cell_on (field_cell (field_in fs 28)) (
    cell_on (trimmed_cell no_cell (field_in fs 29)) (cell_on (field_cell (field_in fs 30)) (cell_on (trimmed_cell (cell (suc b) 0) (field_in fs 29)) [])))))))))))))))))))))))))))))))

-- ---- the shapes as a table: column, place of the cell, how it is taken

unfoldable pub fills : List (List ℕ)
fills =
    (99 ∷ 0 ∷ 0 ∷ []) ∷
    (3 ∷ 6 ∷ 2 ∷ []) ∷
    (5 ∷ 8 ∷ 2 ∷ []) ∷
    (7 ∷ 12 ∷ 2 ∷ []) ∷
    (99 ∷ 0 ∷ 0 ∷ []) ∷
    (4 ∷ 14 ∷ 0 ∷ []) ∷
    (6 ∷ 16 ∷ 0 ∷ []) ∷
    (8 ∷ 18 ∷ 0 ∷ []) ∷
    (10 ∷ 20 ∷ 0 ∷ []) ∷
    (12 ∷ 2 ∷ 1 ∷ []) ∷
    (14 ∷ 22 ∷ 1 ∷ []) ∷
    (99 ∷ 0 ∷ 0 ∷ []) ∷
    (1 ∷ 2 ∷ 0 ∷ []) ∷
    (3 ∷ 38 ∷ 0 ∷ []) ∷
    (5 ∷ 0 ∷ 0 ∷ []) ∷
    (99 ∷ 0 ∷ 0 ∷ []) ∷
    (1 ∷ 2 ∷ 0 ∷ []) ∷
    (3 ∷ 0 ∷ 0 ∷ []) ∷
    (5 ∷ 62 ∷ 0 ∷ []) ∷
    (99 ∷ 0 ∷ 0 ∷ []) ∷
    (10 ∷ 0 ∷ 0 ∷ []) ∷
    (12 ∷ 0 ∷ 0 ∷ []) ∷
    (99 ∷ 0 ∷ 0 ∷ []) ∷
    (6 ∷ 32 ∷ 0 ∷ []) ∷
    (99 ∷ 0 ∷ 0 ∷ []) ∷
    (2 ∷ 6 ∷ 0 ∷ []) ∷
    (4 ∷ 38 ∷ 1 ∷ []) ∷
    (6 ∷ 54 ∷ 1 ∷ []) ∷
    (99 ∷ 0 ∷ 0 ∷ []) ∷
    (42 ∷ 58 ∷ 0 ∷ []) ∷
    (10 ∷ 38 ∷ 0 ∷ []) ∷
    (99 ∷ 0 ∷ 0 ∷ []) ∷
    (16 ∷ 58 ∷ 0 ∷ []) ∷
    (18 ∷ 38 ∷ 0 ∷ []) ∷
    (99 ∷ 0 ∷ 0 ∷ []) ∷
    (10 ∷ 58 ∷ 0 ∷ []) ∷
    (12 ∷ 38 ∷ 0 ∷ []) ∷
    (99 ∷ 0 ∷ 0 ∷ []) ∷
    (6 ∷ 32 ∷ 0 ∷ []) ∷
    (99 ∷ 0 ∷ 0 ∷ []) ∷
    (12 ∷ 28 ∷ 0 ∷ []) ∷
    (14 ∷ 30 ∷ 0 ∷ []) ∷
    (16 ∷ 34 ∷ 0 ∷ []) ∷
    (18 ∷ 36 ∷ 0 ∷ []) ∷
    (20 ∷ 14 ∷ 0 ∷ []) ∷
    (22 ∷ 16 ∷ 0 ∷ []) ∷
    (24 ∷ 2 ∷ 1 ∷ []) ∷
    (26 ∷ 22 ∷ 1 ∷ []) ∷
    (28 ∷ 52 ∷ 0 ∷ []) ∷
    (99 ∷ 0 ∷ 0 ∷ []) ∷
    (12 ∷ 28 ∷ 0 ∷ []) ∷
    (99 ∷ 0 ∷ 0 ∷ []) ∷
    (30 ∷ 46 ∷ 1 ∷ []) ∷
    (32 ∷ 48 ∷ 0 ∷ []) ∷
    (99 ∷ 0 ∷ 0 ∷ []) ∷
    (36 ∷ 56 ∷ 1 ∷ []) ∷
    (10 ∷ 38 ∷ 0 ∷ []) ∷
    (99 ∷ 0 ∷ 0 ∷ []) ∷
    (34 ∷ 54 ∷ 0 ∷ []) ∷
    (10 ∷ 38 ∷ 0 ∷ []) ∷
    (99 ∷ 0 ∷ 0 ∷ []) ∷
    (34 ∷ 54 ∷ 0 ∷ []) ∷
    (42 ∷ 60 ∷ 0 ∷ []) ∷
    (99 ∷ 0 ∷ 0 ∷ []) ∷
    (6 ∷ 32 ∷ 0 ∷ []) ∷
    (99 ∷ 0 ∷ 0 ∷ []) ∷
    (8 ∷ 40 ∷ 0 ∷ []) ∷
    (38 ∷ 42 ∷ 0 ∷ []) ∷
    (40 ∷ 44 ∷ 1 ∷ []) ∷
    (99 ∷ 0 ∷ 0 ∷ []) ∷
    (42 ∷ 62 ∷ 0 ∷ []) ∷
    (99 ∷ 0 ∷ 0 ∷ []) ∷
    []

unfoldable pub starts : List (List ℕ)
starts =
    (0 ∷ 0 ∷ 0 ∷ []) ∷
    (1 ∷ 0 ∷ 0 ∷ []) ∷
    (0 ∷ 0 ∷ 0 ∷ []) ∷
    (0 ∷ 0 ∷ 0 ∷ []) ∷
    (0 ∷ 0 ∷ 0 ∷ []) ∷
    (0 ∷ 0 ∷ 0 ∷ []) ∷
    (0 ∷ 0 ∷ 0 ∷ []) ∷
    (0 ∷ 0 ∷ 0 ∷ []) ∷
    (5 ∷ 0 ∷ 0 ∷ []) ∷
    (12 ∷ 16 ∷ 0 ∷ []) ∷
    (20 ∷ 0 ∷ 0 ∷ []) ∷
    (0 ∷ 0 ∷ 0 ∷ []) ∷
    (0 ∷ 0 ∷ 0 ∷ []) ∷
    (23 ∷ 0 ∷ 0 ∷ []) ∷
    (25 ∷ 0 ∷ 0 ∷ []) ∷
    (29 ∷ 32 ∷ 35 ∷ []) ∷
    (38 ∷ 0 ∷ 0 ∷ []) ∷
    (0 ∷ 0 ∷ 0 ∷ []) ∷
    (0 ∷ 0 ∷ 0 ∷ []) ∷
    (40 ∷ 0 ∷ 0 ∷ []) ∷
    (50 ∷ 0 ∷ 0 ∷ []) ∷
    (52 ∷ 0 ∷ 0 ∷ []) ∷
    (55 ∷ 0 ∷ 0 ∷ []) ∷
    (58 ∷ 61 ∷ 0 ∷ []) ∷
    (64 ∷ 0 ∷ 0 ∷ []) ∷
    (66 ∷ 0 ∷ 0 ∷ []) ∷
    (70 ∷ 0 ∷ 0 ∷ []) ∷
    (0 ∷ 0 ∷ 0 ∷ []) ∷
    []

unfoldable pub start_of : ℕ → ℕ → ℕ
unfolding starts
start_of g h = get_or (get_or starts g []) h 0

-- 0: as it is; 1: unless empty; 2: if there, else the old one.
unfoldable pub cell_by : ℕ → Cell → Cell → Cell
unfolding if_filled
cell_by zero old c = c
cell_by (suc zero) old c = if_filled c
cell_by (suc (suc m)) old c = elim (eqb c.at 0) [ true ↦ old | false ↦ c ]

unfoldable pub fill_one : List ℕ → List ℕ → Row → Row
unfolding cell_by with_cell cell_at
fill_one t f r = with_cell (get_or f 0 0) (cell_by (get_or f 2 0) (cell_at r (get_or f 0 0)) (cell_at t (get_or f 1 0))) r

-- A shape that takes words: it is for members only.
unfoldable pub is_words : ℕ → ℕ → Bool
is_words g h = eqb h 1 && (eqb g 8 || eqb g 16 || eqb g 19)

-- Up to the end of a shape.
unfoldable pub fill_from : List ℕ → List (List ℕ) → Row → Row
unfolding fill_one
fill_from t [] r = r
fill_from t (f ∷ fs) r = elim (leb 48 (get_or f 0 0)) [ true ↦ r | false ↦ fill_from t fs (fill_one t f r) ]

unfoldable pub shaped_by : List ℕ → ℕ → ℕ → Row → Row
unfolding fill_from fills start_of
shaped_by t g h r = fill_from t (drop (start_of g h) fills) r

-- ---- the same, shape by shape

abbrev pub take_number : Take → ℕ
take_number Always = 0
take_number UnlessEmpty = 1
take_number IfThere = 2

abbrev pub as_list : Filling → List ℕ
as_list f = f.0 ∷ f.1 ∷ take_number f.2 ∷ []

-- The fillings up to the end of a shape.
unfoldable pub shape_from : List (List ℕ) → List (List ℕ)
shape_from [] = []
shape_from (f ∷ fs) = elim (leb 48 (get_or f 0 0)) [ true ↦ [] | false ↦ f ∷ shape_from fs ]

unfoldable pub fill_all : List ℕ → List (List ℕ) → Row → Row
unfolding fill_one
fill_all t [] r = r
fill_all t (f ∷ fs) r = fill_all t fs (fill_one t f r)
