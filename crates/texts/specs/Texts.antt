-- The table of an event's texts, from its values in order.
use Rattle.std.specs.Prelude.{ℕ, suc, ◌+◌, true, false, List, [], ◌∷◌, length, get_or, eqb, ltb}
use Rattle.definition.specs.Rows.{Cell, no_cell, with_cell}
use Rattle.definition.specs.Look.{Load}
use Rattle.fill.specs.Fill.{cell}

-- A key's cell, unless it is there or the key is none.
unfoldable pub text_put : ℕ → Cell → List ℕ → List ℕ
text_put c x t = elim (ltb c 32) [ true ↦ elim (eqb (get_or t (c + c) 0) 0) [ true ↦ with_cell (c + c) x t | false ↦ t ] | false ↦ t ]

unfoldable pub texts_in : ℕ → List Load → List ℕ → List ℕ
unfolding text_put cell
texts_in o [] t = t
texts_in o (i ∷ is) t = texts_in (o + length i.bytes) is (text_put i.key (cell (suc o) (length i.bytes)) t)

-- The text's cells: in quotes, trimmed, as a content; and none for no key.
unfoldable pub closed : Cell → Cell → Cell → List ℕ → List ℕ
closed a q c t = with_cell 62 c (with_cell 60 q (with_cell 58 a (with_cell 0 no_cell t)))
