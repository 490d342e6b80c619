-- The words of a value as rows of members.
use Rattle.std.specs.Prelude.{ℕ, zero, suc, ◌+◌, Bool, true, false, Option, Some, None, List, [], ◌∷◌, map, eqb, length, set}
use Rattle.definition.specs.Text.{Piece, words_by, stripped}
use Rattle.definition.specs.Rows.{Row, Table, Cell, cell_at, text_at}
use Rattle.definition.specs.Codes.{list_number}
use Rattle.plan.specs.declared.MemberPlan.{MemberPlan}
use Rattle.words.specs.Next.{parted_by}

-- Rows one after another.
unfoldable pub set_all : Table → ℕ → List Row → Table
set_all t m [] = t
set_all t m (r ∷ rs) = set_all (set t m r) (suc m) rs

-- An event word loses its end.
unfoldable pub kept : Bool → List ℕ → List ℕ
kept true w = stripped w
kept false w = w

-- A piece of a value that lies at b in the text.
unfoldable pub kept_cell : Bool → ℕ → Piece → Cell
unfolding kept
kept_cell e b p = record { at = suc (b + p.off); len = length (kept e p.word) }

unfoldable pub list_cells : Bool → ℕ → List ℕ → List Cell
unfolding kept_cell
list_cells e b v = map (kept_cell e b) (words_by (parted_by e) v)

unfoldable pub word_member : ℕ → ℕ → Cell → Row
word_member k o c = k ∷ o ∷ 0 ∷ c.at ∷ c.len ∷ 0 ∷ 0 ∷ 0 ∷ []

unfoldable pub word_members : ℕ → ℕ → List Cell → List Row
unfolding word_member
word_members k o [] = []
word_members k o (c ∷ cs) = word_member k o c ∷ word_members k o cs

-- The words of a text: e, of events.
unfoldable pub cells_at : Bool → List ℕ → Cell → List Cell
unfolding list_cells
cells_at e text c = elim c.at [ zero ↦ [] | suc a ↦ list_cells e a (text_at text c) ]

-- A transition's events; the names of a send and of an invoke.
unfoldable pub word_cells : ℕ → List ℕ → List ℕ → List Cell
unfolding cells_at
word_cells g text t = elim (eqb g 16) [ true ↦ cells_at true text (cell_at t 28) | false ↦ cells_at false text (cell_at t 24) ]

unfoldable pub word_rows_of : ℕ → List ℕ → List ℕ → Option MemberPlan → List Row
unfolding word_cells word_members
word_rows_of g text t None = []
word_rows_of g text t (Some p) = word_members (list_number p.list) p.owner (word_cells g text t)
