-- The names that an event brings, by the table of its texts.
use Rattle.std.specs.Prelude.{ℕ, zero, suc, ◌+◌, ◌-◌, ◌≤◌, ◌≡◌, true, false, List, [], ◌∷◌, ◌++◌, map, length, take, drop, eqb}
use Rattle.definition.specs.Text.{Piece}
use Rattle.definition.specs.Elements.{names_state}
use Rattle.definition.specs.Rows.{Table, Cell, cell_at, text_at, list}
use Rattle.definition.specs.Look.{name_cells, resolve}
use Rattle.definition.specs.Rules.{names_lead}
use Rattle.definition.specs.Reader.{over}
use Rattle.targets.specs.Enter.{enter_all, names_at, member_row}

-- The states that a text names.
unfoldable pub pieces_at : List ℕ → Cell → List Piece
unfolding names_at
pieces_at text c = elim c.at [ zero ↦ [] | suc a ↦ names_at text a c.len ]

-- An element's own name.
unfoldable pub own_piece : List ℕ → Cell → Piece
unfolding text_at
own_piece text c = record { off = c.at - 1; word = text_at text c }

-- The targets: of an `initial` attribute, or of a transition.
unfoldable pub target_pieces : ℕ → ℕ → List ℕ → List ℕ → List Piece
unfolding pieces_at
target_pieces k g text t =
    elim (eqb k 3) [
      | true ↦ []
      | false ↦ elim (names_state g) [ true ↦ pieces_at text (cell_at t 4) | false ↦ elim (eqb g 16) [ true ↦ pieces_at text (cell_at t 34) | false ↦ [] ] ]
    ]

-- The names that an event of kind k brings, in order.
unfoldable pub pieces_in : ℕ → ℕ → List ℕ → List ℕ → List Piece
unfolding target_pieces own_piece
pieces_in k g text t =
    elim (eqb k 3) [
      | true ↦ []
      | false ↦ elim (names_state g) [ true ↦ own_piece text (cell_at t 2) ∷ target_pieces k g text t | false ↦ target_pieces k g text t ]
    ]

-- How many names are no targets: an element's own.
unfoldable pub skip_of : ℕ → ℕ → ℕ
skip_of k g = elim (eqb k 3) [ true ↦ 0 | false ↦ elim (names_state g) [ true ↦ 1 | false ↦ 0 ] ]

-- All that may be asked before names are entered: the rows have their places, the cells of names lie in a short text, and the names in use are distinct.
pub record NameRoom (st ms : Table) (text : List ℕ) (count used skip : ℕ) (ps : List Piece) : Type 0 where
  pub short : length text ≤ 65535
  pub long : 256 ≤ length st
  pub fits : count ≤ 256
  pub states : length (enter_all text (take count st) ps) ≤ 256
  pub members : used + length (drop skip ps) ≤ length ms
  pub apart : names_lead text (name_cells (take count st)) 0 (name_cells (take count st)) ≡ true

-- A cell that is there lies in the text.
abbrev pub InText : List ℕ → Cell → Type 0
InText text c = (a : ℕ) → c.at ≡ suc a → a + c.len ≤ length text

-- What is there then: rows of new names, and members for the targets; nothing else has changed.
pub record NamesWritten (st ms : Table) (text : List ℕ) (count used owner skip : ℕ) (ps : List Piece) (st' ms' : Table) (n m : ℕ) : Type 0 where
  pub states : st' ≡ over (enter_all text (take count st) ps) st
  pub members : ms' ≡ over (take used ms ++ map (member_row list.targets owner) (drop skip (resolve text (name_cells (take count st)) ps).refs)) ms
  pub counted : n ≡ length (enter_all text (take count st) ps)
  pub filled : m ≡ used + length (drop skip ps)

-- An element's own name is there.
abbrev pub OwnIn : ℕ → ℕ → List ℕ → List ℕ → Type 0
OwnIn k g text t = eqb k 3 ≡ false → names_state g ≡ true → (1 ≤ (cell_at t 2).at) × ((cell_at t 2).at + (cell_at t 2).len ≤ suc (length text))

abbrev pub TargetsIn : List ℕ → List ℕ → Type 0
TargetsIn text t = InText text (cell_at t 4) × InText text (cell_at t 34)
