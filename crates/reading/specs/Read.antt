-- A reading, kind by kind.
use Rattle.std.specs.Prelude.{◌≡◌, ◌-◌, ◌<◌, true, false, ◌&&◌, [], ℕ, zero, suc, eqb, ltb, length, get_or, Result, Ok, Err, MatchResult}
use Rattle.definition.specs.Rows.{Row, Table, table, owner_kind, chart, state, parameter, shown, num, row_of, cell_at, with_cell, Numbers, table_of}
use Rattle.definition.specs.Actions.{place_of_number}
use Rattle.definition.specs.Reader.{Answer, no_row, widened, exists, row_read}
use Rattle.definition.specs.declared.codes.Refusal.{Refusal}
use Rattle.definition.specs.declared.codes.Refusal.TheVariants as N
use Rattle.definition.specs.Codes.{refusal_number}
use Rattle.reading.specs.declared.RowKind.{RowKind}
use Rattle.reading.specs.declared.RowKind.TheVariants as K

-- A number, and a row that counts where it is 0.
pub record Reading : Type 0 where
  pub number : ℕ
  pub row : Row

abbrev pub reading_of : Answer → Reading
reading_of a = record { number = a.number; row = a.row }

unfoldable pub refusal : ℕ → Reading
unfolding no_row
refusal k = record { number = k; row = no_row }

-- A row that is read, or a refusal; a refused one is zeros.
abbrev pub reading_in : Result Row Refusal → Reading
reading_in (Ok row) = record { number = 0; row = row }
reading_in (Err e) = refusal (refusal_number e)

abbrev pub kind_of : RowKind → ℕ
kind_of K.Chart = 0
kind_of K.State = 1
kind_of K.Transition = 2
kind_of K.Region = 3
kind_of K.Entry = 4
kind_of K.Invoke = 5
kind_of K.Datum = 6
kind_of K.Parameter = 7
kind_of K.Member = 8

-- The kind with this number; there is no other.
abbrev pub Decodes : ℕ → Result RowKind Refusal → Type 0
Decodes k r = MatchResult r (λ kind. kind_of kind ≡ k) (λ e. (e ≡ N.NoRow) × (8 < k))

abbrev pub RowAt : Table → ℕ → Result Row Refusal → Type 0
RowAt t k r = MatchResult r (λ row. (k ≡ 0 → ⊥) × (row ≡ get_or t (k - 1) [])) (λ e. (e ≡ N.NoRow) × (k ≡ 0))

-- The row that is numbered by creation, from 1; the row with a number of its own. 0 where it does not exist.
unfoldable pub placed : ℕ → ℕ → ℕ
placed n zero = 0
placed n (suc i) = elim (ltb i n) [ true ↦ suc i | false ↦ 0 ]

unfoldable pub own_place : Table → ℕ → ℕ
unfolding place_of_number
own_place t zero = 0
own_place t (suc i) = place_of_number t (suc i)

-- A row as it is read, with the name of the state k; of state 0 there is none.
unfoldable pub shown_with : Table → ℕ → Row → Row
unfolding with_cell cell_at row_of widened
shown_with st k r = with_cell shown.state_name (cell_at (row_of st k) state.name) (widened r)

unfoldable pub read_at : Table → ℕ → ℕ → Row → Reading
unfolding refusal shown_with
read_at st k zero r = refusal 16
read_at st k (suc p) r = record { number = 0; row = shown_with st k r }

-- The chart's row is there from the first scxml on.
unfoldable pub chart_read : Table → ℕ → Reading
unfolding refusal read_at placed row_of
chart_read t i =
    elim (eqb (num (get_or t 0 []) chart.root) 0) [ true ↦ refusal 16 | false ↦ read_at [] 0 (placed (length t) i) (row_of t (placed (length t) i)) ]

-- A parameter of a donedata that another replaced has left.
unfoldable pub parameter_read : Table → Table → ℕ → Reading
unfolding refusal read_at placed row_of
parameter_read t st i =
    elim (eqb (num (row_of t i) parameter.kind) owner_kind.donedata && ltb i (num (row_of st (num (row_of t i) parameter.owner)) state.donedata)) [
      | true ↦ refusal 16
      | false ↦ read_at [] 0 (placed (length t) i) (row_of t (placed (length t) i))
    ]

unfoldable pub read_of : Numbers → ℕ → ℕ → Reading
unfolding exists row_read refusal
read_of n t i = elim (exists n t i) [ true ↦ record { number = 0; row = row_read n t i } | false ↦ refusal 16 ]

-- r is the reading in every store with these tables.
abbrev pub Clean : Table → Table → Table → Table → Table → Table → Table → Table → Table → ℕ → ℕ → Reading → Type 0
Clean ch st tr re en iv da pa me k i r =
    (n : Numbers) → table_of n table.chart ≡ ch → table_of n table.states ≡ st → table_of n table.transitions ≡ tr → table_of n table.regions ≡ re
    → table_of n table.entries ≡ en → table_of n table.invokes ≡ iv → table_of n table.datums ≡ da → table_of n table.parameters ≡ pa
    → table_of n table.members ≡ me → r ≡ read_of n k i
