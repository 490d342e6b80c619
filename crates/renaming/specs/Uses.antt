-- What demand 3 gives, said of whole lists of calls: equal numbers, positions, tables and rows, and each class of text in its own way.
use Rattle.std.specs.Prelude.{ℕ, ◌≡◌, true, false, List, [], ◌∷◌, map, length, get_or, take, eqb}
use Rattle.definition.specs.declared.Limits.{Limits}
use Rattle.definition.specs.Rows.{Row, table, shown, state, transition, entry, member, cell_at, text_at}
use Rattle.definition.specs.Reader.{Call, event, reading, Answer, counts, run, start, zeros}
use Rattle.renaming.specs.Renaming.{Renaming, CallsRel}

-- What f makes of the texts of column c in the rows of table t that are in use after a call.
unfoldable pub each : {X : Type 0} → (List ℕ → X) → ℕ → ℕ → Answer → List X
each f t c a = map (λ (r : Row). f (text_at a.lent.text (cell_at r c))) (take (get_or (counts a.position) t 0) (get_or a.lent.tables t []))

abbrev itself : List ℕ → List ℕ
itself w = w

-- What f makes of the texts of column c in the rows of kind t that are read.
unfoldable pub each_read : {X : Type 0} → (List ℕ → X) → ℕ → ℕ → List Call → List Answer → List X
each_read f t c [] as₁ = []
each_read f t c (d ∷ ds) [] = []
each_read f t c (event raw ∷ ds) (a ∷ as₁) = each_read f t c ds as₁
each_read f t c (reading u i ∷ ds) (a ∷ as₁) =
    elim (eqb u t) [ true ↦ f (text_at a.lent.text (cell_at a.row c)) ∷ each_read f t c ds as₁ | false ↦ each_read f t c ds as₁ ]

-- Call by call, `theirs` of the partner's answers is `ours` of the list's own, whatever the limits and however long the slices are.
abbrev pub Alike : {X : Type 0} → (List ℕ → List ℕ) → (Answer → X) → (Answer → X) → Type 0
Alike ρ ours theirs =
    Renaming ρ → (L : Limits) (ks : List ℕ) (k : ℕ) (cs ds : List Call) → CallsRel ρ cs ds
    → map theirs (run L (zeros ks k) start ds) ≡ map ours (run L (zeros ks k) start cs)

abbrev pub Equal : {X : Type 0} → (Answer → X) → Type 0
Equal part = (ρ : List ℕ → List ℕ) → Alike ρ part part

-- ---- numbers

abbrev pub NumbersEqual : Type 0
NumbersEqual = Equal (λ (a : Answer). a.number)

-- Counters, text charge, current region, and how many rows are in use.
abbrev pub PositionsEqual : Type 0
PositionsEqual = Equal (λ (a : Answer). a.position)

-- Every number of every row, open elements and open regions among them.
abbrev pub TablesEqual : Type 0
TablesEqual = Equal (λ (a : Answer). a.lent.tables)

abbrev pub TextsAsLong : Type 0
TextsAsLong = Equal (λ (a : Answer). length a.lent.text)

abbrev pub RowsEqual : Type 0
RowsEqual = Equal (λ (a : Answer). a.row)

-- ---- texts, after any call, refused or not

abbrev pub StateNamesRenamed : Type 0
StateNamesRenamed = (ρ : List ℕ → List ℕ) → Alike ρ (each ρ table.states state.name) (each itself table.states state.name)

abbrev pub SendIdsEqual : Type 0
SendIdsEqual = Equal (each itself table.entries entry.id)

abbrev pub WordsEqual : Type 0
WordsEqual = Equal (each itself table.members member.word)

abbrev pub ConditionsAsLong : Type 0
ConditionsAsLong = Equal (each length table.transitions transition.cond)

abbrev pub ArraysAsLong : Type 0
ArraysAsLong = Equal (each length table.entries entry.array)

-- ---- texts of rows as they are read

abbrev pub ReadAlike : {X : Type 0} → (List ℕ → List ℕ) → ℕ → ℕ → (List ℕ → X) → (List ℕ → X) → Type 0
ReadAlike ρ t c ours theirs =
    Renaming ρ → (L : Limits) (ks : List ℕ) (k : ℕ) (cs ds : List Call) → CallsRel ρ cs ds
    → each_read theirs t c ds (run L (zeros ks k) start ds) ≡ each_read ours t c cs (run L (zeros ks k) start cs)

abbrev pub NamesReadRenamed : Type 0
NamesReadRenamed = (ρ : List ℕ → List ℕ) → ReadAlike ρ table.states state.name ρ itself

-- "A state's name that another row keeps is a state name too": a send's, and an invoke's.
abbrev pub SendStatesRenamed : Type 0
SendStatesRenamed = (ρ : List ℕ → List ℕ) → ReadAlike ρ table.entries shown.state_name ρ itself

abbrev pub InvokeStatesRenamed : Type 0
InvokeStatesRenamed = (ρ : List ℕ → List ℕ) → ReadAlike ρ table.invokes shown.state_name ρ itself

abbrev pub IdsReadEqual : Type 0
IdsReadEqual = (ρ : List ℕ → List ℕ) → ReadAlike ρ table.entries entry.id itself itself

abbrev pub ConditionsReadAsLong : Type 0
ConditionsReadAsLong = (ρ : List ℕ → List ℕ) → ReadAlike ρ table.transitions transition.cond length length
