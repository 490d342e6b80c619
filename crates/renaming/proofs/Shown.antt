-- A row as it is read holds related texts too, a send's and an invoke's state name among them.
use Prim.Native.Nat.{ℕ, zero, suc, ◌+◌, ◌<◌}
use mathlib.Core.Path.{◌≡◌, refl, sym, ap, ◌∙◌, subst, subst₂}
use mathlib.Core.Bool.{Bool, true, false, ◌&&◌}
use mathlib.Core.Option.{some}
use mathlib.Core.List.{List, [], ◌∷◌, ◌++◌}
use lib.ListN.{length, get_or, set, take, replicate, length-append, length-take, length-replicate}
use lib.Dec.{eqb, ltb, ltb→lt}
use borrow.Author.Tests.{eqb-true, eq-eqb}
use native.Mathlib.Omega.{arith}
use Rattle.definition.specs.Elements.{Role, name}
use Rattle.definition.specs.Rows.{Row, Table, table, shown, state, schema, Class, free, columns_of, num, row_of, Cell, no_cell, cell_at, with_cell, text_role, Numbers, table_of, role_at}
use Rattle.definition.specs.Reader.{widened, state_name_of, state_kept, with_name, place_of, row_read}
use Rattle.renaming.specs.Renaming.{shown_role}
use Rattle.definition.proofs.Base.{and_left, and_right, some_inj, All, All-get_or, T_of}
use Rattle.renaming.proofs.Words.{Total}
use Rattle.renaming.proofs.Names.{Held, held_none}
use Rattle.definition.proofs.Tables.{sort, text_at_lem, cell_other, cell_here}
use Rattle.renaming.proofs.Edits.{RowOk, TablesOk, zero_cell}

-- ---- texts stand before the state's name of a row that is read

unfoldable texts_before : ℕ → ℕ → List Class → Bool
unfolding sort
texts_before w i [] = true
texts_before w i (c ∷ cs) = elim (eqb (sort c) 1) [ true ↦ ltb (suc i) w && texts_before w (suc i) cs | false ↦ texts_before w (suc i) cs ]

unfoldable all_before : ℕ → List (List Class) → Bool
unfolding texts_before
all_before w [] = true
all_before w (cs ∷ css) = texts_before w 0 cs && all_before w css

schema_before : all_before shown.state_name schema ≡ true
unfolding all_before schema
schema_before = refl

before_at : (w i : ℕ) (cs : List Class) → texts_before w i cs ≡ true → (c : ℕ) → sort (get_or cs c free) ≡ 1 → suc (i + c) < w
unfolding texts_before sort
before_at w i [] e c h = absurd (omega arith)
before_at w i (x ∷ cs) e zero h =
    let z : suc i < w = ltb→lt (suc i) w (T_of (ltb (suc i) w) (and_left (ltb (suc i) w) (texts_before w (suc i) cs) (rw (eq-eqb (sort x) 1 h, texts_before) at e))) in
    omega arith
before_at w i (x ∷ cs) e (suc c) h = go (eqb (sort x) 1) refl (λ f. before_at w (suc i) cs f c h)
  where
    go : (b : Bool) → eqb (sort x) 1 ≡ b → (texts_before w (suc i) cs ≡ true → suc (suc i + c) < w) → suc (i + suc c) < w
    go true q ih = omega (arith, ih (and_right (ltb (suc i) w) (texts_before w (suc i) cs) (rw (q, texts_before) at e)))
    go false q ih = omega (arith, ih (rw (q, texts_before) at e))

before_in : (css : List (List Class)) → all_before shown.state_name css ≡ true → (k : ℕ) → texts_before shown.state_name 0 (get_or css k []) ≡ true
unfolding all_before texts_before
before_in [] e k = refl
before_in (cs ∷ css) e zero = and_left (texts_before shown.state_name 0 cs) (all_before shown.state_name css) e
before_in (cs ∷ css) e (suc k) = before_in css (and_right (texts_before shown.state_name 0 cs) (all_before shown.state_name css) e) k

text_before : (k c : ℕ) (q : Role) → role_at k c ≡ some q → suc c < shown.state_name
unfolding columns_of
text_before k c q e = omega (arith, before_at shown.state_name 0 (columns_of k) (before_in schema schema_before k) c (text_at_lem k c q e))

-- ---- a widened row

num_take : (w : ℕ) (v : Row) (c : ℕ) → c < w → num (take w v) c ≡ num v c
num_take zero v c h = absurd (omega arith)
num_take (suc w) [] c h = refl
num_take (suc w) (x ∷ v) zero h = refl
num_take (suc w) (x ∷ v) (suc c) h = num_take w v c (omega arith)

num_append : (r z : Row) (c : ℕ) → c < length r → num (r ++ z) c ≡ num r c
num_append [] z c h = absurd (omega arith)
num_append (x ∷ r) z zero h = refl
num_append (x ∷ r) z (suc c) h = num_append r z c (omega arith)

wide_num : (r : Row) (c : ℕ) → c < shown.width → c < length r → num (widened r) c ≡ num r c
unfolding widened
wide_num r c h k = num_take shown.width (r ++ replicate shown.width 0) c h ∙ num_append r (replicate shown.width 0) c k

wide_cell : (r : Row) (c : ℕ) → suc c < shown.width → suc c < length r → cell_at (widened r) c ≡ cell_at r c
unfolding cell_at
wide_cell r c h k =
    let a : num (widened r) c ≡ num r c = wide_num r c (omega arith) (omega arith) in
    let b : num (widened r) (suc c) ≡ num r (suc c) = wide_num r (suc c) h k in
    λ i. record { at = a i; len = b i }

wide_length : (r : Row) → length (widened r) ≡ shown.width
unfolding widened
wide_length r =
    let z : length (r ++ replicate shown.width 0) ≡ length r + shown.width =
    length-append r (replicate shown.width 0) ∙ ap (λ (k : ℕ). length r + k) (length-replicate {A = ℕ} shown.width 0) in
    omega (arith, length-take shown.width (r ++ replicate shown.width 0))

-- The table's columns keep their cells, and the state's name stands behind them.
shown_before : (r : Row) (x : Cell) (c : ℕ) → suc c < shown.state_name → cell_at (with_cell shown.state_name x (widened r)) c ≡ cell_at (widened r) c
unfolding with_cell
shown_before r x c h =
    cell_other (set (widened r) shown.state_name x.at) (suc shown.state_name) c x.len (λ e. omega arith) (λ e. omega arith)
    ∙ cell_other (widened r) shown.state_name c x.at (λ e. omega arith) (λ e. omega arith)

shown_name : (r : Row) (x : Cell) → cell_at (with_cell shown.state_name x (widened r)) shown.state_name ≡ x
shown_name r x = cell_here (widened r) shown.state_name x (omega (arith, wide_length r))

state_role : role_at table.states state.name ≡ some name
unfolding role_at text_role columns_of schema
state_role = refl

module _ (ρ : List ℕ → List ℕ) (R : Total ρ) (t u : List ℕ) (size : length u ≡ length t) where
  -- Zeros hold no text.
  pub zeros_held : (w : ℕ) (k c : ℕ) (q : Role) → Held ρ R t u q (cell_at (replicate w 0) c)
  zeros_held w k c q = subst (Held ρ R t u q) (sym (zero_cell w c)) (held_none ρ R t u q)

  module _ (n : Numbers) (ok : TablesOk ρ R t u size n.tables) where
    name_cells_lem : (rs : Table) → All (RowOk ρ R t u size table.states) rs → (i : ℕ) → Held ρ R t u name (cell_at (get_or rs i []) state.name)
    unfolding cell_at no_cell
    name_cells_lem [] a i = held_none ρ R t u name
    name_cells_lem (r ∷ rs) a zero = (a.0 state.name name state_role).1
    name_cells_lem (r ∷ rs) a (suc i) = name_cells_lem rs a.1 i

    state_name_lem : (s : ℕ) → Held ρ R t u name (state_name_of n s)
    unfolding state_name_of row_of
    state_name_lem zero = held_none ρ R t u name
    state_name_lem (suc i) = name_cells_lem (table_of n table.states) (ok table.states) i

    abbrev ShownOk : ℕ → Row → Type 0
    ShownOk k r = (c : ℕ) (q : Role) → shown_role k c ≡ some q → Held ρ R t u q (cell_at (with_name n k r) c)

    -- Whatever stands in the table's columns, the name is a state's.
    shown_by : (k : ℕ) (r : Row) → ((c : ℕ) (q : Role) → role_at k c ≡ some q → Held ρ R t u q (cell_at (widened r) c)) → ShownOk k r
    unfolding with_name shown_role
    shown_by k r h c q e = go (eqb c shown.state_name) refl
      where
        x : Cell
        x = state_name_of n (state_kept k r)

        go : (b : Bool) → eqb c shown.state_name ≡ b → Held ρ R t u q (cell_at (with_name n k r) c)
        go true f =
            let p : some name ≡ some q = rw (f, shown_role) at e in
            subst₂ (λ (i : ℕ) (p : Role). Held ρ R t u p (cell_at (with_name n k r) i)) (sym (eqb-true c shown.state_name f)) (some_inj name name q p)
            (subst (Held ρ R t u name) (sym (shown_name r x)) (state_name_lem (state_kept k r)))
        go false f =
            let p : role_at k c ≡ some q = rw (f, shown_role) at e in
            subst (Held ρ R t u q) (sym (shown_before r x c (text_before k c q p))) (h c q p)

    shown_row_lem : (k : ℕ) (r : Row) → RowOk ρ R t u size k r → ShownOk k r
    shown_row_lem k r h =
        shown_by k r (λ c q e.
        subst (Held ρ R t u q) (sym (wide_cell r c (omega (arith, text_before k c q e)) (h c q e).0)) (h c q e).1)

    -- Of no row nothing is read.
    shown_none : (k : ℕ) → ShownOk k []
    unfolding widened
    shown_none k = shown_by k [] (λ c q e. zeros_held shown.width k c q)

    shown_all : (k : ℕ) (rs : Table) → All (RowOk ρ R t u size k) rs → All (ShownOk k) rs
    shown_all k [] a = tt
    shown_all k (r ∷ rs) a = (shown_row_lem k r a.0, shown_all k rs a.1)

    shown_place : (k p : ℕ) → ShownOk k (row_of (table_of n k) p)
    unfolding row_of
    shown_place k zero = shown_none k
    shown_place k (suc i) = All-get_or (ShownOk k) [] (shown_none k) (table_of n k) (shown_all k (table_of n k) (ok k)) i

    -- A ROW THAT IS READ
    pub shown_held : (k i c : ℕ) (q : Role) → shown_role k c ≡ some q → Held ρ R t u q (cell_at (row_read n k i) c)
    unfolding row_read
    shown_held k i c q e = shown_place k (place_of n k i) c q e
