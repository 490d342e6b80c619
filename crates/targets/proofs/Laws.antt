-- Rows in use of a lent table, and rows of names entered one by one.
use Prim.Native.Nat.{ℕ, suc, ◌≤◌, ◌<◌}
use mathlib.Core.Path.{◌≡◌, refl, sym, ap, ap₂, ◌∙◌, subst}
use mathlib.Core.List.{List, [], ◌∷◌, ◌++◌, map, append_assoc, append-nil}
use native.Mathlib.Omega.{arith}
use native.Mathlib.Numerals.{add-one}
use lib.Dec.{ltb}
use lib.ListN.{length, set, take, drop, replicate, length-append, length-set, take-append-drop}
use lib.Seq.{length-take-le, take-suc-set, drop-set-lt, drop-drop, drop-append_seam}
use borrow.Author.Tests.{ltb-true, ltb-false, lt-ltb, le-ltb}
use Rattle.definition.specs.Text.{Piece}
use Rattle.definition.specs.Rows.{Row, Table, Cell, cell_at, with_cell, blank, columns_of, schema, state_columns}
use Rattle.definition.specs.Look.{find_name, name_cells, piece_cell, enter, resolve}
use Rattle.definition.specs.Change.{state_row}
use Rattle.definition.specs.Reader.{over}
use Rattle.definition.proofs.Finds.{cells_length}
use Rattle.words.proofs.Laws.{by}
use Rattle.targets.specs.Enter.{placed_row, count_after, enter_row, enter_all, member_row}

-- ---- rows

pub state_row_lem : (a n : ℕ) → a ∷ n ∷ replicate 22 0 ≡ state_row (record { at = a; len = n })
unfolding state_row with_cell blank columns_of schema state_columns
state_row_lem a n = refl

pub member_row_lem : (l o v : ℕ) → l ∷ o ∷ v ∷ replicate 5 0 ≡ member_row l o v
unfolding member_row
member_row_lem l o v = refl

-- ---- one name

module _ (rs : Table) (count k : ℕ) (c : Cell) where
  pub placed_known : k < count → rs ≡ placed_row rs count k c
  unfolding placed_row
  placed_known h = rw (lt-ltb k count h, placed_row)

  pub placed_new : count ≤ k → set rs count (state_row c) ≡ placed_row rs count k c
  unfolding placed_row
  placed_new h = rw (le-ltb k count h, placed_row)

pub count_known : (count k : ℕ) → k < count → count_after count k ≡ count
unfolding count_after
count_known count k h = rw (lt-ltb k count h, count_after)

pub count_new : (count k : ℕ) → count ≤ k → count_after count k ≡ suc count
unfolding count_after
count_new count k h = rw (le-ltb k count h, count_after)

pub room : (count k n : ℕ) → count ≤ k → count_after count k ≤ n → count < n
room count k n h l = omega (arith, count_new count k h, l)

-- ---- a lent table of which the first n rows are written

-- `now` is `before` from n on.
pub record Partly (before now : Table) (n : ℕ) : Type 0 where
  pub size : length now ≡ length before
  pub fits : n ≤ length before
  pub beyond : drop n now ≡ drop n before

module _ (before : Table) where
  pub partly_start : (n : ℕ) → n ≤ length before → Partly before before n
  partly_start n h = record { size = refl; fits = h; beyond = refl }

  module _ (now : Table) (n : ℕ) (p : Partly before now n) where
    pub partly_put : n < length before → (x : Row) → Partly before (set now n x) (suc n)
    partly_put h x =
        record {
          size = length-set now n x ∙ p.size;
          fits = h;
          beyond =
              drop-set-lt (suc n) now n x (omega arith) ∙ ap (λ (k : ℕ). drop k now) (sym (add-one n)) ∙ sym (drop-drop 1 n now) ∙ ap (drop 1) p.beyond ∙ drop-drop 1 n before
              ∙ ap (λ (k : ℕ). drop k before) (add-one n);
        }

    pub partly_took : n < length before → (x : Row) → take (suc n) (set now n x) ≡ take n now ++ x ∷ []
    partly_took h x = take-suc-set now n x (omega (arith, p.size))

    pub partly_end : (rs : Table) → take n now ≡ rs → now ≡ over rs before
    unfolding over
    partly_end rs e =
        let k : length rs ≡ n = sym (ap length e) ∙ length-take-le n now (omega (arith, p.size, p.fits)) in
        sym (take-append-drop n now) ∙ ap₂ ◌++◌ e p.beyond ∙ ap (λ (i : ℕ). rs ++ drop i before) (sym k)

    pub partly_length : length (take n now) ≡ n
    partly_length = length-take-le n now (omega (arith, p.size, p.fits))

-- ---- names over the rows in use

row_cell : (c : Cell) → cell_at (state_row c) 0 ≡ c
unfolding state_row with_cell blank columns_of schema state_columns cell_at
row_cell c = refl

cells_append : (rs : Table) (c : Cell) → name_cells (rs ++ state_row c ∷ []) ≡ name_cells rs ++ c ∷ []
unfolding name_cells
cells_append [] c = ap (λ (x : Cell). x ∷ []) (row_cell c)
cells_append (r ∷ rs) c = ap (λ (cs : List Cell). cell_at r 0 ∷ cs) (cells_append rs c)

module _ (rs : Table) (k : ℕ) (c : Cell) where
  pub row_known : k < length rs → enter_row rs k c ≡ rs
  unfolding enter_row
  row_known h = rw (lt-ltb k (length rs) h, enter_row)

  pub row_new : length rs ≤ k → enter_row rs k c ≡ rs ++ state_row c ∷ []
  unfolding enter_row
  row_new h = rw (le-ltb k (length rs) h, enter_row)

  known_cells : (n : ℕ) → n ≡ length rs → k < n → enter (name_cells rs) k c ≡ name_cells rs
  unfolding enter
  known_cells n e h = rw (lt-ltb k (length (name_cells rs)) (omega (arith, cells_length rs)), enter)

  new_cells : length rs ≤ k → enter (name_cells rs) k c ≡ name_cells rs ++ c ∷ []
  unfolding enter
  new_cells h = rw (le-ltb k (length (name_cells rs)) (omega (arith, cells_length rs)), enter)

  -- the definition's names are those of the rows
  pub cells_enter : name_cells (enter_row rs k c) ≡ enter (name_cells rs) k c
  cells_enter =
      by (ltb k (length rs)) (λ e. ap name_cells (row_known (ltb-true k (length rs) e)) ∙ sym (known_cells (length rs) refl (ltb-true k (length rs) e)))
      (λ e. ap name_cells (row_new (ltb-false k (length rs) e)) ∙ cells_append rs c ∙ sym (new_cells (ltb-false k (length rs) e)))

  row_grows : length rs ≤ length (enter_row rs k c)
  row_grows =
      by (ltb k (length rs)) (λ e. omega (arith, ap length (row_known (ltb-true k (length rs) e))))
      (λ e. omega (arith, ap length (row_new (ltb-false k (length rs) e)), length-append rs (state_row c ∷ [])))

pub all_grows : (t : List ℕ) (rs : Table) (ps : List Piece) → length rs ≤ length (enter_all t rs ps)
unfolding enter_all
all_grows t rs [] = omega arith
all_grows t rs (p ∷ ps) =
    omega (arith, row_grows rs (find_name t (name_cells rs) p.word) (piece_cell p), all_grows t (enter_row rs (find_name t (name_cells rs) p.word) (piece_cell p)) ps)

-- THE ROWS ARE THOSE OF THE DEFINITION'S NAMES
record Added (t : List ℕ) (rs : Table) (ps : List Piece) : Type 0 where
  more : List Cell
  known : (resolve t (name_cells rs) ps).known ≡ name_cells rs ++ more
  rows : enter_all t rs ps ≡ rs ++ map state_row more

added : (t : List ℕ) (rs : Table) (ps : List Piece) → Added t rs ps
unfolding enter_all resolve
added t rs [] = record { more = []; known = sym (append-nil (name_cells rs)); rows = sym (append-nil rs) }
added t rs (p ∷ ps) =
    let k : ℕ = find_name t (name_cells rs) p.word in
    let c : Cell = piece_cell p in
    let ih : Added t (enter_row rs k c) ps = added t (enter_row rs k c) ps in
    let e : (resolve t (enter (name_cells rs) k c) ps).known ≡ name_cells (enter_row rs k c) ++ ih.more =
    ap (λ (cs : List Cell). (resolve t cs ps).known) (sym (cells_enter rs k c)) ∙ ih.known in
    by (ltb k (length rs))
    (λ h.
    let z : enter_row rs k c ≡ rs = row_known rs k c (ltb-true k (length rs) h) in
    record {
      more = ih.more;
      known = e ∙ ap (λ (xs : Table). name_cells xs ++ ih.more) z;
      rows = ih.rows ∙ ap (λ (xs : Table). xs ++ map state_row ih.more) z;
    })
    (λ h.
    let z : enter_row rs k c ≡ rs ++ state_row c ∷ [] = row_new rs k c (ltb-false k (length rs) h) in
    record {
      more = c ∷ ih.more;
      known = e ∙ ap (λ (xs : Table). name_cells xs ++ ih.more) z ∙ ap (λ (cs : List Cell). cs ++ ih.more) (cells_append rs c) ∙ append_assoc (name_cells rs) (c ∷ []) ih.more;
      rows = ih.rows ∙ ap (λ (xs : Table). xs ++ map state_row ih.more) z ∙ append_assoc rs (state_row c ∷ []) (map state_row ih.more);
    })

pub entered_rows : (t : List ℕ) (rs : Table) (ps : List Piece) → enter_all t rs ps ≡ rs ++ map state_row (drop (length rs) (resolve t (name_cells rs) ps).known)
entered_rows t rs ps =
    let a : Added t rs ps = added t rs ps in
    let z : drop (length rs) (resolve t (name_cells rs) ps).known ≡ a.more =
    ap₂ (λ (n : ℕ) (cs : List Cell). drop n cs) (sym (cells_length rs)) a.known ∙ drop-append_seam (name_cells rs) a.more in
    a.rows ∙ ap (λ (cs : List Cell). rs ++ map state_row cs) (sym z)

-- ---- one name entered into the lent table

module _ (before now : Table) (n : ℕ) (p : Partly before now n) (k : ℕ) (c : Cell) where
  abbrev rows : Table
  rows = take n now

  pub enter_size : count_after n k ≡ length (enter_row rows k c)
  enter_size =
      let l : length rows ≡ n = partly_length before now n p in
      by (ltb k n)
      (λ e.
      let h : k < n = ltb-true k n e in
      count_known n k h ∙ sym (ap length (row_known rows k c (omega (arith, h, l))) ∙ l))
      (λ e.
      let h : n ≤ k = ltb-false k n e in
      omega (arith, count_new n k h, l, ap length (row_new rows k c (omega (arith, h, l))), length-append rows (state_row c ∷ [])))

  pub enter_partly : count_after n k ≤ length before → (after : Table) → after ≡ placed_row now n k c → Partly before after (count_after n k) × (take (count_after n k) after ≡ enter_row rows k c)
  enter_partly room₁ after e =
      let l : length rows ≡ n = partly_length before now n p in
      by (ltb k n)
      (λ f.
      let h : k < n = ltb-true k n f in
      let z : after ≡ now = e ∙ sym (placed_known now n k c h) in
      let y : count_after n k ≡ n = count_known n k h in (
        subst (λ (x : Table). Partly before x (count_after n k)) (sym z) (subst (Partly before now) (sym y) p),
        ap₂ take y z ∙ sym (row_known rows k c (omega (arith, h, l))),
      ))
      (λ f.
      let h : n ≤ k = ltb-false k n f in
      let z : after ≡ set now n (state_row c) = e ∙ sym (placed_new now n k c h) in
      let y : count_after n k ≡ suc n = count_new n k h in
      let m : n < length before = omega (arith, room₁, y) in (
        subst (λ (x : Table). Partly before x (count_after n k)) (sym z) (subst (Partly before (set now n (state_row c))) (sym y) (partly_put before now n p m (state_row c))),
        ap₂ take y z ∙ partly_took before now n p m (state_row c) ∙ sym (row_new rows k c (omega (arith, h, l))),
      ))
