-- How names and data are found among rows; one name more changes nothing for those found before.
use Prim.Native.Nat.{ℕ, suc, ◌≤◌, ◌<◌}
use mathlib.Core.Path.{◌≡◌, refl, sym, ap, ◌∙◌}
use mathlib.Core.Bool.{Bool, true, false, ◌&&◌}
use mathlib.Core.List.{List, [], ◌∷◌, ◌++◌}
use lib.ListN.{length}
use lib.Dec.{eqb}
use native.Mathlib.Omega.{arith}
use Rattle.definition.specs.Text.{same, Piece}
use Rattle.definition.specs.Rows.{Table, Cell, num, cell_at, text_at, text_from}
use Rattle.definition.specs.Look.{enter, span_of, find_name, find_datum, name_cells, piece_cell, resolve}
use Rattle.definition.proofs.Base.{test, same_refl}
use Rattle.definition.proofs.Places.{Located}

pub find_hit : (t : List ℕ) (c : Cell) (cs : List Cell) (w : List ℕ) → same (text_at t c) w ≡ true → find_name t (c ∷ cs) w ≡ 0
unfolding find_name
find_hit t c cs w e = rw (e, find_name)

pub find_miss : (t : List ℕ) (c : Cell) (cs : List Cell) (w : List ℕ) → same (text_at t c) w ≡ false → find_name t (c ∷ cs) w ≡ suc (find_name t cs w)
unfolding find_name
find_miss t c cs w e = rw (e, find_name)

pub find_le : (t : List ℕ) (cs : List Cell) (w : List ℕ) → find_name t cs w ≤ length cs
unfolding find_name
find_le t [] w = omega arith
find_le t (c ∷ cs) w =
    let ih : find_name t cs w ≤ length cs = find_le t cs w in
    test (same (text_at t c) w) (λ e. omega (arith, find_hit t c cs w e)) (λ e. omega (arith, find_miss t c cs w e, ih))

pub find_more : (t : List ℕ) (cs ds : List Cell) (w : List ℕ) → find_name t cs w < length cs → find_name t (cs ++ ds) w ≡ find_name t cs w
find_more t [] ds w h = absurd (omega arith)
find_more t (c ∷ cs) ds w h =
    test (same (text_at t c) w) (λ e. find_hit t c (cs ++ ds) w e ∙ sym (find_hit t c cs w e)) (λ e.
    let k : find_name t cs w < length cs = omega (arith, h, find_miss t c cs w e) in
    find_miss t c (cs ++ ds) w e ∙ ap suc (find_more t cs ds w k) ∙ sym (find_miss t c cs w e))

pub find_new : (t : List ℕ) (cs : List Cell) (d : Cell) (w : List ℕ) → length cs ≤ find_name t cs w → text_at t d ≡ w → find_name t (cs ++ d ∷ []) w ≡ length cs
unfolding find_name
find_new t [] d w h e = find_hit t d [] w (ap (λ (x : List ℕ). same x w) e ∙ same_refl w)
find_new t (c ∷ cs) d w h e =
    test (same (text_at t c) w) (λ f. absurd (omega (arith, h, find_hit t c cs w f))) (λ f.
    let k : length cs ≤ find_name t cs w = omega (arith, h, find_miss t c cs w f) in find_miss t c (cs ++ d ∷ []) w f ∙ ap suc (find_new t cs d w k e))

-- ---- names resolved, in the order in which they come

pub cells_length : (rs : Table) → length (name_cells rs) ≡ length rs
unfolding name_cells
cells_length [] = refl
cells_length (r ∷ rs) = ap suc (cells_length rs)

pub refs_length : (t : List ℕ) (cs : List Cell) (ps : List Piece) → length (resolve t cs ps).refs ≡ length ps
unfolding resolve
refs_length t cs [] = refl
refs_length t cs (p ∷ ps) = ap suc (refs_length t (enter cs (find_name t cs p.word) (piece_cell p)) ps)

pub cell_word : (t : List ℕ) (p : Piece) → Located t p → text_at t (piece_cell p) ≡ p.word
unfolding text_at text_from piece_cell span_of
cell_word t p h = h.bytes

-- ---- data

pub datum_le : (t : List ℕ) (rs : Table) (s : ℕ) (w : List ℕ) → find_datum t rs s w ≤ suc (length rs)
unfolding find_datum
datum_le t [] s w = omega arith
datum_le t (r ∷ rs) s w = go (eqb (num r 0) s && same (text_at t (cell_at r 1)) w) (datum_le t rs s w)
  where
    go : (b : Bool) → find_datum t rs s w ≤ suc (length rs) → elim b [ true ↦ 1 | false ↦ suc (find_datum t rs s w) ] ≤ suc (suc (length rs))
    go true h = omega arith
    go false h = omega (arith, h)
