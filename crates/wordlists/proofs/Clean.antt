-- THE LAW OF LISTS: the rows that the code writes are the definition's members for words and for targets.
use Prim.Native.Nat.{ℕ, zero, suc, ◌+◌, ◌≤◌, ◌<◌}
use mathlib.Core.Path.{◌≡◌, refl, sym, ap, ap₂, ◌∙◌}
use mathlib.Core.Bool.{true, false}
use mathlib.Core.List.{List, [], ◌∷◌, ◌++◌, map, append_assoc, append-nil}
use native.Mathlib.Omega.{arith}
use lib.ListN.{length, get_or, set, take, drop, length-append, drop_of_length-le}
use lib.Seq.{length-take-le, drop-cons}
use Rattle.definition.specs.Text.{Piece, words_by, event_words, state_words, stripped_piece, is_space, is_separator}
use Rattle.definition.specs.Rows.{Row, Table, Cell, no_cell, with_cell}
use Rattle.definition.specs.Shapes.{word, Filling, shape_at, shapes_in, shapes_by_element}
use Rattle.definition.specs.Look.{Look, span_of, shift}
use Rattle.definition.specs.Change.{field_in, field_words, cell_of, filled_by}
use Rattle.definition.specs.Reader.{over}
use Rattle.std.specs.Prelude.{Some}
use Rattle.plan.specs.declared.TargetPlan.{TargetPlan}
use Rattle.plan.specs.After.{member_row, member_rows, word_row, word_rows, targets_after}
use Rattle.plan.proofs.Over.{over_start, over_add}
use Rattle.words.specs.Next.{parted_by}
use Rattle.wordlists.specs.Words.{set_all, kept, kept_cell, list_cells, word_member, word_members}

-- Rows one after another.
pub all_over : (m : ℕ) (rs : List Row) (u t : Table) → length u ≡ m → m + length rs ≤ length t → set_all (over u t) m rs ≡ over (u ++ rs) t
unfolding set_all
all_over m [] u t e h = ap (λ (z : Table). over z t) (sym (append-nil u))
all_over m (r ∷ rs) u t e h =
    let k : length (u ++ r ∷ []) ≡ suc m = omega (arith, length-append u (r ∷ [])) in
    ap (λ (z : Table). set_all z (suc m) rs) (ap (λ (z : ℕ). set (over u t) z r) (sym e) ∙ over_add u t r (omega arith)) ∙ all_over (suc m) rs (u ++ r ∷ []) t k (omega arith)
    ∙ ap (λ (z : Table). over z t) (append_assoc u (r ∷ []) rs)

pub all_clean : (m : ℕ) (rs : List Row) (t : Table) → m + length rs ≤ length t → set_all t m rs ≡ over (take m t ++ rs) t
all_clean m rs t h = ap (λ (z : Table). set_all z m rs) (sym (over_start m t (omega arith))) ∙ all_over m rs (take m t) t (length-take-le m t (omega arith)) h

module _ (l : Look) (k o : ℕ) where
  row_by : (g i c : ℕ) → l.tag ≡ g → (shape_at g 1).texts ≡ record { column = 3; source = word c } ∷ [] → word_row l k o i ≡ word_member k o (get_or (field_words (field_in l.fields c)) i no_cell)
  unfolding word_row filled_by with_cell cell_of word_member
  row_by g i c e s =
      ap (λ (x : ℕ). filled_by l i (shape_at x 1).texts (k ∷ o ∷ 0 ∷ 0 ∷ 0 ∷ 0 ∷ 0 ∷ 0 ∷ [])) e
      ∙ ap (λ (x : List Filling). filled_by l i x (k ∷ o ∷ 0 ∷ 0 ∷ 0 ∷ 0 ∷ 0 ∷ 0 ∷ [])) s

  rows_by : (cs : List Cell) → ((i : ℕ) → word_row l k o i ≡ word_member k o (get_or cs i no_cell)) → (n i : ℕ) → i + n ≡ length cs → word_rows l k o i n ≡ word_members k o (drop i cs)
  unfolding word_rows word_members
  rows_by cs w zero i e = let m : length cs ≤ i = omega arith in sym (ap (word_members k o) (drop_of_length-le cs m))
  rows_by cs w (suc n) i e =
      let m : i < length cs = omega arith in
      ap₂ (λ (x : Row) (y : Table). x ∷ y) (w i) (rows_by cs w n (suc i) (omega arith)) ∙ sym (ap (word_members k o) (drop-cons cs i no_cell m))

  -- A transition's event words, and the names of a send or an invoke.
  pub event_rows : l.tag ≡ 16 → word_rows l k o 0 (length (field_words (field_in l.fields 14))) ≡ word_members k o (field_words (field_in l.fields 14))
  unfolding shape_at shapes_in shapes_by_element
  event_rows e = rows_by (field_words (field_in l.fields 14)) (λ i. row_by 16 i 14 e refl) (length (field_words (field_in l.fields 14))) 0 (omega arith)

  pub send_rows : l.tag ≡ 19 → word_rows l k o 0 (length (field_words (field_in l.fields 12))) ≡ word_members k o (field_words (field_in l.fields 12))
  unfolding shape_at shapes_in shapes_by_element
  send_rows e = rows_by (field_words (field_in l.fields 12)) (λ i. row_by 19 i 12 e refl) (length (field_words (field_in l.fields 12))) 0 (omega arith)

  pub invoke_rows : l.tag ≡ 8 → word_rows l k o 0 (length (field_words (field_in l.fields 12))) ≡ word_members k o (field_words (field_in l.fields 12))
  unfolding shape_at shapes_in shapes_by_element
  invoke_rows e = rows_by (field_words (field_in l.fields 12)) (λ i. row_by 8 i 12 e refl) (length (field_words (field_in l.fields 12))) 0 (omega arith)

-- The cells of words: of an event value, and of names.
pub event_cells : (o : ℕ) (v : List ℕ) → map (shift o) (map span_of (event_words v)) ≡ list_cells true o v
unfolding event_words list_cells parted_by
event_cells o v = go (words_by is_space v)
  where
    go : (ps : List Piece) → map (shift o) (map span_of (map stripped_piece ps)) ≡ map (kept_cell true o) ps
    go [] = refl
    go (p ∷ ps) = ap₂ (λ (x : Cell) (y : List Cell). x ∷ y) (unfold shift span_of stripped_piece kept_cell kept in refl) (go ps)

pub name_cells_lem : (o : ℕ) (v : List ℕ) → map (shift o) (map span_of (state_words v)) ≡ list_cells false o v
unfolding state_words list_cells parted_by
name_cells_lem o v = go (words_by is_separator v)
  where
    go : (ps : List Piece) → map (shift o) (map span_of ps) ≡ map (kept_cell false o) ps
    go [] = refl
    go (p ∷ ps) = ap₂ (λ (x : Cell) (y : List Cell). x ∷ y) (unfold shift span_of kept_cell kept in refl) (go ps)

-- The targets.
rows_map : (f : ℕ → Row) (k o : ℕ) → ((v : ℕ) → f v ≡ member_row k o v) → (vs : List ℕ) → map f vs ≡ member_rows k o vs
unfolding member_rows
rows_map f k o h [] = refl
rows_map f k o h (v ∷ vs) = ap₂ (λ (x : Row) (y : Table). x ∷ y) (h v) (rows_map f k o h vs)

pub targets_rows : (l : Look) (p : TargetPlan) (f : ℕ → Row) → ((v : ℕ) → f v ≡ member_row 6 p.owner v) → (u : Table) → u ++ map f (drop p.skip l.refs) ≡ targets_after l (Some p) u
unfolding targets_after
targets_rows l p f h u = ap (λ (z : Table). u ++ z) (rows_map f 6 p.owner h (drop p.skip l.refs))
