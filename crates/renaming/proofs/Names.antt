-- Names are found, and entered, alike in two texts whose names correspond.
use Prim.Native.Nat.{ℕ, suc}
use mathlib.Core.Path.{◌≡◌, refl, sym, ap, ◌∙◌, subst, subst₂}
use mathlib.Core.Bool.{true, false, cond}
use mathlib.Core.List.{List, [], ◌∷◌, ◌++◌, map}
use lib.ListN.{length, length-append}
use lib.Dec.{ltb}
use native.Mathlib.Omega.{arith}
use Rattle.definition.specs.Text.{same, Piece}
use Rattle.definition.specs.Elements.{Role, name, names, masked, plain}
use Rattle.definition.specs.Rows.{Cell, no_cell, text_from, text_at}
use Rattle.definition.specs.Look.{span_of, find_name, piece_cell, enter, resolve}
use Rattle.renaming.specs.Renaming.{Moved, rename_words}
use Rattle.definition.proofs.Base.{All, All-append, same_refl, same_eq, bool_ext, elim_cond}
use Rattle.definition.proofs.Places.{Fits, Located, fits_grow, text_from-append}
use Rattle.renaming.proofs.Words.{Total, ρ-nil, rename_piece}

module _ (ρ : List ℕ → List ℕ) (R : Total ρ) where
  same-ρ : (a b : List ℕ) → same (ρ a) (ρ b) ≡ same a b
  same-ρ a b =
      bool_ext (same (ρ a) (ρ b)) (same a b) (λ e. rw (R.inj a b (same_eq (ρ a) (ρ b) e)) (same_refl b)) (λ e. rw (same_eq a b e) (same_refl (ρ b)))

  -- A cell's text in two stores, by the column's role.
  pub record Held (t u : List ℕ) (q : Role) (c : Cell) : Type 0 where
    pub inside : Fits (length t) c.at c.len
    pub moved : Moved ρ q (text_at t c) (text_at u c)

  pub moved_nil : (q : Role) → Moved ρ q [] []
  unfolding rename_words
  moved_nil name = sym (ρ-nil ρ R)
  moved_nil names = sym (ρ-nil ρ R)
  moved_nil masked = refl
  moved_nil plain = refl

  pub held_none : (t u : List ℕ) (q : Role) → Held t u q no_cell
  unfolding no_cell text_at text_from
  held_none t u q = record { inside = tt; moved = moved_nil q }

  -- Both texts grow.
  pub held_grow : (t u x y : List ℕ) → length u ≡ length t → (q : Role) (c : Cell) → Held t u q c → Held (t ++ x) (u ++ y) q c
  unfolding text_at
  held_grow t u x y size q c h =
      record {
        inside = fits_grow (length t) (length (t ++ x)) c.at c.len (rw length-append (omega arith)) h.inside;
        moved =
            subst₂ (Moved ρ q) (sym (text_from-append t x c.at c.len h.inside))
            (sym (text_from-append u y c.at c.len (subst (λ (n : ℕ). Fits n c.at c.len) (sym size) h.inside))) h.moved;
      }

  module _ (t u : List ℕ) where
    find_cons : (v : List ℕ) (c : Cell) (cs : List Cell) (w : List ℕ) → find_name v (c ∷ cs) w ≡ cond (same (text_at v c) w) 0 (suc (find_name v cs w))
    unfolding find_name
    find_cons v c cs w = elim_cond (same (text_at v c) w) 0 (suc (find_name v cs w))

    -- A NAME IS FOUND IN THE SAME ROW
    pub find-ρ : (cs : List Cell) (w : List ℕ) → All (Held t u name) cs → find_name u cs (ρ w) ≡ find_name t cs w
    unfolding find_name
    find-ρ [] w a = refl
    find-ρ (c ∷ cs) w a = rw (find_cons u c cs (ρ w), a.0.moved, same-ρ, find-ρ cs w a.1) (sym (find_cons t c cs w))

    -- A piece that lies in both texts.
    pub record Both (p : Piece) : Type 0 where
      pub here : Located t p
      pub there : Located u (rename_piece ρ p)

    held_piece : (p : Piece) → Both p → Held t u name (piece_cell p)
    unfolding piece_cell text_at text_from span_of
    held_piece p b =
        record {
          inside = b.here.fits;
          moved = (rw (R.len p.word) at b.there.bytes) ∙ ap ρ (sym b.here.bytes);
        }

    enter_cond : (cs : List Cell) (k : ℕ) (c : Cell) → enter cs k c ≡ cond (ltb k (length cs)) cs (cs ++ c ∷ [])
    unfolding enter
    enter_cond cs k c = elim_cond (ltb k (length cs)) cs (cs ++ c ∷ [])

    enter_held : (cs : List Cell) (k : ℕ) (p : Piece) → All (Held t u name) cs → Both p → All (Held t u name) (enter cs k (piece_cell p))
    enter_held cs k p a b =
        rw (enter_cond cs k (piece_cell p))
        (elim (ltb k (length cs)) as (λ c. All (Held t u name) (cond c cs (cs ++ piece_cell p ∷ []))) [
          | true ↦ a
          | false ↦ All-append (Held t u name) cs (piece_cell p ∷ []) a (held_piece p b, tt)
        ])

    piece-cell-ρ : (p : Piece) → piece_cell (rename_piece ρ p) ≡ piece_cell p
    unfolding piece_cell
    piece-cell-ρ p = rw (R.len p.word)

    -- NAMES ARE RESOLVED ALIKE
    pub resolve-ρ : (cs : List Cell) (ps : List Piece) → All (Held t u name) cs → All Both ps
        → (resolve u cs (map (rename_piece ρ) ps) ≡ resolve t cs ps) × All (Held t u name) (resolve t cs ps).known
    unfolding resolve
    resolve-ρ cs [] a b = (refl, a)
    resolve-ρ cs (p ∷ ps) a b =
        let ih = resolve-ρ (enter cs (find_name t cs p.word) (piece_cell p)) ps (enter_held cs (find_name t cs p.word) p a b.0) b.1 in
        (rw (find-ρ cs p.word a, piece-cell-ρ p, ih.0), ih.1)
