-- Distinct names stay distinct when one is entered.
use Prim.Native.Nat.{ℕ, suc, ◌+◌, ◌≤◌}
use mathlib.Core.Path.{◌≡◌, refl, sym, ap, ◌∙◌, subst}
use mathlib.Core.Bool.{Bool, true, false, true≢false}
use mathlib.Core.List.{List, [], ◌∷◌, ◌++◌}
use native.Mathlib.Omega.{arith}
use lib.Dec.{eqb, ltb}
use lib.ListN.{length}
use borrow.Author.Tests.{eq-eqb, eqb-true, ltb-false}
use Rattle.definition.specs.Text.{bytes_at, Piece}
use Rattle.definition.specs.Rows.{Table, Cell, text_at, text_from}
use Rattle.definition.specs.Look.{span_of, find_name, name_cells, piece_cell, enter}
use Rattle.definition.specs.Rules.{names_lead}
use Rattle.definition.proofs.Finds.{find_more, find_new}
use Rattle.words.proofs.Laws.{by}
use Rattle.targets.specs.Enter.{enter_row}
use Rattle.targets.proofs.Laws.{cells_enter}

-- ---- names that lead to their places

module _ (t : List ℕ) (all : List Cell) (i : ℕ) (c : Cell) (cs : List Cell) where
  lead_parts : names_lead t all i (c ∷ cs) ≡ true → (find_name t all (text_at t c) ≡ i) × (names_lead t all (suc i) cs ≡ true)
  unfolding names_lead
  lead_parts h = go (eqb (find_name t all (text_at t c)) i) refl h
    where
      go : (b : Bool) → eqb (find_name t all (text_at t c)) i ≡ b → elim b [ true ↦ names_lead t all (suc i) cs | false ↦ false ] ≡ true
          → (find_name t all (text_at t c) ≡ i) × (names_lead t all (suc i) cs ≡ true)
      go true e h = (eqb-true (find_name t all (text_at t c)) i e, h)
      go false e h = absurd (true≢false (sym h))

  lead_cons : find_name t all (text_at t c) ≡ i → names_lead t all (suc i) cs ≡ true → names_lead t all i (c ∷ cs) ≡ true
  unfolding names_lead
  lead_cons e h = rw (eq-eqb (find_name t all (text_at t c)) i e, names_lead) h

lead_more : (t : List ℕ) (all ds : List Cell) (i : ℕ) (cs : List Cell) → i + length cs ≤ length all → names_lead t all i cs ≡ true → names_lead t (all ++ ds) i cs ≡ true
lead_more t all ds i [] k h = unfold names_lead in refl
lead_more t all ds i (c ∷ cs) k h =
    let x = lead_parts t all i c cs h in
    lead_cons t (all ++ ds) i c cs (find_more t all ds (text_at t c) (omega (arith, x.0, k)) ∙ x.0) (lead_more t all ds (suc i) cs (omega arith) x.1)

lead_last : (t : List ℕ) (all : List Cell) (i : ℕ) (cs : List Cell) (d : Cell) → names_lead t all i cs ≡ true → find_name t all (text_at t d) ≡ i + length cs → names_lead t all i (cs ++ d ∷ []) ≡ true
lead_last t all i [] d h e = lead_cons t all i d [] (omega (arith, e)) (unfold names_lead in refl)
lead_last t all i (c ∷ cs) d h e =
    let x = lead_parts t all i c cs h in
    lead_cons t all i c (cs ++ d ∷ []) x.0 (lead_last t all (suc i) cs d x.1 (omega (arith, e)))

-- ---- one name entered

module _ (t : List ℕ) (cs : List Cell) (k : ℕ) (d : Cell) (e : k ≡ find_name t cs (text_at t d)) (h : names_lead t cs 0 cs ≡ true) where
  lead_entered : names_lead t (enter cs k d) 0 (enter cs k d) ≡ true
  unfolding enter
  lead_entered =
      by (ltb k (length cs)) (λ f. rw (f, enter) h) (λ f.
      let n : find_name t (cs ++ d ∷ []) (text_at t d) ≡ 0 + length cs = find_new t cs d (text_at t d) (omega (arith, e, ltb-false k (length cs) f)) refl ∙ omega arith in
      let m : names_lead t (cs ++ d ∷ []) 0 (cs ++ d ∷ []) ≡ true = lead_last t (cs ++ d ∷ []) 0 cs d (lead_more t cs (d ∷ []) 0 cs (omega arith) h) n in
      rw (f, enter) m)

module _ (t : List ℕ) (rs : Table) (p : Piece) (spelled : bytes_at t (record { off = p.off; len = length p.word }) ≡ p.word) where
  word_there : text_at t (piece_cell p) ≡ p.word
  unfolding text_at text_from piece_cell span_of
  word_there = spelled

  pub apart_entered : names_lead t (name_cells rs) 0 (name_cells rs) ≡ true
      → names_lead t (name_cells (enter_row rs (find_name t (name_cells rs) p.word) (piece_cell p))) 0 (name_cells (enter_row rs (find_name t (name_cells rs) p.word) (piece_cell p))) ≡ true
  apart_entered h =
      let k : ℕ = find_name t (name_cells rs) p.word in
      subst (λ (cs : List Cell). names_lead t cs 0 cs ≡ true) (sym (cells_enter rs k (piece_cell p)))
      (lead_entered t (name_cells rs) k (piece_cell p) (ap (find_name t (name_cells rs)) (sym word_there)) h)
