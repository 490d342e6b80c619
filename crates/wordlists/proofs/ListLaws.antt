-- For the proofs of the functions on words.
use Prim.Native.Nat.{ℕ, zero, suc, ◌+◌, ◌-◌, ◌≤◌, ◌<◌}
use mathlib.Core.Path.{◌≡◌, refl, sym, ap, ap₂, ◌∙◌}
use mathlib.Core.Bool.{Bool}
use mathlib.Core.List.{List, [], ◌∷◌}
use native.Mathlib.Omega.{arith}
use lib.ListN.{length, take, drop, length-drop, length-take, drop_of_length-le}
use Rattle.definition.specs.Text.{words_by, pieces, emit, bytes_at}
use Rattle.definition.specs.Rows.{Table, Cell, text_at, text_from}
use Rattle.definition.specs.Codes.{list_number}
use Rattle.plan.specs.declared.MemberPlan.{MemberPlan}
use Rattle.fill.specs.Fill.{cell, as_cell}
use Rattle.fill.specs.declared.TextCell.{TextCell}
use Rattle.wordlists.specs.Words.{set_all, list_cells, word_members, cells_at}

none_of : (e : Bool) (a : ℕ) → list_cells e a [] ≡ []
unfolding list_cells words_by pieces emit
none_of e a = refl

-- Nothing is written where there is no word.
pub nothing_added : (used : ℕ) (ms : Table) (p : MemberPlan) (cs : List Cell) → cs ≡ [] → (used ≡ used + length cs) × (ms ≡ set_all ms used (word_members (list_number p.list) p.owner cs))
unfolding set_all word_members
nothing_added used ms p cs e = (omega (arith, ap length e), sym (ap (λ (x : List Cell). set_all ms used (word_members (list_number p.list) p.owner x)) e))

module _ (e : Bool) (text : List ℕ) (c : TextCell) where
  pub no_text : c.at ≡ 0 → cells_at e text (as_cell c) ≡ []
  unfolding cells_at as_cell cell
  no_text z = ap (λ (a : ℕ). elim a as (λ b. List Cell) [ zero ↦ [] | suc i ↦ list_cells e i (text_at text (cell a c.len)) ]) z

  cells_some : (a : ℕ) → c.at ≡ suc a → cells_at e text (as_cell c) ≡ list_cells e a (text_from text c.at c.len)
  unfolding cells_at as_cell cell text_at
  cells_some a z = at c.at z
    where
      at : (x : ℕ) → x ≡ suc a → elim x as (λ b. List Cell) [ zero ↦ [] | suc i ↦ list_cells e i (text_from text x c.len) ] ≡ list_cells e a (text_from text x c.len)
      at zero z = absurd (omega (arith, z))
      at (suc x) z = let y : x ≡ a = omega (arith, z) in ap (λ (i : ℕ). list_cells e i (text_from text (suc x) c.len)) y

  pred : (x : ℕ) → (x ≡ 0 → ⊥) → x ≡ suc (x - 1)
  pred zero h = absurd (h refl)
  pred (suc x) h = omega arith

  pub some_text : (a : ℕ) → (c.at ≡ 0 → ⊥) → a ≡ c.at - 1 → (v : List ℕ) → v ≡ text_from text c.at c.len → list_cells e a v ≡ cells_at e text (as_cell c)
  some_text a h z v ev = ap₂ (list_cells e) z ev ∙ sym (cells_some (c.at - 1) (pred c.at h))

  past_end : (i n : ℕ) → length text < i → bytes_at text (record { off = i; len = n }) ≡ []
  unfolding bytes_at
  past_end i n h = let l : length text ≤ i = omega arith in ap (take n) (drop_of_length-le text l) ∙ nothing n
    where
      nothing : (n : ℕ) → ◌≡◌ {A = List ℕ} (take n []) []
      nothing zero = refl
      nothing (suc n) = refl

  pub far_text : (a : ℕ) → (c.at ≡ 0 → ⊥) → a ≡ c.at - 1 → length text < a → cells_at e text (as_cell c) ≡ []
  unfolding text_from
  far_text a h z l =
      let p : c.at ≡ suc (c.at - 1) = pred c.at h in
      cells_some (c.at - 1) p
      ∙ ap (list_cells e (c.at - 1)) (ap (λ (x : ℕ). text_from text x c.len) p ∙ past_end (c.at - 1) c.len (omega (arith, l, z))) ∙ none_of e (c.at - 1)

  pub text_room : (a : ℕ) → (c.at ≡ 0 → ⊥) → a ≡ c.at - 1 → (v : List ℕ) → v ≡ text_from text c.at c.len → a ≤ length text → length text ≤ 65535 → a + length v ≤ 65535
  unfolding text_from bytes_at
  text_room a h z v ev l s =
      let p : c.at ≡ suc (c.at - 1) = pred c.at h in
      let w : v ≡ take c.len (drop (c.at - 1) text) = ev ∙ ap (λ (x : ℕ). text_from text x c.len) p in
      omega (arith, z, l, s, ap length w, length-take c.len (drop (c.at - 1) text), length-drop (c.at - 1) text)

pub as_cells : (used r : ℕ) (ms ms' : Table) (p : MemberPlan) (cs ds : List Cell) → cs ≡ ds → (r ≡ used + length cs) × (ms' ≡ set_all ms used (word_members (list_number p.list) p.owner cs))
    → (r ≡ used + length ds) × (ms' ≡ set_all ms used (word_members (list_number p.list) p.owner ds))
as_cells used r ms ms' p cs ds e h = (h.0 ∙ ap (λ (x : List Cell). used + length x) e, h.1 ∙ ap (λ (x : List Cell). set_all ms used (word_members (list_number p.list) p.owner x)) e)

pub members_length : (k o : ℕ) (cs : List Cell) → length (word_members k o cs) ≡ length cs
unfolding word_members
members_length k o [] = refl
members_length k o (c ∷ cs) = ap suc (members_length k o cs)
