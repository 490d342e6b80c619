-- The names by kind and element, as they were found.
use Prim.Native.Nat.{ℕ, suc}
use mathlib.Core.Path.{◌≡◌, sym, ap, ap₂, ◌∙◌}
use mathlib.Core.Bool.{Bool, true, false}
use mathlib.Core.List.{List, [], ◌∷◌}
use lib.Dec.{eqb}
use borrow.Author.Tests.{eq-eqb, ne_eqb}
use Rattle.definition.specs.Text.{Piece, generated_name, state_words}
use Rattle.definition.specs.Elements.{names_state}
use Rattle.definition.specs.Rows.{Cell}
use Rattle.definition.specs.Look.{Load, has_load}
use Rattle.plain.specs.Plain.{Parsed}
use Rattle.plain.specs.Keyed.{value_in}
use Rattle.names.specs.declared.Names.{Names}
use Rattle.names.specs.Names.{first_of, new_in, counted, own_in, state_names, brought_in, names_in}

-- The own name w and the value v of `initial`.
module _ (t : List ℕ) (cs : List Cell) (n : ℕ) (is : List Load) (b : Bool) (eb : b ≡ has_load 1 is) (v : List ℕ) (ev : v ≡ value_in 2 is) (r : Names) where
  pub own_given : b ≡ true → (w : List ℕ) → w ≡ value_in 1 is → r ≡ counted t cs (record { off = 0; word = w } ∷ state_words v) → r ≡ counted t cs (state_names n is)
  unfolding state_names own_in
  own_given q w ew h =
      let z : has_load 1 is ≡ true = sym eb ∙ q in
      h ∙ ap₂ (λ (x y : List ℕ). counted t cs (record { off = 0; word = x } ∷ state_words y)) (ew ∙ sym (rw (z, own_in))) ev

  pub own_made : b ≡ false → (w : List ℕ) → w ≡ generated_name (suc n) → r ≡ counted t cs (record { off = 0; word = w } ∷ state_words v) → r ≡ counted t cs (state_names n is)
  unfolding state_names own_in
  own_made q w ew h =
      let z : has_load 1 is ≡ false = sym eb ∙ q in
      h ∙ ap₂ (λ (x y : List ℕ). counted t cs (record { off = 0; word = x } ∷ state_words y)) (ew ∙ sym (rw (z, own_in))) ev

-- ---- by kind and element

module _ (n : ℕ) (v : Parsed) where
  pub brought_end : eqb v.kind 3 ≡ true → brought_in n v ≡ []
  unfolding brought_in
  brought_end e = rw (e, brought_in)

  pub brought_state : eqb v.kind 3 ≡ false → names_state v.tag ≡ true → brought_in n v ≡ state_names n v.values
  unfolding brought_in
  brought_state e a = rw (e, brought_in, a, brought_in)

  pub brought_transition : eqb v.kind 3 ≡ false → names_state v.tag ≡ false → eqb v.tag 16 ≡ true → brought_in n v ≡ state_words (value_in 17 v.values)
  unfolding brought_in
  brought_transition e a b = rw (e, brought_in, a, brought_in, b, brought_in)

  pub brought_other : eqb v.kind 3 ≡ false → names_state v.tag ≡ false → eqb v.tag 16 ≡ false → brought_in n v ≡ []
  unfolding brought_in
  brought_other e a b = rw (e, brought_in, a, brought_in, b, brought_in)

  module _ (t : List ℕ) (cs : List Cell) (r : Names) where
    named : (ps : List Piece) → brought_in n v ≡ ps → r ≡ counted t cs ps → r ≡ names_in t cs n v
    unfolding names_in
    named ps e h = h ∙ sym (ap (counted t cs) e)

    unnamed : brought_in n v ≡ [] → r ≡ counted [] [] [] → r ≡ names_in t cs n v
    unfolding counted first_of new_in
    unnamed e h = named [] e h

    pub names_end : v.kind ≡ 3 → r ≡ counted [] [] [] → r ≡ names_in t cs n v
    names_end e = unnamed (brought_end (eq-eqb v.kind 3 e))

    module _ (start : v.kind ≡ 3 → ⊥) (b : Bool) (eb : b ≡ names_state v.tag) where
      pub names_state_lem : b ≡ true → r ≡ counted t cs (state_names n v.values) → r ≡ names_in t cs n v
      names_state_lem q = named (state_names n v.values) (brought_state (ne_eqb v.kind 3 start) (sym eb ∙ q))

      pub names_transition : b ≡ false → v.tag ≡ 16 → (w : List ℕ) → w ≡ value_in 17 v.values → r ≡ counted t cs (state_words w) → r ≡ names_in t cs n v
      names_transition q e w ew h =
          named (state_words w) (brought_transition (ne_eqb v.kind 3 start) (sym eb ∙ q) (eq-eqb v.tag 16 e) ∙ ap state_words (sym ew)) h

      pub names_other : b ≡ false → (v.tag ≡ 16 → ⊥) → r ≡ counted [] [] [] → r ≡ names_in t cs n v
      names_other q e = unnamed (brought_other (ne_eqb v.kind 3 start) (sym eb ∙ q) (ne_eqb v.tag 16 e))
