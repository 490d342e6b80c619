-- The start of a transition.
use Prim.Native.Nat.{ℕ, suc, ◌≤◌}
use mathlib.Core.Path.{◌≡◌, refl, sym, ap, ◌∙◌, subst}
use mathlib.Core.Bool.{Bool, true, false, ◌&&◌}
use mathlib.Core.List.{List, [], ◌∷◌}
use lib.ListN.{length}
use lib.Dec.{eqb, leb}
use native.Mathlib.Omega.{arith}
use Rattle.definition.specs.Elements.{tag, key}
use Rattle.definition.specs.Rows.{Row, Table, columns_of, Numbers, state, transition, choices, blank, with_cell, current_state, parent_tag}
use Rattle.definition.specs.Shapes.{shape_at}
use Rattle.definition.specs.Look.{Look}
use Rattle.definition.specs.Change.{Put, ◌≔◌, numbers, shape, Change, done, nothing, put_all, put_one, is_number, filled_by, also, adding, shape_of, add_words, words_of, code_for, fresh_region, region_over, drawn, draw_id, draw_doc, next_id, next_doc, add_members, inside, in_transition}
use Rattle.definition.specs.Actions.{type_of, join_state, new_transition, start_transition}
use Rattle.definition.specs.Rules.{blocks_in, chosen, open_tags_fit}
use Rattle.kept.proofs.Base.{All, All-map}
use Rattle.kept.proofs.Classes.{Fits, Nums, HasRow}
use Rattle.kept.proofs.Grow.{ExtAll, all_trans, row_grow}
use Rattle.kept.proofs.RowChange.{paired}
use Rattle.kept.proofs.RowTexts.{LookIn, fills}
use Rattle.kept.proofs.Steps.{now, Good, ext_add, ext_region}
use Rattle.kept.proofs.Draws.{good_fresh, good_transition}
use Rattle.kept.proofs.Regions.{Tags}
use Rattle.kept.proofs.Members.{Out, out, out_either, out_unless}
use Rattle.kept.proofs.Next.{Next, has_next, next_trans, next_member, next_words, next_targets, next_inside}
use Rattle.kept.proofs.StatesOut.{Ready, state_row_lem}
use Rattle.kept.proofs.Entries.{add_swapped, good_as}
use Rattle.kept.proofs.StartStates.{initial_put}
use Rattle.kept.proofs.StatesOut.{out_unless_initial}

type_code : (c : ℕ) → (leb 0 (type_of c) && leb (type_of c) 1) ≡ true
unfolding type_of
type_code c = go (eqb c 1) refl
  where
    go : (b : Bool) → eqb c 1 ≡ b → (leb 0 (type_of c) && leb (type_of c) 1) ≡ true
    go true e = let z : type_of c ≡ 1 = rw (e, type_of) in rw z
    go false e = let z : type_of c ≡ 0 = rw (e, type_of) in rw z

module _ (u : ℕ) (l : Look) (n : Numbers) (look_in : LookIn u l) (b : ℕ) (R : Ready u l n b) (is-transition : l.tag ≡ 16)
    (wild : (leb 0 (code_for l key.event 0) && leb (code_for l key.event 0) 1) ≡ true) (refs : All (HasRow (now l n (nothing n)) 1) l.refs) (source : ¬ (current_state n ≡ 0)) where
  abbrev c₀ : Change
  c₀ = nothing n

  abbrev drawn_two : Change
  drawn_two = draw_doc (draw_id c₀)

  abbrev transition_puts : List Put
  transition_puts =
      transition.number ≔ next_id c₀ ∷ transition.doc ≔ next_doc c₀ ∷ transition.source ≔ current_state n ∷ transition.type ≔ type_of (code_for l key.type 0)
      ∷ transition.wildcard ≔ code_for l key.event 0 ∷ []

  -- The transition's row first, and then its region.
  abbrev row_first : Change
  row_first = fresh_region (adding (shape 0) transition_puts drawn_two)

  abbrev region_first : Change
  region_first = adding (shape 0) transition_puts (fresh_region drawn_two)

  shape_zero : shape_of l.tag (shape 0) ≡ record { into = 2; texts = (shape_at 16 0).texts }
  unfolding shape_of shape_at
  shape_zero = ap (λ (g : ℕ). shape_at g 0) is-transition

  row_made : Good u l n (adding (shape 0) transition_puts drawn_two) × HasRow (now l n (adding (shape 0) transition_puts drawn_two)) 2 (suc c₀.ids)
  unfolding adding draw_doc draw_id drawn next_id next_doc shape_at columns_of blank put_all put_one is_number filled_by with_cell fills paired Nums Fits chosen
  row_made =
      good_transition u l n look_in (shape 0) transition_puts c₀ drawn_two (shape_at 16 0).texts R.good refl (omega arith) (omega arith) refl refl refl refl shape_zero refl refl (λ U x.
      ((omega arith, omega arith), (omega arith, (row_grow (now l n c₀) U x 1 (current_state n) (state_row_lem u l n look_in b R source), (type_code (code_for l key.type 0), (wild, ((λ z. absurd (z refl)), (tt, (tt, tt)))))))))

  same_tables_lem : now l n region_first ≡ now l n row_first
  unfolding adding fresh_region region_over also draw_doc draw_id drawn shape_of
  same_tables_lem =
      add_swapped u l n look_in (numbers 3) (shape 0) 0 ((Rattle.definition.specs.Rows.region).number ≔ suc drawn_two.ids ∷ []) transition_puts 3 2 [] (shape_at 16 0).texts refl shape_zero (omega arith) drawn_two.edits

  good_first : Good u l n region_first × HasRow (now l n region_first) 2 (suc c₀.ids)
  unfolding adding fresh_region region_over also draw_doc draw_id drawn
  good_first =
      let F = good_fresh u l n look_in (adding (shape 0) transition_puts drawn_two) row_made.0 in (
        good_as u l n look_in region_first row_first same_tables_lem refl refl refl refl refl refl F.0,
        subst (λ (X : List Table). HasRow X 2 (suc c₀.ids)) (sym same_tables_lem)
            (row_grow (now l n (adding (shape 0) transition_puts drawn_two)) (now l n row_first) (ext_region u l n look_in [] (adding (shape 0) transition_puts drawn_two)) 2 (suc c₀.ids) row_made.1),
      )

  ext_first : ExtAll (now l n c₀) (now l n region_first)
  unfolding adding fresh_region draw_doc draw_id drawn
  ext_first =
      all_trans (now l n c₀) (now l n (fresh_region drawn_two)) (now l n region_first) (ext_region u l n look_in [] drawn_two) (ext_add u l n look_in (shape 0) 0 transition_puts (fresh_region drawn_two))

  joined : (i : Bool) (s t : ℕ) (c : Change) → Good u l n c → HasRow (now l n c) 1 s → HasRow (now l n c) 2 t → Next u l n c (join_state i s t c)
  unfolding join_state Fits choices
  joined true s t c G h k = initial_put u l n look_in s t c G k
  joined false s t c G h k = next_member u l n look_in 5 s t c G refl (λ U x z. row_grow (now l n c) U x 1 s h) (λ U x. row_grow (now l n c) U x 2 t k)

  pub out_new : (i : Bool) → Out u l n b (done (new_transition n i l c₀))
  unfolding new_transition shape_of shape_at choices in_transition next_id
  out_new i =
      let t : ℕ = suc c₀.ids in
      let c₁ : Change = region_first in
      let h₁ : HasRow (now l n c₁) 2 t = good_first.1 in
      let c₂ : Change = add_words (shape 1) 7 t (length (words_of l key.event)) c₁ in
      let N₂ : Next u l n c₁ c₂ = next_words u l n look_in 7 t 2 key.event refl refl refl (ap (λ (g : ℕ). shape_at g 1) is-transition) (length (words_of l key.event)) c₁ good_first.0 h₁ in
      let h₂ : HasRow (now l n c₂) 2 t = has_next u l n look_in c₁ c₂ N₂ 2 t h₁ in
      let x₂ : ExtAll (now l n c₀) (now l n c₂) = all_trans (now l n c₀) (now l n c₁) (now l n c₂) ext_first N₂.ext in
      let c₃ : Change = add_members 6 t l.refs c₂ in
      let N₃ : Next u l n c₂ c₃ = next_targets u l n look_in t l.refs c₂ N₂.good h₂ (All-map (HasRow (now l n c₀) 1) (HasRow (now l n c₂) 1) (λ v. row_grow (now l n c₀) (now l n c₂) x₂ 1 v) l.refs refs) in
      let h₃ : HasRow (now l n c₃) 2 t = has_next u l n look_in c₂ c₃ N₃ 2 t h₂ in
      let s₃ : HasRow (now l n c₃) 1 (current_state n) = has_next u l n look_in c₂ c₃ N₃ 1 (current_state n) (row_grow (now l n c₀) (now l n c₂) x₂ 1 (current_state n) (state_row_lem u l n look_in b R source)) in
      let c₄ : Change = join_state i (current_state n) t c₃ in
      let N₄ : Next u l n c₃ c₄ = joined i (current_state n) t c₃ N₃.good s₃ h₃ in
      let N₅ : Next u l n c₄ (inside c₄.state t c₄) =
      next_inside u l n look_in c₄.state t c₄ N₄.good N₄.good.state (λ z. has_next u l n look_in c₃ c₄ N₄ 2 t h₃) in
      let N : Next u l n c₁ (inside c₄.state t c₄) =
      next_trans u l n look_in c₁ c₄ _ (next_trans u l n look_in c₁ c₃ c₄ (next_trans u l n look_in c₁ c₂ c₃ N₂ N₃) N₄) N₅ in
      out N.good (subst Tags (sym (N.regions ∙ no_regions)) no_tags) (subst (λ (rs : List Row). blocks_in 1 rs ≤ b) (sym (N.regions ∙ no_regions)) no_blocks)
    where
      no_regions : region_first.regions ≡ []
      no_regions = unfold adding fresh_region region_over also in refl

      no_tags : Tags []
      no_tags = unfold open_tags_fit in refl

      no_blocks : blocks_in 1 [] ≤ b
      no_blocks = unfold blocks_in in omega arith

module _ (u : ℕ) (l : Look) (n : Numbers) (look_in : LookIn u l) (b : ℕ) (R : Ready u l n b) where
  pub out_transition : l.tag ≡ 16 → (leb 0 (code_for l key.event 0) && leb (code_for l key.event 0) 1) ≡ true → All (HasRow (now l n (nothing n)) 1) l.refs → Out u l n b (start_transition n l)
  unfolding start_transition
  out_transition e w a =
      out_unless u l n b (current_state n) _ (λ s.
      out_either u l n b (eqb (parent_tag n) tag.initial) _ _
      (λ q. out_unless_initial u l n look_in b R (done (new_transition n true l (nothing n))) (out_new u l n look_in b R e w a s true))
      (λ q. out_new u l n look_in b R e w a s false))
