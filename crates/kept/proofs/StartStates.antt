-- The handlers of States.antt keep the rules.
use Prim.Native.Nat.{ℕ, zero, suc, ◌≤◌}
use mathlib.Core.Path.{◌≡◌, refl}
use mathlib.Core.Bool.{Bool, true, false}
use mathlib.Core.List.{List, [], ◌∷◌}
use native.Mathlib.Omega.{arith}
use Rattle.definition.specs.Elements.{key}
use Rattle.definition.specs.Rows.{Row, Table, columns_of, Numbers, state, transition, choices, blank, internal}
use Rattle.definition.specs.Look.{Look}
use Rattle.definition.specs.Change.{Put, ◌≔◌, numbers, Change, nothing, put_all, put_one, is_number, filled_by, also, adding, altering, drawn, draw_id, draw_doc, next_id, next_doc, inside, in_state, shape_of, add_member, add_members, has}
use Rattle.definition.specs.States.{own_state, other_states, initial_transition, own_doc, is_child, child_of, declared}
use Rattle.definition.specs.Rules.{chosen}
use Rattle.kept.proofs.Base.{All, All-map}
use Rattle.kept.proofs.Classes.{Fits, Nums, HasRow, OrZero}
use Rattle.kept.proofs.Grow.{row_grow}
use Rattle.kept.proofs.RowChange.{PutsFit, paired}
use Rattle.kept.proofs.RowTexts.{LookIn, fills}
use Rattle.kept.proofs.Sound.{at}
use Rattle.kept.proofs.Altered.{alters}
use Rattle.kept.proofs.Steps.{now, Good, ext_add}
use Rattle.kept.proofs.Draws.{good_transition}
use Rattle.kept.proofs.Next.{Next, has_next, next_refl, next_trans, next_doc_lem, next_inside, next_alter, next_member, next_targets}

module _ (u : ℕ) (l : Look) (n : Numbers) (look_in : LookIn u l) where
  -- ---- a transition made without an element

  abbrev initial_puts : Change → List Put
  initial_puts c = transition.number ≔ next_id c ∷ transition.doc ≔ next_doc c ∷ transition.source ≔ own_state l ∷ transition.type ≔ internal ∷ []

  own_transition : (c : Change) → Good u l n c → HasRow (now l n c) 1 (own_state l)
      → Good u l n (adding (numbers 2) (initial_puts c) (draw_doc (draw_id c))) × HasRow (now l n (adding (numbers 2) (initial_puts c) (draw_doc (draw_id c)))) 2 (suc c.ids)
  unfolding adding draw_doc draw_id drawn next_id next_doc shape_of columns_of blank put_all put_one is_number filled_by fills paired Nums Fits chosen
  own_transition c G h =
      good_transition u l n look_in (numbers 2) (initial_puts c) c (draw_doc (draw_id c)) [] G refl (omega arith) (omega arith) refl refl refl refl refl refl refl (λ U x.
      ((omega arith, omega arith), (omega arith, (row_grow (now l n c) U x 1 (own_state l) h, (refl, (refl, ((λ z. absurd (z refl)), (tt, (tt, tt)))))))))

  next_own : (c : Change) → Good u l n c → HasRow (now l n c) 1 (own_state l) → Next u l n c (adding (numbers 2) (initial_puts c) (draw_doc (draw_id c)))
  unfolding adding draw_doc draw_id drawn also
  next_own c G h = record { good = (own_transition c G h).0; ext = ext_add u l n look_in (numbers 2) 0 (initial_puts c) (draw_doc (draw_id c)); regions = refl }

  -- A state's row altered in one column.
  pub next_state : (s : ℕ) (ps : List Put) (c : Change) → Good u l n c → alters 1 [] ps ≡ true
      → ((U : List Table) → ((t v : ℕ) → HasRow (now l n c) t v → HasRow U t v) → (r : Row) → PutsFit (at u U c.ids c.docs) (columns_of 1) r ps)
      → Next u l n c (altering (numbers 1) s ps c)
  unfolding shape_of filled_by
  next_state s ps c G a f = next_alter u l n look_in (numbers 1) s ps c 1 [] G refl a (λ U g b r z o. f U g r)

  pub initial_put : (s i : ℕ) (c : Change) → Good u l n c → HasRow (now l n c) 2 i → Next u l n c (altering (numbers 1) s (state.initial ≔ i ∷ []) c)
  unfolding alters PutsFit Fits columns_of chosen
  initial_put s i c G h = next_state s (state.initial ≔ i ∷ []) c G refl (λ U g r. ((λ z. g 2 i h), tt))

  doc_put : (s i : ℕ) (c : Change) → Good u l n c → i ≤ c.docs → Next u l n c (altering (numbers 1) s (state.doc ≔ i ∷ []) c)
  unfolding alters PutsFit Fits columns_of chosen
  doc_put s i c G h = next_state s (state.doc ≔ i ∷ []) c G refl (λ U g r. (h, tt))

  parent_put : (s i : ℕ) (c : Change) → Good u l n c → OrZero (now l n c) 1 i → Next u l n c (altering (numbers 1) s (state.parent ≔ i ∷ []) c)
  unfolding alters PutsFit Fits columns_of chosen
  parent_put s i c G h = next_state s (state.parent ≔ i ∷ []) c G refl (λ U g r. ((λ z. g 1 i (h z)), tt))

  next_initial : (c : Change) → Good u l n c → HasRow (now l n c) 1 (own_state l) → All (HasRow (now l n c) 1) (other_states l.refs) → Next u l n c (initial_transition l c)
  unfolding initial_transition next_id
  next_initial c G h a = go (has l key.initial) refl
    where
      go : (b : Bool) → has l key.initial ≡ b → Next u l n c (initial_transition l c)
      go false e = rw (e, initial_transition) (next_refl u l n look_in c G)
      go true e =
          let c₂ : Change = adding (numbers 2) (initial_puts c) (draw_doc (draw_id c)) in
          let N₂ : Next u l n c c₂ = next_own c G h in
          let h₂ : HasRow (now l n c₂) 2 (suc c.ids) = (own_transition c G h).1 in
          let c₃ : Change = add_members 6 (suc c.ids) (other_states l.refs) c₂ in
          let N₃ : Next u l n c₂ c₃ =
          next_targets u l n look_in (suc c.ids) (other_states l.refs) c₂ N₂.good h₂
          (All-map (HasRow (now l n c) 1) (HasRow (now l n c₂) 1) (has_next u l n look_in c c₂ N₂ 1) (other_states l.refs) a) in
          let N₄ : Next u l n c₃ (altering (numbers 1) (own_state l) (state.initial ≔ suc c.ids ∷ []) c₃) =
          initial_put (own_state l) (suc c.ids) c₃ N₃.good (has_next u l n look_in c₂ c₃ N₃ 2 (suc c.ids) h₂) in
          rw (e, initial_transition) (next_trans u l n look_in c c₃ _ (next_trans u l n look_in c c₂ c₃ N₂ N₃) N₄)

  next_own_doc : (c : Change) → Good u l n c → Next u l n c (own_doc l c)
  unfolding own_doc draw_doc drawn next_doc
  next_own_doc c G =
      let N : Next u l n c (draw_doc c) = next_doc_lem u l n look_in c G in
      next_trans u l n look_in c (draw_doc c) (own_doc l c) N (doc_put (own_state l) (suc c.docs) (draw_doc c) N.good (omega arith))

  next_child : (p : ℕ) (c : Change) → Good u l n c → OrZero (now l n c) 1 p → HasRow (now l n c) 1 (own_state l) → Next u l n c (child_of n p l c)
  unfolding child_of Fits choices
  next_child zero c G h o = next_refl u l n look_in c G
  next_child (suc p) c G h o =
      let c₁ : Change = altering (numbers 1) (own_state l) (state.parent ≔ suc p ∷ []) c in
      let N : Next u l n c c₁ = parent_put (own_state l) (suc p) c G h in
      let hp : HasRow (now l n c₁) 1 (suc p) = has_next u l n look_in c c₁ N 1 (suc p) (h (omega arith)) in
      let ho : HasRow (now l n c₁) 1 (own_state l) = has_next u l n look_in c c₁ N 1 (own_state l) o in
      let M : Next u l n c₁ (add_member 1 (suc p) (own_state l) c₁) =
      next_member u l n look_in 1 (suc p) (own_state l) c₁ N.good refl (λ U x z. row_grow (now l n c₁) U x 1 (suc p) hp) (λ U x. row_grow (now l n c₁) U x 1 (own_state l) ho) in
      go (is_child n (suc p) (own_state l)) refl N (next_trans u l n look_in c c₁ (add_member 1 (suc p) (own_state l) c₁) N M)
    where
      go : (b : Bool) → is_child n (suc p) (own_state l) ≡ b → Next u l n c (altering (numbers 1) (own_state l) (state.parent ≔ suc p ∷ []) c)
          → Next u l n c (add_member 1 (suc p) (own_state l) (altering (numbers 1) (own_state l) (state.parent ≔ suc p ∷ []) c)) → Next u l n c (child_of n (suc p) l c)
      go true e N M = rw (e, child_of) N
      go false e N M = rw (e, child_of) M

  module _ (G₀ : Good u l n (nothing n)) (own : HasRow (now l n (nothing n)) 1 (own_state l)) (others : All (HasRow (now l n (nothing n)) 1) (other_states l.refs)) where
    pub next_declared : (p : ℕ) → OrZero (now l n (nothing n)) 1 p → Next u l n (nothing n) (declared n p l) × HasRow (now l n (declared n p l)) 1 (own_state l)
    unfolding declared in_state
    next_declared p hp =
        let c₀ : Change = nothing n in
        let c₁ : Change = initial_transition l c₀ in
        let N₁ : Next u l n c₀ c₁ = next_initial c₀ G₀ own others in
        let c₂ : Change = own_doc l c₁ in
        let N₂ : Next u l n c₀ c₂ = next_trans u l n look_in c₀ c₁ c₂ N₁ (next_own_doc c₁ N₁.good) in
        let c₃ : Change = child_of n p l c₂ in
        let N₃ : Next u l n c₀ c₃ =
        next_trans u l n look_in c₀ c₂ c₃ N₂ (next_child p c₂ N₂.good (λ z. has_next u l n look_in c₀ c₂ N₂ 1 p (hp z)) (has_next u l n look_in c₀ c₂ N₂ 1 (own_state l) own)) in
        let h₃ : HasRow (now l n c₃) 1 (own_state l) = has_next u l n look_in c₀ c₃ N₃ 1 (own_state l) own in
        let N₄ : Next u l n c₃ (inside (own_state l) c₃.transition c₃) = next_inside u l n look_in (own_state l) c₃.transition c₃ N₃.good (λ z. h₃) N₃.good.transition in
        (next_trans u l n look_in c₀ c₃ _ N₃ N₄, has_next u l n look_in c₃ _ N₄ 1 (own_state l) h₃)
