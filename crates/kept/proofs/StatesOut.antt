-- The handlers of States.antt keep the rules: what they give.
use Prim.Native.Nat.{ℕ, zero, suc, ◌≤◌}
use mathlib.Core.Path.{◌≡◌, refl, sym, ap, subst}
use mathlib.Core.Bool.{Bool, true, false, ◌&&◌}
use mathlib.Core.List.{List, [], ◌∷◌}
use lib.ListN.{length}
use lib.Dec.{eqb, leb}
use native.Mathlib.Omega.{arith}
use Rattle.definition.specs.Elements.{key}
use Rattle.definition.specs.Rows.{Row, Table, columns_of, Numbers, table_of, table, chart, state, choices, current_state, shallow}
use Rattle.definition.specs.Shapes.{shape_at}
use Rattle.definition.specs.Look.{Look}
use Rattle.definition.specs.Change.{Put, ◌≔◌, numbers, shape, Change, Outcome, done, nothing, edited_by, filled_by, altering, shape_of, add_member, has, code_for}
use Rattle.definition.specs.States.{own_state, other_states, declared, start_state, start_parallel, start_final, in_history, start_history, binding, start_scxml, unless_initial, initial_of, start_initial, start_donedata}
use Rattle.definition.specs.Rules.{blocks_in, chosen}
use Rattle.kept.proofs.Base.{All}
use Rattle.kept.proofs.Classes.{Fits, HasRow, OrZero}
use Rattle.kept.proofs.Grow.{row_grow}
use Rattle.kept.proofs.RowChange.{PutsFit}
use Rattle.kept.proofs.RowTexts.{LookIn}
use Rattle.kept.proofs.Sound.{at}
use Rattle.kept.proofs.Altered.{alters}
use Rattle.kept.proofs.Steps.{now, Good}
use Rattle.kept.proofs.Regions.{Tags}
use Rattle.kept.proofs.Members.{Out, out, no_out, out_either, out_unless}
use Rattle.kept.proofs.Next.{Next, has_next, next_refl, next_trans, next_alter, next_member}
use Rattle.kept.proofs.StartStates.{next_state, next_declared}

-- What a handler finds: the change that does nothing is in order; b is the most blocks that open regions may have.
pub record Ready (u : ℕ) (l : Look) (n : Numbers) (b : ℕ) : Type 0 where
  pub good : Good u l n (nothing n)
  pub tags : Tags (nothing n).regions
  pub blocks : blocks_in 1 (nothing n).regions ≤ b

module _ (u : ℕ) (l : Look) (n : Numbers) (look_in : LookIn u l) (b : ℕ) (R : Ready u l n b) where
  pub done_next : (c : Change) → Next u l n (nothing n) c → Out u l n b (done c)
  done_next c N = out N.good (subst Tags (sym N.regions) R.tags) (subst (λ (rs : List Row). blocks_in 1 rs ≤ b) (sym N.regions) R.blocks)

  pub done_nothing : Out u l n b (done (nothing n))
  done_nothing = out R.good R.tags R.blocks

  pub state_row_lem : OrZero (now l n (nothing n)) 1 (current_state n)
  unfolding nothing
  state_row_lem = R.good.state

  -- ---- states

  module _ (own : HasRow (now l n (nothing n)) 1 (own_state l)) (others : All (HasRow (now l n (nothing n)) 1) (other_states l.refs)) where
    then_state : (p : ℕ) → OrZero (now l n (nothing n)) 1 p → (ps : List Put) → alters 1 [] ps ≡ true
        → ((U : List Table) → ((t v : ℕ) → HasRow (now l n (declared n p l)) t v → HasRow U t v) → (r : Row) → PutsFit (at u U (declared n p l).ids (declared n p l).docs) (columns_of 1) r ps)
        → Out u l n b (done (altering (numbers 1) (own_state l) ps (declared n p l)))
    then_state p hp ps a f =
        let D = next_declared u l n look_in R.good own others p hp in
        done_next (altering (numbers 1) (own_state l) ps (declared n p l)) (
        next_trans u l n look_in (nothing n) (declared n p l) (altering (numbers 1) (own_state l) ps (declared n p l)) D.0 (next_state u l n look_in (own_state l) ps (declared n p l) D.0.good a f))

    pub out_state : Out u l n b (start_state n l)
    unfolding start_state
    out_state = done_next (declared n (current_state n) l) (next_declared u l n look_in R.good own others (current_state n) state_row_lem).0

    pub out_parallel : Out u l n b (start_parallel n l)
    unfolding start_parallel alters PutsFit Fits columns_of chosen
    out_parallel = then_state (current_state n) state_row_lem (state.parallel ≔ 1 ∷ []) refl (λ U g r. (refl, tt))

    pub out_final : Out u l n b (start_final n l)
    unfolding start_final alters PutsFit Fits columns_of chosen
    out_final = then_state (current_state n) state_row_lem (state.final ≔ 1 ∷ []) refl (λ U g r. (refl, tt))

    next_history : (p : ℕ) → OrZero (now l n (nothing n)) 1 p → Next u l n (nothing n) (in_history p l (declared n 0 l))
    unfolding in_history Fits choices
    next_history zero hp = (next_declared u l n look_in R.good own others 0 (λ z. absurd (z refl))).0
    next_history (suc p) hp =
        let D = next_declared u l n look_in R.good own others 0 (λ z. absurd (z refl)) in
        let c : Change = declared n 0 l in
        let h : HasRow (now l n c) 1 (suc p) = has_next u l n look_in (nothing n) c D.0 1 (suc p) (hp (omega arith)) in
        next_trans u l n look_in (nothing n) c (add_member 2 (suc p) (own_state l) c) D.0 (
        next_member u l n look_in 2 (suc p) (own_state l) c D.0.good refl (λ U x z. row_grow (now l n c) U x 1 (suc p) h) (λ U x. row_grow (now l n c) U x 1 (own_state l) D.1))

    pub out_history : (leb 0 (code_for l key.type shallow) && leb (code_for l key.type shallow) 2) ≡ true → Out u l n b (start_history n l)
    unfolding start_history alters PutsFit Fits columns_of chosen
    out_history e =
        let c : Change = in_history (current_state n) l (declared n 0 l) in
        let N : Next u l n (nothing n) c = next_history (current_state n) state_row_lem in
        let ps : List Put = state.parent ≔ current_state n ∷ state.history ≔ code_for l key.type shallow ∷ [] in
        done_next (altering (numbers 1) (own_state l) ps c) (
        next_trans u l n look_in (nothing n) c (altering (numbers 1) (own_state l) ps c) N (
        next_state u l n look_in (own_state l) ps c N.good refl (λ U g r.
        ((λ z. g 1 (current_state n) (has_next u l n look_in (nothing n) c N 1 (current_state n) (state_row_lem z))), (e, tt)))))

    next_binding : (c : Change) → Good u l n c → (has l key.binding ≡ true → (leb 0 (code_for l key.binding 0) && leb (code_for l key.binding 0) 1) ≡ true) → Next u l n c (binding l c)
    unfolding binding alters PutsFit Fits columns_of chosen shape_of filled_by
    next_binding c G f = go (has l key.binding) refl
      where
        go : (p : Bool) → has l key.binding ≡ p → Next u l n c (binding l c)
        go false e = rw (e, binding) (next_refl u l n look_in c G)
        go true e =
            rw (e, binding) (next_alter u l n look_in (numbers 0) 1 (chart.binding ≔ code_for l key.binding 0 ∷ []) c 0 [] G refl refl (λ U g m r z o. (f e, tt)))

    pub out_scxml : l.tag ≡ 1 → (has l key.binding ≡ true → (leb 0 (code_for l key.binding 0) && leb (code_for l key.binding 0) 1) ≡ true) → Out u l n b (start_scxml n l)
    unfolding start_scxml alters PutsFit Fits columns_of chosen shape_of shape_at
    out_scxml e f =
        let D = next_declared u l n look_in R.good own others 0 (λ z. absurd (z refl)) in
        let c : Change = declared n 0 l in
        let N : Next u l n c (binding l c) = next_binding c D.0.good f in
        let c₁ : Change = binding l c in
        let h : HasRow (now l n c₁) 1 (own_state l) = has_next u l n look_in c c₁ N 1 (own_state l) D.1 in
        let ps : List Put = chart.root ≔ own_state l ∷ [] in
        done_next (altering (shape 0) 1 ps c₁) (
        next_trans u l n look_in (nothing n) c₁ (altering (shape 0) 1 ps c₁) (next_trans u l n look_in (nothing n) c c₁ D.0 N) (
        next_alter u l n look_in (shape 0) 1 ps c₁ 0 (shape_at 1 0).texts N.good (ap (λ (g : ℕ). shape_at g 0) e) refl (λ U g m r z o. ((λ w. g 1 (own_state l) h), tt))))

  -- ---- initial, donedata, data

  pub out_unless_initial : (o : Outcome) → Out u l n b o → Out u l n b (unless_initial n o)
  unfolding unless_initial
  out_unless_initial o p = out_either u l n b (eqb (initial_of n (current_state n)) 0) o _ (λ e. p) (λ e. no_out)

  pub out_initial : Out u l n b (start_initial n l)
  unfolding start_initial
  out_initial = out_unless u l n b (current_state n) _ (λ z. out_unless_initial (done (nothing n)) done_nothing)

  pub out_donedata : l.tag ≡ 10 → Out u l n b (start_donedata n l)
  unfolding start_donedata alters PutsFit Fits columns_of chosen shape_of shape_at nothing edited_by
  out_donedata e =
      let ps : List Put = state.donedata ≔ suc (length (table_of n table.parameters)) ∷ state.has_content ≔ 0 ∷ [] in
      out_unless u l n b (current_state n) _ (λ z.
      done_next (altering (shape 0) (current_state n) ps (nothing n)) (
      next_alter u l n look_in (shape 0) (current_state n) ps (nothing n) 1 (shape_at 10 0).texts R.good (ap (λ (g : ℕ). shape_at g 0) e) refl (λ U g m r z o. (omega (arith, m), (refl, tt)))))
