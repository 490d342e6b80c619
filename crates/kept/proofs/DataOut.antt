-- data, and the default initial transition at the end of a state.
use Prim.Native.Nat.{ℕ, zero, suc}
use mathlib.Core.Path.{◌≡◌, refl, ap, subst}
use mathlib.Core.Bool.{Bool, true, false}
use mathlib.Core.List.{List, [], ◌∷◌}
use lib.ListN.{length, get_or}
use lib.Dec.{eqb, leb}
use native.Mathlib.Omega.{arith}
use Rattle.definition.specs.Elements.{key}
use Rattle.definition.specs.Rows.{Row, Table, free, num, columns_of, Numbers, table_of, table, state, transition, datum, choices, same_list, blank, with_cell, current_state, root, listed, values_of}
use Rattle.definition.specs.Shapes.{shape_at}
use Rattle.definition.specs.Look.{Look}
use Rattle.definition.specs.Change.{Put, ◌≔◌, numbers, shape, Change, nothing, edited_by, put_all, put_one, is_number, filled_by, also, adding, altering, drawn, draw_id, next_id, shape_of, add_member, has}
use Rattle.definition.specs.States.{initial_of, value_shape, start_data, first_of, default_transition, default_initial, end_state, end_scxml}
use Rattle.definition.specs.Rules.{chosen}
use Rattle.kept.proofs.Base.{All}
use Rattle.kept.proofs.Classes.{Fits, Nums, HasRow, OrZero}
use Rattle.kept.proofs.Grow.{row_grow, zero_grow}
use Rattle.kept.proofs.RowChange.{PutsFit, paired}
use Rattle.kept.proofs.RowTexts.{LookIn, fills}
use Rattle.kept.proofs.Tables.{RowOk}
use Rattle.kept.proofs.Sound.{at}
use Rattle.kept.proofs.Altered.{alters}
use Rattle.kept.proofs.Steps.{now, Good, ext_add}
use Rattle.kept.proofs.Draws.{good_transition}
use Rattle.kept.proofs.Members.{Out, out_either, out_unless}
use Rattle.kept.proofs.Next.{Next, has_next, next_refl, next_trans, next_add, next_alter, next_member}
use Rattle.kept.proofs.Base.{and_left, eq_of}
use Rattle.kept.proofs.StartStates.{initial_put}
use Rattle.kept.proofs.StatesOut.{Ready, done_next, done_nothing, state_row_lem}

module _ (u : ℕ) (l : Look) (n : Numbers) (look_in : LookIn u l) (b : ℕ) (R : Ready u l n b) where
  -- ---- data

  data_add : l.tag ≡ 9 → (v : ℕ) → shape_of l.tag (shape v) ≡ record { into = 6; texts = (shape_at 9 v).texts } → (leb v 1) ≡ true → Next u l n (nothing n) (adding (shape v) (datum.state ≔ current_state n ∷ []) (nothing n))
  unfolding adding columns_of blank put_all put_one is_number filled_by with_cell fills paired Nums Fits chosen shape_at
  data_add e zero s v =
      next_add u l n look_in (shape 0) 0 (datum.state ≔ current_state n ∷ []) (nothing n) 6 (shape_at 9 0).texts R.good s refl refl (λ U x.
      (zero_grow (now l n (nothing n)) U x 1 (current_state n) (state_row_lem u l n look_in b R), (tt, (tt, (tt, (tt, (tt, (tt, (refl, tt)))))))))
  data_add e (suc zero) s v =
      next_add u l n look_in (shape 1) 0 (datum.state ≔ current_state n ∷ []) (nothing n) 6 (shape_at 9 1).texts R.good s refl refl (λ U x.
      (zero_grow (now l n (nothing n)) U x 1 (current_state n) (state_row_lem u l n look_in b R), (tt, (tt, (tt, (tt, (tt, (tt, (refl, tt)))))))))
  data_add e (suc (suc v)) s k = absurd (omega (arith, Rattle.kept.proofs.Base.le_of (suc (suc v)) 1 k))

  data_alter : l.tag ≡ 9 → (v : ℕ) → shape_of l.tag (shape v) ≡ record { into = 6; texts = (shape_at 9 v).texts } → (leb v 1) ≡ true → Next u l n (nothing n) (altering (shape v) l.found [] (nothing n))
  unfolding alters PutsFit shape_at columns_of
  data_alter e zero s v = next_alter u l n look_in (shape 0) l.found [] (nothing n) 6 (shape_at 9 0).texts R.good s refl (λ U g m r z o. tt)
  data_alter e (suc zero) s v = next_alter u l n look_in (shape 1) l.found [] (nothing n) 6 (shape_at 9 1).texts R.good s refl (λ U g m r z o. tt)
  data_alter e (suc (suc v)) s k = absurd (omega (arith, Rattle.kept.proofs.Base.le_of (suc (suc v)) 1 k))

  data_shape : l.tag ≡ 9 → (leb (value_shape l) 1 ≡ true) × (shape_of l.tag (shape (value_shape l)) ≡ record { into = 6; texts = (shape_at 9 (value_shape l)).texts })
  unfolding value_shape shape_of shape_at
  data_shape e = go (has l key.expr) refl
    where
      go : (p : Bool) → has l key.expr ≡ p → (leb (value_shape l) 1 ≡ true) × (shape_of l.tag (shape (value_shape l)) ≡ record { into = 6; texts = (shape_at 9 (value_shape l)).texts })
      go true f = let z : value_shape l ≡ 0 = rw (f, value_shape) in rw z (refl, ap (λ (g : ℕ). shape_at g 0) e)
      go false f = let z : value_shape l ≡ 1 = rw (f, value_shape) in rw z (refl, ap (λ (g : ℕ). shape_at g 1) e)

  pub out_data : l.tag ≡ 9 → Out u l n b (start_data n l)
  unfolding start_data
  out_data e =
      let s = data_shape e in
      out_unless u l n b (current_state n) _ (λ z.
      out_either u l n b (eqb l.found (suc (length (table_of n table.datums)))) _ _
      (λ q. done_next u l n look_in b R (adding (shape (value_shape l)) (datum.state ≔ current_state n ∷ []) (nothing n)) (data_add e (value_shape l) s.1 s.0))
      (λ q. done_next u l n look_in b R (altering (shape (value_shape l)) l.found [] (nothing n)) (data_alter e (value_shape l) s.1 s.0)))

  -- ---- the default initial transition

  abbrev default_puts : ℕ → Change → List Put
  default_puts s c = transition.number ≔ next_id c ∷ transition.source ≔ s ∷ []

  default_transition_lem : (s : ℕ) (c : Change) → Good u l n c → HasRow (now l n c) 1 s
      → Good u l n (adding (numbers 2) (default_puts s c) (draw_id c)) × HasRow (now l n (adding (numbers 2) (default_puts s c) (draw_id c))) 2 (suc c.ids)
  unfolding adding draw_id drawn next_id shape_of columns_of blank put_all put_one is_number filled_by fills paired Nums Fits chosen
  default_transition_lem s c G h =
      good_transition u l n look_in (numbers 2) (default_puts s c) c (draw_id c) [] G refl (omega arith) (omega arith) refl refl refl refl refl refl refl (λ U x.
      ((omega arith, omega arith), (omega arith, (row_grow (now l n c) U x 1 s h, (refl, (refl, ((λ z. absurd (z refl)), (tt, (tt, tt)))))))))

  next_default_transition : (s : ℕ) (c : Change) → Good u l n c → HasRow (now l n c) 1 s → Next u l n c (adding (numbers 2) (default_puts s c) (draw_id c))
  unfolding adding draw_id drawn also
  next_default_transition s c G h = record { good = (default_transition_lem s c G h).0; ext = ext_add u l n look_in (numbers 2) 0 (default_puts s c) (draw_id c); regions = refl }

  next_default : (s i : ℕ) (c : Change) → Good u l n c → HasRow (now l n c) 1 s → OrZero (now l n c) 1 i → Next u l n c (default_transition s i c)
  unfolding default_transition next_id Fits choices
  next_default s zero c G h k = next_refl u l n look_in c G
  next_default s (suc i) c G h k =
      let c₂ : Change = adding (numbers 2) (default_puts s c) (draw_id c) in
      let N₂ : Next u l n c c₂ = next_default_transition s c G h in
      let h₂ : HasRow (now l n c₂) 2 (suc c.ids) = (default_transition_lem s c G h).1 in
      let c₃ : Change = add_member 6 (suc c.ids) (suc i) c₂ in
      let t₂ : HasRow (now l n c₂) 1 (suc i) = has_next u l n look_in c c₂ N₂ 1 (suc i) (k (omega arith)) in
      let N₃ : Next u l n c₂ c₃ =
      next_member u l n look_in 6 (suc c.ids) (suc i) c₂ N₂.good refl (λ U x z. row_grow (now l n c₂) U x 2 (suc c.ids) h₂) (λ U x. row_grow (now l n c₂) U x 1 (suc i) t₂) in
      let N₄ : Next u l n c₃ (altering (numbers 1) s (state.initial ≔ suc c.ids ∷ []) c₃) =
      initial_put u l n look_in s (suc c.ids) c₃ N₃.good (has_next u l n look_in c₂ c₃ N₃ 2 (suc c.ids) h₂) in
      next_trans u l n look_in c c₃ _ (next_trans u l n look_in c c₂ c₃ N₂ N₃) N₄

  -- A child is a state.
  child_row : (T : List Table) (i d s : ℕ) (m : Row) → RowOk (at u T i d) 8 m → same_list 1 s m ≡ true → HasRow T 1 (num m 2)
  unfolding Nums Fits columns_of chosen same_list choices
  child_row T i d s [] h e = absurd h.nums
  child_row T i d s (k ∷ []) h e = absurd h.nums.1
  child_row T i d s (k ∷ o ∷ []) h e = absurd h.nums.1.1
  child_row T i d s (k ∷ o ∷ v ∷ vs) h e =
      let z : k ≡ 1 = eq_of k 1 (and_left (eqb k 1) (eqb o s) e) in
      let f : Fits (at u T i d) (k ∷ o ∷ v ∷ vs) (get_or (get_or choices 4 []) k free) v = h.nums.1.1.0 in
      subst (λ (x : ℕ). Fits (at u T i d) (k ∷ o ∷ v ∷ vs) (get_or (get_or choices 4 []) x free) v) z f

  children_rows : (T : List Table) (i d s : ℕ) (ms : Table) → All (RowOk (at u T i d) 8) ms → All (HasRow T 1) (values_of (listed 1 s ms))
  unfolding listed values_of
  children_rows T i d s [] a = tt
  children_rows T i d s (m ∷ ms) a = go (same_list 1 s m) refl (children_rows T i d s ms a.1)
    where
      go : (p : Bool) → same_list 1 s m ≡ p → All (HasRow T 1) (values_of (listed 1 s ms)) → All (HasRow T 1) (values_of (listed 1 s (m ∷ ms)))
      go true e ih = rw (e, listed) (child_row T i d s m a.0 e, ih)
      go false e ih = rw (e, listed) ih

  first_row : (T : List Table) (vs : List ℕ) → All (HasRow T 1) vs → OrZero T 1 (first_of vs)
  unfolding first_of
  first_row T [] a = λ z. absurd (z refl)
  first_row T (v ∷ vs) a = λ z. a.0

  pub out_default : (s : ℕ) → OrZero (now l n (nothing n)) 1 s → Out u l n b (default_initial n s)
  unfolding default_initial nothing edited_by
  out_default s h =
      out_unless u l n b s _ (λ z.
      out_either u l n b (eqb (Rattle.definition.specs.States.initial_of n s) 0) _ _
      (λ q. done_next u l n look_in b R (default_transition s (first_of (values_of (listed 1 s (table_of n 8)))) (nothing n)) (
      next_default s (first_of (values_of (listed 1 s (table_of n 8)))) (nothing n) R.good (h z) (
      first_row n.tables (values_of (listed 1 s (table_of n 8))) (children_rows n.tables n.ids n.docs s (table_of n 8) (R.good.sound.rows 8)))))
      (λ q. done_nothing u l n look_in b R))

  pub out_end_state : Out u l n b (end_state n)
  unfolding end_state
  out_end_state = out_default (current_state n) (state_row_lem u l n look_in b R)

  root_row : (T : List Table) (i d : ℕ) (rs : Table) → All (RowOk (at u T i d) 0) rs → OrZero T 1 (num (get_or rs 0 []) 0)
  unfolding Nums Fits columns_of chosen
  root_row T i d [] a = λ z. absurd (z refl)
  root_row T i d ([] ∷ rs) a = absurd a.0.nums
  root_row T i d ((v ∷ vs) ∷ rs) a = a.0.nums.0

  pub out_end_scxml : Out u l n b (end_scxml n)
  unfolding end_scxml root nothing edited_by
  out_end_scxml = out_default (root n) (root_row n.tables n.ids n.docs (table_of n 0) (R.good.sound.rows 0))
