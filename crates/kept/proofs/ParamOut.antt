-- param and content; the ends of elements with a region.
use Prim.Native.Nat.{ℕ, zero, suc, ◌-◌, ◌≤◌}
use mathlib.Core.Path.{◌≡◌, refl, sym, ap, subst}
use mathlib.Core.Bool.{true, false, ◌&&◌, ◌||◌}
use mathlib.Core.List.{List, [], ◌∷◌}
use lib.ListN.{length, get_or}
use lib.Dec.{eqb, leb}
use native.Mathlib.Omega.{arith}
use Rattle.definition.specs.Elements.{tag, key}
use Rattle.definition.specs.Event.{kind}
use Rattle.definition.specs.Rows.{Row, Table, Class, free, row, num, columns_of, row_of, Numbers, table_of, table, entry_kind, state, transition, entry, invoke, parameter, choices, blank, with_cell, current_state, current_transition, parent_tag}
use Rattle.definition.specs.Shapes.{shape_at}
use Rattle.definition.specs.Look.{Look}
use Rattle.definition.specs.Change.{◌≔◌, numbers, shape, Change, Outcome, done, nothing, edited_by, unless_zero, put_all, put_one, is_number, filled_by, adding, altering, shape_of, add_member, has}
use Rattle.definition.specs.Actions.{by_parent, new_parameter, of_last_send, of_last_invoke, of_donedata, start_param, send_content, content_of_send, start_content, last_invoke, last_entry, ending, end_transition, end_listed, end_finalize, end_block, place_of_number}
use Rattle.definition.specs.Rules.{is_block, blocks_in, chosen, has_own_number}
use Rattle.definition.proofs.Changes.{last_le}
use Rattle.kept.proofs.Classes.{View, Fits, Nums, OrZero}
use Rattle.kept.proofs.Grow.{row_grow, zero_grow, nth_to}
use Rattle.kept.proofs.RowChange.{PutsFit, paired}
use Rattle.kept.proofs.RowTexts.{LookIn, fills}
use Rattle.kept.proofs.Sound.{at}
use Rattle.kept.proofs.Altered.{alters}
use Rattle.kept.proofs.Steps.{now}
use Rattle.kept.proofs.Regions.{Tags}
use Rattle.kept.proofs.Members.{Out, out, no_out, out_either, out_unless}
use Rattle.kept.proofs.Next.{next_add, next_alter, next_member, out_closing}
use Rattle.kept.proofs.StatesOut.{Ready, done_next, done_nothing, state_row_lem}

pub nth_row : (T : List Table) (t v : ℕ) → has_own_number t ≡ false → v ≤ length (get_or T t []) → OrZero T t v
nth_row T t v o h = λ z. nth_to T t v o (pos v z) h
  where
    pos : (v : ℕ) → ¬ (v ≡ 0) → 1 ≤ v
    pos zero z = absurd (z refl)
    pos (suc v) z = omega arith

module _ (u : ℕ) (l : Look) (n : Numbers) (look_in : LookIn u l) (b : ℕ) (R : Ready u l n b) where
  entry_row_lem : (r : ℕ) → OrZero (now l n (nothing n)) 4 (last_entry n r)
  unfolding last_entry nothing edited_by has_own_number
  entry_row_lem r = nth_row n.tables 4 (last_entry n r) refl (omega (arith, last_le 0 r 0 0 (table_of n 4) (omega arith)))

  invoke_row_lem : (s : ℕ) → OrZero (now l n (nothing n)) 5 (last_invoke n s)
  unfolding last_invoke nothing edited_by has_own_number
  invoke_row_lem s = nth_row n.tables 5 (last_invoke n s) refl (omega (arith, last_le 0 s 0 0 (table_of n 5) (omega arith)))

  -- ---- param

  owner_of : ℕ → Class
  owner_of k = get_or (get_or choices 2 []) k free

  parameter_nums : (W : View) (k o a c d e f g : ℕ) → (leb 1 k && leb k 3) ≡ true → Fits W (k ∷ o ∷ a ∷ c ∷ d ∷ e ∷ f ∷ g ∷ []) (owner_of k) o
      → Nums W (k ∷ o ∷ a ∷ c ∷ d ∷ e ∷ f ∷ g ∷ []) (columns_of 7) (k ∷ o ∷ a ∷ c ∷ d ∷ e ∷ f ∷ g ∷ [])
  unfolding Nums columns_of chosen Fits owner_of
  parameter_nums W k o a c d e f g x y = (x, (y, (tt, (tt, (tt, (tt, (tt, (tt, tt))))))))

  new_parameter_lem : (k o t : ℕ) → l.tag ≡ 14 → (leb 1 k && leb k 3) ≡ true → owner_of k ≡ row t → OrZero (now l n (nothing n)) t o → Out u l n b (new_parameter k o n)
  unfolding new_parameter adding shape_of shape_at columns_of blank put_all put_one is_number filled_by with_cell fills paired Fits
  new_parameter_lem k o t e x y h =
      done_next u l n look_in b R (adding (shape 0) (parameter.kind ≔ k ∷ parameter.owner ≔ o ∷ []) (nothing n)) (
      next_add u l n look_in (shape 0) 0 (parameter.kind ≔ k ∷ parameter.owner ≔ o ∷ []) (nothing n) 7 (shape_at 14 0).texts R.good (ap (λ (g : ℕ). shape_at g 0) e) refl refl (λ U z.
      parameter_nums (at u U (nothing n).ids (nothing n).docs) k o _ _ _ _ _ _ x (rw y (zero_grow (now l n (nothing n)) U z t o h))))

  out_by : (p : ℕ) (x y z : Outcome) → Out u l n b x → Out u l n b y → Out u l n b z → Out u l n b (by_parent p x y z)
  unfolding by_parent
  out_by p x y z a c d = out_either u l n b (eqb p tag.send) x _ (λ q. a) (λ q. out_either u l n b (eqb p tag.invoke) y z (λ w. c) (λ w. d))

  out_last_send : (o : Outcome) → Out u l n b o → Out u l n b (of_last_send n o)
  unfolding of_last_send
  out_last_send o a = out_either u l n b (eqb (num (row_of (table_of n table.entries) (last_entry n n.current)) entry.kind) entry_kind.send) o _ (λ q. a) (λ q. no_out)

  out_last_invoke : (o : Outcome) → Out u l n b o → Out u l n b (of_last_invoke n o)
  unfolding of_last_invoke
  out_last_invoke o a = out_unless u l n b (current_state n) _ (λ z. out_unless u l n b (last_invoke n (current_state n)) o (λ y. a))

  out_of_donedata : (o : Outcome) → Out u l n b o → Out u l n b (of_donedata n o)
  unfolding of_donedata
  out_of_donedata o a = out_unless u l n b (current_state n) _ (λ z. out_unless u l n b (num (row_of (table_of n table.states) (current_state n)) state.donedata) o (λ y. a))

  pub out_param : l.tag ≡ 14 → Out u l n b (start_param n l)
  unfolding start_param owner_of choices
  out_param e =
      out_by (parent_tag n) _ _ _
      (out_unless u l n b n.current _ (λ z. out_last_send (new_parameter 1 (last_entry n n.current) n) (new_parameter_lem 1 (last_entry n n.current) 4 e refl refl (entry_row_lem n.current))))
      (out_last_invoke (new_parameter 2 (last_invoke n (current_state n)) n) (new_parameter_lem 2 (last_invoke n (current_state n)) 5 e refl refl (invoke_row_lem (current_state n))))
      (out_of_donedata (new_parameter 3 (current_state n) n) (new_parameter_lem 3 (current_state n) 1 e refl refl (state_row_lem u l n look_in b R)))

  -- ---- content

  content_entry : l.tag ≡ 15 → (i : ℕ) → Out u l n b (done (altering (shape 0) i (entry.has_content ≔ 1 ∷ []) (nothing n)))
  unfolding alters PutsFit Fits columns_of chosen shape_of shape_at
  content_entry e i =
      done_next u l n look_in b R _ (next_alter u l n look_in (shape 0) i (entry.has_content ≔ 1 ∷ []) (nothing n) 4 (shape_at 15 0).texts R.good (ap (λ (g : ℕ). shape_at g 0) e) refl (λ U g m r z o. (refl, tt)))

  content_invoke : l.tag ≡ 15 → (i : ℕ) → Out u l n b (done (altering (shape 1) i (invoke.has_content ≔ 1 ∷ []) (nothing n)))
  unfolding alters PutsFit Fits columns_of chosen shape_of shape_at
  content_invoke e i =
      done_next u l n look_in b R _ (next_alter u l n look_in (shape 1) i (invoke.has_content ≔ 1 ∷ []) (nothing n) 5 (shape_at 15 1).texts R.good (ap (λ (g : ℕ). shape_at g 1) e) refl (λ U g m r z o. (refl, tt)))

  content_state : l.tag ≡ 15 → (i : ℕ) → Out u l n b (done (altering (shape 2) i (state.has_content ≔ 1 ∷ []) (nothing n)))
  unfolding alters PutsFit Fits columns_of chosen shape_of shape_at
  content_state e i =
      done_next u l n look_in b R _ (next_alter u l n look_in (shape 2) i (state.has_content ≔ 1 ∷ []) (nothing n) 1 (shape_at 15 2).texts R.good (ap (λ (g : ℕ). shape_at g 2) e) refl (λ U g m r z o. (refl, tt)))

  pub out_content : l.tag ≡ 15 → Out u l n b (start_content n l)
  unfolding start_content content_of_send send_content
  out_content e =
      out_by (parent_tag n) _ _ _
      (out_either u l n b (eqb n.current 0) _ _ (λ q. done_nothing u l n look_in b R) (λ q.
      out_last_send _ (out_either u l n b (has l key.expr || eqb l.kind kind.whole) _ _ (λ p. content_entry e (last_entry n n.current)) (λ p. done_nothing u l n look_in b R))))
      (out_last_invoke _ (content_invoke e (last_invoke n (current_state n)))) (out_of_donedata _ (content_state e (current_state n)))

  -- ---- ends

  abbrev gone_on : ℕ → List Row → Change
  gone_on x rs =
      record { edits = (nothing n).edits; regions = rs; current = x; ids = (nothing n).ids; docs = (nothing n).docs; state = (nothing n).state; transition = (nothing n).transition }

  current_row : OrZero (now l n (nothing n)) 3 n.current
  unfolding nothing
  current_row = R.good.current

  zero_of : ¬ ((nothing n).current ≡ 0) → ¬ (n.current ≡ 0)
  unfolding nothing
  zero_of z = z

  pub out_end_transition : Out u l n b (end_transition n)
  unfolding end_transition ending alters PutsFit Fits columns_of chosen shape_of filled_by
  out_end_transition =
      out_closing u l n look_in b 16 (nothing n) (λ c.
      unless_zero (current_transition n) (
      done (
      altering (numbers table.transitions) (place_of_number (table_of n table.transitions) (current_transition n)) (transition.content ≔ n.current ∷ []) c)))
      R.good R.tags (λ x z G t k f.
      out_unless u l n b (current_transition n) _ (λ y.
      let M = next_alter u l n look_in (numbers 2) (place_of_number (table_of n 2) (current_transition n)) (transition.content ≔ n.current ∷ []) (gone_on x.current x.regions) 2 [] G refl refl (λ U g m r w o.
      ((λ v. g 3 n.current (current_row v)), tt)) in
      out M.good (subst Tags (sym M.regions) t) (subst (λ (rs : List Row). blocks_in 1 rs ≤ b) (sym M.regions) (omega (arith, k, R.blocks)))))

  pub out_end_listed : (g k : ℕ) → (leb 1 k && leb k 9) ≡ true → get_or (get_or choices 3 []) k free ≡ row 1 → get_or (get_or choices 4 []) k free ≡ Rattle.definition.specs.Rows.existing 3 → Out u l n b (end_listed g k n)
  unfolding end_listed ending Fits
  out_end_listed g k a p q =
      out_closing u l n look_in b g (nothing n) (λ c. unless_zero (current_state n) (done (add_member k (current_state n) n.current c))) R.good R.tags (λ x z G t h f.
      out_unless u l n b (current_state n) _ (λ y.
      let d : Change = gone_on x.current x.regions in
      let z' : ¬ (n.current ≡ 0) = zero_of z in
      let M = next_member u l n look_in k (current_state n) n.current d G a (λ U w. rw p (zero_grow (now l n d) U w 1 (current_state n) (state_row_lem u l n look_in b R))) (λ U w.
      rw q (row_grow (now l n d) U w 3 n.current (current_row z'))) in
      out M.good (subst Tags (sym M.regions) t) (subst (λ (rs : List Row). blocks_in 1 rs ≤ b) (sym M.regions) (omega (arith, h, R.blocks)))))

  pub out_end_finalize : Out u l n b (end_finalize n)
  unfolding end_finalize ending alters PutsFit Fits columns_of chosen shape_of filled_by
  out_end_finalize =
      out_closing u l n look_in b 11 (nothing n) (λ c.
      unless_zero (current_state n) (
      unless_zero (last_invoke n (current_state n)) (done (altering (numbers table.invokes) (last_invoke n (current_state n)) (invoke.finalize ≔ n.current ∷ []) c))))
      R.good R.tags (λ x z G t k f.
      out_unless u l n b (current_state n) _ (λ y.
      out_unless u l n b (last_invoke n (current_state n)) _ (λ y'.
      let M = next_alter u l n look_in (numbers 5) (last_invoke n (current_state n)) (invoke.finalize ≔ n.current ∷ []) (gone_on x.current x.regions) 5 [] G refl refl (λ U g m r w o.
      ((λ v. g 3 n.current (current_row v)), tt)) in
      out M.good (subst Tags (sym M.regions) t) (subst (λ (rs : List Row). blocks_in 1 rs ≤ b) (sym M.regions) (omega (arith, k, R.blocks))))))

  -- A block's end takes one block away.
  pub out_end_block : (g : ℕ) → is_block g ≡ true → Out u l n (b - 1) (end_block g n)
  unfolding end_block ending
  out_end_block g e = out_closing u l n look_in (b - 1) g (nothing n) (λ c. done c) R.good R.tags (λ x z G t k f. out G t (omega (arith, f e, R.blocks)))
