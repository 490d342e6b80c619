-- The handlers of Actions.antt keep the rules: regions, entries, invoke, param, content.
use Prim.Native.Nat.{ℕ, suc}
use mathlib.Core.Path.{◌≡◌, refl, ap}
use mathlib.Core.Bool.{true, ◌&&◌}
use mathlib.Core.List.{List, [], ◌∷◌}
use lib.ListN.{length}
use lib.Dec.{eqb, leb}
use native.Mathlib.Omega.{arith}
use Rattle.definition.specs.Elements.{tag, key}
use Rattle.definition.specs.Event.{kind}
use Rattle.definition.specs.Rows.{columns_of, Numbers, table_of, chart, entry, invoke, choices, blank, with_cell, current_state, parent_tag}
use Rattle.definition.specs.Shapes.{shape_at}
use Rattle.definition.specs.Look.{Look}
use Rattle.definition.specs.Change.{Put, ◌≔◌, numbers, shape, Change, done, nothing, edited_by, put_all, put_one, is_number, filled_by, also, adding, altering, shape_of, add_words, words_of, has, code_for, fresh_region, region_over}
use Rattle.definition.specs.Actions.{start_region, new_entry, entry_of, start_log, start_assign, root_script, start_script, start_send, start_invoke}
use Rattle.definition.specs.Rules.{blocks_in, chosen, has_own_number, open_tags_fit}
use Rattle.kept.proofs.Classes.{Fits, HasRow, OrZero}
use Rattle.kept.proofs.Grow.{zero_grow}
use Rattle.kept.proofs.RowChange.{PutsFit, paired}
use Rattle.kept.proofs.RowTexts.{LookIn, fills}
use Rattle.kept.proofs.Sound.{at}
use Rattle.kept.proofs.Altered.{alters}
use Rattle.kept.proofs.Steps.{now, Good}
use Rattle.kept.proofs.Draws.{good_fresh}
use Rattle.kept.proofs.Members.{Out, out, out_either, out_unless}
use Rattle.kept.proofs.Next.{Next, has_next, next_trans, next_add, next_alter, next_words, out_closing}
use Rattle.kept.proofs.StatesOut.{Ready, done_next, done_nothing, state_row_lem}
use Rattle.kept.proofs.Entries.{entry_nums, invoke_nums, all_fit_alone, has_last}

module _ (u : ℕ) (l : Look) (n : Numbers) (look_in : LookIn u l) where
  -- ---- an entry of the current region without content

  pub next_raise : (c : Change) → Good u l n c → l.tag ≡ 20 → Next u l n c (new_entry 0 6 [] c)
  unfolding new_entry adding shape_of shape_at columns_of blank put_all put_one is_number filled_by with_cell fills paired Fits choices all_fit_alone
  next_raise c G e =
      next_add u l n look_in (shape 0) 0 (entry.region ≔ c.current ∷ entry.kind ≔ 6 ∷ []) c 4 (shape_at 20 0).texts G (ap (λ (g : ℕ). shape_at g 0) e) refl refl (λ U x.
      entry_nums (at u U c.ids c.docs) c.current 6 0 0 0 0 _ refl (zero_grow (now l n c) U x 3 c.current G.current) refl (λ z. absurd (z refl)) (λ z. absurd (z refl)) (λ z. absurd (z refl)) refl)

  pub next_cancel : (c : Change) → Good u l n c → l.tag ≡ 21 → Next u l n c (new_entry 0 7 [] c)
  unfolding new_entry adding shape_of shape_at columns_of blank put_all put_one is_number filled_by with_cell fills paired Fits choices all_fit_alone
  next_cancel c G e =
      next_add u l n look_in (shape 0) 0 (entry.region ≔ c.current ∷ entry.kind ≔ 7 ∷ []) c 4 (shape_at 21 0).texts G (ap (λ (g : ℕ). shape_at g 0) e) refl refl (λ U x.
      entry_nums (at u U c.ids c.docs) c.current 7 0 0 0 0 _ refl (zero_grow (now l n c) U x 3 c.current G.current) refl (λ z. absurd (z refl)) (λ z. absurd (z refl)) (λ z. absurd (z refl)) refl)

  pub next_log : (c : Change) → Good u l n c → l.tag ≡ 22 → Next u l n c (new_entry 0 3 [] c)
  unfolding new_entry adding shape_of shape_at columns_of blank put_all put_one is_number filled_by with_cell fills paired Fits choices all_fit_alone
  next_log c G e =
      next_add u l n look_in (shape 0) 0 (entry.region ≔ c.current ∷ entry.kind ≔ 3 ∷ []) c 4 (shape_at 22 0).texts G (ap (λ (g : ℕ). shape_at g 0) e) refl refl (λ U x.
      entry_nums (at u U c.ids c.docs) c.current 3 0 0 0 0 _ refl (zero_grow (now l n c) U x 3 c.current G.current) refl (λ z. absurd (z refl)) (λ z. absurd (z refl)) (λ z. absurd (z refl)) refl)

  pub next_assign : (c : Change) → Good u l n c → l.tag ≡ 23 → Next u l n c (new_entry 0 8 [] c)
  unfolding new_entry adding shape_of shape_at columns_of blank put_all put_one is_number filled_by with_cell fills paired Fits choices all_fit_alone
  next_assign c G e =
      next_add u l n look_in (shape 0) 0 (entry.region ≔ c.current ∷ entry.kind ≔ 8 ∷ []) c 4 (shape_at 23 0).texts G (ap (λ (g : ℕ). shape_at g 0) e) refl refl (λ U x.
      entry_nums (at u U c.ids c.docs) c.current 8 0 0 0 0 _ refl (zero_grow (now l n c) U x 3 c.current G.current) refl (λ z. absurd (z refl)) (λ z. absurd (z refl)) (λ z. absurd (z refl)) refl)

  pub next_quoted : (c : Change) → Good u l n c → l.tag ≡ 23 → Next u l n c (new_entry 1 8 [] c)
  unfolding new_entry adding shape_of shape_at columns_of blank put_all put_one is_number filled_by with_cell fills paired Fits choices all_fit_alone
  next_quoted c G e =
      next_add u l n look_in (shape 1) 0 (entry.region ≔ c.current ∷ entry.kind ≔ 8 ∷ []) c 4 (shape_at 23 1).texts G (ap (λ (g : ℕ). shape_at g 1) e) refl refl (λ U x.
      entry_nums (at u U c.ids c.docs) c.current 8 0 0 0 0 _ refl (zero_grow (now l n c) U x 3 c.current G.current) refl (λ z. absurd (z refl)) (λ z. absurd (z refl)) (λ z. absurd (z refl)) refl)

  pub next_script : (c : Change) → Good u l n c → l.tag ≡ 26 → Next u l n c (new_entry 0 2 [] c)
  unfolding new_entry adding shape_of shape_at columns_of blank put_all put_one is_number filled_by with_cell fills paired Fits choices all_fit_alone
  next_script c G e =
      next_add u l n look_in (shape 0) 0 (entry.region ≔ c.current ∷ entry.kind ≔ 2 ∷ []) c 4 (shape_at 26 0).texts G (ap (λ (g : ℕ). shape_at g 0) e) refl refl (λ U x.
      entry_nums (at u U c.ids c.docs) c.current 2 0 0 0 0 _ refl (zero_grow (now l n c) U x 3 c.current G.current) refl (λ z. absurd (z refl)) (λ z. absurd (z refl)) (λ z. absurd (z refl)) refl)

  pub next_send : (s : ℕ) (c : Change) → Good u l n c → OrZero (now l n c) 1 s → l.tag ≡ 19 → Next u l n c (new_entry 0 5 (entry.state ≔ s ∷ []) c)
  unfolding new_entry adding shape_of shape_at columns_of blank put_all put_one is_number filled_by with_cell fills paired Fits choices all_fit_alone
  next_send s c G h e =
      next_add u l n look_in (shape 0) 0 (entry.region ≔ c.current ∷ entry.kind ≔ 5 ∷ entry.state ≔ s ∷ []) c 4 (shape_at 19 0).texts G (ap (λ (g : ℕ). shape_at g 0) e) refl refl (λ U x.
      entry_nums (at u U c.ids c.docs) c.current 5 s 0 0 0 _ refl (zero_grow (now l n c) U x 3 c.current G.current) refl (zero_grow (now l n c) U x 1 s h) (λ z. absurd (z refl)) (λ z. absurd (z refl)) refl)

  module _ (b : ℕ) (R : Ready u l n b) where
    out_entry : (h k : ℕ) → Next u l n (nothing n) (new_entry h k [] (nothing n)) → Out u l n b (entry_of h k n l)
    unfolding entry_of
    out_entry h k N = out_unless u l n b n.current _ (λ z. done_next u l n look_in b R (new_entry h k [] (nothing n)) N)

    pub out_raise : l.tag ≡ 20 → Out u l n b (entry_of 0 6 n l)
    out_raise e = out_entry 0 6 (next_raise (nothing n) R.good e)

    pub out_cancel : l.tag ≡ 21 → Out u l n b (entry_of 0 7 n l)
    out_cancel e = out_entry 0 7 (next_cancel (nothing n) R.good e)

    pub out_log : l.tag ≡ 22 → Out u l n b (start_log n l)
    unfolding start_log
    out_log e = out_either u l n b (has l key.expr) (entry_of 0 3 n l) _ (λ q. out_entry 0 3 (next_log (nothing n) R.good e)) (λ q. done_nothing u l n look_in b R)

    pub out_assign : l.tag ≡ 23 → Out u l n b (start_assign n l)
    unfolding start_assign
    out_assign e =
        out_either u l n b (eqb l.kind kind.whole) (entry_of 1 8 n l) (entry_of 0 8 n l) (λ q. out_entry 1 8 (next_quoted (nothing n) R.good e)) (λ q. out_entry 0 8 (next_assign (nothing n) R.good e))

    -- ---- a region without stack

    pub out_region : Out u l n b (start_region n l)
    unfolding start_region fresh_region region_over open_tags_fit blocks_in
    out_region = out (good_fresh u l n look_in (nothing n) R.good).0 refl (omega arith)

    -- ---- the root's script

    out_root : l.tag ≡ 26 → Out u l n b (root_script n l)
    unfolding root_script fresh_region region_over open_tags_fit blocks_in new_entry adding also alters PutsFit Fits columns_of chosen shape_of filled_by
    out_root e =
        let F = good_fresh u l n look_in (nothing n) R.good in
        let c₁ : Change = fresh_region (nothing n) in
        let c : Change = new_entry 0 2 [] c₁ in
        let N : Next u l n c₁ c = next_script c₁ F.0 e in
        let h : HasRow (now l n c) 3 (suc (nothing n).ids) = has_next u l n look_in c₁ c N 3 (suc (nothing n).ids) F.1 in
        out_closing u l n look_in b 26 c (λ d. done (altering (numbers 0) 1 (chart.script ≔ c.current ∷ []) d)) N.good refl (λ x z G t k f.
        let d : Change = record { edits = c.edits; regions = x.regions; current = x.current; ids = c.ids; docs = c.docs; state = c.state; transition = c.transition } in
        let M : Next u l n d (altering (numbers 0) 1 (chart.script ≔ c.current ∷ []) d) =
        next_alter u l n look_in (numbers 0) 1 (chart.script ≔ c.current ∷ []) d 0 [] G refl refl (λ U g m r y o. ((λ w. g 3 (suc (nothing n).ids) h), tt)) in
        out M.good t (omega (arith, k)))

    pub out_script : l.tag ≡ 26 → Out u l n b (start_script n l)
    unfolding start_script
    out_script e = out_either u l n b (eqb (parent_tag n) tag.scxml) (root_script n l) (entry_of 0 2 n l) (λ q. out_root e) (λ q. out_entry 0 2 (next_script (nothing n) R.good e))

    -- ---- send, invoke

    pub out_send : l.tag ≡ 19 → Out u l n b (start_send n l)
    unfolding start_send new_entry adding shape_of shape_at choices nothing edited_by has_own_number
    out_send e =
        let c : Change = new_entry 0 5 (entry.state ≔ current_state n ∷ []) (nothing n) in
        let N : Next u l n (nothing n) c = next_send (current_state n) (nothing n) R.good (state_row_lem u l n look_in b R) e in
        let h : HasRow (now l n c) 4 (suc (length (table_of n 4))) =
        has_last u l n look_in (shape 0) 0 (entry.region ≔ n.current ∷ entry.kind ≔ 5 ∷ entry.state ≔ current_state n ∷ []) 4 (shape_at 19 0).texts (nothing n) R.good (ap (λ (g : ℕ). shape_at g 0) e) refl refl in
        out_unless u l n b (current_state n) _ (λ z. out_unless u l n b n.current _ (λ y.
        done_next u l n look_in b R (add_words (shape 1) 8 (suc (length (table_of n 4))) (length (words_of l key.namelist)) c)
        (next_trans u l n look_in (nothing n) c _ N (
        next_words u l n look_in 8 (suc (length (table_of n 4))) 4 key.namelist refl refl refl (ap (λ (g : ℕ). shape_at g 1) e) (length (words_of l key.namelist)) c N.good h))))

    invoke_add : l.tag ≡ 8 → (leb 0 (code_for l key.autoforward 0) && leb (code_for l key.autoforward 0) 1) ≡ true
        → Next u l n (nothing n) (adding (shape 0) (invoke.state ≔ current_state n ∷ invoke.autoforward ≔ code_for l key.autoforward 0 ∷ []) (nothing n))
    unfolding adding shape_of shape_at columns_of blank put_all put_one is_number filled_by with_cell fills paired all_fit_alone
    invoke_add e a =
        next_add u l n look_in (shape 0) 0 (invoke.state ≔ current_state n ∷ invoke.autoforward ≔ code_for l key.autoforward 0 ∷ []) (nothing n) 5 (shape_at 8 0).texts R.good (ap (λ (g : ℕ). shape_at g 0) e) refl refl (λ U x.
        invoke_nums (at u U (nothing n).ids (nothing n).docs) (current_state n) (code_for l key.autoforward 0) 0 0 _ refl (zero_grow (now l n (nothing n)) U x 1 (current_state n) (state_row_lem u l n look_in b R)) a (λ z. absurd (z refl)) refl)

    pub out_invoke : l.tag ≡ 8 → (leb 0 (code_for l key.autoforward 0) && leb (code_for l key.autoforward 0) 1) ≡ true → Out u l n b (start_invoke n l)
    unfolding start_invoke adding shape_of shape_at choices nothing edited_by has_own_number
    out_invoke e a =
        let ps : List Put = invoke.state ≔ current_state n ∷ invoke.autoforward ≔ code_for l key.autoforward 0 ∷ [] in
        let c : Change = adding (shape 0) ps (nothing n) in
        let N : Next u l n (nothing n) c = invoke_add e a in
        let h : HasRow (now l n c) 5 (suc (length (table_of n 5))) =
        has_last u l n look_in (shape 0) 0 ps 5 (shape_at 8 0).texts (nothing n) R.good (ap (λ (g : ℕ). shape_at g 0) e) refl refl in
        out_unless u l n b (current_state n) _ (λ z.
        done_next u l n look_in b R (add_words (shape 1) 9 (suc (length (table_of n 5))) (length (words_of l key.namelist)) c)
        (next_trans u l n look_in (nothing n) c _ N (
        next_words u l n look_in 9 (suc (length (table_of n 5))) 5 key.namelist refl refl refl (ap (λ (g : ℕ). shape_at g 1) e) (length (words_of l key.namelist)) c N.good h)))
