-- Every start and every end keeps the rules.
use Prim.Native.Nat.{ℕ, suc, ◌+◌, ◌-◌, ◌≤◌}
use mathlib.Core.Path.{◌≡◌, refl, sym, ap, ◌∙◌}
use mathlib.Core.Bool.{true, false, ◌&&◌}
use mathlib.Core.List.{List, [], ◌∷◌}
use lib.Dec.{eqb, leb}
use native.Mathlib.Omega.{arith}
use Rattle.definition.specs.Elements.{key, names_state, among}
use Rattle.definition.specs.Rows.{Table, Numbers, choices, shallow}
use Rattle.definition.specs.Look.{Look}
use Rattle.definition.specs.Change.{Outcome, done, refuse, nothing, edited_by, has, code_for}
use Rattle.definition.specs.States.{own_state, other_states}
use Rattle.definition.specs.Rules.{is_block, blocks_in}
use Rattle.definition.specs.Reader.{only_nest, starts, start_of, ends, end_in, end_of}
use Rattle.kept.proofs.Base.{at_place, All, eq_of, neqb_of, neq_of}
use Rattle.kept.proofs.Classes.{HasRow}
use Rattle.kept.proofs.RowTexts.{LookIn}
use Rattle.kept.proofs.Steps.{now}
use Rattle.kept.proofs.Members.{Out, out, no_out, out_either}
use Rattle.kept.proofs.StatesOut.{Ready, done_nothing, out_state, out_parallel, out_final, out_history, out_scxml, out_initial, out_donedata}
use Rattle.kept.proofs.DataOut.{out_data, out_end_state, out_end_scxml}
use Rattle.kept.proofs.ActionsOut.{out_raise, out_cancel, out_log, out_assign, out_region, out_script, out_send, out_invoke}
use Rattle.kept.proofs.ParamOut.{out_param, out_content, out_end_transition, out_end_listed, out_end_finalize, out_end_block}
use Rattle.kept.proofs.TransitionOut.{out_transition}
use Rattle.kept.proofs.BlocksOut.{out_if, out_foreach}
use Rattle.kept.proofs.ElseOut.{out_else, out_elseif}

-- One for an if or a foreach, none for any other.
abbrev pub room : ℕ → ℕ
room g = blocks_in 0 ((g ∷ []) ∷ [])

abbrev pub Coded : ℕ → ℕ → Type 0
Coded v k = (leb 0 v && leb v k) ≡ true

-- What a handler needs of the event.
pub record Heard (u : ℕ) (l : Look) (n : Numbers) : Type 0 where
  pub look_in : LookIn u l
  pub refs : All (HasRow n.tables 1) l.refs
  pub own : names_state l.tag ≡ true → HasRow n.tables 1 (own_state l)
  pub wild : l.tag ≡ 16 → Coded (code_for l key.event 0) 1
  pub auto : l.tag ≡ 8 → Coded (code_for l key.autoforward 0) 1
  pub hist : l.tag ≡ 6 → Coded (code_for l key.type shallow) 2
  pub bind : l.tag ≡ 1 → has l key.binding ≡ true → Coded (code_for l key.binding 0) 1

pub out_weaken : (u : ℕ) (l : Look) (n : Numbers) (b c : ℕ) (o : Outcome) → b ≤ c → Out u l n b o → Out u l n c o
out_weaken u l n b c (done x) h (out G t k) = out G t (omega (arith, h, k))
out_weaken u l n b c (refuse k) h no_out = no_out

tail_rows : (T : List Table) (vs : List ℕ) → All (HasRow T 1) vs → All (HasRow T 1) (other_states vs)
unfolding other_states
tail_rows T [] a = tt
tail_rows T (v ∷ vs) a = a.1

module _ (u : ℕ) (l : Look) (n : Numbers) (H : Heard u l n) (b : ℕ) (R : Ready u l n b) where
  refs_now : All (HasRow (now l n (nothing n)) 1) l.refs
  unfolding nothing edited_by
  refs_now = H.refs

  others_now : All (HasRow (now l n (nothing n)) 1) (other_states l.refs)
  unfolding nothing edited_by
  others_now = tail_rows n.tables l.refs H.refs

  own_now : (g : ℕ) → l.tag ≡ g → names_state g ≡ true → HasRow (now l n (nothing n)) 1 (own_state l)
  unfolding nothing edited_by
  own_now g e k = H.own (ap names_state e ∙ k)

  one_more_lem : (g : ℕ) → is_block g ≡ true → suc b ≤ b + room g
  unfolding blocks_in
  one_more_lem g e = rw (e, blocks_in) (omega arith)

  -- EVERY START.
  pub out_start : (l.tag ≡ 12 → 1 ≤ b) → (l.tag ≡ 13 → 1 ≤ b) → (g : ℕ) → l.tag ≡ g → Out u l n (b + room g) (start_of g n l)
  unfolding start_of starts only_nest names_state is_block
  out_start else-one elseif-one g =
      at_place (λ i h. l.tag ≡ i → Out u l n (b + room i) (h n l)) only_nest starts (
        (λ e. out_weaken u l n b _ _ (omega arith) (done_nothing u l n H.look_in b R)),
        (
          (λ e. out_weaken u l n b _ _ (omega arith) (out_scxml u l n H.look_in b R (own_now 1 e refl) others_now e (H.bind e))),
          (
            (λ e. out_weaken u l n b _ _ (omega arith) (out_state u l n H.look_in b R (own_now 2 e refl) others_now)),
            (
              (λ e. out_weaken u l n b _ _ (omega arith) (out_parallel u l n H.look_in b R (own_now 3 e refl) others_now)),
              (
                (λ e. out_weaken u l n b _ _ (omega arith) (done_nothing u l n H.look_in b R)),
                (
                  (λ e. out_weaken u l n b _ _ (omega arith) (out_final u l n H.look_in b R (own_now 5 e refl) others_now)),
                  (
                    (λ e. out_weaken u l n b _ _ (omega arith) (out_history u l n H.look_in b R (own_now 6 e refl) others_now (H.hist e))),
                    (
                      (λ e. out_weaken u l n b _ _ (omega arith) (out_initial u l n H.look_in b R)),
                      (
                        (λ e. out_weaken u l n b _ _ (omega arith) (out_invoke u l n H.look_in b R e (H.auto e))),
                        (
                          (λ e. out_weaken u l n b _ _ (omega arith) (out_data u l n H.look_in b R e)),
                          (
                            (λ e. out_weaken u l n b _ _ (omega arith) (out_donedata u l n H.look_in b R e)),
                            (
                              (λ e. out_weaken u l n b _ _ (omega arith) (out_region u l n H.look_in b R)),
                              (
                                (λ e. out_weaken u l n b _ _ (omega arith) (out_else u l n H.look_in b R (else-one e))),
                                (
                                  (λ e. out_weaken u l n b _ _ (omega arith) (out_elseif u l n H.look_in b R e (elseif-one e))),
                                  (
                                    (λ e. out_weaken u l n b _ _ (omega arith) (out_param u l n H.look_in b R e)),
                                    (
                                      (λ e. out_weaken u l n b _ _ (omega arith) (out_content u l n H.look_in b R e)),
                                      (
                                        (λ e. out_weaken u l n b _ _ (omega arith) (out_transition u l n H.look_in b R e (H.wild e) refs_now)),
                                        (
                                          (λ e. out_weaken u l n b _ _ (omega arith) (out_region u l n H.look_in b R)),
                                          (
                                            (λ e. out_weaken u l n b _ _ (omega arith) (out_region u l n H.look_in b R)),
                                            (
                                              (λ e. out_weaken u l n b _ _ (omega arith) (out_send u l n H.look_in b R e)),
                                              (
                                                (λ e. out_weaken u l n b _ _ (omega arith) (out_raise u l n H.look_in b R e)),
                                                (
                                                  (λ e. out_weaken u l n b _ _ (omega arith) (out_cancel u l n H.look_in b R e)),
                                                  (
                                                    (λ e. out_weaken u l n b _ _ (omega arith) (out_log u l n H.look_in b R e)),
                                                    (
                                                      (λ e. out_weaken u l n b _ _ (omega arith) (out_assign u l n H.look_in b R e)),
                                                      (
                                                        (λ e. out_weaken u l n (suc b) _ _ (one_more_lem 24 refl) (out_if u l n H.look_in b R e)),
                                                        (
                                                          (λ e. out_weaken u l n (suc b) _ _ (one_more_lem 25 refl) (out_foreach u l n H.look_in b R e)),
                                                          (
                                                            (λ e. out_weaken u l n b _ _ (omega arith) (out_script u l n H.look_in b R e)),
                                                            (λ i e. out_weaken u l n b _ _ (omega arith) (done_nothing u l n H.look_in b R)),
                                                          ),
                                                        ),
                                                      ),
                                                    ),
                                                  ),
                                                ),
                                              ),
                                            ),
                                          ),
                                        ),
                                      ),
                                    ),
                                  ),
                                ),
                              ),
                            ),
                          ),
                        ),
                      ),
                    ),
                  ),
                ),
              ),
            ),
          ),
        ),
      )
      g

-- EVERY END.

module _ (u : ℕ) (l : Look) (n : Numbers) (look_in : LookIn u l) (b : ℕ) (R : Ready u l n b) where
  not_more : (g : ℕ) → is_block g ≡ false → b ≤ b - room g
  unfolding blocks_in
  not_more g e = rw (e, blocks_in) (omega arith)

  one_less : (g : ℕ) → is_block g ≡ true → b - 1 ≤ b - room g
  unfolding blocks_in
  one_less g e = rw (e, blocks_in) (omega arith)

  -- The end of an element that is no block.
  at_end_lem : (g e : ℕ) (o : Outcome) → is_block e ≡ false → Out u l n b o → eqb e g ≡ true → Out u l n (b - room g) o
  at_end_lem g e o k p q = out_weaken u l n b (b - room g) o (not_more g (ap is_block (sym (eq_of e g q)) ∙ k)) p

  at_block : (g e : ℕ) (o : Outcome) → is_block e ≡ true → Out u l n (b - 1) o → eqb e g ≡ true → Out u l n (b - room g) o
  at_block g e o k p q = out_weaken u l n (b - 1) (b - room g) o (one_less g (ap is_block (sym (eq_of e g q)) ∙ k)) p

  -- Neither 24 nor 25.
  no_block : (g : ℕ) → eqb 24 g ≡ false → eqb 25 g ≡ false → is_block g ≡ false
  unfolding is_block among
  no_block g e f =
      let e' : eqb g 24 ≡ false = neqb_of g 24 (λ z. neq_of 24 g e (sym z)) in
      let f' : eqb g 25 ≡ false = neqb_of g 25 (λ z. neq_of 25 g f (sym z)) in
      rw (e', is_block, among, f', among)

  pub out_end : (g : ℕ) → Out u l n (b - room g) (end_of g n)
  unfolding end_of ends end_in is_block choices
  out_end g =
      out_either u l n (b - room g) (eqb 1 g) _ _ (at_end_lem g 1 _ refl (out_end_scxml u l n look_in b R)) (λ e₁.
      out_either u l n (b - room g) (eqb 2 g) _ _ (at_end_lem g 2 _ refl (out_end_state u l n look_in b R)) (λ e₂.
      out_either u l n (b - room g) (eqb 11 g) _ _ (at_end_lem g 11 _ refl (out_end_finalize u l n look_in b R)) (λ e₃.
      out_either u l n (b - room g) (eqb 16 g) _ _ (at_end_lem g 16 _ refl (out_end_transition u l n look_in b R)) (λ e₄.
      out_either u l n (b - room g) (eqb 17 g) _ _ (at_end_lem g 17 _ refl (out_end_listed u l n look_in b R 17 3 refl refl refl)) (λ e₅.
      out_either u l n (b - room g) (eqb 18 g) _ _ (at_end_lem g 18 _ refl (out_end_listed u l n look_in b R 18 4 refl refl refl)) (λ e₆.
      out_either u l n (b - room g) (eqb 24 g) _ _ (at_block g 24 _ refl (out_end_block u l n look_in b R 24 refl)) (λ e₇.
      out_either u l n (b - room g) (eqb 25 g) _ _ (at_block g 25 _ refl (out_end_block u l n look_in b R 25 refl)) (λ e₈.
      out_weaken u l n b (b - room g) _ (not_more g (no_block g e₇ e₈)) (done_nothing u l n look_in b R)))))))))
