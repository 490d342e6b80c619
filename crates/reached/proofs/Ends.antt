-- The ends of elements.
use Prim.Native.Nat.{ℕ, zero, suc}
use mathlib.Core.Path.{◌≡◌, refl, sym, ◌∙◌, subst}
use mathlib.Core.Bool.{Bool, true, false, not, false≢true}
use mathlib.Core.Option.{some}
use mathlib.Core.List.{List, [], ◌∷◌, reverse}
use lib.ListN.{get_or}
use lib.Dec.{eqb}
use borrow.Author.Tests.{eqb-true, eqb-false}
use Rattle.definition.specs.Elements.{among}
use Rattle.definition.specs.Rows.{Row, Table, num, Numbers, current_state, current_transition, parent_tag, root, listed, values_of}
use Rattle.definition.specs.Look.{Look}
use Rattle.definition.specs.Change.{Put, ◌≔◌, numbers, Change, Outcome, done, adding, altering, drawn, draw_id, next_id, add_member, Closed, closed_by, unless_zero, shape_of, nothing, edited_by}
use Rattle.definition.specs.States.{first_of, initial_of, default_transition, default_initial, end_state, end_scxml}
use Rattle.definition.specs.Actions.{place_of_number, ending, end_transition, end_listed, last_invoke, end_finalize, end_block}
use Rattle.definition.specs.Reader.{Ends, ends, end_in, end_of}
use Rattle.reached.proofs.Tables.{rest_of, within, among_within}
use Rattle.reached.proofs.Edits.{guarded, safe_shape, safe_put, safe_puts, safe_texts, safe_edit, safe_edits}
use Rattle.reached.proofs.Stack.{holders, starters, blocks, inner, outer, Place, idle, under, Idle, Live, head_of, on_live, Closes, close_block, close_starter, popped_place}
use Rattle.reached.proofs.Reached.{Reached, tags_of, after, parent_is, inner_fact}
use Rattle.reached.proofs.Steps.{Step, stay, then, safe_step, step_adding, step_altering, step_drawn, step_member, Fine, fine_unless, in_outer, in_inner, in_rooted}
use Rattle.reached.proofs.StateStarts.{fine_if}
use Rattle.reached.proofs.RegionStarts.{none_safe}
use Rattle.reached.proofs.LeafStarts.{closed_to, fine_closing}

pub record Ended (g : ℕ) (n : Numbers) (l : Look) (R : Reached n) (c : Change) : Type 0 where
  pub safe : safe_edits g c.edits ≡ true
  pub place : Place (get_or (after l c n) 4 []) (tags_of (rest_of R.os)) c.regions c.current

abbrev pub EndOk : ℕ → (Numbers → Outcome) → Type 0
EndOk g h = (n : Numbers) (l : Look) (R : Reached n) → parent_tag n ≡ g → Fine (Ended g n l R) (h n)

-- ---- elements that do nothing

rest_place : (os : Table) (E : Table) (regs : List Row) (cur : ℕ) → not (among (head_of (tags_of os)) inner) ≡ true → Place E (tags_of os) regs cur → Place E (tags_of (rest_of os)) regs cur
unfolding tags_of rest_of head_of
rest_place [] E regs cur e p = p
rest_place (r ∷ os) E regs cur e p = popped_place E (num r 0) (tags_of os) regs cur e p

pub end_nothing : (g : ℕ) → not (among g inner) ≡ true → EndOk g (λ n. done (nothing n))
unfolding Fine nothing edited_by
end_nothing g e n l R p =
    record {
      safe = none_safe g n;
      place = rest_place R.os _ _ _ (subst (λ (x : ℕ). not (among x inner) ≡ true) (sym p ∙ parent_is n R) e) R.place;
    }

-- ---- the default initial

rest_idle : (os : Table) → Idle (tags_of os) → Idle (tags_of (rest_of os))
unfolding Idle tags_of rest_of
rest_idle [] h = h
rest_idle (r ∷ os) h = h.1

step_default : (g s i : ℕ) (c : Change) → Step g c (default_transition s i c)
unfolding default_transition draw_id safe_shape shape_of among safe_texts safe_edit safe_puts safe_put guarded
step_default g s zero c = stay g c
step_default g s (suc i) c =
    let c₁ : Change = drawn 1 0 c in
    let ps : List Put = 0 ≔ next_id c ∷ 2 ≔ s ∷ [] in
    let c₂ : Change = adding (numbers 2) ps c₁ in
    let c₃ : Change = add_member 6 (next_id c) (suc i) c₂ in
    let c₄ : Change = altering (numbers 1) s (3 ≔ next_id c ∷ []) c₃ in
    then g c c₁ c₄ (step_drawn g 1 0 c) (then g c₁ c₂ c₄ (step_adding g (numbers 2) ps c₁ refl) (then g c₂ c₃ c₄ (step_member g 6 (next_id c) (suc i) c₂) (step_altering g (numbers 1) s (3 ≔ next_id c ∷ []) c₃ refl)))

end_default : (g : ℕ) → among g outer ≡ true → (n : Numbers) (l : Look) (R : Reached n) (s : ℕ) → parent_tag n ≡ g → ¬ (s ≡ 0) → Fine (Ended g n l R) (default_initial n s)
unfolding default_initial Fine within among
end_default g m n l R s p z =
    fine_unless _ s _ z (fine_if _ (eqb (initial_of n s) 0) _ _ (idly (default_transition s i (nothing n)) (step_default g s i (nothing n))) (idly (nothing n) (stay g (nothing n))))
  where
    i : ℕ
    i = first_of (values_of (listed 1 s (get_or n.tables 8 [])))

    idly : (c : Change) → Step g (nothing n) c → Ended g n l R c
    idly c S = record { safe = safe_step g (nothing n) c S (none_safe g n); place = idle (rest_idle R.os (in_outer n R outer (subst (λ (x : ℕ). among x outer ≡ true) (sym p) m) refl)) }

pub end_scxml_lem : EndOk 1 end_scxml
unfolding end_scxml root among within
end_scxml_lem n l R p = end_default 1 refl n l R _ p (λ z. in_rooted n R (1 ∷ []) (rw p refl) refl z)

pub end_state_lem : EndOk 2 end_state
unfolding end_state among
end_state_lem n l R p = end_default 2 refl n l R _ p ((inner_fact n R).known (rw p refl)).0

-- ---- regions

starter_closes : (g : ℕ) (os : Table) (regs : List Row) (cur : ℕ) → among g starters ≡ true → head_of (tags_of os) ≡ g → Live (tags_of os) regs cur
    → (closed_by g regs cur ≡ some (record { current = 0; regions = [] })) × Idle (tags_of (rest_of os))
unfolding tags_of rest_of head_of Live
starter_closes g [] regs cur m e L = absurd L
starter_closes g (r ∷ os) regs cur m e L =
    subst (λ (x : ℕ). (closed_by x regs cur ≡ some (record { current = 0; regions = [] })) × Idle (tags_of os)) e (close_starter (num r 0) (tags_of os) regs cur (subst (λ (x : ℕ). among x starters ≡ true) (sym e) m) L)

abbrev none_open : Closed
none_open = record { current = 0; regions = [] }

end_starter : (g : ℕ) → among g starters ≡ true → (n : Numbers) (l : Look) (R : Reached n) → parent_tag n ≡ g → (next : ℕ → Change → Outcome)
    → (((c : Change) → Step g (closed_to (nothing n) none_open) c → Ended g n l R c) → Fine (Ended g n l R) (next n.current (closed_to (nothing n) none_open))) → Fine (Ended g n l R) (ending g n next)
unfolding ending within among nothing
end_starter g m n l R p next f =
    let L : Live (tags_of R.os) (reverse (get_or n.tables 11 [])) n.current = in_inner n R starters (subst (λ (x : ℕ). among x starters ≡ true) (sym p) m) refl in
    let C : (closed_by g (reverse (get_or n.tables 11 [])) n.current ≡ some none_open) × Idle (tags_of (rest_of R.os)) = starter_closes g R.os _ n.current m (sym (parent_is n R) ∙ p) L in
    fine_closing _ g (nothing n) (next n.current) none_open C.0 (f (λ c S. record { safe = safe_step g (closed_to (nothing n) none_open) c S (none_safe g n); place = idle C.1 }))

pub end_transition_lem : EndOk 16 end_transition
unfolding end_transition Fine among safe_shape shape_of safe_texts safe_edit safe_puts safe_put guarded
end_transition_lem n l R p =
    end_starter 16 refl n l R p (λ r c. unless_zero (current_transition n) (done (altering (numbers 2) (place_of_number (get_or n.tables 2 []) (current_transition n)) (5 ≔ r ∷ []) c))) (λ k. fine_unless (Ended 16 n l R) (current_transition n) _ ((inner_fact n R).going p) (
    k _ (step_altering 16 (numbers 2) (place_of_number (get_or n.tables 2 []) (current_transition n)) (5 ≔ n.current ∷ []) (closed_to (nothing n) none_open) refl)))

end_listed_lem : (g k : ℕ) → among g starters ≡ true → EndOk g (end_listed g k)
unfolding end_listed Fine among within
end_listed_lem g k m n l R p =
    end_starter g m n l R p (λ r c. unless_zero (current_state n) (done (add_member k (current_state n) r c))) (λ f. fine_unless (Ended g n l R) (current_state n) _ ((inner_fact n R).known (subst (λ (x : ℕ). among x holders ≡ true) (sym p) (among_within starters holders g refl m))).0 (
    f _ (step_member g k (current_state n) n.current (closed_to (nothing n) none_open))))

pub end_onentry : EndOk 17 (end_listed 17 3)
unfolding among
end_onentry = end_listed_lem 17 3 refl

pub end_onexit : EndOk 18 (end_listed 18 4)
unfolding among
end_onexit = end_listed_lem 18 4 refl

pub end_finalize_lem : EndOk 11 end_finalize
unfolding end_finalize last_invoke Fine among safe_shape shape_of safe_texts safe_edit safe_puts safe_put guarded
end_finalize_lem n l R p =
    end_starter 11 refl n l R p (λ r c. unless_zero (current_state n) (unless_zero (last_invoke n (current_state n)) (done (altering (numbers 5) (last_invoke n (current_state n)) (2 ≔ r ∷ []) c)))) (λ f.
    fine_unless (Ended 11 n l R) (current_state n) _ ((inner_fact n R).known (rw p refl)).0 (
    fine_unless (Ended 11 n l R) (last_invoke n (current_state n)) _ ((inner_fact n R).invoked (rw p refl)) (
    f _ (step_altering 11 (numbers 5) (last_invoke n (current_state n)) (2 ≔ n.current ∷ []) (closed_to (nothing n) none_open) refl))))

block_closes : (g : ℕ) (os : Table) (regs : List Row) (cur : ℕ) → among g blocks ≡ true → head_of (tags_of os) ≡ g → Live (tags_of os) regs cur → Closes g (tags_of (rest_of os)) regs cur
unfolding tags_of rest_of head_of Live
block_closes g [] regs cur m e L = absurd L
block_closes g (r ∷ os) regs cur m e L =
    subst (λ (x : ℕ). Closes x (tags_of os) regs cur) e (close_block (num r 0) (tags_of os) regs cur (subst (λ (x : ℕ). among x blocks ≡ true) (sym e) m) L)

end_block_lem : (g : ℕ) → among g blocks ≡ true → EndOk g (end_block g)
unfolding end_block ending Fine among within nothing
end_block_lem g m n l R p =
    let L : Live (tags_of R.os) (reverse (get_or n.tables 11 [])) n.current = in_inner n R blocks (subst (λ (x : ℕ). among x blocks ≡ true) (sym p) m) refl in
    let C : Closes g (tags_of (rest_of R.os)) (reverse (get_or n.tables 11 [])) n.current = block_closes g R.os _ n.current m (sym (parent_is n R) ∙ p) L in
    fine_closing _ g (nothing n) _ (record { current = suc C.c; regions = C.rs }) C.closed (record { safe = none_safe g n; place = under (on_live _ (tags_of (rest_of R.os)) _ _ C.left) })

pub end_if : EndOk 24 (end_block 24)
unfolding among
end_if = end_block_lem 24 refl

pub end_foreach : EndOk 25 (end_block 25)
unfolding among
end_foreach = end_block_lem 25 refl

-- ---- by the tag

AllEnds : List Ends → Type 0
AllEnds [] = Unit {0}
AllEnds (e ∷ es) = EndOk e.element e.handler × AllEnds es

elements_of : List Ends → List ℕ
elements_of [] = []
elements_of (e ∷ es) = e.element ∷ elements_of es

flip_eqb : (a b : ℕ) → eqb a b ≡ false → eqb b a ≡ false
flip_eqb a b e = go (eqb b a) refl
  where
    go : (x : Bool) → eqb b a ≡ x → x ≡ false
    go true f = absurd (eqb-false a b e (sym (eqb-true b a f)))
    go false f = refl

end_in_lem : (es : List Ends) (g : ℕ) → AllEnds es → (among g (elements_of es) ≡ false → EndOk g (λ n. done (nothing n))) → EndOk g (end_in es g)
unfolding AllEnds elements_of end_in among
end_in_lem [] g a d n l R p = d refl n l R p
end_in_lem (e ∷ es) g a d n l R p = go (eqb e.element g) refl (λ q. end_in_lem es g a.1 q n l R p)
  where
    go : (b : Bool) → eqb e.element g ≡ b → ((among g (elements_of es) ≡ false → EndOk g (λ k. done (nothing k))) → Fine (Ended g n l R) (end_in es g n))
        → Fine (Ended g n l R) (elim b [ true ↦ e.handler n | false ↦ end_in es g n ])
    go true q ih = subst (λ (x : ℕ). Fine (Ended x n l R) (e.handler n)) (eqb-true e.element g q) (a.0 n l R (p ∙ sym (eqb-true e.element g q)))
    go false q ih = ih (λ m. d (rw (flip_eqb e.element g q, among) m))

pub all_ends : (g : ℕ) → EndOk g (end_of g)
unfolding end_of ends AllEnds elements_of within among
all_ends g =
    end_in_lem ends g (end_scxml_lem, (end_state_lem, (end_finalize_lem, (end_transition_lem, (end_onentry, (end_onexit, (end_if, (end_foreach, tt)))))))) (λ m. end_nothing g (go (among g inner) refl m))
  where
    go : (b : Bool) → among g inner ≡ b → among g (1 ∷ 2 ∷ 11 ∷ 16 ∷ 17 ∷ 18 ∷ 24 ∷ 25 ∷ []) ≡ false → not b ≡ true
    go true q m = absurd (false≢true (sym m ∙ among_within inner (1 ∷ 2 ∷ 11 ∷ 16 ∷ 17 ∷ 18 ∷ 24 ∷ 25 ∷ []) g refl q))
    go false q m = refl
