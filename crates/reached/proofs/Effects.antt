-- The starts of scxml, donedata and invoke: what they write is there afterwards.
use Prim.Native.Nat.{ℕ, zero, suc, ◌≤◌}
use mathlib.Core.Path.{◌≡◌, refl, sym, ap, ◌∙◌, subst}
use mathlib.Core.Bool.{Bool, true, false, false≢true}
use mathlib.Core.List.{List, [], ◌∷◌, ◌++◌}
use lib.ListN.{length, get_or, set}
use lib.Seq.{get_or-set_same}
use native.Mathlib.Omega.{arith}
use Rattle.definition.specs.Elements.{among, names_state, key}
use Rattle.definition.specs.Nesting.{parent_allowed, allowed_in, nesting}
use Rattle.definition.specs.Rows.{Row, Table, num, row_of, blank, columns_of, Numbers, current_state}
use Rattle.definition.specs.Shapes.{Shape, shape_at, shapes_in, shapes_by_element}
use Rattle.definition.specs.Look.{Look}
use Rattle.definition.specs.Change.{Put, ◌≔◌, Which, numbers, shape, add, alter, Change, also, adding, altering, in_state, inside, add_words, shape_of, nothing, on_table, edited, edited_by, filled_by, put_all, put_one, alter_row, has, code_for, words_of}
use Rattle.definition.specs.States.{own_state, declared, binding, start_scxml, start_donedata}
use Rattle.definition.specs.Actions.{last_with, start_invoke}
use Rattle.definition.proofs.Changes.{edits_append}
use Rattle.reached.proofs.Tables.{set_view, all_at, altered_at, last_added, within}
use Rattle.reached.proofs.Edits.{guarded, some?, safe_shape, safe_put, safe_puts, safe_texts, safe_edit, safe_edits, fill_length}
use Rattle.reached.proofs.Stack.{idle, Idle, bare_idle}
use Rattle.reached.proofs.Growth.{RootOf, Fact, HasState, HasDone, HasInvoke, Wide, Solid, Grows, solid_grows, fact_grows}
use Rattle.reached.proofs.Reached.{Reached, tags_of, after, root_back}
use Rattle.reached.proofs.Steps.{Step, stay, then, safe_step, step_altering, step_shape, step_words, step_grows, after_grows, Fine, fine_unless, StartOk, state_fact, in_outer, in_state_lem, in_rooted}
use Rattle.reached.proofs.StateStarts.{declared_safe}

-- ---- an edit by its shape

pub edit_alter : (l : Look) (w : Which) (i : ℕ) (ps : List Put) (us : List Table) (h : Shape) → shape_of l.tag w ≡ h
    → edited l (alter w i ps) us ≡ set us h.into (alter_row i (λ r. put_all (columns_of h.into) ps (filled_by l 0 h.texts r)) (get_or us h.into []))
unfolding edited on_table
edit_alter l w i ps us h e =
    subst (λ (x : Shape). edited l (alter w i ps) us ≡ set us x.into (alter_row i (λ r. put_all (columns_of x.into) ps (filled_by l 0 x.texts r)) (get_or us x.into []))) e refl

pub edit_add : (l : Look) (w : Which) (i : ℕ) (ps : List Put) (us : List Table) (h : Shape) → shape_of l.tag w ≡ h
    → edited l (add w i ps) us ≡ set us h.into (get_or us h.into [] ++ put_all (columns_of h.into) ps (filled_by l i h.texts (blank h.into)) ∷ [])
unfolding edited on_table
edit_add l w i ps us h e =
    subst (λ (x : Shape). edited l (add w i ps) us ≡ set us x.into (get_or us x.into [] ++ put_all (columns_of x.into) ps (filled_by l i x.texts (blank x.into)) ∷ [])) e refl

pub shape_is : (l : Look) (g : ℕ) (w : Which) → l.tag ≡ g → shape_of l.tag w ≡ shape_of g w
shape_is l g w e = ap (λ (x : ℕ). shape_of x w) e

pub num_other : (r : Row) (k j v : ℕ) → ¬ (k ≡ j) → num (set r k v) j ≡ num r j
num_other r k j v h = set_view (λ (y : ℕ). y ≡ num r j) r k j v 0 (λ e. absurd (h e)) refl

put_two : (s a : ℕ) (r : Row) → length r ≡ length (blank 5) → num (put_all (columns_of 5) (0 ≔ s ∷ 1 ≔ a ∷ []) r) 0 ≡ s
unfolding put_all put_one columns_of blank
put_two s a r w = num_other (set r 0 s) 1 0 a (omega arith) ∙ get_or-set_same r 0 s 0 (omega arith)

-- ---- scxml

root_put : (v : ℕ) (r : Row) → 9 ≤ length r → num (put_all (columns_of 0) (0 ≔ v ∷ []) r) 0 ≡ v
unfolding put_all put_one columns_of
root_put v r w = get_or-set_same r 0 v 0 (omega arith)

scxml_root : (l : Look) (v : ℕ) (us : List Table) → l.tag ≡ 1 → ¬ (v ≡ 0) → Solid us → ¬ (RootOf (edited l (alter (shape 0) 1 (0 ≔ v ∷ [])) us) ≡ 0)
unfolding shape_of shape_at shapes_in shapes_by_element
scxml_root l v us e h S =
    let H : Shape = shape_of 1 (shape 0) in
    let F : Row → Row = (λ r. put_all (columns_of 0) (0 ≔ v ∷ []) (filled_by l 0 H.texts r)) in
    let X : Table = alter_row 1 F (get_or us 0 []) in
    let x : ¬ (num (get_or X 0 []) 0 ≡ 0) = altered_at (λ r. ¬ (num r 0 ≡ 0)) 0 F (get_or us 0 []) S.chart (
    let w : 9 ≤ length (get_or (get_or us 0 []) 0 []) = all_at Wide (get_or us 0 []) 0 S.chart S.charts in
    rw (root_put v (filled_by l 0 H.texts (get_or (get_or us 0 []) 0 [])) (omega (arith, fill_length l 0 H.texts (get_or (get_or us 0 []) 0 [])))) h) in
    subst (λ (ts : List Table). ¬ (RootOf ts ≡ 0)) (sym (edit_alter l (shape 0) 1 (0 ≔ v ∷ []) us H (shape_is l 1 (shape 0) e))) (
    subst (λ (T : Table). ¬ (num (get_or T 0 []) 0 ≡ 0)) (sym (get_or-set_same us 0 X [] (let z : length us ≡ 12 = S.size in omega arith))) x)

root_safe : (v : ℕ) → ¬ (v ≡ 0) → safe_edit 1 (alter (shape 0) 1 (0 ≔ v ∷ [])) ≡ true
unfolding safe_edit safe_shape safe_puts safe_put safe_texts shape_of shape_at shapes_in shapes_by_element among guarded some?
root_safe zero h = absurd (h refl)
root_safe (suc v) h = refl

step_binding : (l : Look) (c : Change) → Step 1 c (binding l c)
unfolding binding safe_edit safe_shape safe_puts safe_put safe_texts shape_of among guarded
step_binding l c = go (has l key.binding)
  where
    go : (b : Bool) → Step 1 c (elim b [ true ↦ altering (numbers 0) 1 (2 ≔ code_for l key.binding 0 ∷ []) c | false ↦ c ])
    go true = step_altering 1 (numbers 0) 1 (2 ≔ code_for l key.binding 0 ∷ []) c refl
    go false = stay 1 c

rooted : (n : Numbers) (l : Look) (R : Reached n) (b : Change) (v : ℕ) → l.tag ≡ 1 → ¬ (v ≡ 0) → safe_edits 1 b.edits ≡ true → ¬ (RootOf (after l (altering (shape 0) 1 (0 ≔ v ∷ []) b) n) ≡ 0)
unfolding altering also edited_by
rooted n l R b v e h s =
    subst (λ (ts : List Table). ¬ (RootOf ts ≡ 0)) (sym (edits_append l b.edits (alter (shape 0) 1 (0 ≔ v ∷ []) ∷ []) n.tables)) (
    scxml_root l v (after l b n) e h (solid_grows n.tables (after l b n) (after_grows 1 n l b e s) R.solid))

pub start_scxml_lem : StartOk 1 start_scxml
unfolding start_scxml Fine names_state among declared in_state inside Idle
start_scxml_lem n l R A =
    let h : HasState n.tables (own_state l) = A.own refl in
    let d : Change = declared n 0 l in
    let b : Change = binding l d in
    let c : Change = altering (shape 0) 1 (0 ≔ own_state l ∷ []) b in
    let T : Step 1 b c = step_altering 1 (shape 0) 1 (0 ≔ own_state l ∷ []) b (root_safe (own_state l) h.0) in
    let S : Step 1 d c = then 1 d b c (step_binding l d) T in
    let sb : safe_edits 1 b.edits ≡ true = safe_step 1 d b (step_binding l d) (declared_safe 1 n 0 l) in
    let s : safe_edits 1 c.edits ≡ true = safe_step 1 d c S (declared_safe 1 n 0 l) in
    record {
      safe = s;
      fact = fact_grows n.tables (after l c n) 1 _ _ (after_grows 1 n l c A.tag s) (subst (λ (x : ℕ). Fact n.tables 1 x c.transition) (sym S.state) (state_fact n.tables 1 (own_state l) _ refl h));
      root = λ z. absurd (rooted n l R b (own_state l) A.tag h.0 sb z);
      place = idle (refl, bare_idle _ (tags_of R.os) _ _ (R.begun (A.first refl)) R.place);
    }

-- ---- donedata

done_put : (v : ℕ) (r : Row) → 9 ≤ length r → num (put_all (columns_of 1) (8 ≔ suc v ∷ 9 ≔ 0 ∷ []) r) 8 ≡ suc v
unfolding put_all put_one columns_of
done_put v r w = num_other (set r 8 (suc v)) 9 8 0 (omega arith) ∙ get_or-set_same r 8 (suc v) 0 (omega arith)

donedata_done : (l : Look) (s v : ℕ) (us : List Table) → l.tag ≡ 10 → HasState us s → Solid us → HasDone (edited l (alter (shape 0) s (8 ≔ suc v ∷ 9 ≔ 0 ∷ [])) us) s
unfolding shape_of shape_at shapes_in shapes_by_element row_of
donedata_done l zero v us e h S = absurd (h.0 refl)
donedata_done l (suc i) v us e h S =
    let H : Shape = shape_of 10 (shape 0) in
    let F : Row → Row = (λ r. put_all (columns_of 1) (8 ≔ suc v ∷ 9 ≔ 0 ∷ []) (filled_by l 0 H.texts r)) in
    let X : Table = alter_row (suc i) F (get_or us 1 []) in
    let q : suc i ≤ length (get_or us 1 []) = h.1 in
    let x : ¬ (num (get_or X i []) 8 ≡ 0) = altered_at (λ r. ¬ (num r 8 ≡ 0)) i F (get_or us 1 []) q (
    let w : 9 ≤ length (get_or (get_or us 1 []) i []) = all_at Wide (get_or us 1 []) i q S.states in
    rw (done_put v (filled_by l 0 H.texts (get_or (get_or us 1 []) i [])) (omega (arith, fill_length l 0 H.texts (get_or (get_or us 1 []) i [])))) (omega arith)) in
    subst (λ (ts : List Table). HasDone ts (suc i)) (sym (edit_alter l (shape 0) (suc i) (8 ≔ suc v ∷ 9 ≔ 0 ∷ []) us H (shape_is l 10 (shape 0) e))) (
    subst (λ (T : Table). ¬ (num (get_or T i []) 8 ≡ 0)) (sym (get_or-set_same us 1 X [] (let z : length us ≡ 12 = S.size in omega arith))) x)

done_safe : (s v : ℕ) → safe_edit 10 (alter (shape 0) s (8 ≔ suc v ∷ 9 ≔ 0 ∷ [])) ≡ true
unfolding safe_edit safe_shape safe_puts safe_put safe_texts shape_of shape_at shapes_in shapes_by_element among guarded some?
done_safe s v = refl

pub start_donedata_lem : StartOk 10 start_donedata
unfolding start_donedata Fine nothing altering also edited_by safe_edits Idle parent_allowed allowed_in nesting within among
start_donedata_lem n l R A =
    let h : HasState n.tables (current_state n) = in_state_lem n R (5 ∷ []) A.allowed refl in
    let v : ℕ = length (get_or n.tables 7 []) in
    let c : Change = altering (shape 0) (current_state n) (8 ≔ suc v ∷ 9 ≔ 0 ∷ []) (nothing n) in
    let s : safe_edits 10 c.edits ≡ true = safe_step 10 (nothing n) c (step_altering 10 (shape 0) (current_state n) (8 ≔ suc v ∷ 9 ≔ 0 ∷ []) (nothing n) (done_safe (current_state n) v)) refl in
    let G : Grows n.tables (after l c n) = after_grows 10 n l c A.tag s in
    fine_unless _ (current_state n) _ h.0 (record {
      safe = s;
      fact =
          record {
            known = λ m. (h.0, let q : current_state n ≤ length (get_or n.tables 1 []) = h.1 in omega (arith, G.states));
            going = λ q. absurd (omega arith);
            invoked = λ m. absurd (false≢true m);
            done = λ q. donedata_done l (current_state n) v n.tables A.tag h R.solid;
          };
      root = λ z. absurd (in_rooted n R (5 ∷ []) A.allowed refl (root_back n.tables (after l c n) G z));
      place = idle (refl, in_outer n R (5 ∷ []) A.allowed refl);
    })

-- ---- invoke

invoke_row_lem : (l : Look) (s a : ℕ) (us : List Table) → l.tag ≡ 8 → length us ≡ 12 → HasInvoke (edited l (add (shape 0) 0 (0 ≔ s ∷ 1 ≔ a ∷ [])) us) s
unfolding shape_of shape_at shapes_in shapes_by_element
invoke_row_lem l s a us e z =
    let H : Shape = shape_of 8 (shape 0) in
    let r : Row = put_all (columns_of 5) (0 ≔ s ∷ 1 ≔ a ∷ []) (filled_by l 0 H.texts (blank 5)) in
    subst (λ (ts : List Table). HasInvoke ts s) (sym (edit_add l (shape 0) 0 (0 ≔ s ∷ 1 ≔ a ∷ []) us H (shape_is l 8 (shape 0) e))) (
    subst (λ (T : Table). ¬ (last_with 0 s 0 0 T ≡ 0)) (sym (get_or-set_same us 5 (get_or us 5 [] ++ r ∷ []) [] (omega arith))) (
    rw (last_added 0 s 0 0 (get_or us 5 []) r (put_two s a (filled_by l 0 H.texts (blank 5)) (fill_length l 0 H.texts (blank 5)))) (omega arith)))

pub start_invoke_lem : StartOk 8 start_invoke
unfolding start_invoke Fine nothing adding also edited_by safe_edits Idle parent_allowed allowed_in nesting within among
start_invoke_lem n l R A =
    let h : HasState n.tables (current_state n) = in_state_lem n R (2 ∷ 3 ∷ []) A.allowed refl in
    let a : ℕ = code_for l key.autoforward 0 in
    let c₁ : Change = adding (shape 0) (0 ≔ current_state n ∷ 1 ≔ a ∷ []) (nothing n) in
    let c : Change = add_words (shape 1) 9 (suc (length (get_or n.tables 5 []))) (length (words_of l key.namelist)) c₁ in
    let T : Step 8 c₁ c = step_words 8 1 9 (suc (length (get_or n.tables 5 []))) (length (words_of l key.namelist)) c₁ in
    let S : Step 8 (nothing n) c = then 8 (nothing n) c₁ c (step_shape 8 0 (0 ≔ current_state n ∷ 1 ≔ a ∷ []) (nothing n)) T in
    let s : safe_edits 8 c.edits ≡ true = safe_step 8 (nothing n) c S refl in
    let G : Grows n.tables (after l c n) = after_grows 8 n l c A.tag s in
    let i : HasInvoke (after l c n) (current_state n) = (step_grows 8 n l c₁ c A.tag T).invokes (current_state n) (invoke_row_lem l (current_state n) a n.tables A.tag R.solid.size) in
    fine_unless _ (current_state n) _ h.0 (record {
      safe = s;
      fact = subst (λ (x : ℕ). Fact (after l c n) 8 x c.transition) (sym S.state) (
          record {
            known = λ m. (h.0, let q : current_state n ≤ length (get_or n.tables 1 []) = h.1 in omega (arith, G.states));
            going = λ q. absurd (omega arith);
            invoked = λ m. i;
            done = λ q. absurd (omega arith);
          });
      root = λ z. absurd (in_rooted n R (2 ∷ 3 ∷ []) A.allowed refl (root_back n.tables (after l c n) G z));
      place = idle (refl, in_outer n R (2 ∷ 3 ∷ []) A.allowed refl);
    })
