-- The starts of param and content, by their parent.
use Prim.Native.Nat.{ℕ, zero, suc}
use mathlib.Core.Path.{◌≡◌, refl, sym, ap, ◌∙◌, subst}
use mathlib.Core.Bool.{Bool, true, false, ◌||◌, not, false≢true}
use mathlib.Core.List.{List, [], ◌∷◌, reverse}
use lib.ListN.{get_or}
use lib.Dec.{eqb}
use borrow.Author.Tests.{eqb-true, eq-eqb}
use native.Mathlib.Omega.{arith}
use Rattle.definition.specs.Elements.{among, key}
use Rattle.definition.specs.Event.{kind}
use Rattle.definition.specs.Nesting.{parent_allowed, allowed_in, nesting}
use Rattle.definition.specs.Rows.{Row, Table, num, row_of, columns_of, Numbers, current_state, parent_tag}
use Rattle.definition.specs.Shapes.{Shape, shape_at, shapes_in, shapes_by_element}
use Rattle.definition.specs.Look.{Look}
use Rattle.definition.specs.Change.{◌≔◌, shape, alter, Change, Outcome, refuse, also, adding, altering, shape_of, nothing, edited_by, filled_by, put_all, alter_row, has}
use Rattle.definition.specs.Actions.{last_with, last_entry, last_invoke, by_parent, new_parameter, of_last_send, of_last_invoke, of_donedata, start_param, send_content, content_of_send, start_content}
use Rattle.definition.specs.Reader.{only_nest}
use Rattle.definition.proofs.Base.{and_both}
use Rattle.reached.proofs.Tables.{set_view, within, last_altered, altered_row}
use Rattle.reached.proofs.Edits.{guarded, some?, safe_shape, safe_put, safe_puts, safe_texts, safe_edit, Kept, kept_row}
use Rattle.reached.proofs.Stack.{holders, outer, Place, under, LastSend, leaf, Under, under_moved, Sent, must_sent, not_regional}
use Rattle.reached.proofs.Growth.{set_other}
use Rattle.reached.proofs.Reached.{Reached, tags_of, after, parent_is, inner_fact}
use Rattle.reached.proofs.Steps.{Step, safe_step, step_shape, step_altering, Fine, fine_unless, Asked, Good, StartOk, good, leaf_fact}
use Rattle.reached.proofs.StateStarts.{nest_leaf, fine_if, good_outer}
use Rattle.reached.proofs.Effects.{edit_alter, edit_add, shape_is}
use Rattle.reached.proofs.RegionStarts.{none_safe, only_one, among_next}

-- ---- by the parent

fine_parent : (P : Change → Type 0) (p : ℕ) (a b c : Outcome) → among p (19 ∷ 8 ∷ 10 ∷ []) ≡ true → (p ≡ 19 → Fine P a) → (p ≡ 8 → Fine P b) → (p ≡ 10 → Fine P c) → Fine P (by_parent p a b c)
unfolding by_parent
fine_parent P p a b c m f g h = go (eqb p 19) refl
  where
    next : eqb p 19 ≡ false → (x : Bool) → eqb p 8 ≡ x → Fine P (elim x [ true ↦ b | false ↦ c ])
    next e true k = g (eqb-true p 8 k)
    next e false k = h (only_one p 10 (among_next p 8 (10 ∷ []) k (among_next p 19 (8 ∷ 10 ∷ []) e m)))

    go : (x : Bool) → eqb p 19 ≡ x → Fine P (elim x [ true ↦ a | false ↦ elim (eqb p 8) [ true ↦ b | false ↦ c ] ])
    go true e = f (eqb-true p 19 e)
    go false e = next e (eqb p 8) refl

fine_last_send : (P : Change → Type 0) (n : Numbers) (o : Outcome) → LastSend (get_or n.tables 4 []) n.current → Fine P o → Fine P (of_last_send n o)
unfolding of_last_send LastSend last_entry
fine_last_send P n o h f = subst (λ (b : Bool). Fine P (elim b [ true ↦ o | false ↦ refuse 2 ])) (sym (eq-eqb _ 5 h)) f

fine_last_invoke : (P : Change → Type 0) (n : Numbers) (R : Reached n) (o : Outcome) → parent_tag n ≡ 8 → Fine P o → Fine P (of_last_invoke n o)
unfolding of_last_invoke last_invoke among
fine_last_invoke P n R o e f = fine_unless P (current_state n) _ ((inner_fact n R).known (rw e refl)).0 (fine_unless P _ o ((inner_fact n R).invoked (rw e refl)) f)

fine_donedata : (P : Change → Type 0) (n : Numbers) (R : Reached n) (o : Outcome) → parent_tag n ≡ 10 → Fine P o → Fine P (of_donedata n o)
unfolding of_donedata among
fine_donedata P n R o e f = fine_unless P (current_state n) _ ((inner_fact n R).known (rw e refl)).0 (fine_unless P _ o ((inner_fact n R).done e) f)

-- ---- what is added in a send, and elsewhere

is_sent : (n : Numbers) (R : Reached n) → parent_tag n ≡ 19 → Sent (get_or n.tables 4 []) (tags_of R.os) (reverse (get_or n.tables 11 [])) n.current
is_sent n R e = must_sent _ (tags_of R.os) _ n.current R.place (sym (parent_is n R) ∙ e)

good_sent : (g : ℕ) (n : Numbers) (l : Look) (R : Reached n) (c : Change) → l.tag ≡ g → not (among g holders) ≡ true → parent_tag n ≡ 19 → Step g (nothing n) c
    → (LastSend (get_or n.tables 4 []) n.current → LastSend (get_or (after l c n) 4 []) n.current) → Good g n l R c
unfolding Under nothing
good_sent g n l R c e o p S f =
    good g n l R c e (safe_step g (nothing n) c S (none_safe g n)) (leaf_fact n.tables g _ _ o) (λ z. o) (
    subst (λ (x : ℕ). Place (get_or (after l c n) 4 []) (g ∷ tags_of R.os) c.regions x) (sym S.current) (
    subst (λ (x : List Row). Place (get_or (after l c n) 4 []) (g ∷ tags_of R.os) x n.current) (sym S.regions) (
    under (leaf o (under_moved (get_or n.tables 4 []) (get_or (after l c n) 4 []) (tags_of R.os) _ n.current f (is_sent n R p).stack)))))

one_in : (q : ℕ) → among q (q ∷ []) ≡ true
unfolding among
one_in q = rw (eq-eqb q q refl, among)

good_apart : (g q : ℕ) (n : Numbers) (l : Look) (R : Reached n) (c : Change) → among q outer ≡ true → within (q ∷ []) holders ≡ true → l.tag ≡ g → not (among g holders) ≡ true → parent_tag n ≡ q → Step g (nothing n) c → Good g n l R c
unfolding within among
good_apart g q n l R c w v e o p S =
    good_outer g (q ∷ []) n l R c e (subst (λ (x : ℕ). among x (q ∷ []) ≡ true) (sym p) (one_in q)) (and_both (among q outer) true w refl) v (not_regional g o) (safe_step g (nothing n) c S (none_safe g n)) (leaf_fact n.tables g _ _ o)

-- ---- param

param_entries : (n : Numbers) (l : Look) (k o : ℕ) → l.tag ≡ 14 → get_or (after l (adding (shape 0) (0 ≔ k ∷ 1 ≔ o ∷ []) (nothing n)) n) 4 [] ≡ get_or n.tables 4 []
unfolding adding also nothing edited_by shape_of shape_at shapes_in shapes_by_element
param_entries n l k o e =
    ap (λ (x : List Table). get_or x 4 []) (edit_add l (shape 0) 0 (0 ≔ k ∷ 1 ≔ o ∷ []) n.tables (shape_of 14 (shape 0)) (shape_is l 14 (shape 0) e)) ∙ set_other n.tables 7 4 _ (omega arith)

pub start_param_lem : StartOk 14 start_param
unfolding start_param new_parameter Fine parent_allowed allowed_in nesting within among
start_param_lem n l R A =
    fine_parent _ (parent_tag n) _ _ _ A.allowed (λ p.
    fine_unless _ n.current _ (is_sent n R p).some (fine_last_send _ n _ (is_sent n R p).last (
    good_sent 14 n l R (adding (shape 0) (0 ≔ 1 ∷ 1 ≔ last_entry n n.current ∷ []) (nothing n)) A.tag refl p (step_shape 14 0 (0 ≔ 1 ∷ 1 ≔ last_entry n n.current ∷ []) (nothing n)) (
    λ h. subst (λ (x : Table). LastSend x n.current) (sym (param_entries n l 1 (last_entry n n.current) A.tag)) h)))) (λ p.
    fine_last_invoke _ n R _ p (good_apart 14 8 n l R _ refl refl A.tag refl p (step_shape 14 0 (0 ≔ 2 ∷ 1 ≔ last_invoke n (current_state n) ∷ []) (nothing n)))) (λ p.
    fine_donedata _ n R _ p (good_apart 14 10 n l R _ refl refl A.tag refl p (step_shape 14 0 (0 ≔ 3 ∷ 1 ≔ current_state n ∷ []) (nothing n))))

-- ---- content

last_kept : (j : ℕ) (F : Row → Row) (E : Table) (u : ℕ) → Kept 4 F → LastSend E u → LastSend (alter_row j F E) u
unfolding LastSend guarded among row_of
last_kept j F E u K h =
    rw (last_altered 0 u 0 0 j F E (λ r. K.held 0 refl (λ x. x ≡ num r 0) (λ x e z. absurd (false≢true e)) r refl)) (go (last_with 0 u 0 0 E) h)
  where
    go : (k : ℕ) → num (row_of E k) 1 ≡ 5 → num (row_of (alter_row j F E) k) 1 ≡ 5
    go zero e = e
    go (suc i) e = altered_row (λ r. num r 1 ≡ 5) j F E i (λ r p. K.held 1 refl (λ x. x ≡ 5) (λ x y z. absurd (false≢true y)) r p) e

content_last : (n : Numbers) (l : Look) (j : ℕ) → l.tag ≡ 15 → LastSend (get_or n.tables 4 []) n.current → LastSend (get_or (after l (altering (shape 0) j (5 ≔ 1 ∷ []) (nothing n)) n) 4 []) n.current
unfolding altering also nothing edited_by shape_of shape_at shapes_in shapes_by_element safe_texts safe_puts safe_put guarded among
content_last n l j e h =
    let H : Shape = shape_of 15 (shape 0) in
    let F : Row → Row = (λ r. put_all (columns_of 4) (5 ≔ 1 ∷ []) (filled_by l 0 H.texts r)) in
    subst (λ (x : List Table). LastSend (get_or x 4 []) n.current) (sym (edit_alter l (shape 0) j (5 ≔ 1 ∷ []) n.tables H (shape_is l 15 (shape 0) e))) (
    set_view (λ (x : Table). LastSend x n.current) n.tables 4 4 (alter_row j F (get_or n.tables 4 [])) [] (λ q.
    last_kept j F (get_or n.tables 4 []) n.current (kept_row 4 l 0 (columns_of 4) (5 ≔ 1 ∷ []) H.texts refl refl) h) h)

content_safe : (i : ℕ) → (safe_edit 15 (alter (shape 0) i (5 ≔ 1 ∷ [])) ≡ true) × (safe_edit 15 (alter (shape 1) i (3 ≔ 1 ∷ [])) ≡ true) × (safe_edit 15 (alter (shape 2) i (9 ≔ 1 ∷ [])) ≡ true)
unfolding safe_edit safe_shape safe_puts safe_put safe_texts shape_of shape_at shapes_in shapes_by_element among guarded some?
content_safe i = (refl, refl, refl)

good_content : (n : Numbers) (l : Look) (R : Reached n) → Asked n l 15 → parent_tag n ≡ 19 → Fine (Good 15 n l R) (content_of_send n l)
unfolding content_of_send send_content Fine only_nest among
good_content n l R A p =
    fine_if _ (eqb n.current 0) _ _ (nest_leaf 15 refl n l R A) (fine_last_send _ n _ (is_sent n R p).last (
    fine_if _ (has l key.expr || eqb l.kind kind.whole) _ _ (
    good_sent 15 n l R (altering (shape 0) (last_entry n n.current) (5 ≔ 1 ∷ []) (nothing n)) A.tag refl p (
    step_altering 15 (shape 0) (last_entry n n.current) (5 ≔ 1 ∷ []) (nothing n) (content_safe (last_entry n n.current)).0) (content_last n l (last_entry n n.current) A.tag)) (nest_leaf 15 refl n l R A)))

pub start_content_lem : StartOk 15 start_content
unfolding start_content Fine parent_allowed allowed_in nesting within among
start_content_lem n l R A =
    fine_parent _ (parent_tag n) _ _ _ A.allowed (good_content n l R A) (λ p.
    fine_last_invoke _ n R _ p (good_apart 15 8 n l R _ refl refl A.tag refl p (step_altering 15 (shape 1) (last_invoke n (current_state n)) (3 ≔ 1 ∷ []) (nothing n) (content_safe (last_invoke n (current_state n))).1))) (λ p.
    fine_donedata _ n R _ p (good_apart 15 10 n l R _ refl refl A.tag refl p (step_altering 15 (shape 2) (current_state n) (9 ≔ 1 ∷ []) (nothing n) (content_safe (current_state n)).2)))
