-- The starts of elements with a region, of plain entries, and of else and elseif.
use Prim.Native.Nat.{ℕ, suc}
use mathlib.Core.Path.{◌≡◌, refl, sym, ap, subst}
use mathlib.Core.Bool.{Bool, true, false, not, false≢true}
use mathlib.Core.List.{List, [], ◌∷◌, reverse}
use lib.ListN.{length, get_or}
use lib.Dec.{eqb}
use borrow.Author.Tests.{eqb-true}
use native.Mathlib.Omega.{arith}
use Rattle.definition.specs.Elements.{among, key}
use Rattle.definition.specs.Event.{kind}
use Rattle.definition.specs.Nesting.{parent_allowed, allowed_in, nesting}
use Rattle.definition.specs.Rows.{Row, Numbers, current_state, parent_tag}
use Rattle.definition.specs.Shapes.{shape_at, shapes_in, shapes_by_element}
use Rattle.definition.specs.Look.{Look}
use Rattle.definition.specs.Change.{Put, ◌≔◌, numbers, shape, add, Change, also, adding, altering, drawn, draw_id, draw_doc, next_id, next_doc, inside, in_transition, add_members, add_words, open_region_row, region_over, fresh_region, nested_region, closed_by, on_closed, closing, shape_of, nothing, has, code_for, words_of}
use Rattle.definition.specs.Actions.{type_of, join_state, new_transition, start_transition, start_region, new_entry, entry_of, start_log, start_assign, root_script, start_script, block}
use Rattle.definition.specs.Reader.{only_nest}
use Rattle.definition.proofs.Base.{and_both}
use Rattle.reached.proofs.Tables.{within}
use Rattle.reached.proofs.Edits.{guarded, safe_shape, safe_put, safe_puts, safe_texts, safe_edit, safe_edits, shapes_safe}
use Rattle.reached.proofs.Stack as St
use Rattle.reached.proofs.Stack.{holders, starters, blocks, inner, outer, under, starter, Live, here, leaf, Under, on_live, nonzero, live_current}
use Rattle.reached.proofs.Growth.{Fact, HasState}
use Rattle.reached.proofs.Reached.{Reached, tags_of, inner_fact}
use Rattle.reached.proofs.Steps.{Step, then, safe_step, step_shape, step_altering, step_member, step_members, step_words, Fine, fine_unless, Asked, Good, StartOk, good, leaf_fact, state_fact, in_outer, in_inner, in_state_lem, in_rooted}
use Rattle.reached.proofs.StateStarts.{nest_leaf, fine_if, fine_initial, good_outer}

pub none_safe : (g : ℕ) (n : Numbers) → safe_edits g (nothing n).edits ≡ true
unfolding safe_edits nothing
none_safe g n = refl

-- ---- a region begins

pub good_starter : (g : ℕ) (ps : List ℕ) (n : Numbers) (l : Look) (R : Reached n) (c : Change) → l.tag ≡ g → among (parent_tag n) ps ≡ true → within ps outer ≡ true → within ps holders ≡ true
    → among g starters ≡ true → safe_edits g c.edits ≡ true → Fact n.tables g c.state c.transition → c.regions ≡ [] → ¬ (c.current ≡ 0) → Good g n l R c
unfolding Under Live
good_starter g ps n l R c e m w v o s f r z = good g n l R c e s f (λ q. absurd (in_rooted n R ps m v q)) (under (here (z, starter o r (in_outer n R ps m w))))

fresh : (g : ℕ) (ps : List ℕ) → within ps outer ≡ true → within ps holders ≡ true → among g starters ≡ true → (n : Numbers) (l : Look) (R : Reached n) → l.tag ≡ g → among (parent_tag n) ps ≡ true
    → Fact n.tables g (current_state n) (nothing n).transition → Fine (Good g n l R) (start_region n l)
unfolding start_region Fine fresh_region region_over nothing also safe_edits safe_edit safe_shape shape_of safe_texts among
fresh g ps w v o n l R e m f = good_starter g ps n l R (fresh_region (nothing n)) e m w v o refl f refl (omega arith)

pub start_onentry : StartOk 17 start_region
unfolding parent_allowed allowed_in nesting within among
start_onentry n l R A = fresh 17 (2 ∷ 3 ∷ 5 ∷ []) refl refl refl n l R A.tag A.allowed (state_fact n.tables 17 _ _ refl (in_state_lem n R (2 ∷ 3 ∷ 5 ∷ []) A.allowed refl))

pub start_onexit : StartOk 18 start_region
unfolding parent_allowed allowed_in nesting within among
start_onexit n l R A = fresh 18 (2 ∷ 3 ∷ 5 ∷ []) refl refl refl n l R A.tag A.allowed (state_fact n.tables 18 _ _ refl (in_state_lem n R (2 ∷ 3 ∷ 5 ∷ []) A.allowed refl))

pub only_one : (p q : ℕ) → among p (q ∷ []) ≡ true → p ≡ q
unfolding among
only_one p q m = go (eqb p q) refl
  where
    go : (b : Bool) → eqb p q ≡ b → p ≡ q
    go true e = eqb-true p q e
    go false e = absurd (false≢true (rw (e, among) at m))

pub start_finalize : StartOk 11 start_region
unfolding parent_allowed allowed_in nesting within among
start_finalize n l R A =
    let h : HasState n.tables (current_state n) = in_state_lem n R (8 ∷ []) A.allowed refl in
    let p : parent_tag n ≡ 8 = only_one (parent_tag n) 8 A.allowed in
    fresh 11 (8 ∷ []) refl refl refl n l R A.tag A.allowed (record {
      known = λ m. h;
      going = λ q. absurd (omega arith);
      invoked = λ m. (inner_fact n R).invoked (rw p refl);
      done = λ q. absurd (omega arith);
    })

-- ---- transition

step_join : (g : ℕ) (b : Bool) (s t : ℕ) (c : Change) → Step g c (join_state b s t c)
unfolding join_state safe_shape shape_of among safe_texts safe_edit safe_puts safe_put guarded
step_join g true s t c = step_altering g (numbers 1) s (3 ≔ t ∷ []) c refl
step_join g false s t c = step_member g 5 s t c

good_transition : (b : Bool) (n : Numbers) (l : Look) (R : Reached n) → Asked n l 16 → Good 16 n l R (new_transition n b l (nothing n))
unfolding new_transition parent_allowed allowed_in nesting within among draw_id draw_doc drawn fresh_region region_over nothing also safe_edits safe_edit safe_shape shape_of safe_texts in_transition inside next_id
good_transition b n l R A =
    let k : ℕ = suc n.ids in
    let c₀ : Change = fresh_region (draw_doc (draw_id (nothing n))) in
    let ps : List Put = 0 ≔ k ∷ 1 ≔ next_doc (nothing n) ∷ 2 ≔ current_state n ∷ 3 ≔ type_of (code_for l key.type 0) ∷ 4 ≔ code_for l key.event 0 ∷ [] in
    let c₁ : Change = adding (shape 0) ps c₀ in
    let c₂ : Change = add_words (shape 1) 7 k (length (words_of l key.event)) c₁ in
    let c₃ : Change = add_members 6 k l.refs c₂ in
    let c₄ : Change = join_state b (current_state n) k c₃ in
    let S : Step 16 c₀ c₄ = then 16 c₀ c₁ c₄ (step_shape 16 0 ps c₀) (then 16 c₁ c₂ c₄ (step_words 16 1 7 k (length (words_of l key.event)) c₁) (
    then 16 c₂ c₃ c₄ (step_members 16 6 k l.refs c₂) (step_join 16 b (current_state n) k c₃))) in
    let h : HasState n.tables (current_state n) = in_state_lem n R (6 ∷ 7 ∷ 2 ∷ 3 ∷ []) A.allowed refl in
    good_starter 16 (6 ∷ 7 ∷ 2 ∷ 3 ∷ []) n l R (new_transition n b l (nothing n)) A.tag A.allowed refl refl refl (safe_step 16 c₀ c₄ S refl) (
    subst (λ (x : ℕ). Fact n.tables 16 x k) (sym S.state) (record {
      known = λ m. h;
      going = λ q. omega arith;
      invoked = λ m. absurd (false≢true m);
      done = λ q. absurd (omega arith);
    })) S.regions (subst (λ (x : ℕ). ¬ (x ≡ 0)) (sym S.current) (omega arith))

pub start_transition_lem : StartOk 16 start_transition
unfolding start_transition Fine parent_allowed allowed_in nesting within among
start_transition_lem n l R A =
    let h : HasState n.tables (current_state n) = in_state_lem n R (6 ∷ 7 ∷ 2 ∷ 3 ∷ []) A.allowed refl in
    fine_unless _ (current_state n) _ h.0 (fine_if _ (eqb (parent_tag n) 7) _ _ (fine_initial _ n _ (good_transition true n l R A)) (good_transition false n l R A))

-- ---- if and foreach

block_safe : (g : ℕ) (ps qs : List Put) → safe_edits g (add (shape 0) 0 ps ∷ add (numbers 3) 0 qs ∷ []) ≡ true
unfolding safe_edits safe_edit safe_shape shape_of safe_texts among
block_safe g ps qs = and_both (safe_shape (shape_at g 0)) true (shapes_safe g 0) refl

good_block : (g k : ℕ) (ps : List ℕ) → within ps inner ≡ true → within ps holders ≡ true → among g blocks ≡ true → not (among g (8 ∷ 10 ∷ 11 ∷ 16 ∷ [])) ≡ true → (n : Numbers) (l : Look) (R : Reached n) → l.tag ≡ g
    → among (parent_tag n) ps ≡ true → Fine (Good g n l R) (block g k n l)
unfolding block Fine Under Live nothing nested_region region_over new_entry adding also next_id
good_block g k ps w v o f n l R e m =
    let L : Live (tags_of R.os) (reverse (get_or n.tables 11 [])) n.current = in_inner n R ps m w in
    let z : ¬ (n.current ≡ 0) = live_current (tags_of R.os) _ n.current L in
    let i : (i : ℕ) × (n.current ≡ suc i) = nonzero n.current z in
    fine_unless _ n.current _ z (good g n l R (nested_region g (new_entry 0 k (3 ≔ suc n.ids ∷ []) (nothing n))) e (block_safe g _ _) (
    state_fact n.tables g _ _ f (in_state_lem n R ps m v)) (λ q. absurd (in_rooted n R ps m v q)) (
    under (here (
      omega arith,
      St.block (reverse (get_or n.tables 11 [])) i.0 o (ap {B = List Row} (λ x. open_region_row x g ∷ reverse (get_or n.tables 11 [])) i.1) (
          subst (λ (x : ℕ). Live (tags_of R.os) (reverse (get_or n.tables 11 [])) x) i.1 L),
    ))))

pub start_if : StartOk 24 (block 24 1)
unfolding parent_allowed allowed_in nesting within among
start_if n l R A = good_block 24 1 (17 ∷ 18 ∷ 16 ∷ 25 ∷ 24 ∷ 11 ∷ []) refl refl refl refl n l R A.tag A.allowed

pub start_foreach : StartOk 25 (block 25 4)
unfolding parent_allowed allowed_in nesting within among
start_foreach n l R A = good_block 25 4 (17 ∷ 18 ∷ 16 ∷ 25 ∷ 24 ∷ 11 ∷ []) refl refl refl refl n l R A.tag A.allowed

-- ---- plain entries

pub good_entry : (g h k : ℕ) (ps : List ℕ) → within ps inner ≡ true → not (among g holders) ≡ true → (n : Numbers) (l : Look) (R : Reached n) → l.tag ≡ g → among (parent_tag n) ps ≡ true
    → Fine (Good g n l R) (entry_of h k n l)
unfolding entry_of Fine new_entry Under
good_entry g h k ps w o n l R e m =
    let L : Live (tags_of R.os) (reverse (get_or n.tables 11 [])) n.current = in_inner n R ps m w in
    let c : Change = new_entry h k [] (nothing n) in
    let S : Step g (nothing n) c = step_shape g h (0 ≔ n.current ∷ 1 ≔ k ∷ []) (nothing n) in
    fine_unless _ n.current _ (live_current (tags_of R.os) _ n.current L) (
    good g n l R c e (safe_step g (nothing n) c S (none_safe g n)) (leaf_fact n.tables g _ _ o) (λ z. o) (under (leaf o (on_live _ (tags_of R.os) _ _ L))))

pub start_raise : StartOk 20 (entry_of 0 6)
unfolding parent_allowed allowed_in nesting within among
start_raise n l R A = good_entry 20 0 6 (16 ∷ 18 ∷ 17 ∷ 24 ∷ 25 ∷ []) refl refl n l R A.tag A.allowed

pub start_cancel : StartOk 21 (entry_of 0 7)
unfolding parent_allowed allowed_in nesting within among
start_cancel n l R A = good_entry 21 0 7 (16 ∷ 18 ∷ 17 ∷ 24 ∷ 25 ∷ []) refl refl n l R A.tag A.allowed

pub start_log_lem : StartOk 22 start_log
unfolding start_log parent_allowed allowed_in nesting within among only_nest
start_log_lem n l R A = fine_if _ (has l key.expr) _ _ (good_entry 22 0 3 (16 ∷ 18 ∷ 17 ∷ 24 ∷ 25 ∷ 11 ∷ []) refl refl n l R A.tag A.allowed) (nest_leaf 22 refl n l R A)

pub start_assign_lem : StartOk 23 start_assign
unfolding start_assign parent_allowed allowed_in nesting within among
start_assign_lem n l R A =
    fine_if _ (eqb l.kind kind.whole) _ _ (good_entry 23 1 8 (16 ∷ 18 ∷ 17 ∷ 24 ∷ 25 ∷ 11 ∷ []) refl refl n l R A.tag A.allowed) (
    good_entry 23 0 8 (16 ∷ 18 ∷ 17 ∷ 24 ∷ 25 ∷ 11 ∷ []) refl refl n l R A.tag A.allowed)

-- ---- script

good_root_script : (n : Numbers) (l : Look) (R : Reached n) → l.tag ≡ 26 → parent_tag n ≡ 1 → Fine (Good 26 n l R) (root_script n l)
unfolding root_script Fine closing on_closed closed_by fresh_region region_over new_entry adding altering also nothing within among safe_edits safe_edit safe_shape safe_puts safe_put safe_texts guarded shape_of shape_at shapes_in shapes_by_element
good_root_script n l R e p = good_outer 26 (1 ∷ []) n l R _ e (rw p refl) refl refl refl refl (leaf_fact n.tables 26 _ _ refl)

pub among_next : (p q : ℕ) (qs : List ℕ) → eqb p q ≡ false → among p (q ∷ qs) ≡ true → among p qs ≡ true
unfolding among
among_next p q qs e m = rw (e, among) at m

pub start_script_lem : StartOk 26 start_script
unfolding start_script parent_allowed allowed_in nesting within among
start_script_lem n l R A = go (eqb (parent_tag n) 1) refl
  where
    go : (b : Bool) → eqb (parent_tag n) 1 ≡ b → Fine (Good 26 n l R) (elim b [ true ↦ root_script n l | false ↦ entry_of 0 2 n l ])
    go true e = good_root_script n l R A.tag (eqb-true (parent_tag n) 1 e)
    go false e = good_entry 26 0 2 (16 ∷ 18 ∷ 17 ∷ 24 ∷ 25 ∷ 11 ∷ []) refl refl n l R A.tag (among_next (parent_tag n) 1 (16 ∷ 18 ∷ 17 ∷ 24 ∷ 25 ∷ 11 ∷ []) e A.allowed)
