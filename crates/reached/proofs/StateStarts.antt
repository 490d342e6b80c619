-- The starts of unknown elements, states, datamodel, initial and data.
use Prim.Native.Nat.{ℕ, zero, suc}
use mathlib.Core.Path.{◌≡◌, refl, sym, ◌∙◌, subst}
use mathlib.Core.Bool.{Bool, true, false, not}
use mathlib.Core.List.{List, [], ◌∷◌}
use lib.ListN.{length, get_or}
use lib.Dec.{eqb}
use native.Mathlib.Omega.{arith}
use Rattle.definition.specs.Elements.{among, names_state, key}
use Rattle.definition.specs.Nesting.{parent_allowed, allowed_in, nesting}
use Rattle.definition.specs.Rows.{Numbers, current_state, parent_tag}
use Rattle.definition.specs.Look.{Look}
use Rattle.definition.specs.Change.{Put, ◌≔◌, numbers, shape, Change, Outcome, refuse, adding, altering, drawn, draw_id, draw_doc, next_id, next_doc, inside, in_state, add_member, add_members, shape_of, nothing, edited_by, has, code_for}
use Rattle.definition.specs.States.{own_state, other_states, initial_transition, own_doc, is_child, child_of, declared, start_state, start_parallel, start_final, in_history, start_history, unless_initial, initial_of, start_initial, value_shape, start_data}
use Rattle.definition.specs.Reader.{only_nest}
use Rattle.definition.proofs.Base.{and_both}
use Rattle.reached.proofs.Tables.{within}
use Rattle.reached.proofs.Edits.{guarded, safe_shape, safe_put, safe_puts, safe_texts, safe_edit, safe_edits, shapes_safe}
use Rattle.reached.proofs.Stack.{holders, outer, regional, idle, Idle, push_leaf}
use Rattle.reached.proofs.Growth.{Fact, HasState}
use Rattle.reached.proofs.Reached.{Reached}
use Rattle.reached.proofs.Steps.{Step, stay, then, safe_step, step_adding, step_shape, step_altering, step_drawn, step_member, step_members, Fine, fine_unless, Asked, Good, StartOk, good, leaf_fact, state_fact, in_outer, in_state_lem, in_rooted}

-- ---- elements that only nest

pub nest_leaf : (g : ℕ) → not (among g holders) ≡ true → StartOk g only_nest
unfolding only_nest Fine nothing edited_by safe_edits
nest_leaf g e n l R A = good g n l R (nothing n) A.tag refl (leaf_fact n.tables g _ _ e) (λ z. e) (push_leaf _ g _ _ _ e R.place)

-- ---- tests in handlers

pub fine_if : (P : Change → Type 0) (b : Bool) (o p : Outcome) → Fine P o → Fine P p → Fine P (elim b [ true ↦ o | false ↦ p ])
fine_if P true o p f g = f
fine_if P false o p f g = g

pub fine_initial : (P : Change → Type 0) (n : Numbers) (o : Outcome) → Fine P o → Fine P (unless_initial n o)
unfolding unless_initial Fine
fine_initial P n o f = fine_if P (eqb (initial_of n (current_state n)) 0) o (refuse 13) f (omega arith)

-- ---- elements in states, outside regions

-- The element holds a state and stands where no region is open.
pub good_outer : (g : ℕ) (ps : List ℕ) (n : Numbers) (l : Look) (R : Reached n) (c : Change) → l.tag ≡ g → among (parent_tag n) ps ≡ true → within ps outer ≡ true → within ps holders ≡ true
    → not (among g regional) ≡ true → safe_edits g c.edits ≡ true → Fact n.tables g c.state c.transition → Good g n l R c
unfolding Idle
good_outer g ps n l R c e m w v o s f = good g n l R c e s f (λ z. absurd (in_rooted n R ps m v z)) (idle (o, in_outer n R ps m w))

pub nest_datamodel : StartOk 4 only_nest
unfolding only_nest Fine nothing safe_edits parent_allowed allowed_in nesting within among
nest_datamodel n l R A =
    good_outer 4 (1 ∷ 2 ∷ 3 ∷ []) n l R (nothing n) A.tag A.allowed refl refl refl refl (state_fact n.tables 4 _ _ refl (in_state_lem n R (1 ∷ 2 ∷ 3 ∷ []) A.allowed refl))

pub start_initial_lem : StartOk 7 start_initial
unfolding start_initial Fine nothing safe_edits parent_allowed allowed_in nesting within among
start_initial_lem n l R A =
    let h : HasState n.tables (current_state n) = in_state_lem n R (2 ∷ 3 ∷ []) A.allowed refl in
    fine_unless _ (current_state n) _ h.0 (fine_initial _ n _ (good_outer 7 (2 ∷ 3 ∷ []) n l R (nothing n) A.tag A.allowed refl refl refl refl (state_fact n.tables 7 _ _ refl h)))

-- ---- a state declared

step_initial : (g : ℕ) (l : Look) (c : Change) → Step g c (initial_transition l c)
unfolding initial_transition draw_id draw_doc safe_shape shape_of among safe_texts safe_edit safe_puts safe_put guarded
step_initial g l c = go (has l key.initial)
  where
    c₁ : Change
    c₁ = drawn 0 1 (drawn 1 0 c)

    ps : List Put
    ps = 0 ≔ next_id c ∷ 1 ≔ next_doc c ∷ 2 ≔ own_state l ∷ 3 ≔ 1 ∷ []

    c₂ : Change
    c₂ = adding (numbers 2) ps c₁

    c₃ : Change
    c₃ = add_members 6 (next_id c) (other_states l.refs) c₂

    c₄ : Change
    c₄ = altering (numbers 1) (own_state l) (3 ≔ next_id c ∷ []) c₃

    all : Step g c c₄
    all = then g c c₁ c₄ (then g c (drawn 1 0 c) c₁ (step_drawn g 1 0 c) (step_drawn g 0 1 (drawn 1 0 c))) (
        then g c₁ c₂ c₄ (step_adding g (numbers 2) ps c₁ refl) (then g c₂ c₃ c₄ (step_members g 6 (next_id c) (other_states l.refs) c₂) (step_altering g (numbers 1) (own_state l) (3 ≔ next_id c ∷ []) c₃ refl)))

    go : (b : Bool) → Step g c (elim b [ false ↦ c | true ↦ c₄ ])
    go true = all
    go false = stay g c

step_doc : (g : ℕ) (l : Look) (c : Change) → Step g c (own_doc l c)
unfolding own_doc draw_doc safe_shape shape_of among safe_texts safe_edit safe_puts safe_put guarded
step_doc g l c = then g c (drawn 0 1 c) _ (step_drawn g 0 1 c) (step_altering g (numbers 1) (own_state l) (2 ≔ next_doc c ∷ []) (drawn 0 1 c) refl)

step_child : (g : ℕ) (n : Numbers) (p : ℕ) (l : Look) (c : Change) → Step g c (child_of n p l c)
unfolding child_of safe_shape shape_of among safe_texts safe_edit safe_puts safe_put guarded
step_child g n zero l c = stay g c
step_child g n (suc p) l c = go (is_child n (suc p) (own_state l))
  where
    c₁ : Change
    c₁ = altering (numbers 1) (own_state l) (4 ≔ suc p ∷ []) c

    s₁ : Step g c c₁
    s₁ = step_altering g (numbers 1) (own_state l) (4 ≔ suc p ∷ []) c refl

    go : (b : Bool) → Step g c (elim b [ true ↦ c₁ | false ↦ add_member 1 (suc p) (own_state l) c₁ ])
    go true = s₁
    go false = then g c c₁ _ s₁ (step_member g 1 (suc p) (own_state l) c₁)

pub declared_safe : (g : ℕ) (n : Numbers) (p : ℕ) (l : Look) → safe_edits g (declared n p l).edits ≡ true
unfolding declared in_state inside
declared_safe g n p l =
    let c₁ : Change = initial_transition l (nothing n) in
    let c₂ : Change = own_doc l c₁ in
    safe_step g (nothing n) (child_of n p l c₂) (then g (nothing n) c₂ (child_of n p l c₂) (then g (nothing n) c₁ c₂ (step_initial g l (nothing n)) (step_doc g l c₁)) (step_child g n p l c₂)) none_safe
  where
    none_safe : safe_edits g (nothing n).edits ≡ true
    none_safe = unfold safe_edits nothing in refl

declared_state : (n : Numbers) (p : ℕ) (l : Look) → (declared n p l).state ≡ own_state l
unfolding declared in_state inside
declared_state n p l = refl

-- What follows the declaration in its own steps.
pub named : (g : ℕ) (ps : List ℕ) (n : Numbers) (p : ℕ) (l : Look) (R : Reached n) (A : Asked n l g) (c : Change) → Step g (declared n p l) c
    → among (parent_tag n) ps ≡ true → within ps outer ≡ true → within ps holders ≡ true
    → not (among g regional) ≡ true → not (among g (8 ∷ 10 ∷ 11 ∷ 16 ∷ [])) ≡ true → names_state g ≡ true → Good g n l R c
named g ps n p l R A c S m w v o f e =
    good_outer g ps n l R c A.tag m w v o (safe_step g (declared n p l) c S (declared_safe g n p l)) (
    subst (λ (x : ℕ). Fact n.tables g x c.transition) (sym (S.state ∙ declared_state n p l)) (state_fact n.tables g (own_state l) c.transition f (A.own e)))

pub start_state_lem : StartOk 2 start_state
unfolding start_state Fine parent_allowed allowed_in nesting within among names_state
start_state_lem n l R A = named 2 (1 ∷ 2 ∷ 3 ∷ []) n (current_state n) l R A _ (stay 2 _) A.allowed refl refl refl refl refl

pub start_parallel_lem : StartOk 3 start_parallel
unfolding start_parallel Fine parent_allowed allowed_in nesting within among names_state safe_shape shape_of safe_texts safe_edit safe_puts safe_put guarded
start_parallel_lem n l R A =
    named 3 (1 ∷ 2 ∷ 3 ∷ []) n (current_state n) l R A _ (step_altering 3 (numbers 1) (own_state l) (5 ≔ 1 ∷ []) (declared n (current_state n) l) refl) A.allowed refl refl refl refl refl

pub start_final_lem : StartOk 5 start_final
unfolding start_final Fine parent_allowed allowed_in nesting within among names_state safe_shape shape_of safe_texts safe_edit safe_puts safe_put guarded
start_final_lem n l R A =
    named 5 (1 ∷ 2 ∷ []) n (current_state n) l R A _ (step_altering 5 (numbers 1) (own_state l) (6 ≔ 1 ∷ []) (declared n (current_state n) l) refl) A.allowed refl refl refl refl refl

step_history : (g p : ℕ) (l : Look) (c : Change) → Step g c (in_history p l c)
unfolding in_history
step_history g zero l c = stay g c
step_history g (suc p) l c = step_member g 2 (suc p) (own_state l) c

pub start_history_lem : StartOk 6 start_history
unfolding start_history Fine parent_allowed allowed_in nesting within among names_state safe_shape shape_of safe_texts safe_edit safe_puts safe_put guarded
start_history_lem n l R A =
    let d : Change = declared n 0 l in
    let h : Change = in_history (current_state n) l d in
    named 6 (2 ∷ 3 ∷ []) n 0 l R A _ (then 6 d h _ (step_history 6 (current_state n) l d) (
    step_altering 6 (numbers 1) (own_state l) (4 ≔ current_state n ∷ 7 ≔ code_for l key.type 1 ∷ []) h refl)) A.allowed refl refl refl refl refl

-- ---- data

pub start_data_lem : StartOk 9 start_data
unfolding start_data Fine nothing safe_edits parent_allowed allowed_in nesting within among Idle
start_data_lem n l R A =
    let h : HasState n.tables (current_state n) = in_state_lem n R (4 ∷ []) A.allowed refl in
    fine_unless _ (current_state n) _ h.0 (fine_if _ (eqb l.found (suc (length (get_or n.tables 6 [])))) _ _ (
    good_leaf (adding (shape (value_shape l)) (0 ≔ current_state n ∷ []) (nothing n)) (step_shape 9 (value_shape l) (0 ≔ current_state n ∷ []) (nothing n))) (
    good_leaf (altering (shape (value_shape l)) l.found [] (nothing n)) (
    step_altering 9 (shape (value_shape l)) l.found [] (nothing n) (unfold safe_edit safe_puts shape_of in and_both _ true (shapes_safe 9 (value_shape l)) refl))))
  where
    good_leaf : (c : Change) → Step 9 (nothing n) c → Good 9 n l R c
    good_leaf c S = good_outer 9 (4 ∷ []) n l R c A.tag A.allowed refl refl refl (safe_step 9 (nothing n) c S refl) (leaf_fact n.tables 9 _ _ refl)
