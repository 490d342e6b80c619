-- A handler refuses with a number of at most 14: 2, 13 or 14.
use Prim.Native.Nat.{ℕ, zero, suc}
use mathlib.Core.Path.{◌≡◌, refl}
use mathlib.Core.Bool.{Bool, true, false, ◌||◌}
use mathlib.Core.Option.{Option, none, some}
use mathlib.Core.List.{List, [], ◌∷◌}
use lib.ListN.{length}
use lib.Dec.{eqb, leb}
use Rattle.definition.specs.Elements.{tag, key}
use Rattle.definition.specs.Rows.{table, entry_kind, entry, state, num, root, chart, transition, invoke, Numbers, table_of, current_state, current_transition, parent_tag, row_of}
use Rattle.definition.specs.Event.{kind}
use Rattle.definition.specs.Look.{Look}
use Rattle.definition.specs.Change.{Change, Outcome, done, refuse, Closed, on_closed, closing, closed_by, unless_zero, has, nothing, ◌▷◌, fresh_region, altering, numbers, add_member, ◌≔◌}
use Rattle.definition.specs.States.{start_scxml, start_state, start_parallel, start_final, start_history, start_initial, start_donedata, start_data, end_state, end_scxml, default_initial, unless_initial, initial_of}
use Rattle.definition.specs.Actions.{start_invoke, start_region, start_else, start_else_if, start_param, start_content, start_transition, start_send, entry_of, start_log, start_assign, block, start_script, root_script, end_transition, end_listed, end_finalize, end_block, ending, Walk, meets, nowhere, no_if, walked, branch, walk_from, else_if_branch, by_parent, of_last_send, of_last_invoke, of_donedata, new_parameter, content_of_send, send_content, last_invoke, last_entry, new_entry, place_of_number}
use Rattle.definition.specs.Reader.{only_nest, starts, start_of, Ends, ends, end_in, end_of}
use Rattle.definition.proofs.Base.{at_place}

pub data Low : Outcome → Type 0 where
  well : {c : Change} → Low (done c)
  other : {k : ℕ} → leb k 14 ≡ true → Low (refuse k)

either : (b : Bool) (x y : Outcome) → Low x → Low y → Low (elim b as (λ z. Outcome) [ true ↦ x | false ↦ y ])
either true x y p q = p
either false x y p q = q

unless : (i : ℕ) (o : Outcome) → Low o → Low (unless_zero i o)
unfolding unless_zero
unless zero o p = other refl
unless (suc i) o p = p

on_closed_lem : (x : Option Closed) (c : Change) (next : Change → Outcome) → ((d : Change) → Low (next d)) → Low (on_closed x c next)
unfolding on_closed
on_closed_lem none c next p = other refl
on_closed_lem (some x) c next p = p _

on_closing : (g : ℕ) (c : Change) (next : Change → Outcome) → ((d : Change) → Low (next d)) → Low (closing g c next)
unfolding closing
on_closing g c next p = on_closed_lem (closed_by g c.regions c.current) c next p

-- ---- states

unless_initial_lem : (n : Numbers) (o : Outcome) → Low o → Low (unless_initial n o)
unfolding unless_initial
unless_initial_lem n o p = either (eqb (initial_of n (current_state n)) 0) o _ p (other refl)

low_default : (n : Numbers) (s : ℕ) → Low (default_initial n s)
unfolding default_initial
low_default n s = unless s _ (either (eqb (initial_of n s) 0) _ _ well well)

low_initial : (n : Numbers) (l : Look) → Low (start_initial n l)
unfolding start_initial
low_initial n l = unless (current_state n) _ (unless_initial_lem n _ well)

low_donedata : (n : Numbers) (l : Look) → Low (start_donedata n l)
unfolding start_donedata
low_donedata n l = unless (current_state n) _ well

low_data : (n : Numbers) (l : Look) → Low (start_data n l)
unfolding start_data
low_data n l = unless (current_state n) _ (either (eqb l.found (suc (length (table_of n table.datums)))) _ _ well well)

-- ---- actions

low_transition : (n : Numbers) (l : Look) → Low (start_transition n l)
unfolding start_transition
low_transition n l = unless (current_state n) _ (either (eqb (parent_tag n) tag.initial) _ _ (unless_initial_lem n _ well) well)

low_ending : (g : ℕ) (n : Numbers) (next : ℕ → Change → Outcome) → ((d : Change) → Low (next n.current d)) → Low (ending g n next)
unfolding ending
low_ending g n next p = on_closing g (nothing n) (next n.current) p

low_entry : (h k : ℕ) (n : Numbers) (l : Look) → Low (entry_of h k n l)
unfolding entry_of
low_entry h k n l = unless n.current _ well

low_log : (n : Numbers) (l : Look) → Low (start_log n l)
unfolding start_log
low_log n l = either (has l key.expr) _ _ (low_entry 0 entry_kind.log n l) well

low_assign : (n : Numbers) (l : Look) → Low (start_assign n l)
unfolding start_assign
low_assign n l = either (eqb l.kind kind.whole) _ _ (low_entry 1 entry_kind.assign n l) (low_entry 0 entry_kind.assign n l)

low_root : (n : Numbers) (l : Look) → Low (root_script n l)
unfolding root_script
low_root n l =
    let c : Change = nothing n ▷ fresh_region ▷ new_entry 0 entry_kind.script [] in
    on_closing tag.script c (λ d. done (d ▷ altering (numbers table.chart) 1 (chart.script ≔ c.current ∷ []))) (λ d. well)

low_script : (n : Numbers) (l : Look) → Low (start_script n l)
unfolding start_script
low_script n l = either (eqb (parent_tag n) tag.scxml) _ _ (low_root n l) (low_entry 0 entry_kind.script n l)

low_send : (n : Numbers) (l : Look) → Low (start_send n l)
unfolding start_send
low_send n l = unless (current_state n) _ (unless n.current _ well)

low_block : (g k : ℕ) (n : Numbers) (l : Look) → Low (block g k n l)
unfolding block
low_block g k n l = unless n.current _ well

low_walked : (w : Walk) (r : ℕ) (c : Change) → Low (walked w r c)
unfolding walked
low_walked (meets e) r c = well
low_walked nowhere r c = well
low_walked no_if r c = other refl

low_branch : (n : Numbers) (c d : Change) → Low (branch n c d)
unfolding branch
low_branch n c d = low_walked (walk_from n c.current) _ d

low_else : (n : Numbers) (l : Look) → Low (start_else n l)
unfolding start_else
low_else n l = on_closing tag.if (nothing n) _ (λ c. low_branch n c _)

low_elseif : (n : Numbers) (l : Look) → Low (start_else_if n l)
unfolding start_else_if
low_elseif n l = on_closing tag.if (nothing n) _ (λ c. low_branch n c (else_if_branch c))

low_invoke : (n : Numbers) (l : Look) → Low (start_invoke n l)
unfolding start_invoke
low_invoke n l = unless (current_state n) _ well

by_parent_lem : (p : ℕ) (x y z : Outcome) → Low x → Low y → Low z → Low (by_parent p x y z)
unfolding by_parent
by_parent_lem p x y z a b c = either (eqb p tag.send) x _ a (either (eqb p tag.invoke) y z b c)

last_send : (n : Numbers) (o : Outcome) → Low o → Low (of_last_send n o)
unfolding of_last_send
last_send n o p = either (eqb (num (row_of (table_of n table.entries) (last_entry n n.current)) entry.kind) entry_kind.send) o _ p (other refl)

last_invoke_lem : (n : Numbers) (o : Outcome) → Low o → Low (of_last_invoke n o)
unfolding of_last_invoke
last_invoke_lem n o p = unless (current_state n) _ (unless (last_invoke n (current_state n)) o p)

of_donedata_lem : (n : Numbers) (o : Outcome) → Low o → Low (of_donedata n o)
unfolding of_donedata
of_donedata_lem n o p = unless (current_state n) _ (unless (num (row_of (table_of n table.states) (current_state n)) state.donedata) o p)

low_param : (n : Numbers) (l : Look) → Low (start_param n l)
unfolding start_param new_parameter
low_param n l = by_parent_lem (parent_tag n) _ _ _ (unless n.current _ (last_send n _ well)) (last_invoke_lem n _ well) (of_donedata_lem n _ well)

low_send_content : (n : Numbers) (l : Look) → Low (content_of_send n l)
unfolding content_of_send send_content
low_send_content n l = either (eqb n.current 0) _ _ well (last_send n _ (either (has l key.expr || eqb l.kind kind.whole) _ _ well well))

low_content : (n : Numbers) (l : Look) → Low (start_content n l)
unfolding start_content
low_content n l = by_parent_lem (parent_tag n) _ _ _ (low_send_content n l) (last_invoke_lem n _ well) (of_donedata_lem n _ well)

-- ---- all

pub low_start : (g : ℕ) (n : Numbers) (l : Look) → Low (start_of g n l)
unfolding start_of starts only_nest start_scxml start_state start_parallel start_final start_history start_region
low_start g n l =
    at_place (λ i h. Low (h n l)) only_nest starts
    (well, (well, (well, (well, (well, (well, (well, (low_initial n l, (low_invoke n l, (low_data n l, (low_donedata n l, (well, (low_else n l, (low_elseif n l, (low_param n l, (low_content n l, (low_transition n l, (well, (well, (low_send n l, (low_entry 0 entry_kind.raise n l, (low_entry 0 entry_kind.cancel n l, (low_log n l, (low_assign n l, (low_block tag.if entry_kind.if n l, (low_block tag.foreach entry_kind.foreach n l, (low_script n l, (λ (i : ℕ). well)))))))))))))))))))))))))))) g

low_end_transition : (n : Numbers) → Low (end_transition n)
unfolding end_transition
low_end_transition n =
    low_ending tag.transition n (λ r c.
    unless_zero (current_transition n) (
    done (
    c
    ▷ altering (numbers table.transitions) (place_of_number (table_of n table.transitions) (current_transition n)) (transition.content ≔ r ∷ []))))
    (λ c. unless (current_transition n) _ well)

low_listed : (g k : ℕ) (n : Numbers) → Low (end_listed g k n)
unfolding end_listed
low_listed g k n = low_ending g n (λ r c. unless_zero (current_state n) (done (c ▷ add_member k (current_state n) r))) (λ c. unless (current_state n) _ well)

low_finalize : (n : Numbers) → Low (end_finalize n)
unfolding end_finalize
low_finalize n =
    low_ending tag.finalize n (λ r c.
    unless_zero (current_state n) (
    unless_zero (last_invoke n (current_state n)) (
    done (c ▷ altering (numbers table.invokes) (last_invoke n (current_state n)) (invoke.finalize ≔ r ∷ [])))))
    (λ c. unless (current_state n) _ (unless (last_invoke n (current_state n)) _ well))

low_end_block : (g : ℕ) (n : Numbers) → Low (end_block g n)
unfolding end_block
low_end_block g n = low_ending g n (λ r c. done c) (λ c. well)

AllLow : Numbers → List Ends → Type 0
AllLow n [] = Unit {0}
AllLow n (e ∷ es) = Low (e.handler n) × AllLow n es

low_end_in : (n : Numbers) (es : List Ends) → AllLow n es → (g : ℕ) → Low (end_in es g n)
unfolding end_in AllLow
low_end_in n [] a g = well
low_end_in n (e ∷ es) a g = either (eqb e.element g) (e.handler n) (end_in es g n) a.0 (low_end_in n es a.1 g)

pub low_end : (g : ℕ) (n : Numbers) → Low (end_of g n)
unfolding end_of ends AllLow end_scxml end_state
low_end g n =
    low_end_in n ends (low_default n (root n), (low_default n (current_state n), (low_finalize n, (low_end_transition n, (low_listed _ _ n, (low_listed _ _ n, (low_end_block _ n, (low_end_block _ n, tt)))))))) g
