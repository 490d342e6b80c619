-- state, parallel, final, history, scxml.
use Prim.Native.Nat.{ℕ, zero, suc}
use mathlib.Core.Path.{◌≡◌, refl, ap, ◌∙◌}
use mathlib.Core.Bool.{Bool, true, false}
use mathlib.Core.List.{List, [], ◌∷◌, ◌++◌, reverse, reverse-reverse}
use lib.ListN.{drop}
use lib.Seq.{take-length}
use Rattle.std.specs.Prelude.{Option, Some, None}
use Rattle.definition.specs.Elements.{key}
use Rattle.definition.specs.Look.{Look}
use Rattle.definition.specs.Rows.{Table, table, list, chart, shallow, state, transition, member, internal, Numbers, current_state, current_transition}
use Rattle.definition.specs.Change.{◌≔◌, numbers, shape, Edit, add, alter, Change, done, altering, has, code_for, edited, edited_by}
use Rattle.definition.specs.States.{own_state, other_states, initial_transition, is_child, child_of, declared, start_state, start_parallel, start_final, in_history, start_history, binding, start_scxml}
use Rattle.definition.specs.Reader.{on_done, started}
use Rattle.definition.proofs.Changes.{edits_append}
use Rattle.plan.specs.declared.Plan.{Plan}
use Rattle.plan.specs.Plan.{on_chart, Planned, planned}
use Rattle.plan.specs.After.{states_after, transitions_after, members_after, verdict_of}
use Rattle.plan.specs.declared.Seen.{Seen}
use Rattle.plan.specs.Seen.{child_member, seen}
use Rattle.plan.specs.Heard.{heard}
use Rattle.plan.specs.Plans.{parent_to, declared_row, initial_row, docs_after, ids_after, initial_if, declared_members, declared_plan, state_p, parallel_p, final_p, history_member, history_p, binding_to, not_child, scxml_plan, scxml_p}
use Rattle.plan.specs.declared.Declared.{Declared}
use Rattle.plan.proofs.Base.{Tables, full, looked}
use Rattle.plan.proofs.Laws.{draw_id_lem, draw_doc_lem, draw_zero, draw_one, alter_alter}
use Rattle.plan.proofs.Loops.{also_all, member_edits, members_all, edits_two, edits_three, edits_four, members_rows}
use Rattle.plan.proofs.Frame.{Next, to_open, Meets}

others_drop : (vs : List ℕ) → other_states vs ≡ drop 1 vs
unfolding other_states
others_drop [] = refl
others_drop (v ∷ vs) = refl

module _ (T : Tables) (c i d a e k : ℕ) (l₀ : Look) where
  abbrev n : Numbers
  n = full T c i d a e

  abbrev rs : Table
  rs = T.open_regions

  abbrev el : ℕ → Look
  el g = looked k g l₀

  abbrev see : ℕ → Seen
  see g = seen n (el g)

  abbrev own : ℕ
  own = own_state l₀

  abbrev child_as : Option ℕ → Option ℕ → ℕ → Bool → Declared
  child_as par fin p x = record { parent = parent_to p; parallel = par; ends = fin; history = None; joins = child_member x p own }

  abbrev child : ℕ → Bool → Declared
  child p x = child_as None None p x

  -- ---- the edits of a declared state, and its change

  abbrev state_edit : ℕ → ℕ → Edit
  state_edit x v = alter (numbers table.states) own (x ≔ v ∷ [])

  abbrev transition_edit : Edit
  transition_edit = add (numbers table.transitions) 0 (transition.number ≔ suc i ∷ transition.doc ≔ suc d ∷ transition.source ≔ own ∷ transition.type ≔ internal ∷ [])

  abbrev target_edits : List Edit
  target_edits = member_edits list.targets (suc i) (drop 1 l₀.refs)

  unfoldable child_edits : ℕ → Bool → List Edit
  child_edits zero x = []
  child_edits (suc p) true = state_edit state.parent (suc p) ∷ []
  child_edits (suc p) false = state_edit state.parent (suc p) ∷ add (numbers table.members) 0 (member.list ≔ list.children ∷ member.owner ≔ suc p ∷ member.value ≔ own ∷ []) ∷ []

  unfoldable declared_edits : Bool → ℕ → Bool → List Edit
  unfolding child_edits
  declared_edits true p x = transition_edit ∷ (target_edits ++ state_edit state.initial (suc i) ∷ state_edit state.doc (suc (suc d)) ∷ child_edits p x)
  declared_edits false p x = state_edit state.doc (suc d) ∷ child_edits p x

  abbrev declared_as : Bool → ℕ → Bool → Change
  declared_as b p x =
      record {
        edits = declared_edits b p x;
        regions = reverse rs;
        current = c;
        ids = ids_after b i;
        docs = docs_after b d;
        state = own;
        transition = current_transition n;
      }

  declared_is : (g : ℕ) (b : Bool) (p : ℕ) (x : Bool) → has (el g) key.initial ≡ b → is_child n p own ≡ x → declared n p (el g) ≡ declared_as b p x
  unfolding declared declared_edits ids_after docs_after also_all
  declared_is g false zero x f h = rw (f, initial_transition, draw_zero, draw_one)
  declared_is g false (suc p) true f h = rw (h, child_of, f, initial_transition, draw_zero, draw_one)
  declared_is g false (suc p) false f h = rw (h, child_of, f, initial_transition, draw_zero, draw_one)
  declared_is g true zero x f h = rw (f, initial_transition, members_all, others_drop, draw_id_lem i, draw_zero (suc i), draw_doc_lem d, draw_one (suc d), edits_two target_edits (state_edit 3 (suc i)) (state_edit 2 (suc (suc d))))
  declared_is g true (suc p) true f h =
      rw (h, child_of, f, initial_transition, members_all, others_drop, draw_id_lem i, draw_zero (suc i), draw_doc_lem d, draw_one (suc d), edits_three target_edits (state_edit 3 (suc i)) (state_edit 2 (suc (suc d))) (state_edit 4 (suc p)))
  declared_is g true (suc p) false f h =
      rw (h, child_of, f, initial_transition, members_all, others_drop, draw_id_lem i, draw_zero (suc i), draw_doc_lem d, draw_one (suc d), edits_four target_edits (state_edit 3 (suc i)) (state_edit 2 (suc (suc d))) (state_edit 4 (suc p)) (add (numbers 8) 0 (0 ≔ 1 ∷ 1 ≔ suc p ∷ 2 ≔ own ∷ [])))

  -- ---- what they make of the tables

  declared_tables : ℕ → Bool → ℕ → Bool → List Table
  declared_tables g b p x =
      T.chart ∷ states_after (el g) (Some (declared_row own (initial_if b i) (docs_after b d) (child p x))) T.states ∷ transitions_after (el g) (initial_row b own (see g)) T.transitions ∷ T.regions ∷ T.entries
      ∷ T.invokes ∷ T.datums ∷ T.parameters ∷ members_after (el g) (declared_members b (child_member x p own) (see g)) T.members ∷ T.opened ∷ T.open_names ∷ rs ∷ []

  declared_tables_lem : (g : ℕ) (b : Bool) (p : ℕ) (x : Bool) → edited_by (el g) (declared_edits b p x) n.tables ≡ declared_tables g b p x
  unfolding seen edited_by declared_edits declared_tables states_after transitions_after members_after declared_row initial_row declared_members initial_if docs_after parent_to child_member
  declared_tables_lem g false zero x = refl
  declared_tables_lem g false (suc p) true = rw alter_alter
  declared_tables_lem g false (suc p) false = rw alter_alter
  declared_tables_lem g true zero x = rw (edits_append (el g) target_edits (state_edit state.initial (suc i) ∷ state_edit state.doc (suc (suc d)) ∷ []) (edited (el g) transition_edit n.tables), members_rows, alter_alter)
  declared_tables_lem g true (suc p) true = rw (edits_append (el g) target_edits (state_edit state.initial (suc i) ∷ state_edit state.doc (suc (suc d)) ∷ child_edits (suc p) true) (edited (el g) transition_edit n.tables), members_rows, alter_alter, alter_alter)
  declared_tables_lem g true (suc p) false = rw (edits_append (el g) target_edits (state_edit state.initial (suc i) ∷ state_edit state.doc (suc (suc d)) ∷ child_edits (suc p) false) (edited (el g) transition_edit n.tables), members_rows, alter_alter, alter_alter)

  -- A handler that goes on from a declared state, with what it asks told as values.
  module _ (g m : ℕ) (next : Next) (p : ℕ) (f : Change → Change) (P : Bool → Bool → Planned) where
    by_declared : ((b x : Bool) → Meets m (el g) n next (done (f (declared_as b p x))) (P b x)) → Meets m (el g) n next (done (f (declared n p (el g)))) (P (has (el g) key.initial) (is_child n p own))
    by_declared h =
        let b : Bool = has (el g) key.initial in
        let x : Bool = is_child n p own in
        ap (λ (z : Change). on_done (done (f z)) next) (declared_is g b p x refl refl) ∙ h b x

  pub start_state_lem : Meets 0 (el 2) n (to_open (el 2) n) (start_state n (el 2)) (state_p (see 2) (heard (el 2)))
  unfolding seen heard start_state state_p started verdict_of declared_tables
  start_state_lem =
      let p : ℕ = current_state n in
      by_declared 2 0 (to_open (el 2) n) p (λ z. z) (λ b x. planned (declared_plan b (child p x) (see 2) (heard (el 2)))) (λ b x. rw (declared_tables_lem 2 b p x, reverse-reverse rs, take-length rs))

  pub start_parallel_lem : Meets 0 (el 3) n (to_open (el 3) n) (start_parallel n (el 3)) (parallel_p (see 3) (heard (el 3)))
  unfolding seen heard start_parallel parallel_p started verdict_of declared_tables
  start_parallel_lem =
      let p : ℕ = current_state n in
      by_declared 3 0 (to_open (el 3) n) p (altering (numbers 1) own (state.parallel ≔ 1 ∷ [])) (λ b x. planned (declared_plan b (child_as (Some 1) None p x) (see 3) (heard (el 3))))
      (λ b x. rw (edits_append, declared_tables_lem 3 b p x, alter_alter, reverse-reverse rs, take-length rs))

  pub start_final_lem : Meets 0 (el 5) n (to_open (el 5) n) (start_final n (el 5)) (final_p (see 5) (heard (el 5)))
  unfolding seen heard start_final final_p started verdict_of declared_tables
  start_final_lem =
      let p : ℕ = current_state n in
      by_declared 5 0 (to_open (el 5) n) p (altering (numbers 1) own (state.final ≔ 1 ∷ [])) (λ b x. planned (declared_plan b (child_as None (Some 1) p x) (see 5) (heard (el 5))))
      (λ b x. rw (edits_append, declared_tables_lem 5 b p x, alter_alter, reverse-reverse rs, take-length rs))

  abbrev history_as : ℕ → Declared
  history_as s = record { parent = Some s; parallel = None; ends = None; history = Some (code_for (el 6) key.type shallow); joins = history_member s own }

  history_as_lem : (s : ℕ) (b x : Bool) → Meets 0 (el 6) n (to_open (el 6) n)
      (done (altering (numbers 1) own (state.parent ≔ s ∷ state.history ≔ code_for (el 6) key.type shallow ∷ []) (in_history s (el 6) (declared_as b 0 x)))) (planned (declared_plan b (history_as s) (see 6) (heard (el 6))))
  unfolding seen heard parent_to child_member in_history history_member started verdict_of declared_plan declared_tables
  history_as_lem zero b x = rw (edits_append, declared_tables_lem 6 b 0 x, alter_alter, reverse-reverse rs, take-length rs)
  history_as_lem (suc s) b x = rw (edits_append, edits_append, declared_tables_lem 6 b 0 x, alter_alter, reverse-reverse rs, take-length rs)

  pub start_history_lem : Meets 0 (el 6) n (to_open (el 6) n) (start_history n (el 6)) (history_p (see 6) (heard (el 6)))
  unfolding start_history history_p seen heard
  start_history_lem =
      let s : ℕ = current_state n in
      by_declared 6 0 (to_open (el 6) n) 0 (λ z. altering (numbers 1) own (state.parent ≔ s ∷ state.history ≔ code_for (el 6) key.type shallow ∷ []) (in_history s (el 6) z))
      (λ b x. planned (declared_plan b (history_as s) (see 6) (heard (el 6)))) (history_as_lem s)

  abbrev scxml_on : Option ℕ → Bool → Plan
  scxml_on v b = on_chart (Some (record { binding = v; root = Some own; script = None })) (declared_plan b not_child (see 1) (heard (el 1)))

  -- Of w: whether a binding is given.
  scxml_as : (w b x : Bool) → Meets 0 (el 1) n (to_open (el 1) n)
      (done (altering (shape 0) 1 (chart.root ≔ own ∷ []) (elim w [ true ↦ altering (numbers table.chart) 1 (chart.binding ≔ code_for (el 1) key.binding 0 ∷ []) (declared_as b 0 x) | false ↦ declared_as b 0 x ])))
      (planned (scxml_on (elim w [ true ↦ Some (code_for (el 1) key.binding 0) | false ↦ None ]) b))
  unfolding seen heard parent_to child_member not_child started verdict_of declared_plan declared_tables
  scxml_as true b x = rw (edits_append, edits_append, declared_tables_lem 1 b 0 x, alter_alter, reverse-reverse rs, take-length rs)
  scxml_as false b x = rw (edits_append, declared_tables_lem 1 b 0 x, reverse-reverse rs, take-length rs)

  pub start_scxml_lem : Meets 0 (el 1) n (to_open (el 1) n) (start_scxml n (el 1)) (scxml_p (see 1) (heard (el 1)))
  unfolding start_scxml binding scxml_p scxml_plan binding_to seen heard
  start_scxml_lem =
      by_declared 1 0 (to_open (el 1) n) 0 (λ z. altering (shape 0) 1 (chart.root ≔ own ∷ []) (binding (el 1) z)) (λ b x. planned (scxml_on (binding_to (heard (el 1))) b)) (scxml_as (has (el 1) key.binding))
