-- An empty state, and an empty scxml: declared, and given its default initial.
use Prim.Native.Nat.{ℕ, zero, suc, ◌<◌}
use mathlib.Core.Path.{◌≡◌, refl, sym, ap, ◌∙◌}
use mathlib.Core.Bool.{Bool, true, false}
use mathlib.Core.List.{[], ◌∷◌}
use lib.ListN.{length, get_or, set, take}
use lib.Dec.{eqb}
use lib.Seq.{take-length, get_or-set_same, get_or-set_other}
use native.Mathlib.Omega.{arith}
use Rattle.std.specs.Prelude.{Option, Some, None}
use Rattle.definition.specs.Elements.{key}
use Rattle.definition.specs.Look.{Look}
use Rattle.definition.specs.Rows.{Row, Table, num, row_of, same_list, Numbers, table_of}
use Rattle.definition.specs.Change.{has}
use Rattle.definition.specs.States.{own_state, initial_of, start_state, start_scxml}
use Rattle.definition.specs.Reader.{accept, end_of}
use Rattle.definition.proofs.Changes.{without_snoc}
use Rattle.plan.specs.declared.ChartPlan.{ChartPlan}
use Rattle.plan.specs.declared.MemberPlan.{MemberPlan}
use Rattle.plan.specs.declared.Plan.{Plan}
use Rattle.plan.specs.Plan.{on_chart, Planned, planned, inside}
use Rattle.plan.specs.After.{chart_after, put, member_of, member_after, applied, verdict_of}
use Rattle.plan.specs.declared.Seen.{Seen}
use Rattle.plan.specs.declared.Heard.{Heard}
use Rattle.plan.specs.Seen.{first_child_or, joined, seen}
use Rattle.plan.specs.Heard.{heard}
use Rattle.plan.specs.Plans.{unless_zero_p, idle_in, as_child, declared_plan, default_to, default_p, defaulted, both_declared, state_p, both_state_p, binding_to, scxml_plan, scxml_p, both_scxml_p, end_state_p, end_scxml_p}
use Rattle.plan.specs.declared.Declared.{Declared}
use Rattle.plan.proofs.Base.{Tables, full, tables_of, looked}
use Rattle.plan.proofs.Laws.{last_snoc, alter_alter, alter_keeps, alter_sets, put_keeps, initial_early, suc_not_zero}
use Rattle.plan.proofs.Frame.{to_both, Meets, by_then}
use Rattle.plan.proofs.States.{start_state_lem, start_scxml_lem}
use Rattle.plan.proofs.Defaults.{first_append, end_state_lem, end_scxml_lem}

first_added : (j : Option MemberPlan) (s : ℕ) (ms : Table) → first_child_or 0 s (member_after j ms) ≡ first_child_or (joined j s) s ms
unfolding member_after joined same_list
first_added None s ms = refl
first_added (Some j) s ms = first_append 0 s ms (member_of j)

verdict_unless : (l : Look) (m n : Numbers) (s : ℕ) (P Q : Planned) → verdict_of 2 l m P ≡ verdict_of 1 l n Q → verdict_of 2 l m (unless_zero_p s P) ≡ verdict_of 1 l n (unless_zero_p s Q)
unfolding verdict_of unless_zero_p
verdict_unless l m n zero P Q h = refl
verdict_unless l m n (suc s) P Q h = h

module _ (T : Tables) (c i d a e k : ℕ) (l₀ : Look) (g : ℕ) (ch : Option ChartPlan) (q : Option ℕ) (j : Option MemberPlan) where
  abbrev n : Numbers
  n = full T c i d a e

  abbrev rs : Table
  rs = T.open_regions

  abbrev l : Look
  l = looked k g l₀

  abbrev own : ℕ
  own = own_state l₀

  abbrev x : Declared
  x = record { parent = q; parallel = None; ends = None; history = None; joins = j }

  abbrev v : Seen
  v = seen n l

  abbrev o : Heard
  o = heard l

  -- The store when the element has begun, with an `initial` attribute or without, and what is seen of it.
  abbrev m : Bool → Numbers
  m b = applied 0 l (on_chart ch (declared_plan b x v o)) n

  abbrev w : Bool → Seen
  w b = seen (m b) l

  -- Nothing more to be done at the end.
  at_rest : (b : Bool) → applied 2 l (idle_in (inside 0 0) (w b)) (m b) ≡ applied 1 l (on_chart ch (declared_plan b x v o)) n
  unfolding seen heard applied declared_plan idle_in
  at_rest b = rw (without_snoc T.opened, without_snoc T.open_names, take-length (take (length rs) rs))

  initial_given : 3 < length (row_of T.states own) → initial_of (m true) own ≡ suc i
  unfolding seen heard initial_of applied declared_plan put
  initial_given h =
      alter_sets 3 (suc i) own _ T.states (λ r z. put_keeps 4 q 3 (set (set r 3 (suc i)) 2 (suc (suc d))) (omega arith) ∙ get_or-set_other (set r 3 (suc i)) 2 3 (suc (suc d)) 0 (omega arith) ∙ get_or-set_same r 3 (suc i) 0 z) h

  initial_kept : initial_of (m false) own ≡ initial_of n own
  unfolding seen heard initial_of applied declared_plan put
  initial_kept = alter_keeps 3 own _ T.states (λ r. put_keeps 4 q 3 (set r 2 (suc d)) (omega arith) ∙ get_or-set_other r 2 3 (suc d) 0 (omega arith))

  first_kept : first_child_or 0 own (table_of (m false) 8) ≡ first_child_or (joined j own) own T.members
  unfolding seen heard applied declared_plan
  first_kept = first_added j own T.members

  default_then : (f : ℕ) → applied 2 l (default_to own f (w false)) (m false) ≡ applied 1 l (on_chart ch (defaulted f x v o)) n
  unfolding seen heard applied declared_plan default_to defaulted
  default_then zero = at_rest false
  default_then (suc f) = rw (alter_alter, initial_early q (suc d) (suc i), without_snoc T.opened, without_snoc T.open_names, take-length (take (length rs) rs))

  -- Without an `initial` attribute; z is the initial before, f the first child as it would be.
  without : (z f : ℕ) → verdict_of 2 l (m false) (elim (eqb z 0) [ true ↦ planned (default_to own f (w false)) | false ↦ planned (idle_in (inside 0 0) (w false)) ])
      ≡ verdict_of 1 l n (elim (eqb z 0) [ true ↦ planned (on_chart ch (defaulted f x v o)) | false ↦ planned (on_chart ch (declared_plan false x v o)) ])
  unfolding verdict_of
  without z f = at (eqb z 0)
    where
      at : (b : Bool) → verdict_of 2 l (m false) (elim b [ true ↦ planned (default_to own f (w false)) | false ↦ planned (idle_in (inside 0 0) (w false)) ])
          ≡ verdict_of 1 l n (elim b [ true ↦ planned (on_chart ch (defaulted f x v o)) | false ↦ planned (on_chart ch (declared_plan false x v o)) ])
      at true = ap accept (default_then f)
      at false = ap accept (at_rest false)

  -- What the end does, by the initial z and the first child f that it finds.
  abbrev at_end : Bool → ℕ → ℕ → Planned
  at_end b z f = elim (eqb z 0) [ true ↦ planned (default_to own f (w b)) | false ↦ planned (idle_in (inside 0 0) (w b)) ]

  pub both_declared_lem : (b : Bool) → 3 < length (row_of T.states own) → v.eldest.0 ≡ first_child_or (joined j own) own T.members
      → verdict_of 2 l (m b) (default_p own (initial_of (m b) own) (first_child_or 0 own (table_of (m b) 8)) (w b)) ≡ verdict_of 1 l n (both_declared ch b x v o)
  unfolding seen heard default_p both_declared verdict_of
  both_declared_lem true h z =
      verdict_unless l (m true) n own _ (planned (on_chart ch (declared_plan true x v o)))
      (ap (λ (z : Bool). verdict_of 2 l (m true) (elim z [ true ↦ planned (default_to own (first_child_or 0 own (table_of (m true) 8)) (w true)) | false ↦ planned (idle_in (inside 0 0) (w true)) ])) (ap (λ (z : ℕ). eqb z 0) (initial_given h) ∙ suc_not_zero i) ∙ ap accept (at_rest true))
  both_declared_lem false h z =
      verdict_unless l (m false) n own _ _
      (ap (λ (z : ℕ). verdict_of 2 l (m false) (at_end false z (first_child_or 0 own (table_of (m false) 8)))) initial_kept
      ∙ ap (λ (f : ℕ). verdict_of 2 l (m false) (at_end false (initial_of n own) f)) (first_kept ∙ sym z) ∙ without (initial_of n own) v.eldest.0)

-- The chart's row has its root.
root_set : (k : ℕ) (l₀ : Look) (w : Option ℕ) (s : ℕ) (rs : Table) → 0 < length (get_or rs 0 []) → num (get_or (chart_after (looked k 1 l₀) (Some (record { binding = w; root = Some s; script = None })) rs) 0 []) 0 ≡ s
unfolding chart_after
root_set k l₀ w s [] h = absurd (omega arith)
root_set k l₀ w s ([] ∷ rs) h = absurd (omega arith)
root_set k l₀ None s ((v ∷ vs) ∷ rs) h = refl
root_set k l₀ (Some w) s ((v ∷ vs) ∷ rs) h = refl

module _ (T : Tables) (c i d a e k : ℕ) (l₀ : Look) (own_row : 3 < length (row_of T.states (own_state l₀))) where
  abbrev n₁ : Numbers
  n₁ = full T c i d a e

  pub both_state : let l = looked k 2 l₀ in Meets 1 l n₁ (to_both l n₁) (start_state n₁ l) (both_state_p (seen n₁ l) (heard l))
  unfolding seen heard both_state_p state_p end_state_p end_of applied
  both_state =
      let l₁ : Look = looked k 2 l₀ in
      let v₁ : Seen = seen n₁ l₁ in
      let b : Bool = has l₁ key.initial in
      let y : Declared = as_child None None v₁ (heard l₁) in
      let p : Plan = declared_plan b y v₁ (heard l₁) in
      let m₁ : Numbers = applied 0 l₁ p n₁ in
      by_then l₁ n₁ (start_state n₁ l₁) p (end_state_p (seen m₁ l₁)) (both_state_p v₁ (heard l₁)) (start_state_lem T c i d a e k l₀) (end_state_lem (tables_of m₁) m₁.current m₁.ids m₁.docs a e k l₀)
      (ap (λ (s : ℕ). verdict_of 2 l₁ m₁ (default_p s (initial_of m₁ s) (first_child_or 0 s (table_of m₁ 8)) (seen m₁ l₁))) (ap (λ (r : Row). num r 1) (last_snoc [] _ T.opened)) ∙ both_declared_lem T c i d a e k l₀ 2 None y.parent y.joins b own_row refl)

  pub both_scxml : 0 < length (get_or T.chart 0 []) → let l = looked k 1 l₀ in Meets 1 l n₁ (to_both l n₁) (start_scxml n₁ l) (both_scxml_p (seen n₁ l) (heard l))
  unfolding seen heard both_scxml_p scxml_p end_scxml_p end_of applied
  both_scxml h =
      let l₁ : Look = looked k 1 l₀ in
      let v₁ : Seen = seen n₁ l₁ in
      let b : Bool = has l₁ key.initial in
      let p : Plan = scxml_plan v₁ (heard l₁) in
      let m₁ : Numbers = applied 0 l₁ p n₁ in
      by_then l₁ n₁ (start_scxml n₁ l₁) p (end_scxml_p (seen m₁ l₁)) (both_scxml_p v₁ (heard l₁)) (start_scxml_lem T c i d a e k l₀) (end_scxml_lem (tables_of m₁) m₁.current m₁.ids m₁.docs a e k l₀)
      (ap (λ (s : ℕ). verdict_of 2 l₁ m₁ (default_p s (initial_of m₁ s) (first_child_or 0 s (table_of m₁ 8)) (seen m₁ l₁))) (root_set k l₀ (binding_to (heard l₁)) (own_state l₀) T.chart h) ∙ both_declared_lem T c i d a e k l₀ 1 p.chart None None b own_row refl)
