-- The rows that a plan alters are rows in use: of every element, at its start, at its end and as one event.
use Prim.Native.Nat.{ℕ, zero, suc, ◌≤◌}
use mathlib.Core.Path.{◌≡◌, refl, sym, ap, ◌∙◌, subst}
use mathlib.Core.Bool.{Bool, true, false, ◌||◌}
use mathlib.Core.List.{List, [], ◌∷◌}
use native.Mathlib.Omega.{arith}
use lib.Dec.{eqb}
use lib.ListN.{get_or}
use borrow.Author.Tests.{eqb-false}
use Rattle.std.specs.Prelude.{Option, Some, None, IfSome, ⊤}
use Rattle.definition.specs.declared.codes.Tag.{Tag}
use Rattle.definition.specs.declared.codes.Tag.TheVariants as G
use Rattle.definition.specs.declared.codes.EntryKind.{EntryKind}
use Rattle.definition.specs.declared.codes.EntryKind.TheVariants as K
use Rattle.definition.specs.declared.codes.OwnerKind.{OwnerKind}
use Rattle.definition.specs.declared.codes.OwnerKind.TheVariants as O
use Rattle.definition.specs.declared.codes.ListKind.{ListKind}
use Rattle.definition.specs.declared.codes.ListKind.TheVariants as L
use Rattle.plan.specs.declared.ChartPlan.{ChartPlan}
use Rattle.plan.specs.declared.Plan.{Plan}
use Rattle.plan.specs.declared.Seen.{Seen}
use Rattle.plan.specs.declared.Heard.{Heard}
use Rattle.plan.specs.declared.Walked.{Walked}
use Rattle.plan.specs.declared.Walked.TheVariants as W
use Rattle.plan.specs.declared.Closing.{Closing}
use Rattle.plan.specs.declared.Shape.{Shape}
use Rattle.plan.specs.declared.Shape.TheVariants as H
use Rattle.plan.specs.Plan.{Planned, planned, refused, on_chart}
use Rattle.plan.specs.Plans.{unless_zero_p, unless_initial_p, closed_p, closing_p, idle_in, begun, ended, fresh_p, passing, plain_p, only_nest_p, rest_p, entry_p, log_p, assign_p, root_script_p, script_p, send_p, block_plan, block_p, both_block_p, end_block_p, walked_p, else_plan, else_p, else_if_plan, else_if_p, region_p, end_listed_p, both_listed_p, end_finalize_p, both_finalize_p, transition_plan, open_transition, whole_transition, transition_by, start_transition_p, both_transition_p, end_transition_p, initial_p, donedata_p, data_p, invoke_p, by_parent_p, of_last_send_p, of_last_invoke_p, of_donedata_p, parameter_p, param_p, send_content_p, content_of_send_p, content_p, declared_row, declared_plan, not_child, state_p, parallel_p, final_p, history_p, scxml_plan, scxml_p, default_to, default_p, end_state_p, end_scxml_p, defaulted, both_declared, both_state_p, both_scxml_p, starts_p, boths_p, ends_p, start_p, both_p, end_p, plan_by}
use Rattle.plan.specs.declared.Declared.{Declared}

-- An if that was met is one of e entries.
unfoldable pub MetIn : Walked → ℕ → Type 0
MetIn W.NoIf e = ⊤
MetIn W.Nowhere e = ⊤
MetIn (W.Met i) e = i ≤ e

-- What is seen and heard names rows in use: so many states (the new names among them), transitions, entries, invokes, data and open regions.
pub record InUse (v : Seen) (q : Heard) (S T E I D R : ℕ) : Type 0 where
  pub state : v.state.0 ≤ S
  pub root : v.root.0 ≤ S
  pub own : q.own.0 ≤ S
  pub place : v.place ≤ T
  pub entry : v.entry ≤ E
  pub walk : MetIn v.walk E
  pub invoke : v.invoke ≤ I
  pub found : q.found ≤ suc D
  pub datums : v.datums ≡ D
  pub kept : IfSome v.closed (λ x. x.kept ≤ R)
  pub regions : v.regions ≤ R

pub record Altered (p : Plan) (S T E I D R : ℕ) : Type 0 where
  pub states : IfSome p.states (λ x. x.at.0 ≤ S)
  pub transitions : IfSome p.transitions.altered (λ x. x.at ≤ T)
  pub entries : IfSome p.entries.altered (λ x. x.at ≤ E)
  pub invokes : IfSome p.invokes.altered (λ x. x.at ≤ I)
  pub datums : IfSome p.datums.altered (λ x. x.at ≤ D)
  pub kept : p.pending.kept ≤ R

Each : {A : Type 0} → (A → Type 0) → List A → Type 0
Each P [] = Unit {0}
Each P (x ∷ xs) = P x × Each P xs

each_at : {A : Type 0} (P : A → Type 0) (d : A) (xs : List A) → Each P xs → P d → (i : ℕ) → P (get_or xs i d)
unfolding Each
each_at P d [] a h i = h
each_at P d (x ∷ xs) a h zero = a.0
each_at P d (x ∷ xs) a h (suc i) = each_at P d xs a.1 h i

any : (n : ℕ) → 0 ≤ n
any n = omega arith

below : (x d : ℕ) → x ≤ suc d → (x ≡ suc d → ⊥) → x ≤ d
below zero d h n = any d
below (suc zero) zero h n = absurd (n refl)
below (suc (suc x)) zero h n = absurd (omega arith)
below (suc x) (suc d) h n = let k : x ≤ d = below x d (omega arith) (λ z. n (ap suc z)) in omega arith

module _ (v : Seen) (q : Heard) (S T E I D R : ℕ) (U : InUse v q S T E I D R) where
  On : Planned → Type 0
  On (planned p) = Altered p S T E I D R
  On (refused k) = ◌≡◌ {A = ℕ} 0 0

  on : (p : Plan) → IfSome p.states (λ x. x.at.0 ≤ S) → IfSome p.transitions.altered (λ x. x.at ≤ T) → IfSome p.entries.altered (λ x. x.at ≤ E) → IfSome p.invokes.altered (λ x. x.at ≤ I)
      → IfSome p.datums.altered (λ x. x.at ≤ D) → p.pending.kept ≤ R → On (planned p)
  unfolding On
  on p b c d e f g = record { states = b; transitions = c; entries = d; invokes = e; datums = f; kept = g }

  on_unless : (n : ℕ) (x : Planned) → On x → On (unless_zero_p n x)
  unfolding unless_zero_p On
  on_unless zero x h = refl
  on_unless (suc n) x h = h

  on_initial : (x : Planned) → On x → On (unless_initial_p v x)
  unfolding unless_initial_p On
  on_initial x h = go (eqb v.initial.0 0)
    where
      go : (b : Bool) → On (elim b [ true ↦ x | false ↦ refused 13 ])
      go true = h
      go false = refl

  on_walked : (f : ℕ → Plan) → ((e : ℕ) → e ≤ E → On (planned (f e))) → On (walked_p v.walk f)
  unfolding walked_p MetIn On
  on_walked f h = go v.walk U.walk
    where
      go : (w : Walked) → MetIn w E → On (walked_p w f)
      go W.NoIf k = refl
      go W.Nowhere k = h 0 (any E)
      go (W.Met e) k = h e k

  on_closed : (f : Closing → Planned) → ((x : Closing) → x.kept ≤ R → On (f x)) → On (closing_p v f)
  unfolding closed_p On
  on_closed f h = go v.closed U.kept
    where
      go : (c : Option Closing) → IfSome c (λ x. x.kept ≤ R) → On (closed_p c f)
      go None k = refl
      go (Some x) k = h x k

  either : (b : Bool) (x y : Planned) → On x → On y → On (elim b [ true ↦ x | false ↦ y ])
  either true x y h k = h
  either false x y h k = k

  either_by : (b : Bool) (x y : Planned) → (b ≡ true → On x) → (b ≡ false → On y) → On (elim b [ true ↦ x | false ↦ y ])
  either_by true x y h k = h refl
  either_by false x y h k = k refl

  found_le : (q.found ≡ suc v.datums → ⊥) → q.found ≤ D
  found_le n = below q.found D U.found (λ z. n (z ∙ ap suc (sym U.datums)))

  -- ---- entries and regions

  only_nest_lem : On (only_nest_p v)
  unfolding only_nest_p begun idle_in
  only_nest_lem = on _ tt tt tt tt tt U.regions

  entry : (h : Shape) (k : EntryKind) → On (entry_p h k v)
  unfolding entry_p begun idle_in
  entry h k = on_unless v.current.0 _ (on _ tt tt tt tt tt U.regions)

  log : On (log_p v q)
  unfolding log_p
  log = either q.expr _ _ (entry H.First K.Log) only_nest_lem

  assign : On (assign_p v q)
  unfolding assign_p
  assign = either q.whole _ _ (entry H.Second K.Assign) (entry H.First K.Assign)

  script : On (script_p v)
  unfolding script_p root_script_p begun idle_in
  script = either (eqb v.parent 1) _ _ (on _ tt tt tt tt tt (any _)) (entry H.First K.Script)

  send : On (send_p v q)
  unfolding send_p begun idle_in
  send = on_unless v.state.0 _ (on_unless v.current.0 _ (on _ tt tt tt tt tt U.regions))

  block : (g : Tag) (k : EntryKind) → On (block_p g k v)
  unfolding block_p block_plan begun idle_in
  block g k = on_unless v.current.0 _ (on _ tt tt tt tt tt U.regions)

  both_block : (k : EntryKind) → On (both_block_p k v)
  unfolding both_block_p block_plan begun idle_in
  both_block k = on_unless v.current.0 _ (on _ tt tt tt tt tt U.regions)

  end_block_lem : On (end_block_p v)
  unfolding end_block_p closed_p ended idle_in
  end_block_lem = on_closed _ (λ x k. on _ tt tt tt tt tt k)

  else' : On (else_p v)
  unfolding else_p closed_p else_plan begun idle_in
  else' = on_closed _ (λ x k. on_walked _ (λ e w. on _ tt tt w tt tt k))

  elseif' : On (else_if_p v)
  unfolding else_if_p closed_p else_if_plan begun idle_in
  elseif' = on_closed _ (λ x k. on_walked _ (λ e w. on _ tt tt w tt tt k))

  region : On (region_p v)
  unfolding region_p begun idle_in fresh_p
  region = on _ tt tt tt tt tt (any _)

  end_listed_lem : (l : ListKind) → On (end_listed_p l v)
  unfolding end_listed_p closed_p ended idle_in
  end_listed_lem l = on_closed _ (λ x k. on_unless v.state.0 _ (on _ tt tt tt tt tt k))

  both_listed : (l : ListKind) → On (both_listed_p l v)
  unfolding both_listed_p passing begun idle_in
  both_listed l = on_unless v.state.0 _ (on _ tt tt tt tt tt (any _))

  end_finalize_lem : On (end_finalize_p v)
  unfolding end_finalize_p closed_p ended idle_in
  end_finalize_lem = on_closed _ (λ x k. on_unless v.state.0 _ (on_unless v.invoke _ (on _ tt tt tt U.invoke tt k)))

  both_finalize : On (both_finalize_p v)
  unfolding both_finalize_p passing begun idle_in
  both_finalize = on_unless v.state.0 _ (on_unless v.invoke _ (on _ tt tt tt U.invoke tt (any _)))

  -- ---- transitions

  by_parent_lem : (f : Bool → Plan) → On (planned (f true)) → On (planned (f false)) → On (transition_by f v)
  unfolding transition_by
  by_parent_lem f a b = on_unless v.state.0 _ (either (eqb v.parent 7) _ _ (on_initial (planned (f true)) a) b)

  start_transition_lem : On (start_transition_p v q)
  unfolding start_transition_p open_transition transition_plan idle_in
  start_transition_lem =
      by_parent_lem (λ b. open_transition b v q) (on _ U.state tt tt tt tt (any _)) (on _ tt tt tt tt tt (any _))

  both_transition : On (both_transition_p v q)
  unfolding both_transition_p whole_transition transition_plan idle_in
  both_transition =
      by_parent_lem (λ b. whole_transition b v q) (on _ U.state tt tt tt tt (any _)) (on _ tt tt tt tt tt (any _))

  end_transition_lem : On (end_transition_p v)
  unfolding end_transition_p closed_p ended idle_in
  end_transition_lem = on_closed _ (λ x k. on_unless v.transition.0 _ (on _ tt U.place tt tt tt k))

  -- ---- initial, donedata, data, invoke, param, content

  initial : On (initial_p v)
  unfolding initial_p
  initial = on_unless v.state.0 _ (on_initial _ only_nest_lem)

  donedata : On (donedata_p v)
  unfolding donedata_p begun idle_in
  donedata = on_unless v.state.0 _ (on _ U.state tt tt tt tt U.regions)

  datum : On (data_p v q)
  unfolding data_p begun idle_in
  datum =
      on_unless v.state.0 _ (
      either_by (eqb q.found (suc v.datums)) _ _ (λ e. on _ tt tt tt tt tt U.regions)
      (λ e. on _ tt tt tt tt (found_le (eqb-false q.found (suc v.datums) e)) U.regions))

  invoke : On (invoke_p v q)
  unfolding invoke_p begun idle_in
  invoke = on_unless v.state.0 _ (on _ tt tt tt tt tt U.regions)

  of_parent : (x y z : Planned) → On x → On y → On z → On (by_parent_p v.parent x y z)
  unfolding by_parent_p
  of_parent x y z a b c = either (eqb v.parent 19) _ _ a (either (eqb v.parent 8) _ _ b c)

  of_send_lem : (x : Planned) → On x → On (of_last_send_p v x)
  unfolding of_last_send_p On
  of_send_lem x h = either (eqb v.kind 5) _ _ h refl

  of_invoke_lem : (x : Planned) → On x → On (of_last_invoke_p v x)
  unfolding of_last_invoke_p
  of_invoke_lem x h = on_unless v.state.0 _ (on_unless v.invoke _ h)

  of_donedata_lem : (x : Planned) → On x → On (of_donedata_p v x)
  unfolding of_donedata_p
  of_donedata_lem x h = on_unless v.state.0 _ (on_unless v.donedata _ h)

  parameter : (k : OwnerKind) (o : ℕ) → On (parameter_p k o v)
  unfolding parameter_p begun idle_in
  parameter k o = on _ tt tt tt tt tt U.regions

  param : On (param_p v)
  unfolding param_p
  param = of_parent _ _ _ (on_unless v.current.0 _ (of_send_lem _ (parameter O.Send v.entry))) (of_invoke_lem _ (parameter O.Invoke v.invoke)) (of_donedata_lem _ (parameter O.Donedata v.state.0))

  send_content_lem : On (send_content_p v q)
  unfolding send_content_p begun idle_in
  send_content_lem = either (q.expr || q.whole) _ _ (on _ tt tt U.entry tt tt U.regions) only_nest_lem

  content : On (content_p v q)
  unfolding content_p content_of_send_p begun idle_in
  content =
      of_parent _ _ _ (either (eqb v.current.0 0) _ _ only_nest_lem (of_send_lem _ send_content_lem))
      (of_invoke_lem _ (on _ tt tt tt U.invoke tt U.regions)) (of_donedata_lem _ (on _ U.state tt tt tt tt U.regions))

  -- ---- states

  declared : (b : Bool) (x : Declared) (c : Option ChartPlan) → On (planned (on_chart c (declared_plan b x v q)))
  unfolding declared_plan declared_row idle_in
  declared true x c = on _ U.own tt tt tt tt U.regions
  declared false x c = on _ U.own tt tt tt tt U.regions

  child : (b : Bool) (x : Declared) → On (planned (declared_plan b x v q))
  unfolding declared_plan
  child b x = declared b x None

  default : (s z f : ℕ) → s ≤ S → On (default_p s z f v)
  unfolding default_p default_to idle_in
  default s z f h = on_unless s _ (either (eqb z 0) _ _ (to f) (on _ tt tt tt tt tt U.regions))
    where
      to : (f : ℕ) → On (planned (default_to s f v))
      to zero = on _ tt tt tt tt tt U.regions
      to (suc f) = on _ h tt tt tt tt U.regions

  both_declared_lem : (c : Option ChartPlan) (b : Bool) (x : Declared) → On (both_declared c b x v q)
  unfolding both_declared defaulted declared_plan declared_row idle_in
  both_declared_lem c b x = on_unless q.own.0 _ (either b _ _ (declared true x c) (either (eqb v.own.0 0) _ _ (first v.eldest.0) (declared false x c)))
    where
      first : (f : ℕ) → On (planned (on_chart c (defaulted f x v q)))
      first zero = declared false x c
      first (suc f) = on _ U.own tt tt tt tt U.regions

  rest : On (rest_p v)
  unfolding rest_p idle_in
  rest = on _ tt tt tt tt tt U.regions

  -- ---- by the element's number

  abbrev Onto : (Seen → Heard → Planned) → Type 0
  Onto f = On (f v q)

  starts : Each Onto starts_p
  unfolding Each starts_p plain_p state_p parallel_p final_p history_p scxml_p scxml_plan
  starts = (
    only_nest_lem,
    (
      declared q.initial not_child _,
      (
        child q.initial _,
        (
          child q.initial _,
          (
            only_nest_lem,
            (
              child q.initial _,
              (
                child q.initial _,
                (
                  initial,
                  (
                    invoke,
                    (
                      datum,
                      (
                        donedata,
                        (
                          region,
                          (else', (elseif', (param, (content, (start_transition_lem, (region, (region, (send, (entry H.First K.Raise, (entry H.First K.Cancel, (log, (assign, (block G.If K.If, (block G.Foreach K.Foreach, (script, tt))))))))))))))),
                        ),
                      ),
                    ),
                  ),
                ),
              ),
            ),
          ),
        ),
      ),
    ),
  )

  boths : Each Onto boths_p
  unfolding Each boths_p plain_p parallel_p final_p history_p both_state_p both_scxml_p
  boths = (
    only_nest_lem,
    (
      both_declared_lem _ q.initial not_child,
      (
        both_declared_lem None q.initial _,
        (
          child q.initial _,
          (
            only_nest_lem,
            (
              child q.initial _,
              (
                child q.initial _,
                (
                  initial,
                  (
                    invoke,
                    (
                      datum,
                      (donedata, (both_finalize, (else', (elseif', (param, (content, (both_transition, (both_listed L.Onentry, (both_listed L.Onexit, (send, (entry H.First K.Raise, (entry H.First K.Cancel, (log, (assign, (both_block K.If, (both_block K.Foreach, (script, tt))))))))))))))))),
                    ),
                  ),
                ),
              ),
            ),
          ),
        ),
      ),
    ),
  )

  ends : Each (λ (f : Seen → Planned). On (f v)) ends_p
  unfolding Each ends_p end_scxml_p end_state_p
  ends = (
    rest,
    (
      default v.root.0 v.begins.0 v.child.0 U.root,
      (
        default v.state.0 v.initial.0 v.first.0 U.state,
        (
          rest,
          (
            rest,
            (
              rest,
              (
                rest,
                (
                  rest,
                  (
                    rest,
                    (
                      rest,
                      (
                        rest,
                        (
                          end_finalize_lem,
                          (
                            rest,
                            (
                              rest,
                              (
                                rest,
                                (rest, (end_transition_lem, (end_listed_lem L.Onentry, (end_listed_lem L.Onexit, (rest, (rest, (rest, (rest, (rest, (end_block_lem, (end_block_lem, tt))))))))))),
                              ),
                            ),
                          ),
                        ),
                      ),
                    ),
                  ),
                ),
              ),
            ),
          ),
        ),
      ),
    ),
  )

  by_kind : (k g : ℕ) → On (plan_by k g v q)
  unfolding plan_by start_p both_p end_p plain_p
  by_kind zero g = each_at Onto (plain_p only_nest_p) starts_p starts only_nest_lem g
  by_kind (suc zero) g = each_at Onto (plain_p only_nest_p) boths_p boths only_nest_lem g
  by_kind (suc (suc zero)) g = each_at Onto (plain_p only_nest_p) boths_p boths only_nest_lem g
  by_kind (suc (suc (suc k))) g = each_at (λ (f : Seen → Planned). On (f v)) rest_p ends_p ends rest g

  -- A PLAN ALTERS ROWS IN USE.
  pub altered : (k g : ℕ) (p : Plan) → plan_by k g v q ≡ planned p → Altered p S T E I D R
  altered k g p e = unfold On in subst On e (by_kind k g)
