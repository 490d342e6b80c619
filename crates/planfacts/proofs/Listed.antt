-- What a plan says of lists: words only of a transition, a send and an invoke; targets only of a transition and of an `initial` attribute.
use Prim.Native.Nat.{ℕ, zero, suc, ◌+◌, ◌≤◌}
use mathlib.Core.Path.{◌≡◌, refl, subst}
use mathlib.Core.Bool.{Bool, true, false, ◌||◌}
use mathlib.Core.List.{List, [], ◌∷◌}
use native.Mathlib.Omega.{arith}
use lib.Dec.{eqb}
use lib.ListN.{length, get_or}
use borrow.Author.Tests.{ne_eqb}
use Rattle.std.specs.Prelude.{Option, Some, None}
use Rattle.definition.specs.Elements.{names_state, among}
use Rattle.definition.specs.declared.codes.Tag.{Tag}
use Rattle.definition.specs.declared.codes.Tag.TheVariants as G
use Rattle.definition.specs.declared.codes.EntryKind.{EntryKind}
use Rattle.definition.specs.declared.codes.EntryKind.TheVariants as K
use Rattle.definition.specs.declared.codes.OwnerKind.{OwnerKind}
use Rattle.definition.specs.declared.codes.OwnerKind.TheVariants as O
use Rattle.definition.specs.declared.codes.ListKind.{ListKind}
use Rattle.definition.specs.declared.codes.ListKind.TheVariants as L
use Rattle.plan.specs.declared.ChartPlan.{ChartPlan}
use Rattle.plan.specs.declared.MemberPlan.{MemberPlan}
use Rattle.plan.specs.declared.TargetPlan.{TargetPlan}
use Rattle.plan.specs.declared.Plan.{Plan}
use Rattle.plan.specs.declared.Seen.{Seen}
use Rattle.plan.specs.declared.Heard.{Heard}
use Rattle.plan.specs.declared.Walked.{Walked}
use Rattle.plan.specs.declared.Walked.TheVariants as W
use Rattle.plan.specs.declared.Closing.{Closing}
use Rattle.plan.specs.declared.Shape.{Shape}
use Rattle.plan.specs.declared.Shape.TheVariants as H
use Rattle.plan.specs.Plan.{Planned, planned, refused, on_chart}
use Rattle.plan.specs.Plans.{unless_zero_p, unless_initial_p, closed_p, idle_in, begun, ended, fresh_p, passing, plain_p, only_nest_p, rest_p, entry_p, log_p, assign_p, root_script_p, script_p, send_p, block_plan, block_p, both_block_p, end_block_p, walked_p, else_plan, else_p, else_if_plan, else_if_p, region_p, end_listed_p, both_listed_p, end_finalize_p, both_finalize_p, transition_plan, open_transition, whole_transition, transition_by, start_transition_p, both_transition_p, end_transition_p, initial_p, donedata_p, data_p, invoke_p, by_parent_p, of_last_send_p, of_last_invoke_p, of_donedata_p, parameter_p, param_p, send_content_p, content_of_send_p, content_p, declared_members, declared_plan, not_child, state_p, parallel_p, final_p, history_p, scxml_plan, scxml_p, default_to, default_p, end_state_p, end_scxml_p, defaulted, both_declared, both_state_p, both_scxml_p, starts_p, boths_p, ends_p, start_p, both_p, end_p, plan_by}
use Rattle.plan.specs.declared.Declared.{Declared}

-- The words of an element: none, or as many as were heard.
pub data Words (g : ℕ) (q : Heard) (m : Option MemberPlan) : Type 0 where
  no_words : m ≡ None → Words g q m
  events : (x : MemberPlan) → g ≡ 16 → m ≡ Some x → x.value ≡ q.events → Words g q m
  names_of_send : (x : MemberPlan) → g ≡ 19 → m ≡ Some x → x.value ≡ q.names → Words g q m
  names_of_invoke : (x : MemberPlan) → g ≡ 8 → m ≡ Some x → x.value ≡ q.names → Words g q m

-- The states that it names as targets: none; those of a transition; those behind the own name of an element with an `initial` attribute.
pub data Targets (g : ℕ) (q : Heard) (t : Option TargetPlan) : Type 0 where
  no_targets : names_state g ≡ false → eqb g 16 ≡ false → t ≡ None → Targets g q t
  of_transition : (x : TargetPlan) → g ≡ 16 → t ≡ Some x → x.skip ≡ 0 → Targets g q t
  of_initial : (x : TargetPlan) → names_state g ≡ true → q.initial ≡ true → t ≡ Some x → x.skip ≡ 1 → Targets g q t
  of_none : names_state g ≡ true → q.initial ≡ false → t ≡ None → Targets g q t

pub record Listed (g : ℕ) (q : Heard) (p : Plan) : Type 0 where
  pub words : Words g q p.members.words
  pub targets : Targets g q p.members.targets

-- At an end there is neither.
pub record Unlisted (p : Plan) : Type 0 where
  pub words : p.members.words ≡ None
  pub targets : p.members.targets ≡ None

-- ---- lists of handlers, by place

EachAt : {A : Type 0} → (ℕ → A → Type 0) → ℕ → List A → Type 0
EachAt P i [] = Unit {0}
EachAt P i (x ∷ xs) = P i x × EachAt P (suc i) xs

each_at : {A : Type 0} (P : ℕ → A → Type 0) (d : A) (xs : List A) (i : ℕ) → EachAt P i xs → ((j : ℕ) → i + length xs ≤ j → P j d) → (j : ℕ) → P (i + j) (get_or xs j d)
unfolding EachAt
each_at P d [] i a h j = h (i + j) (omega arith)
each_at P d (x ∷ xs) i a h zero = let e : i ≡ i + 0 = omega arith in subst (λ (k : ℕ). P k x) e a.0
each_at P d (x ∷ xs) i a h (suc j) =
    let e : suc i + j ≡ i + suc j = omega arith in
    subst (λ (k : ℕ). P k (get_or xs j d)) e (each_at P d xs (suc i) a.1 (λ k l. h k (omega (arith, l))) j)

either_on : (On : Planned → Type 0) (b : Bool) (x y : Planned) → On x → On y → On (elim b [ true ↦ x | false ↦ y ])
either_on On true x y h k = h
either_on On false x y h k = k

module _ (v : Seen) (q : Heard) where
  On : ℕ → Planned → Type 0
  On g (planned p) = Listed g q p
  On g (refused k) = ◌≡◌ {A = ℕ} 0 0

  on_unless : (g n : ℕ) (x : Planned) → On g x → On g (unless_zero_p n x)
  unfolding unless_zero_p On
  on_unless g zero x h = refl
  on_unless g (suc n) x h = h

  on_initial : (g : ℕ) (x : Planned) → On g x → On g (unless_initial_p v x)
  unfolding unless_initial_p On
  on_initial g x h = either_on (On g) (eqb v.initial.0 0) x (refused 13) h refl

  on_walked : (g : ℕ) (w : Walked) (f : ℕ → Plan) → ((e : ℕ) → On g (planned (f e))) → On g (walked_p w f)
  unfolding walked_p On
  on_walked g W.NoIf f h = refl
  on_walked g W.Nowhere f h = h 0
  on_walked g (W.Met e) f h = h e

  on_closed : (g : ℕ) (c : Option Closing) (f : Closing → Planned) → ((x : Closing) → On g (f x)) → On g (closed_p c f)
  unfolding closed_p On
  on_closed g None f h = refl
  on_closed g (Some x) f h = h x

  either : (g : ℕ) (b : Bool) (x y : Planned) → On g x → On g y → On g (elim b [ true ↦ x | false ↦ y ])
  either g = either_on (On g)

  -- An element that names no state and is no transition.
  module _ (g : ℕ) (n : names_state g ≡ false) (t : eqb g 16 ≡ false) where
    plain : (p : Plan) → p.members.words ≡ None → p.members.targets ≡ None → On g (planned p)
    unfolding On
    plain p a b = record { words = no_words a; targets = no_targets n t b }

    only_nest_lem : On g (only_nest_p v)
    unfolding only_nest_p begun idle_in
    only_nest_lem = plain _ refl refl

    entry : (h : Shape) (k : EntryKind) → On g (entry_p h k v)
    unfolding entry_p begun idle_in
    entry h k = on_unless g v.current.0 _ (plain _ refl refl)

    log : On g (log_p v q)
    unfolding log_p
    log = either g q.expr _ _ (entry H.First K.Log) only_nest_lem

    assign : On g (assign_p v q)
    unfolding assign_p
    assign = either g q.whole _ _ (entry H.Second K.Assign) (entry H.First K.Assign)

    script : On g (script_p v)
    unfolding script_p root_script_p begun idle_in
    script = either g (eqb v.parent 1) _ _ (plain _ refl refl) (entry H.First K.Script)

    block : (h : Tag) (k : EntryKind) → On g (block_p h k v)
    unfolding block_p block_plan begun idle_in
    block h k = on_unless g v.current.0 _ (plain _ refl refl)

    both_block : (k : EntryKind) → On g (both_block_p k v)
    unfolding both_block_p block_plan begun idle_in
    both_block k = on_unless g v.current.0 _ (plain _ refl refl)

    else' : On g (else_p v)
    unfolding else_p closed_p else_plan begun idle_in
    else' = on_closed g v.closed _ (λ x. on_walked g v.walk _ (λ e. plain _ refl refl))

    elseif' : On g (else_if_p v)
    unfolding else_if_p closed_p else_if_plan begun idle_in
    elseif' = on_closed g v.closed _ (λ x. on_walked g v.walk _ (λ e. plain _ refl refl))

    region : On g (region_p v)
    unfolding region_p begun idle_in fresh_p
    region = plain _ refl refl

    both_listed : (l : ListKind) → On g (both_listed_p l v)
    unfolding both_listed_p passing begun idle_in
    both_listed l = on_unless g v.state.0 _ (plain _ refl refl)

    both_finalize : On g (both_finalize_p v)
    unfolding both_finalize_p passing begun idle_in
    both_finalize = on_unless g v.state.0 _ (on_unless g v.invoke _ (plain _ refl refl))

    initial : On g (initial_p v)
    unfolding initial_p
    initial = on_unless g v.state.0 _ (on_initial g _ only_nest_lem)

    donedata : On g (donedata_p v)
    unfolding donedata_p begun idle_in
    donedata = on_unless g v.state.0 _ (plain _ refl refl)

    datum : On g (data_p v q)
    unfolding data_p begun idle_in
    datum = on_unless g v.state.0 _ (either g (eqb q.found (suc v.datums)) _ _ (plain _ refl refl) (plain _ refl refl))

    of_parent : (x y z : Planned) → On g x → On g y → On g z → On g (by_parent_p v.parent x y z)
    unfolding by_parent_p
    of_parent x y z a b c = either g (eqb v.parent 19) _ _ a (either g (eqb v.parent 8) _ _ b c)

    of_send_lem : (x : Planned) → On g x → On g (of_last_send_p v x)
    unfolding of_last_send_p On
    of_send_lem x h = either g (eqb v.kind 5) _ _ h refl

    of_invoke_lem : (x : Planned) → On g x → On g (of_last_invoke_p v x)
    unfolding of_last_invoke_p
    of_invoke_lem x h = on_unless g v.state.0 _ (on_unless g v.invoke _ h)

    of_donedata_lem : (x : Planned) → On g x → On g (of_donedata_p v x)
    unfolding of_donedata_p
    of_donedata_lem x h = on_unless g v.state.0 _ (on_unless g v.donedata _ h)

    parameter : (k : OwnerKind) (o : ℕ) → On g (parameter_p k o v)
    unfolding parameter_p begun idle_in
    parameter k o = plain _ refl refl

    param : On g (param_p v)
    unfolding param_p
    param = of_parent _ _ _ (on_unless g v.current.0 _ (of_send_lem _ (parameter O.Send v.entry))) (of_invoke_lem _ (parameter O.Invoke v.invoke)) (of_donedata_lem _ (parameter O.Donedata v.state.0))

    content : On g (content_p v q)
    unfolding content_p content_of_send_p send_content_p begun idle_in
    content =
        of_parent _ _ _ (either g (eqb v.current.0 0) _ _ only_nest_lem (of_send_lem _ (either g (q.expr || q.whole) _ _ (plain _ refl refl) only_nest_lem)))
        (of_invoke_lem _ (plain _ refl refl)) (of_donedata_lem _ (plain _ refl refl))

  -- ---- words

  send : On 19 (send_p v q)
  unfolding send_p begun idle_in On names_state among
  send = on_unless 19 v.state.0 _ (on_unless 19 v.current.0 _ (record { words = names_of_send _ refl refl refl; targets = no_targets refl refl refl }))

  invoke : On 8 (invoke_p v q)
  unfolding invoke_p begun idle_in On names_state among
  invoke = on_unless 8 v.state.0 _ (record { words = names_of_invoke _ refl refl refl; targets = no_targets refl refl refl })

  by_parent_lem : (f : Bool → Plan) → On 16 (planned (f true)) → On 16 (planned (f false)) → On 16 (transition_by f v)
  unfolding transition_by
  by_parent_lem f a b = on_unless 16 v.state.0 _ (either 16 (eqb v.parent 7) _ _ (on_initial 16 (planned (f true)) a) b)

  start_transition_lem : On 16 (start_transition_p v q)
  unfolding start_transition_p open_transition transition_plan idle_in On
  start_transition_lem =
      by_parent_lem (λ b. open_transition b v q) (record { words = events _ refl refl refl; targets = of_transition _ refl refl refl }) (record { words = events _ refl refl refl; targets = of_transition _ refl refl refl })

  both_transition : On 16 (both_transition_p v q)
  unfolding both_transition_p whole_transition transition_plan idle_in On
  both_transition =
      by_parent_lem (λ b. whole_transition b v q) (record { words = events _ refl refl refl; targets = of_transition _ refl refl refl }) (record { words = events _ refl refl refl; targets = of_transition _ refl refl refl })

  -- ---- states

  module _ (g : ℕ) (n : names_state g ≡ true) where
    declared_by : (b : Bool) → q.initial ≡ b → (x : Declared) (c : Option ChartPlan) → On g (planned (on_chart c (declared_plan b x v q)))
    unfolding declared_plan declared_members idle_in On
    declared_by true e x c = record { words = no_words refl; targets = of_initial _ n e refl refl }
    declared_by false e x c = record { words = no_words refl; targets = of_none n e refl }

    child : (x : Declared) → On g (planned (declared_plan q.initial x v q))
    unfolding declared_plan
    child x = declared_by q.initial refl x None

    both_declared_lem : (c : Option ChartPlan) (x : Declared) → On g (both_declared c q.initial x v q)
    unfolding both_declared defaulted declared_plan declared_members idle_in On
    both_declared_lem c x = on_unless g q.own.0 _ (go q.initial refl)
      where
        first : q.initial ≡ false → (f : ℕ) → On g (planned (on_chart c (defaulted f x v q)))
        first e zero = declared_by false e x c
        first e (suc f) = record { words = no_words refl; targets = of_none n e refl }

        go : (b : Bool) → q.initial ≡ b
            → On g (
            elim b [
              | true ↦ planned (on_chart c (declared_plan true x v q))
              | false ↦ elim (eqb v.own.0 0) [ true ↦ planned (on_chart c (defaulted v.eldest.0 x v q)) | false ↦ planned (on_chart c (declared_plan false x v q)) ]
            ])
        go true e = declared_by true e x c
        go false e = either g (eqb v.own.0 0) _ _ (first e v.eldest.0) (declared_by false e x c)

  -- ---- by the element's number

  abbrev Onto : ℕ → (Seen → Heard → Planned) → Type 0
  Onto g f = On g (f v q)

  starts : EachAt Onto 0 starts_p
  unfolding EachAt starts_p plain_p state_p parallel_p final_p history_p scxml_p scxml_plan names_state among
  starts = (
    only_nest_lem 0 refl refl,
    (
      declared_by 1 refl q.initial refl not_child _,
      (
        child 2 refl _,
        (
          child 3 refl _,
          (
            only_nest_lem 4 refl refl,
            (
              child 5 refl _,
              (
                child 6 refl _,
                (
                  initial 7 refl refl,
                  (
                    invoke,
                    (
                      datum 9 refl refl,
                      (
                        donedata 10 refl refl,
                        (
                          region 11 refl refl,
                          (
                            else' 12 refl refl,
                            (
                              elseif' 13 refl refl,
                              (
                                param 14 refl refl,
                                (
                                  content 15 refl refl,
                                  (
                                    start_transition_lem,
                                    (
                                      region 17 refl refl,
                                      (
                                        region 18 refl refl,
                                        (send, (entry 20 refl refl H.First K.Raise, (entry 21 refl refl H.First K.Cancel, (log 22 refl refl, (assign 23 refl refl, (block 24 refl refl G.If K.If, (block 25 refl refl G.Foreach K.Foreach, (script 26 refl refl, tt)))))))),
                                      ),
                                    ),
                                  ),
                                ),
                              ),
                            ),
                          ),
                        ),
                      ),
                    ),
                  ),
                ),
              ),
            ),
          ),
        ),
      ),
    ),
  )

  boths : EachAt Onto 0 boths_p
  unfolding EachAt boths_p plain_p parallel_p final_p history_p both_state_p both_scxml_p names_state among
  boths = (
    only_nest_lem 0 refl refl,
    (
      both_declared_lem 1 refl _ not_child,
      (
        both_declared_lem 2 refl None _,
        (
          child 3 refl _,
          (
            only_nest_lem 4 refl refl,
            (
              child 5 refl _,
              (
                child 6 refl _,
                (
                  initial 7 refl refl,
                  (
                    invoke,
                    (
                      datum 9 refl refl,
                      (
                        donedata 10 refl refl,
                        (
                          both_finalize 11 refl refl,
                          (
                            else' 12 refl refl,
                            (
                              elseif' 13 refl refl,
                              (
                                param 14 refl refl,
                                (
                                  content 15 refl refl,
                                  (
                                    both_transition,
                                    (
                                      both_listed 17 refl refl L.Onentry,
                                      (
                                        both_listed 18 refl refl L.Onexit,
                                        (
                                          send,
                                          (
                                            entry 20 refl refl H.First K.Raise,
                                            (
                                              entry 21 refl refl H.First K.Cancel,
                                              (
                                                log 22 refl refl,
                                                (
                                                  assign 23 refl refl,
                                                  (
                                                    both_block 24 refl refl K.If,
                                                    (
                                                      both_block 25 refl refl K.Foreach,
                                                      (
                                                        script 26 refl refl,
                                                        tt,
                                                      ),
                                                    ),
                                                  ),
                                                ),
                                              ),
                                            ),
                                          ),
                                        ),
                                      ),
                                    ),
                                  ),
                                ),
                              ),
                            ),
                          ),
                        ),
                      ),
                    ),
                  ),
                ),
              ),
            ),
          ),
        ),
      ),
    ),
  )

  beyond : (g : ℕ) → 27 ≤ g → On g (only_nest_p v)
  unfolding names_state among
  beyond g h = only_nest_lem g (rw (no 1 (omega arith), among, no 2 (omega arith), among, no 3 (omega arith), among, no 5 (omega arith), among, no 6 (omega arith), among)) (no 16 (omega arith))
    where
      no : (k : ℕ) → k ≤ 26 → eqb g k ≡ false
      no k l = ne_eqb g k (λ z. omega (arith, z))

  by_tag : (fs : List (Seen → Heard → Planned)) → length fs ≡ 27 → EachAt Onto 0 fs → (g : ℕ) → On g (get_or fs g (plain_p only_nest_p) v q)
  unfolding plain_p
  by_tag fs n a g =
      let e : 0 + g ≡ g = omega arith in
      subst (λ (x : ℕ). On x (get_or fs g (plain_p only_nest_p) v q)) e (each_at Onto (plain_p only_nest_p) fs 0 a (λ j l. beyond j (omega (arith, l, n))) g)

  begins : (k g : ℕ) → k ≤ 2 → On g (plan_by k g v q)
  unfolding plan_by start_p both_p starts_p boths_p
  begins zero g h = by_tag starts_p refl starts g
  begins (suc zero) g h = by_tag boths_p refl boths g
  begins (suc (suc zero)) g h = by_tag boths_p refl boths g
  begins (suc (suc (suc k))) g h = absurd (omega arith)

  -- A PLAN'S LISTS, of an element that begins.
  pub listed : (k g : ℕ) → k ≤ 2 → (p : Plan) → plan_by k g v q ≡ planned p → Listed g q p
  listed k g h p e = unfold On in subst (On g) e (begins k g h)

-- ---- of an element that ends

module _ (v : Seen) where
  Ends : Planned → Type 0
  Ends (planned p) = Unlisted p
  Ends (refused k) = ◌≡◌ {A = ℕ} 0 0

  none : (p : Plan) → p.members.words ≡ None → p.members.targets ≡ None → Ends (planned p)
  unfolding Ends
  none p a b = record { words = a; targets = b }

  ends_unless : (n : ℕ) (x : Planned) → Ends x → Ends (unless_zero_p n x)
  unfolding unless_zero_p Ends
  ends_unless zero x h = refl
  ends_unless (suc n) x h = h

  ends_closed : (c : Option Closing) (f : Closing → Planned) → ((x : Closing) → Ends (f x)) → Ends (closed_p c f)
  unfolding closed_p Ends
  ends_closed None f h = refl
  ends_closed (Some x) f h = h x

  rest : Ends (rest_p v)
  unfolding rest_p idle_in
  rest = none _ refl refl

  default : (s z f : ℕ) → Ends (default_p s z f v)
  unfolding default_p default_to idle_in
  default s z f = ends_unless s _ (either_on Ends (eqb z 0) _ _ (to f) (none _ refl refl))
    where
      to : (f : ℕ) → Ends (planned (default_to s f v))
      to zero = none _ refl refl
      to (suc f) = none _ refl refl

  end_block_lem : Ends (end_block_p v)
  unfolding end_block_p closed_p ended idle_in
  end_block_lem = ends_closed v.closed _ (λ x. none _ refl refl)

  end_listed_lem : (l : ListKind) → Ends (end_listed_p l v)
  unfolding end_listed_p closed_p ended idle_in
  end_listed_lem l = ends_closed v.closed _ (λ x. ends_unless v.state.0 _ (none _ refl refl))

  end_finalize_lem : Ends (end_finalize_p v)
  unfolding end_finalize_p closed_p ended idle_in
  end_finalize_lem = ends_closed v.closed _ (λ x. ends_unless v.state.0 _ (ends_unless v.invoke _ (none _ refl refl)))

  end_transition_lem : Ends (end_transition_p v)
  unfolding end_transition_p closed_p ended idle_in
  end_transition_lem = ends_closed v.closed _ (λ x. ends_unless v.transition.0 _ (none _ refl refl))

  abbrev Onto-end : ℕ → (Seen → Planned) → Type 0
  Onto-end g f = Ends (f v)

  ends : EachAt Onto-end 0 ends_p
  unfolding EachAt ends_p end_scxml_p end_state_p
  ends = (
    rest,
    (
      default v.root.0 v.begins.0 v.child.0,
      (
        default v.state.0 v.initial.0 v.first.0,
        (
          rest,
          (
            rest,
            (
              rest,
              (
                rest,
                (
                  rest,
                  (
                    rest,
                    (
                      rest,
                      (
                        rest,
                        (
                          end_finalize_lem,
                          (
                            rest,
                            (
                              rest,
                              (
                                rest,
                                (
                                  rest,
                                  (
                                    end_transition_lem,
                                    (
                                      end_listed_lem L.Onentry,
                                      (end_listed_lem L.Onexit, (rest, (rest, (rest, (rest, (rest, (end_block_lem, (end_block_lem, tt)))))))),
                                    ),
                                  ),
                                ),
                              ),
                            ),
                          ),
                        ),
                      ),
                    ),
                  ),
                ),
              ),
            ),
          ),
        ),
      ),
    ),
  )

  -- A PLAN'S LISTS, of an element that ends.
  pub unlisted : (q : Heard) (k g : ℕ) (p : Plan) → plan_by (suc (suc (suc k))) g v q ≡ planned p → Unlisted p
  unfolding plan_by end_p
  unlisted q k g p e = unfold Ends in subst Ends e (each_at Onto-end rest_p ends_p 0 ends (λ j l. rest) g)
