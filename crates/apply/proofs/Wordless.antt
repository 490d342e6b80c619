-- A plan names no shape of words for a row: only a transition, a send and an invoke have one.
use Prim.Native.Nat.{ℕ, zero, suc}
use mathlib.Core.Path.{◌≡◌, refl, sym, ap, ◌∙◌, subst}
use mathlib.Core.Bool.{Bool, true, false, ◌&&◌, ◌||◌}
use lib.Dec.{eqb}
use borrow.Author.Tests.{eqb-true}
use Rattle.std.specs.Prelude.{Option, Some, None, IfSome, ⊤}
use Rattle.words.proofs.Laws.{by}
use Rattle.plan.specs.declared.Plan.{Plan}
use Rattle.plan.specs.declared.Shape.{Shape}
use Rattle.plan.specs.declared.Shape.TheVariants as S
use Rattle.plan.specs.declared.Closing.{Closing}
use Rattle.plan.specs.declared.Seen.{Seen}
use Rattle.plan.specs.declared.Heard.{Heard}
use Rattle.plan.specs.Ids.{shape_number}
use Rattle.plan.specs.Plan.{Planned, planned, refused}
use Rattle.plan.specs.Plans.{unless_zero_p, unless_initial_p, closed_p, idle_in, begun, ended, rest_p, send_p, invoke_p, transition_plan, open_transition, whole_transition, transition_by, start_transition_p, both_transition_p, end_transition_p, starts_p, boths_p, ends_p, start_p, both_p, end_p, plan_by}
use Rattle.fill.specs.Fill.{is_words}
use Rattle.entries.proofs.Clean.{all, Wordless}

-- Every row that is filled with texts of the element g is filled in a shape without words.
pub record Unworded (g : ℕ) (p : Plan) : Type 0 where
  pub states : IfSome p.states (λ x. IfSome x.texts (Wordless g))
  pub transitions : IfSome p.transitions.added (λ x. IfSome x.texts (Wordless g))
  pub entries : IfSome p.entries.added (λ x. Wordless g x.shape)
  pub invokes : IfSome p.invokes.altered (λ x. x.filled ≡ true → Wordless g S.Second)
  pub datums : IfSome p.datums.added (λ x. Wordless g x.shape)
  pub changed : IfSome p.datums.altered (λ x. Wordless g x.shape)

-- ---- an element that has no shape of words

unworded : (g : ℕ) (p : Plan) → ((h : Shape) → Wordless g h) → Unworded g p
unworded g p w =
    record {
      states = all p.states (λ x. all x.texts w);
      transitions = all p.transitions.added (λ x. all x.texts w);
      entries = all p.entries.added (λ x. w x.shape);
      invokes = all p.invokes.altered (λ x z. w S.Second);
      datums = all p.datums.added (λ x. w x.shape);
      changed = all p.datums.altered (λ x. w x.shape);
    }

-- ---- the three that have one

On : ℕ → Planned → Type 0
On g (planned p) = Unworded g p
On g (refused k) = ⊤

module _ (g : ℕ) (v : Seen) (q : Heard) where
  on_unless : (n : ℕ) (x : Planned) → On g x → On g (unless_zero_p n x)
  unfolding unless_zero_p On
  on_unless zero x h = tt
  on_unless (suc n) x h = h

  on_initial : (x : Planned) → On g x → On g (unless_initial_p v x)
  unfolding unless_initial_p On
  on_initial x h = go (eqb v.initial.0 0)
    where
      go : (b : Bool) → On g (elim b [ true ↦ x | false ↦ refused 13 ])
      go true = h
      go false = tt

  on_closed : (c : Option Closing) (f : Closing → Planned) → ((x : Closing) → On g (f x)) → On g (closed_p c f)
  unfolding closed_p On
  on_closed None f h = tt
  on_closed (Some x) f h = h x

  on_send : On g (send_p v q)
  unfolding send_p begun idle_in On is_words
  on_send = on_unless v.state.0 _ (on_unless v.current.0 _ (record { states = tt; transitions = tt; entries = refl; invokes = tt; datums = tt; changed = tt }))

  on_invoke : On g (invoke_p v q)
  unfolding invoke_p begun idle_in On
  on_invoke = on_unless v.state.0 _ (record { states = tt; transitions = tt; entries = tt; invokes = tt; datums = tt; changed = tt })

  on_rest : On g (rest_p v)
  unfolding rest_p idle_in On
  on_rest = record { states = tt; transitions = tt; entries = tt; invokes = tt; datums = tt; changed = tt }

  on_transition : (f : Bool → Plan) → Unworded g (f true) → Unworded g (f false) → On g (transition_by f v)
  unfolding transition_by On
  on_transition f a b = on_unless v.state.0 _ (go (eqb v.parent 7))
    where
      go : (c : Bool) → On g (elim c [ true ↦ unless_initial_p v (planned (f true)) | false ↦ planned (f false) ])
      go true = on_initial (planned (f true)) a
      go false = b

  on_start : On g (start_transition_p v q)
  unfolding start_transition_p open_transition transition_plan idle_in is_words
  on_start =
      on_transition (λ b. open_transition b v q) (record { states = tt; transitions = refl; entries = tt; invokes = tt; datums = tt; changed = tt })
      (record { states = tt; transitions = refl; entries = tt; invokes = tt; datums = tt; changed = tt })

  on_both : On g (both_transition_p v q)
  unfolding both_transition_p whole_transition transition_plan idle_in is_words
  on_both =
      on_transition (λ b. whole_transition b v q) (record { states = tt; transitions = refl; entries = tt; invokes = tt; datums = tt; changed = tt })
      (record { states = tt; transitions = refl; entries = tt; invokes = tt; datums = tt; changed = tt })

  on_end : On g (end_transition_p v)
  unfolding end_transition_p ended idle_in On
  on_end = on_closed v.closed _ (λ x. on_unless v.transition.0 _ (record { states = tt; transitions = tt; entries = tt; invokes = tt; datums = tt; changed = tt }))

  on_8 : (k : ℕ) → On g (plan_by k 8 v q)
  unfolding plan_by start_p both_p end_p starts_p boths_p ends_p
  on_8 zero = on_invoke
  on_8 (suc zero) = on_invoke
  on_8 (suc (suc zero)) = on_invoke
  on_8 (suc (suc (suc k))) = on_rest

  on_16 : (k : ℕ) → On g (plan_by k 16 v q)
  unfolding plan_by start_p both_p end_p starts_p boths_p ends_p
  on_16 zero = on_start
  on_16 (suc zero) = on_both
  on_16 (suc (suc zero)) = on_both
  on_16 (suc (suc (suc k))) = on_end

  on_19 : (k : ℕ) → On g (plan_by k 19 v q)
  unfolding plan_by start_p both_p end_p starts_p boths_p ends_p
  on_19 zero = on_send
  on_19 (suc zero) = on_send
  on_19 (suc (suc zero)) = on_send
  on_19 (suc (suc (suc k))) = on_rest

  -- What `Fits` asks of shapes.
  pub wordless : (k : ℕ) (p : Plan) → plan_by k g v q ≡ planned p → Unworded g p
  unfolding is_words On
  wordless k p e =
      by (eqb g 8) (λ a. one 8 a (on_8 k))
      (λ a. by (eqb g 16) (λ b. one 16 b (on_16 k)) (λ b. by (eqb g 19) (λ c. one 19 c (on_19 k)) (λ c. unworded g p (λ h. other a b c (shape_number h)))))
    where
      one : (i : ℕ) → eqb g i ≡ true → On g (plan_by k i v q) → Unworded g p
      one i z o = subst (On g) e (subst (λ (x : ℕ). On g (plan_by k x v q)) (sym (eqb-true g i z)) o)

      last : (x : Bool) → (x && false) ≡ false
      last true = refl
      last false = refl

      other : eqb g 8 ≡ false → eqb g 16 ≡ false → eqb g 19 ≡ false → (h : ℕ) → is_words g h ≡ false
      other a b c h = ap (λ (x : Bool). eqb h 1 && (x || eqb g 16 || eqb g 19)) a ∙ ap (λ (x : Bool). eqb h 1 && (x || eqb g 19)) b ∙ ap (λ (x : Bool). eqb h 1 && x) c ∙ last (eqb h 1)
