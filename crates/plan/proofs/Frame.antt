-- Every handler's law is put together from laws of its tests; what is left of each is one equation of stores for each way to be done.
use Prim.Native.Nat.{ℕ, zero, suc}
use mathlib.Core.Path.{◌≡◌, refl, sym, ap, ◌∙◌, subst}
use mathlib.Core.Bool.{Bool, true, false}
use mathlib.Core.Option as Perhaps
use mathlib.Core.List.{reverse, reverse-reverse}
use lib.ListN.{length, take}
use lib.Dec.{eqb}
use native.Mathlib.Omega.{arith}
use Rattle.std.specs.Prelude.{Option, Some, None}
use Rattle.definition.specs.Rows.{Table, table, Numbers, table_of, current_state}
use Rattle.definition.specs.Look.{Look}
use Rattle.definition.specs.Change.{Change, Outcome, done, refuse, nothing, made, pushed, popped, unless_zero, Closed, closed_by, on_closed, closing}
use Rattle.definition.specs.States.{initial_of, unless_initial}
use Rattle.definition.specs.Reader.{Verdict, accept, reject, on_done, end_of, finished}
use Rattle.definition.proofs.Changes.{without_snoc}
use Rattle.plan.specs.declared.Plan.{Plan}
use Rattle.plan.specs.Plan.{Planned, planned, refused}
use Rattle.plan.specs.After.{applied, verdict_of}
use Rattle.plan.specs.declared.Closing.{Closing}
use Rattle.plan.specs.Seen.{closed_at, closes, seen}
use Rattle.plan.specs.Plans.{unless_zero_p, closed_p, closing_p, unless_initial_p}
use Rattle.plan.proofs.Laws.{regions_of, closed_is}

-- What is done with a change: an element's start, its end, or both.
abbrev pub Next : Type 0
Next = Change → Verdict

abbrev pub to_open : Look → Numbers → Next
to_open l n c = accept (pushed l c (made l c n))

abbrev pub to_end : Look → Numbers → Next
to_end l n c = accept (popped (made l c n))

abbrev pub to_both : Look → Numbers → Next
to_both l n c = finished l (pushed l c (made l c n))

module _ (m : ℕ) (l : Look) (n : Numbers) (k : Next) where
  -- THE LAW of an outcome and a plan.
  abbrev pub Meets : Outcome → Planned → Type 0
  Meets o P = on_done o k ≡ verdict_of m l n P

  pub by_unless : (s : ℕ) (o : Outcome) (P : Planned) → (¬ (s ≡ 0) → Meets o P) → Meets (unless_zero s o) (unless_zero_p s P)
  unfolding on_done verdict_of unless_zero unless_zero_p
  by_unless zero o P h = refl
  by_unless (suc s) o P h = h (omega arith)

  -- The number that is tested is the same, told in another way.
  pub by_unless_as : (s t : ℕ) → s ≡ t → (o : Outcome) (P : Planned) → Meets o P → Meets (unless_zero s o) (unless_zero_p t P)
  by_unless_as s t e o P h = subst (λ (x : ℕ). Meets (unless_zero s o) (unless_zero_p x P)) e (by_unless s o P (λ z. h))

  pub by_either : (b : Bool) (o q : Outcome) (P Q : Planned) → (b ≡ true → Meets o P) → (b ≡ false → Meets q Q) → Meets (elim b [ true ↦ o | false ↦ q ]) (elim b [ true ↦ P | false ↦ Q ])
  by_either true o q P Q h g = h refl
  by_either false o q P Q h g = g refl

  pub by_initial : (o : Outcome) (P : Planned) → Meets o P → Meets (unless_initial n o) (unless_initial_p (seen n l) P)
  unfolding unless_initial unless_initial_p seen on_done verdict_of
  by_initial o P h = by_either (eqb (initial_of n (current_state n)) 0) o (refuse 13) P (refused 13) (λ e. h) (λ e. refl)

  -- The change that has nothing but a region closed.
  abbrev pub left : Closing → Change
  left x =
      let c : Change = nothing n in
      record {
        edits = c.edits;
        regions = reverse (take x.kept (table_of n table.open_regions));
        current = x.current.0;
        ids = c.ids;
        docs = c.docs;
        state = c.state;
        transition = c.transition;
      }

  by_closed : (y : Option Closing) (next : Change → Outcome) (P : Closing → Planned) → ((x : Closing) → y ≡ Some x → Meets (next (left x)) (P x))
      → Meets (on_closed (regions_of (table_of n table.open_regions) y) (nothing n) next) (closed_p y P)
  unfolding on_closed closed_p regions_of on_done verdict_of
  by_closed None next P h = refl
  by_closed (Some x) next P h = h x refl

  pub by_closing : (g : ℕ) → closes l.tag ≡ g → (next : Change → Outcome) (P : Closing → Planned) → ((x : Closing) → (seen n l).closed ≡ Some x → Meets (next (left x)) (P x)) → Meets (closing g (nothing n) next) (closing_p (seen n l) P)
  unfolding closing nothing seen
  by_closing g e next P h =
      let rs : Table = table_of n table.open_regions in
      ap (λ (z : Perhaps.Option Closed). on_done (on_closed z (nothing n) next) k) (ap (λ (x : ℕ). closed_by x (reverse rs) n.current) (sym e) ∙ closed_is (closes l.tag) rs n.current)
      ∙ by_closed (closed_at (closes l.tag) rs (length rs) n.current) next P h

-- ---- a start and an end as one event: the end goes on from the store that the start's plan leaves

unfoldable then_v : Verdict → (Numbers → Verdict) → Verdict
then_v (accept n) f = f n
then_v (reject k) f = reject k

both_then : (l : Look) (n : Numbers) (o : Outcome) → on_done o (to_both l n) ≡ then_v (on_done o (to_open l n)) (finished l)
unfolding on_done then_v
both_then l n (done c) = refl
both_then l n (refuse k) = refl

pub by_then : (l : Look) (n : Numbers) (o : Outcome) (p : Plan) (P Q : Planned) → Meets 0 l n (to_open l n) o (planned p) → let m = applied 0 l p n in Meets 2 l m (to_end l m) (end_of l.tag m) P
    → verdict_of 2 l m P ≡ verdict_of 1 l n Q → Meets 1 l n (to_both l n) o Q
unfolding then_v verdict_of finished
by_then l n o p P Q h g e = both_then l n o ∙ ap (λ (v : Verdict). then_v v (finished l)) h ∙ g ∙ e

-- ---- elements that do nothing at their end

module _ (l : Look) (n : Numbers) (idle-end : (m : Numbers) → end_of l.tag m ≡ done (nothing m)) where
  end_plain : (P : Planned) → then_v (verdict_of 0 l n P) (finished l) ≡ verdict_of 1 l n P
  unfolding then_v verdict_of finished
  end_plain (refused k) = refl
  end_plain (planned p) =
      let m : Numbers = applied 0 l p n in
      ap (λ (o : Outcome). on_done o (λ c. accept (popped (made l c m)))) (idle-end m)
      ∙ rw (reverse-reverse, without_snoc, without_snoc)

  pub by_plain : (o : Outcome) (P : Planned) → Meets 0 l n (to_open l n) o P → Meets 1 l n (to_both l n) o P
  by_plain o P h = both_then l n o ∙ ap (λ (v : Verdict). then_v v (finished l)) h ∙ end_plain P
