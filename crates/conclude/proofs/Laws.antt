-- What is settled is the definition's answer.
use Prim.Native.Nat.{ℕ, zero, suc, ◌<◌}
use mathlib.Core.Path.{◌≡◌, refl, sym, ap, ◌∙◌}
use native.Mathlib.Omega.{arith}
use borrow.Author.Rules.{rules}
use Rattle.definition.specs.declared.Position.{Position}
use Rattle.definition.specs.Event.{Event}
use Rattle.definition.specs.Rows.{Store}
use Rattle.definition.specs.Reader.{Lent, store_of, answer_of, refused, lent_after, position_of}
use Rattle.plain.specs.Plain.{Parsed}
use Rattle.whole.specs.Accepted.{Ready, afterwards}
use Rattle.write.specs.Leaves.{Leaves}
use Rattle.definition.specs.Codes.{refusal_number}
use Rattle.definition.specs.declared.codes.Refusal.{Refusal}
use Rattle.plan.specs.declared.Effect.{Effect}
use Rattle.settle.specs.Settled.{Takes, Refuses}
use Rattle.conclude.specs.Fed.{given, Answers}

refused_answer : (x : Lent) (p : Position) (s : Store) (k : ℕ) → 0 < k → given k p x ≡ answer_of x p (record { number = k; store = s })
unfolding answer_of refused
refused_answer x p s zero h = absurd (omega arith)
refused_answer x p s (suc k) h = refl

refusal_is : (k : Refusal) → 0 < refusal_number k
refusal_is k = search rules

pub is_refused : (x : Lent) (p : Position) (v : Parsed) (k : Refusal) → Refuses x p v k → Answers x p v (given (refusal_number k) p x)
is_refused x p v k S A = refused_answer x p (store_of x p) (refusal_number k) (refusal_is k) ∙ ap (answer_of x p) (sym (S A))

pub is_accepted : (x : Lent) (p : Position) (v : Parsed) (f : Effect) → Takes x p v f → (y : Lent) (u : Position) → Leaves x p v f.plan.now y u → Answers x p v (given 0 u y)
unfolding answer_of
is_accepted x p v f S y u W A =
    let R : Ready x p v f.plan.now f.made f.charge = S.ready A in
    let l : y ≡ lent_after x (afterwards (store_of x p) A.event f.plan.now) = W.lent R.accepted ∙ ap (λ (e : Event). lent_after x (afterwards (store_of x p) e f.plan.now)) (S.same A) in
    let q : u ≡ position_of (afterwards (store_of x p) A.event f.plan.now) = W.position R.accepted ∙ ap (λ (e : Event). position_of (afterwards (store_of x p) e f.plan.now)) (S.same A) in
    (λ i. given 0 (q i) (l i)) ∙ ap (answer_of x p) (sym (S.reply A))
