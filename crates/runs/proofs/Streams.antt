-- A stream is its events called one after another, up to the first refusal; and it may ask the questions 1 and 2 once.
use Prim.Native.Nat.{ℕ, zero, suc, ◌+◌}
use mathlib.Core.Path.{◌≡◌, refl, sym, ap, ◌∙◌}
use mathlib.Core.Bool.{true}
use mathlib.Core.List.{List, [], ◌∷◌, map}
use lib.ListN.{length}
use native.Mathlib.Omega.{arith}
use Rattle.definition.specs.declared.Limits.{Limits}
use Rattle.definition.specs.declared.Position.{Position}
use Rattle.definition.specs.Event.{events_of}
use Rattle.definition.specs.Reader.{Lent, Call, event, Answer, answer_to, call, run, long_enough, in_order, Streamed, streamed, stream}
use Rattle.runs.specs.Streams.{accepted, refusal, lent_by, position_by, place, summed, StreamIsRun, unasked, AskedOnce}
use Rattle.kept.proofs.Lending.{stays_in_order}

-- What one more event does to a stream of which the rest gives z: a number that is not 0 ends it.
unfoldable step : ℕ → Streamed → ℕ → Lent → Position → Streamed
step k z i x p = elim k [ zero ↦ z | suc j ↦ record { number = suc j; event = suc i; lent = x; position = p } ]

-- ---- a stream is a run

-- `summed` after i more events: k is the refusal, bs are the accepted.
unfoldable told : ℕ → Lent → Position → ℕ → List Answer → Streamed
unfolding lent_by position_by
told i x p k bs = record { number = k; event = elim k [ zero ↦ 0 | suc j ↦ suc (i + length bs) ]; lent = lent_by x bs; position = position_by p bs }

told_more : (i : ℕ) (x : Lent) (p : Position) (k : ℕ) (a : Answer) (bs : List Answer) → told i x p k (a ∷ bs) ≡ told (suc i) a.lent a.position k bs
unfolding told
told_more i x p zero a bs = refl
told_more i x p (suc k) a bs =
    ap (λ (n : ℕ). record { number = suc k; event = n; lent = lent_by a.lent bs; position = position_by a.position bs }) (omega arith)

told_end : (i : ℕ) (x : Lent) (p : Position) (k : ℕ) → record { number = suc k; event = suc i; lent = x; position = p } ≡ told i x p (suc k) []
unfolding told
told_end i x p k = ap (λ (n : ℕ). record { number = suc k; event = n; lent = x; position = p }) (omega arith)

cons_is : (a : Answer) (as₁ : List Answer) (z : Streamed) (i : ℕ) (x : Lent) (p : Position) → z ≡ told (suc i) a.lent a.position (refusal as₁) (accepted as₁)
    → step a.number z i x p ≡ told i x p (refusal (a ∷ as₁)) (accepted (a ∷ as₁))
unfolding step refusal accepted
cons_is a as₁ z i x p h = at a.number
  where
    at : (k : ℕ) → step k z i x p ≡ told i x p (elim k [ zero ↦ refusal as₁ | suc j ↦ suc j ]) (elim k [ zero ↦ a ∷ accepted as₁ | suc j ↦ [] ])
    at zero = h ∙ sym (told_more i x p (refusal as₁) a (accepted as₁))
    at (suc k) = told_end i x p k

streamed_is : (L : Limits) (x : Lent) (p : Position) (i : ℕ) (es : List (List ℕ))
    → streamed L x p i es ≡ told i x p (refusal (run L x p (map event es))) (accepted (run L x p (map event es)))
unfolding streamed step run refusal accepted told
streamed_is L x p i [] = refl
streamed_is L x p i (e ∷ es) =
    let a : Answer = call L x p (event e) in
    cons_is a (run L a.lent a.position (map event es)) (streamed L a.lent a.position (suc i) es) i x p (streamed_is L a.lent a.position (suc i) es)

summed_is : (x : Lent) (p : Position) (as₁ : List Answer) → told 0 x p (refusal as₁) (accepted as₁) ≡ summed x p as₁
unfolding told summed place
summed_is x p as₁ = at (refusal as₁) (accepted as₁)
  where
    at : (k : ℕ) (bs : List Answer) → told 0 x p k bs ≡ record { number = k; event = elim k [ zero ↦ 0 | suc j ↦ suc (length bs) ]; lent = lent_by x bs; position = position_by p bs }
    at zero bs = refl
    at (suc k) bs = ap (λ (n : ℕ). record { number = suc k; event = n; lent = lent_by x bs; position = position_by p bs }) (omega arith)

-- A STREAM IS ITS EVENTS CALLED ONE AFTER ANOTHER, UP TO THE FIRST REFUSAL.
pub stream_is_run : StreamIsRun
unfolding stream
stream_is_run L x p text = streamed_is L x p 0 (events_of text) ∙ summed_is x p (run L x p (map event (events_of text)))

-- ---- asked once

answered : (L : Limits) (x : Lent) (p : Position) (c : Call) → long_enough L x ≡ true → in_order L x p ≡ true → call L x p c ≡ answer_to L x p c
unfolding call
answered L x p c long order = rw (long, call, order, call)

-- WHERE THE QUESTIONS 1 AND 2 ARE YES AT ITS START, A STREAM NEED NOT ASK THEM AGAIN.
pub asked_once : AskedOnce
unfolding streamed unasked step
asked_once L x p i [] short long order = refl
asked_once L x p i (e ∷ es) short long order =
    let a : Answer = call L x p (event e) in
    let next = stays_in_order L x p (event e) short long order in
    ap (λ (z : Streamed). step a.number z i x p) (asked_once L a.lent a.position (suc i) es short next.0 next.1)
    ∙ ap (λ (b : Answer). step b.number (unasked L b.lent b.position (suc i) es) i x p) (answered L x p (event e) long order)
