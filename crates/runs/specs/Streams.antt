-- What is claimed of a stream: it is its events called one after another, up to the first refusal; and it may ask the questions 1 and 2 once.
use Rattle.std.specs.Prelude.{ℕ, zero, suc, ◌≡◌, true, List, [], ◌∷◌, map, length, leb}
use Rattle.definition.specs.declared.Limits.{Limits}
use Rattle.definition.specs.declared.Position.{Position}
use Rattle.definition.specs.Event.{events_of}
use Rattle.definition.specs.Reader.{Lent, event, Answer, answer_to, run, long_enough, in_order, Streamed, streamed, stream}

-- The answers before the first refusal.
unfoldable pub accepted : List Answer → List Answer
accepted [] = []
accepted (a ∷ as₁) = elim a.number [ zero ↦ a ∷ accepted as₁ | suc k ↦ [] ]

-- The first number that is not 0; 0 where there is none.
unfoldable pub refusal : List Answer → ℕ
refusal [] = 0
refusal (a ∷ as₁) = elim a.number [ zero ↦ refusal as₁ | suc k ↦ suc k ]

-- What the last of some answers left and gave back.
unfoldable pub lent_by : Lent → List Answer → Lent
lent_by x [] = x
lent_by x (a ∷ as₁) = lent_by a.lent as₁

unfoldable pub position_by : Position → List Answer → Position
position_by p [] = p
position_by p (a ∷ as₁) = position_by a.position as₁

-- The refused event's place, from 1; 0 where all are accepted.
unfoldable pub place : List Answer → ℕ
unfolding accepted refusal
place as₁ = elim (refusal as₁) [ zero ↦ 0 | suc k ↦ suc (length (accepted as₁)) ]

unfoldable pub summed : Lent → Position → List Answer → Streamed
unfolding accepted refusal lent_by position_by place
summed x p as₁ = record { number = refusal as₁; event = place as₁; lent = lent_by x (accepted as₁); position = position_by p (accepted as₁) }

abbrev pub StreamIsRun : Type 0
StreamIsRun = (L : Limits) (x : Lent) (p : Position) (text : List ℕ) → stream L x p text ≡ summed x p (run L x p (map event (events_of text)))

-- As `streamed`, but each event is answered without the questions 1 and 2.
unfoldable pub unasked : Limits → Lent → Position → ℕ → List (List ℕ) → Streamed
unfolding answer_to
unasked L x p i [] = record { number = 0; event = 0; lent = x; position = p }
unasked L x p i (e ∷ es) =
    let a : Answer = answer_to L x p (event e) in
    elim a.number [
      | zero ↦ unasked L a.lent a.position (suc i) es
      | suc k ↦ record { number = suc k; event = suc i; lent = x; position = p }
    ]

-- Where they are yes at the start of a stream, they need not be asked again.
abbrev pub AskedOnce : Type 0
AskedOnce =
    (L : Limits) (x : Lent) (p : Position) (i : ℕ) (es : List (List ℕ)) → leb L.name 64 ≡ true → long_enough L x ≡ true → in_order L x p ≡ true
    → streamed L x p i es ≡ unasked L x p i es
