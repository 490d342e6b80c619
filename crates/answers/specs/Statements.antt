-- Demand 1: which numbers are answered, what a refusal leaves, and that 15 is exact.
use Rattle.std.specs.Prelude.{ℕ, suc, ◌≤◌, ◌≡◌, true, false, List, [], ◌∷◌}
use Rattle.std.proofs.Math.Option.{some}
use Rattle.definition.specs.declared.Limits.{Limits}
use Rattle.definition.specs.declared.Position.{Position}
use Rattle.definition.specs.Elements.{among}
use Rattle.definition.specs.Event.{Event, read_event, in_form, keys_differ}
use Rattle.definition.specs.Rows.{Numbers, Store}
use Rattle.definition.specs.Look.{look}
use Rattle.definition.specs.Change.{entered}
use Rattle.definition.specs.Rules.{within_limits}
use Rattle.definition.specs.Reader.{accept, handled, first_no, questions, event_reply, Lent, store_of, Call, event, reading, Answer, call, no_row, long_enough, in_order}

-- ---- which numbers are answered

-- An event gets 0 or a number 1 to 15.
abbrev pub EventAnswers : Type 0
EventAnswers = (L : Limits) (x : Lent) (p : Position) (raw : List ℕ) → (call L x p (event raw)).number ≤ 15

-- "Reading a row, by kind and number, puts 1, 2 and 16 only."
abbrev pub ReadingAnswers : Type 0
ReadingAnswers = (L : Limits) (x : Lent) (p : Position) (t i : ℕ) → among (call L x p (reading t i)).number (0 ∷ 1 ∷ 2 ∷ 16 ∷ []) ≡ true

-- ---- what a refusal leaves

-- A refused event leaves the store as it was.
abbrev pub RefusalKeeps : Type 0
RefusalKeeps = (L : Limits) (s : Store) (raw : List ℕ) (k : ℕ) → (event_reply L s raw).number ≡ suc k → (event_reply L s raw).store ≡ s

-- "Nothing lent has changed then; the reading position comes back as it was, and a row asked for is all zeros."
pub record Untouched (x : Lent) (p : Position) (a : Answer) : Type 0 where
  pub row : a.row ≡ no_row
  pub lent : a.lent ≡ x
  pub position : a.position ≡ p

abbrev pub CallRefused : Type 0
CallRefused = (L : Limits) (x : Lent) (p : Position) (c : Call) (k : ℕ) → (call L x p c).number ≡ suc k → Untouched x p (call L x p c)

-- A reading changes nothing.
abbrev pub ReadingKeeps : Type 0
ReadingKeeps = (L : Limits) (x : Lent) (p : Position) (t i : ℕ) → ((call L x p (reading t i)).lent ≡ x) × ((call L x p (reading t i)).position ≡ p)

-- ---- 15 is exact

-- The event is read, the questions 3 to 12 are yes, and its handlers make `grown` of the store's numbers.
pub record Grows (L : Limits) (s : Store) (raw : List ℕ) (grown : Numbers) : Type 0 where
  pub event : Event
  pub read : read_event raw ≡ some event
  pub form : in_form L event ≡ true
  pub keys : keys_differ event.attributes ≡ true
  pub asked : first_no (questions L s.numbers (look s event)) ≡ 0
  pub made : handled (look s event).kind (look s event) (entered (look s event) s.numbers) ≡ accept grown

-- 15 is exact: it is answered only where the chart, grown by the event, passes a limit,
abbrev pub FifteenOnly : Type 0
FifteenOnly =
    (L : Limits) (x : Lent) (p : Position) (raw : List ℕ) → (call L x p (event raw)).number ≡ 15
    → (grown : Numbers) × Grows L (store_of x p) raw grown × (within_limits L grown ≡ false)

-- and always there.
abbrev pub FifteenAlways : Type 0
FifteenAlways =
    (L : Limits) (x : Lent) (p : Position) (raw : List ℕ) (grown : Numbers) → long_enough L x ≡ true → in_order L x p ≡ true → Grows L (store_of x p) raw grown
    → within_limits L grown ≡ false → (call L x p (event raw)).number ≡ 15
