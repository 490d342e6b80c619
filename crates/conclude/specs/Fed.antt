-- What is answered to an event.
use Rattle.std.specs.Prelude.{ℕ, ◌≡◌}
use Rattle.std.proofs.Math.Option.{some}
use Rattle.definition.specs.declared.Position.{Position}
use Rattle.definition.specs.Limits.{limits01}
use Rattle.definition.specs.Reader.{Lent, Answer, no_row, store_of, reply_to, answer_of}
use Rattle.plain.specs.Plain.{Parsed}
use Rattle.settle.specs.Settled.{InForm}

-- An event gives no row.
abbrev pub given : ℕ → Position → Lent → Answer
given k q x = record { number = k; row = no_row; lent = x; position = q }

-- a is the definition's answer to the event of which v is parsed.
abbrev pub Answers : Lent → Position → Parsed → Answer → Type 0
Answers x p v a = (A : InForm x p v) → a ≡ answer_of x p (reply_to limits01 (store_of x p) (some A.event))
