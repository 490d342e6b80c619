-- What is claimed of stores that events lead to from the empty chart. "No events from the empty chart lead there, and that is proved."
use Rattle.std.specs.Prelude.{ℕ, ◌≡◌, List, [], ◌∷◌}
use Rattle.definition.specs.declared.Limits.{Limits}
use Rattle.definition.specs.Rows.{empty}
use Rattle.definition.specs.Reader.{event_reply, Answer}
use Rattle.reached.specs.Fed.{fed}

-- An event after any list of events meets no internal error.
abbrev pub NoInternalError : Type 0
NoInternalError = (L : Limits) (raws : List (List ℕ)) (raw : List ℕ) → ¬ ((event_reply L (fed L empty raws) raw).number ≡ 2)

-- No answer of a list is 2.
unfoldable pub NoneIsTwo : List Answer → Type 0
NoneIsTwo [] = Unit {0}
NoneIsTwo (a ∷ as') = ¬ (a.number ≡ 2) × NoneIsTwo as'
