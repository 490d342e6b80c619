-- Lines and events of a stream, by their lengths.
use Rattle.std.specs.Prelude.{ℕ, suc, Bool, true, false, ◌&&◌, List, [], ◌∷◌, eqb}
use Rattle.std.proofs.Math.Option.{none, some}
use Rattle.definition.specs.Event.{after, begins_event}

-- How many bytes stand before the first byte 10, or before the end.
unfoldable pub line_length : List ℕ → ℕ
line_length [] = 0
line_length (b ∷ bs) = elim (eqb b 10) [ true ↦ 0 | false ↦ suc (line_length bs) ]

-- Whether a line begins with a head.
unfoldable pub has_head : List ℕ → List ℕ → Bool
unfolding after
has_head h l = elim (after h l) [ some v ↦ true | none ↦ false ]

-- How many bytes stand before the next line that begins an event; `start` says that a line begins.
unfoldable pub rest_length : Bool → List ℕ → ℕ
unfolding begins_event
rest_length start [] = 0
rest_length start (b ∷ bs) = elim (start && begins_event (b ∷ bs)) [ true ↦ 0 | false ↦ suc (rest_length (eqb b 10) bs) ]

-- The length of a stream's first event.
unfoldable pub event_length : List ℕ → ℕ
unfolding rest_length
event_length [] = 0
event_length (b ∷ bs) = suc (rest_length (eqb b 10) bs)
