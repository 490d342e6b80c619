-- Bytes that are one event.
use Rattle.std.specs.Prelude.{ℕ, true, false, List, [], ◌∷◌, length, ltb}
use Rattle.lines.specs.Lines.{event_length}

-- 3 where there is no event, or a second one begins.
unfoldable pub one_event : List ℕ → ℕ
unfolding event_length
one_event [] = 3
one_event (b ∷ bs) = elim (ltb (event_length (b ∷ bs)) (length (b ∷ bs))) [ true ↦ 3 | false ↦ 0 ]
