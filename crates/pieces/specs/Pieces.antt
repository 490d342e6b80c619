-- A stream that is fed piece by piece.
use Rattle.std.specs.Prelude.{ℕ, ◌≤◌, ◌≡◌, List, ◌++◌, length, take, drop}
use Rattle.definition.specs.Event.{events_of}

-- A stream may be parted at `at`, whatever follows it: the events of both parts are the events of the whole, and `before` of them are the first part's.
pub record Parted (s : List ℕ) (at before : ℕ) : Type 0 where
  pub within : at ≤ length s
  pub events : (more : List ℕ) → events_of (s ++ more) ≡ events_of (take at s) ++ events_of (drop at s ++ more)
  pub counted : before ≡ length (events_of (take at s))
