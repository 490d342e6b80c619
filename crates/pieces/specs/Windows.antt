-- A lent buffer that holds part of a stream.
use Rattle.std.specs.Prelude.{◌≡◌, length}
use Rattle.pieces.specs.declared.Window.{Window}

-- y is x with other bytes and counts: the same buffer.
pub record SameBuffer (x y : Window) : Type 0 where
  pub loan : y.buffer.ghost_name ≡ x.buffer.ghost_name
  pub long : length y.buffer.now ≡ length x.buffer.now
