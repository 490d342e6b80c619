-- A value more.
use Prim.Native.Nat.{◌≤◌, ◌<◌}
use mathlib.Core.Path.{◌≡◌}
use mathlib.Core.Bool.{true, false}
use borrow.Author.Tests.{lt-ltb, le-ltb}
use Rattle.parts.specs.declared.Part.{Part}
use Rattle.parts.specs.Walked.{Walked}
use Rattle.parts.specs.Parts as P
use Rattle.parts.specs.Parts.{room_left, with_value, added_value}

pub value_full : (p : Part) (d : Walked) → 16 ≤ d.count → P.broken d ≡ added_value p d
unfolding added_value room_left
value_full p d h = let z : room_left d.count ≡ false = le-ltb d.count 16 h in rw (z, added_value)

pub value_added : (p : Part) (d : Walked) → d.count < 16 → with_value p d ≡ added_value p d
unfolding added_value room_left
value_added p d h = let z : room_left d.count ≡ true = lt-ltb d.count 16 h in rw (z, added_value)
