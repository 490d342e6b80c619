-- A part of an event's bytes, and what it reads as.
use Rattle.std.specs.Prelude.{ℕ, List, [], take, drop}
use Rattle.std.proofs.Math.Option.{Option, none, some}

unfoldable pub part : List ℕ → ℕ → ℕ → List ℕ
part raw at len = take len (drop at raw)

-- A part unescaped; nothing where it is illegible.
unfoldable pub or_nothing : Option (List ℕ) → List ℕ
or_nothing none = []
or_nothing (some v) = v
