-- What a stream gives.
use Rattle.std.specs.Prelude.{ℕ}
use Rattle.definition.specs.declared.Position.{Position}
use Rattle.definition.specs.Reader.{Lent, Streamed}

abbrev pub ended : ℕ → ℕ → Position → Lent → Streamed
ended k n q x = record { number = k; event = n; lent = x; position = q }
