-- Refusal numbers: one table, of which no row is wrong.
use mathlib.Core.Path.{◌≡◌, refl}
use mathlib.Core.List.{[]}
use Rattle.definition.specs.Stars.{wrong}
use Rattle.numbers.specs.Numbers.{right, given}

pub none_wrong : wrong right 1 given ≡ []
unfolding wrong right given
none_wrong = refl
