-- The lines marked ★ of document 01: one table, one theorem.
use mathlib.Core.Path.{◌≡◌, refl}
use mathlib.Core.List.{[]}
use Rattle.definition.specs.Stars.{wrong, right, stars}

pub none_wrong : wrong right 1 stars ≡ []
unfolding wrong right stars
none_wrong = refl
