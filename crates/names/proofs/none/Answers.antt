use Rattle.names.specs.Names.{counted, first_of, new_in}
use mathlib.Core.Path.{refl}
use Rattle.names.proofs.none.Goals as goal

pub returns : goal.returns
unfolding counted first_of new_in
returns c = refl
