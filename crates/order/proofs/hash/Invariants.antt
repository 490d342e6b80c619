use lib.ListN.{drop}
use mathlib.Core.Path.{◌≡◌}
use Rattle.order.specs.Hash.{hash_from, hash_of}
use Rattle.order.proofs.hash.Given as goal

abbrev pub invariant-loop-b : goal.invariant-loop-b
invariant-loop-b l = (hash_from l.h (drop l.b-index l.name) ≡ hash_of l.name)
