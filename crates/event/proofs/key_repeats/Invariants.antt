use Rattle.std.proofs.Common.{◌≡◌, length}
use Rattle.parts.specs.Parts.{pairs_of}
use Rattle.event.specs.Described.{Coded, read, pair_keys, is_among}
use Rattle.event.proofs.key_repeats.Given as goal

abbrev pub invariant-loop-q : goal.invariant-loop-q
invariant-loop-q l = Coded l.raw (pairs_of l.rest) × (is_among (read l.raw l.p.key) (pair_keys l.raw (pairs_of l.rest)) ≡ is_among (read l.raw l.p.key) (pair_keys l.raw (pairs_of l.later)))

abbrev pub decreases-loop-q : goal.decreases-loop-q
decreases-loop-q l = length l.rest
