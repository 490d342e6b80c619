use Rattle.std.proofs.Common.{◌≡◌, length}
use Rattle.parts.specs.Parts.{pairs_of}
use Rattle.event.specs.Described.{Coded, pair_keys, all_differ}
use Rattle.event.proofs.keys_differ.Given as goal

abbrev pub invariant-loop-p : goal.invariant-loop-p
invariant-loop-p l = Coded l.raw (pairs_of l.rest) × (all_differ (pair_keys l.raw (pairs_of l.rest)) ≡ all_differ (pair_keys l.raw (pairs_of l.pairs)))

abbrev pub decreases-loop-p : goal.decreases-loop-p
decreases-loop-p l = length l.rest
