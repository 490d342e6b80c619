use Rattle.std.proofs.Common.{◌<◌, ◌-◌, length}
use Rattle.definition.specs.Codes.{kind_code, tag_number}
use Rattle.parts.specs.Parts.{pairs_of}
use Rattle.walk.specs.Stream.{Reached, made}
use Rattle.walk.proofs.walk_pairs.Given as goal

abbrev pub invariant-loop-kind : goal.invariant-loop-kind
invariant-loop-kind l = (0 < l.at) × Reached l.stream l.at (made (kind_code l.kind) (tag_number l.n.what) l.n.part l.count (pairs_of l.pairs))

abbrev pub decreases-loop-kind : goal.decreases-loop-kind
decreases-loop-kind l = length l.stream - l.at
