use Rattle.plain.proofs.KeyLaws.{Indexing}
use Rattle.plain.proofs.index.Given as goal

abbrev pub invariant-loop-i : goal.invariant-loop-i
invariant-loop-i l = Indexing l.src l.p.slots l.p.count l.keys.there l.keys.at l.keys.len l.total l.i
