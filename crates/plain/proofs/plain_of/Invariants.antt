use Rattle.plain.proofs.Laws.{Filling}
use Rattle.parts.specs.Parts.{pairs_of}
use Rattle.plain.proofs.plain_of.Given as goal

abbrev pub invariant-loop-i : goal.invariant-loop-i
invariant-loop-i l = Filling (pairs_of l.pairs) l.d.count l.initial.plain l.slots l.plain l.i
