use Rattle.texts.proofs.Laws.{Texting}
use Rattle.texts.proofs.slot_texts.Given as goal

abbrev pub invariant-loop-slot : goal.invariant-loop-slot
invariant-loop-slot l = Texting l.initial.t l.base l.src l.slots l.t l.pos l.slot-index
