use Rattle.payload.proofs.Laws.{Laying}
use Rattle.payload.proofs.append_slots.Given as goal

abbrev pub invariant-loop-slot : goal.invariant-loop-slot
invariant-loop-slot l = Laying l.initial.text l.used l.src l.slots l.text l.pos l.slot-index
