use Rattle.order.proofs.Laws.{Leading}
use Rattle.order.proofs.names_lead.Given as goal

abbrev pub invariant-loop-i : goal.invariant-loop-i
invariant-loop-i l = Leading l.text l.states l.hashes l.i
