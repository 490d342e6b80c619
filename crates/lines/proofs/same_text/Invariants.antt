use Rattle.lines.proofs.ReadLaws.{Texts}
use Rattle.lines.proofs.same_text.Given as goal

abbrev pub invariant-loop : goal.invariant-loop
invariant-loop l = Texts l.a l.b l.one l.two l.len l.counter
