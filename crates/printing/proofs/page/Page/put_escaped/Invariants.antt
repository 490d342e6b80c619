use Rattle.printing.specs.Put.{Begun}
use Rattle.printing.specs.Lines.{escaped}
use lib.ListN.{drop}
use Rattle.printing.proofs.page.Page.put_escaped.Given as goal

abbrev pub invariant-loop-b : goal.invariant-loop-b
invariant-loop-b l = Begun l.initial.self l.self (escaped (drop l.b-index l.w)) (escaped l.w)
