use Rattle.std.proofs.Common.{arith, sym, ◌∙◌}
use borrow.Author.Tests.{eqb-true, eqb-false}
use Rattle.event.proofs.OneLaws.{none_there, two_there, one_there}
use Rattle.event.proofs.one_event.Goals as goal

pub returns-then-is_empty : goal.returns-then-is_empty
returns-then-is_empty c = none_there c.args.raw.now (eqb-true _ _ (sym c.is_empty.ensures ∙ c.if-is_empty.true))

pub returns-then-next_event-raw : goal.returns-then-next_event-raw
returns-then-next_event-raw c = two_there c.args.raw.now (omega (arith, c.next_event.ensures, c.if-next_event-raw.true))

pub returns : goal.returns
returns c = one_there c.args.raw.now (eqb-false _ _ (sym c.is_empty.ensures ∙ c.if-is_empty.false)) (omega (arith, c.next_event.ensures, c.if-next_event-raw.false))
