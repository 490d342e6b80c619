use borrow.Author.Tests.{eq-eqb, ne_eqb}
use Rattle.order.proofs.open_name_fits.Goals as goal

pub returns-then-row-ne0 : goal.returns-then-row-ne0
returns-then-row-ne0 c = rw (ne_eqb _ _ c.if-row-ne0.true)

pub returns : goal.returns
returns c = rw (eq-eqb _ _ c.if-row-ne0.false) c.unknown_fits.ensures
