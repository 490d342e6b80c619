use Rattle.written.proofs.Laws.{escape_mark, escape_short, stored_mark, stored_line, stored_other}
use lib.ListN.{length-set}
use mathlib.Core.Path.{ap}
use native.Mathlib.Omega.{arith}
use lib.ListN.{length}
use Rattle.written.proofs.put_escape.Goals as goal

pub bounds-out-at : goal.bounds-out-at
bounds-out-at c = omega (arith, c.requires, ap length (escape_mark _ c.if-b-eq34.true))

pub overflow_add-out : goal.overflow_add-out
overflow_add-out c = omega (arith, c.requires, ap length (escape_mark _ c.if-b-eq34.true))

pub bounds-out-at-then-b-eq34 : goal.bounds-out-at-then-b-eq34
bounds-out-at-then-b-eq34 c = simp length-set (omega (arith, c.requires, ap length (escape_mark _ c.if-b-eq34.true)))

pub overflow_add-result : goal.overflow_add-result
overflow_add-result c = omega (arith, c.requires, ap length (escape_mark _ c.if-b-eq34.true))

pub returns-then-b-eq34-clause-value : goal.returns-then-b-eq34-clause-value
returns-then-b-eq34-clause-value c = omega (arith, ap length (escape_mark _ c.if-b-eq34.true))

pub returns-then-b-eq34-clause-out_after : goal.returns-then-b-eq34-clause-out_after
returns-then-b-eq34-clause-out_after c = stored_mark _ _ _ c.if-b-eq34.true

pub bounds-out-at-then-b-eq10 : goal.bounds-out-at-then-b-eq10
bounds-out-at-then-b-eq10 c = omega (arith, c.requires, escape_short _ c.if-b-eq34.false)

pub overflow_add-result-then-b-eq10 : goal.overflow_add-result-then-b-eq10
overflow_add-result-then-b-eq10 c = omega (arith, c.requires, escape_short _ c.if-b-eq34.false)

pub returns-then-b-eq10-clause-value : goal.returns-then-b-eq10-clause-value
returns-then-b-eq10-clause-value c = omega (arith, escape_short _ c.if-b-eq34.false)

pub returns-then-b-eq10-clause-out_after : goal.returns-then-b-eq10-clause-out_after
returns-then-b-eq10-clause-out_after c = stored_line _ _ _ c.if-b-eq34.false c.if-b-eq10.true

pub bounds-out-at-2 : goal.bounds-out-at-2
bounds-out-at-2 c = omega (arith, c.requires, escape_short _ c.if-b-eq34.false)

pub overflow_add-result-2 : goal.overflow_add-result-2
overflow_add-result-2 c = omega (arith, c.requires, escape_short _ c.if-b-eq34.false)

pub returns-clause-value : goal.returns-clause-value
returns-clause-value c = omega (arith, escape_short _ c.if-b-eq34.false)

pub returns-clause-out_after : goal.returns-clause-out_after
returns-clause-out_after c = stored_other _ _ _ c.if-b-eq34.false c.if-b-eq10.false
