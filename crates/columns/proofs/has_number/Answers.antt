use lib.ListN.{length}
use mathlib.Core.Path.{sym, ◌∙◌}
use borrow.Author.Tests.{eqb-true, eqb-false}
use Prim.Native.Nat.{◌/◌}
use Rattle.columns.proofs.Numbers.{step_le}
use native.Mathlib.Omega.{arith}
use Rattle.columns.proofs.Numbers.{among_none, among_all, among_half, among_one}
use Rattle.columns.proofs.has_number.Goals as goal

pub returns-then-is_empty : goal.returns-then-is_empty
returns-then-is_empty c = among_none c.args.rows.now c.args.number (eqb-true (length c.args.rows.now) 0 (sym c.is_empty.ensures ∙ c.if-is_empty.true))

pub loop-size-init : goal.loop-size-init
loop-size-init c = among_all c.args.rows.now c.args.number (omega (arith, eqb-false (length c.args.rows.now) 0 (sym c.is_empty.ensures ∙ c.if-is_empty.false)))

pub overflow_mul-base : goal.overflow_mul-base
overflow_mul-base c = omega (arith, step_le (c.loop-size.size / 2) _ _ c.reaches.result c.reaches.ensures)

pub overflow_add-base-in-loop-size : goal.overflow_add-base-in-loop-size
overflow_add-base-in-loop-size c = omega (arith, step_le (c.loop-size.size / 2) _ _ c.reaches.result c.reaches.ensures)

pub loop-size-preserved : goal.loop-size-preserved
loop-size-preserved c = among_half c.args.rows.now c.args.number c.requires c.loop-size.base c.loop-size.size c.loop-size.invariant _ _ (omega arith) (omega arith) (omega arith) c.reaches.ensures

pub returns : goal.returns
returns c = among_one c.args.rows.now c.args.number c.requires c.loop-size.base c.loop-size.size c.loop-size.invariant (omega arith)
