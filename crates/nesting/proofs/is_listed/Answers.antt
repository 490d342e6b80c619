use mathlib.Core.Path.{sym, ◌∙◌}
use Rattle.nesting.proofs.Laws.{row_end, row_zero, row_here, row_next}
use native.Mathlib.Omega.{arith}
use Rattle.nesting.proofs.is_listed.Goals as goal

pub returns-then-p-eq0 : goal.returns-then-p-eq0
returns-then-p-eq0 c = sym (row_zero c.args.row c.args.parent c.loop-p.p-index (omega (arith, c.well_formed.0.1, c.loop-p-test.true)) c.if-p-eq0.true) ∙ c.loop-p.invariant

pub returns-then-from-parent : goal.returns-then-from-parent
returns-then-from-parent c = sym (row_here c.args.row c.args.parent c.loop-p.p-index (omega (arith, c.well_formed.0.1, c.loop-p-test.true)) c.if-p-eq0.false (sym c.from.ensures ∙ c.if-from-parent.true)) ∙ c.loop-p.invariant

pub loop-p-preserved : goal.loop-p-preserved
loop-p-preserved c = row_next c.args.row c.args.parent c.loop-p.p-index (omega (arith, c.well_formed.0.1, c.loop-p-test.true)) c.if-p-eq0.false (λ e. c.if-from-parent.false (c.from.ensures ∙ e)) ∙ c.loop-p.invariant

pub returns : goal.returns
returns c = sym (row_end c.args.row c.args.parent c.loop-p.p-index (omega (arith, c.well_formed.0.1, c.loop-p-test.false))) ∙ c.loop-p.invariant
