use mathlib.Core.Path.{◌∙◌}
use native.Mathlib.Omega.{arith}
use Rattle.definition.specs.Text.{decimal}
use Rattle.written.proofs.Laws.{count_one, count_more, count_end}
use Rattle.written.proofs.digit_count.Goals as goal

pub loop-k-init : goal.loop-k-init
unfolding decimal
loop-k-init c = omega arith

pub returns-then-m-lt10-clause-value : goal.returns-then-m-lt10-clause-value
returns-then-m-lt10-clause-value c = count_one _ _ c.loop-k-test.true c.if-m-lt10.true ∙ c.loop-k.invariant

pub loop-k-preserved : goal.loop-k-preserved
loop-k-preserved c = count_more _ _ c.loop-k-test.true (omega arith) ∙ c.loop-k.invariant

pub returns-clause-value : goal.returns-clause-value
returns-clause-value c = omega (arith, count_end c.loop-k.k c.loop-k.m (omega arith))
