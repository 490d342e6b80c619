use Rattle.std.proofs.Common.{◌∙◌, sym}
use Rattle.words.proofs.Laws.{gap_halt, gap_again, gap_last}
use Rattle.words.proofs.skip.Goals as goal

pub returns-then-not-test : goal.returns-then-not-test
returns-then-not-test g c = λ p t. gap_halt p c.args.v.now c.loop-i.i c.loop-i-test.true (sym (t _ _ c.test.ensures) ∙ c.if-not-test.true) ∙ c.loop-i.invariant p t

pub loop-i-preserved : goal.loop-i-preserved
loop-i-preserved g c = λ p t. gap_again p c.args.v.now c.loop-i.i c.loop-i-test.true (sym (t _ _ c.test.ensures) ∙ c.if-not-test.false) ∙ c.loop-i.invariant p t

pub returns : goal.returns
returns g c = λ p t. c.max.ensures ∙ gap_last p c.args.v.now c.loop-i.i c.args.from c.loop-i-test.false c.loop-i.auto.i-end (c.loop-i.invariant p t)
