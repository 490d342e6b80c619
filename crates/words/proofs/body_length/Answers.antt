use Rattle.std.proofs.Common.{◌≡◌, ◌+◌, ◌-◌, ◌∙◌, arith, sym}
use Rattle.words.proofs.Ends.{body_stop, body_more, body_none}
use Rattle.words.proofs.body_length.Goals as goal

pub returns-then-not-is_space : goal.returns-then-not-is_space
returns-then-not-is_space c = let e : c.loop-i.i - 1 + 1 ≡ c.loop-i.i = omega arith in e ∙ sym (body_stop c.args.w.now c.loop-i.i (omega arith) (omega arith) (sym c.is_space.ensures ∙ c.if-not-is_space.true)) ∙ c.loop-i.invariant

pub loop-i-preserved : goal.loop-i-preserved
loop-i-preserved c = body_more c.args.w.now c.loop-i.i (omega arith) (omega arith) (sym c.is_space.ensures ∙ c.if-not-is_space.false) ∙ c.loop-i.invariant

pub returns : goal.returns
returns c = sym (body_none c.args.w.now c.loop-i.i (omega arith)) ∙ c.loop-i.invariant
