use Rattle.std.proofs.Common.{◌∙◌, sym}
use Rattle.definition.proofs.Base.{same_length}
use Rattle.lines.proofs.ReadLaws.{text_length, texts_start, texts_more, texts_stop, texts_end, not_over, nor_over}
use Rattle.lines.proofs.same_text.Goals as goal

pub returns-then-len-unwrap_or : goal.returns-then-len-unwrap_or
returns-then-len-unwrap_or c =
    sym (same_length _ _ (λ e. c.if-len-unwrap_or.true (c.unwrap_or-len.ensures ∙ text_length c.args.a.now _ c.scan_line.ensures ∙ e ∙ sym (c.unwrap_or.ensures ∙ text_length c.args.b.now _ c.scan_line-2.ensures))))

pub loop-init : goal.loop-init
loop-init c = texts_start c.args.a.now c.args.b.now c.scan_line.result c.scan_line-2.result c.unwrap_or-len.result c.unwrap_or-len.ensures c.scan_line.ensures c.scan_line-2.ensures (c.if-len-unwrap_or.false ∙ c.unwrap_or.ensures)

pub returns-in_default : goal.returns-in_default
returns-in_default c = absurd (nor_over c.args.a.now c.args.b.now c.loop.one.now c.loop.two.now c.unwrap_or-len.result c.loop.counter c.loop.invariant c.loop-test.true c.in_default.ensures')

pub returns-in_default-2 : goal.returns-in_default-2
returns-in_default-2 c = absurd (not_over c.args.a.now c.args.b.now c.loop.one.now c.loop.two.now c.unwrap_or-len.result c.loop.counter c.loop.invariant c.loop-test.true c.in_default.ensures)

pub returns-then-x-y : goal.returns-then-x-y
returns-then-x-y c = texts_stop c.args.a.now c.args.b.now c.loop.one.now c.loop.two.now c.unwrap_or-len.result c.loop.counter c.loop.invariant c.loop-test.true c.in-Some-Some.x c.in-Some-Some.y c.in-Some-Some.left.now c.in-Some-Some.right.now c.in-Some-Some.ensures c.in-Some-Some.ensures' c.if-x-y.true

pub loop-preserved : goal.loop-preserved
loop-preserved c = texts_more c.args.a.now c.args.b.now c.loop.one.now c.loop.two.now c.unwrap_or-len.result c.loop.counter c.loop.invariant c.loop-test.true c.in-Some-Some.x c.in-Some-Some.y c.in-Some-Some.left.now c.in-Some-Some.right.now c.in-Some-Some.ensures c.in-Some-Some.ensures' c.if-x-y.false

pub returns : goal.returns
returns c = texts_end c.args.a.now c.args.b.now c.loop.one.now c.loop.two.now c.unwrap_or-len.result c.loop.counter c.loop.invariant c.loop-test.false
