use Rattle.names.proofs.LikeLaws.{ends_past, ends_other, ends_none, ends_both}
use Rattle.names.proofs.ends_so.Goals as goal

pub returns-then-tail-at : goal.returns-then-tail-at
returns-then-tail-at c = ends_past c.args.tail.now c.args.at c.args.before c.args.last c.if-tail-at.true

pub returns-then-tail-at-2 : goal.returns-then-tail-at-2
returns-then-tail-at-2 c = ends_other c.args.tail.now c.args.at c.args.before c.args.last c.if-tail-at.false c.if-tail-at-2.true

pub returns-then-at-eq0 : goal.returns-then-at-eq0
returns-then-at-eq0 c = ends_none c.args.tail.now c.args.at c.args.before c.args.last c.if-tail-at.false c.if-tail-at-2.false c.if-at-eq0.true

pub returns : goal.returns
returns c = ends_both c.args.tail.now c.args.at c.args.before c.args.last c.if-tail-at.false c.if-tail-at-2.false c.if-at-eq0.false
