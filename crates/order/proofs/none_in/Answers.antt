use Rattle.order.proofs.Laws.{walk_start, walk_done, walk_met, walk_end, walk_beside, walk_along}
use Rattle.order.proofs.none_in.Goals as goal

pub loop-i-init : goal.loop-i-init
loop-i-init c = walk_start _ _

pub returns-then-others-j : goal.returns-then-others-j
returns-then-others-j c = walk_done c.args.others.now c.args.t.now c.requires.0 c.requires.1 c.loop-i.i c.loop-i.j c.loop-i.invariant c.if-others-j.true

pub returns-then-others-j-2 : goal.returns-then-others-j-2
returns-then-others-j-2 c = walk_met c.args.others.now c.args.t.now c.requires.0 c.requires.1 c.loop-i.i c.loop-i.j c.loop-i.invariant c.loop-i-test.true c.if-others-j.false c.if-others-j-2.true

pub loop-i-preserved-then-others-j-3 : goal.loop-i-preserved-then-others-j-3
loop-i-preserved-then-others-j-3 c = walk_beside c.args.others.now c.args.t.now c.requires.0 c.requires.1 c.loop-i.i c.loop-i.j c.loop-i.invariant c.loop-i-test.true c.if-others-j.false c.if-others-j-3.true

pub loop-i-preserved : goal.loop-i-preserved
loop-i-preserved c = walk_along c.args.others.now c.args.t.now c.requires.0 c.requires.1 c.loop-i.i c.loop-i.j c.loop-i.invariant c.loop-i-test.true c.if-others-j.false c.if-others-j-2.false c.if-others-j-3.false

pub returns : goal.returns
returns c = walk_end c.args.others.now c.args.t.now c.requires.0 c.requires.1 c.loop-i.i c.loop-i.j c.loop-i.invariant c.loop-i-test.false
