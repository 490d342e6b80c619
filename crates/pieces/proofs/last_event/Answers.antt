use Rattle.pieces.proofs.Laws.{walk_begins, walk_less, walk_on, walk_ends}
use native.Mathlib.Omega.{arith}
use Rattle.pieces.proofs.last_event.Goals as goal

pub loop-at-init : goal.loop-at-init
loop-at-init c = walk_begins c.args.stream.now

pub loop-at-smaller : goal.loop-at-smaller
loop-at-smaller c = omega (arith, walk_less c.args.stream.now c.loop-at.last.at c.in-Some.at c.in-Some.ensures.0 c.in-Some.ensures.1)

pub loop-at-preserved : goal.loop-at-preserved
loop-at-preserved c = walk_on c.args.stream.now c.loop-at.last.at c.loop-at.last.before c.loop-at.invariant c.in-Some.at c.in-Some.ensures.0 c.in-Some.ensures.1

pub returns : goal.returns
returns c = walk_ends c.args.stream.now c.loop-at.last.at c.loop-at.last.before c.loop-at.invariant
