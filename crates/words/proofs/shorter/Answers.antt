use Rattle.words.proofs.Ends.{dot_goes, lone_stays, star_goes, star_stays, other_stays, nothing_goes}
use Rattle.words.proofs.shorter.Goals as goal

pub returns-in_err-last : goal.returns-in_err-last
returns-in_err-last c = rw c.from_residual.ensures (nothing_goes c.args.w.now c.in_err-last.ensures.cases)

pub returns-then-last-eq46 : goal.returns-then-last-eq46
returns-then-last-eq46 c = dot_goes c.args.w.now c.in_ok-last.last.now c.in_ok-last.rest.now c.in_ok-last.ensures.cases c.if-last-eq46.true

pub returns-then-last-ne42 : goal.returns-then-last-ne42
returns-then-last-ne42 c = other_stays c.args.w.now c.in_ok-last.last.now c.in_ok-last.rest.now c.in_ok-last.ensures.cases c.if-last-eq46.false c.if-last-ne42.true

pub returns-in_err-dot : goal.returns-in_err-dot
returns-in_err-dot c = rw c.from_residual-in_err-dot.ensures (lone_stays c.args.w.now c.in_ok-last.last.now c.in_ok-last.rest.now c.in_ok-last.ensures.cases c.if-last-eq46.false c.in_err-dot.ensures.cases)

pub returns-then-dot-eq46 : goal.returns-then-dot-eq46
returns-then-dot-eq46 c = star_goes c.args.w.now c.in_ok-last.last.now c.in_ok-last.rest.now c.in_ok-last.ensures.cases c.if-last-eq46.false c.in_ok-dot.dot.now c.in_ok-dot.left.now c.in_ok-dot.ensures.cases c.if-last-ne42.false c.if-dot-eq46.true

pub returns-else-dot-eq46 : goal.returns-else-dot-eq46
returns-else-dot-eq46 c = star_stays c.args.w.now c.in_ok-last.last.now c.in_ok-last.rest.now c.in_ok-last.ensures.cases c.if-last-eq46.false c.in_ok-dot.dot.now c.in_ok-dot.left.now c.in_ok-dot.ensures.cases c.if-last-ne42.false c.if-dot-eq46.false
