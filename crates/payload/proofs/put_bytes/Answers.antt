use Rattle.payload.proofs.Laws.{paste_size, paste_more, paste_end}
use lib.Seq.{paste-zero}
use mathlib.Core.Path.{◌∙◌}
use native.Mathlib.Omega.{arith}
use borrow.Author.Rules.{rules}
use Rattle.payload.proofs.put_bytes.Goals as goal

pub loop-i-init : goal.loop-i-init
loop-i-init c = (search rules, paste-zero c.args.text.now c.args.at c.args.v.now)

pub overflow_add-text : goal.overflow_add-text
overflow_add-text c = omega (arith, c.requires, c.loop-i-test.true)

pub bounds-text-at : goal.bounds-text-at
bounds-text-at c = omega (arith, c.requires, paste_size c.args.text.now c.args.at c.args.v.now c.requires c.loop-i.text c.loop-i.i c.loop-i.invariant.1 c.loop-i.invariant.0, c.loop-i-test.true)

pub loop-i-preserved : goal.loop-i-preserved
loop-i-preserved c = (search rules, paste_more c.args.text.now c.args.at c.args.v.now c.requires c.loop-i.text c.loop-i.i c.loop-i.invariant.1 c.loop-i-test.true)

pub shape_of-text : goal.shape_of-text
shape_of-text c = paste_size c.args.text.now c.args.at c.args.v.now c.requires c.loop-i.text c.loop-i.i c.loop-i.invariant.1 c.loop-i.invariant.0

pub returns : goal.returns
returns c = c.loop-i.invariant.1 ∙ paste_end c.args.text.now c.args.at c.args.v.now c.requires c.loop-i.i c.loop-i-test.false c.loop-i.invariant.0
