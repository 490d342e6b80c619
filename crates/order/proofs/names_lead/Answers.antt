use mathlib.Core.Path.{refl, sym}
use lib.Seq.{length-take-le}
use Rattle.order.proofs.Laws.{leading_start, leading_stop, leading_more, leading_end}
use Rattle.order.proofs.names_lead.Goals as goal

pub loop-i-init : goal.loop-i-init
loop-i-init c = leading_start c.args.text.now c.args.states.now _ refl

pub slice_bounds-find_name-end : goal.slice_bounds-find_name-end
slice_bounds-find_name-end c = sym (length-take-le c.loop-i.i c.args.states.now c.loop-i.invariant.along)

pub slice_bounds-find_name-end-in-loop-i : goal.slice_bounds-find_name-end-in-loop-i
slice_bounds-find_name-end-in-loop-i c = sym c.loop-i.invariant.room

pub find_name-requires-clause-hashed : goal.find_name-requires-clause-hashed
find_name-requires-clause-hashed c = c.loop-i.invariant.hashed

pub find_name-requires-clause-h_value : goal.find_name-requires-clause-h_value
find_name-requires-clause-h_value c = c.hash-h.ensures

pub returns-then-find_name-i : goal.returns-then-find_name-i
returns-then-find_name-i c = leading_stop c.args.text.now c.args.states.now c.loop-i.hashes c.loop-i.i c.loop-i.invariant c.loop-i-test.true c.text_from-name.ensures c.find_name.ensures c.if-find_name-i.true

pub loop-i-preserved : goal.loop-i-preserved
loop-i-preserved c = leading_more c.args.text.now c.args.states.now c.loop-i.hashes c.loop-i.i c.loop-i.invariant c.loop-i-test.true c.text_from-name.ensures c.find_name.ensures c.requires c.hash-h.ensures c.if-find_name-i.false

pub returns : goal.returns
returns c = leading_end c.args.text.now c.args.states.now c.loop-i.hashes c.loop-i.i c.loop-i.invariant c.loop-i-test.false
