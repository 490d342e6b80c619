use borrow.Author.Rules.{rules}
use Rattle.plain.specs.Keyed.{keyed_of, by_key}
use mathlib.Core.Path.{refl}
use native.Mathlib.Omega.{arith}
use Rattle.plain.proofs.KeyLaws.{indexing_start, indexing_more, indexing_end}
use Rattle.plain.proofs.index.Goals as goal

pub loop-i-init : goal.loop-i-init
unfolding keyed_of by_key
loop-i-init c = rw c.none.ensures (indexing_start c.args.p.now.slots c.args.p.now.count (search rules) c.args.src.now _ c.at_most_16-i.ensures.value)

pub overflow_add-total : goal.overflow_add-total
overflow_add-total c = omega (arith, c.loop-i.invariant.bound, c.bytes_of.ensures.result_len_bound)

pub loop-i-preserved : goal.loop-i-preserved
loop-i-preserved c = indexing_more c.args.p.now.slots c.args.p.now.count (search rules) c.args.src.now c.loop-i.keys.there c.loop-i.keys.at c.loop-i.keys.len c.loop-i.total c.loop-i.i c.loop-i.invariant _ c.loop-i-test.true refl _ c.place_of-k.ensures.value _ c.bytes_of.ensures.result_value c.bytes_of.ensures.result_len_bound

pub invariant_of-result : goal.invariant_of-result
invariant_of-result c = let r = indexing_end c.args.p.now.slots c.args.p.now.count (search rules) c.args.src.now c.loop-i.keys.there c.loop-i.keys.at c.loop-i.keys.len c.loop-i.total c.loop-i.i c.loop-i.invariant c.loop-i-test.false in record { keyed = r.0; summed = r.1.0; bounded = r.1.1 }
