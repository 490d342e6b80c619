use mathlib.Core.Path.{refl}
use native.Mathlib.Omega.{arith}
use Rattle.fill.specs.Fill.{cell, as_cell}
use Rattle.wordlists.proofs.Laws.{listing_start, listing_none, listing_end, listing_more, lies, kept_short}
use Rattle.definition.specs.Codes.{list_number}
use Rattle.wordlists.proofs.add_words.Goals as goal

pub loop-at-init : goal.loop-at-init
loop-at-init c = listing_start c.args.members.now c.args.used c.args.v.now c.args.base (list_number c.args.p.list) c.args.p.owner c.args.events

pub returns-then-next : goal.returns-then-next
returns-then-next c = let r = listing_none c.args.members.now c.args.used c.args.v.now c.args.base (list_number c.args.p.list) c.args.p.owner c.args.events c.loop-at.members c.loop-at.m c.loop-at.at c.loop-at.invariant c.next_in-next.result c.next_in-next.ensures c.loop-at-test.true c.if-next.true in record { value = r.0; members_after = r.1 }

pub overflow_add-word : goal.overflow_add-word
overflow_add-word c = omega (arith, lies c.args.members.now c.args.used c.args.v.now c.args.base (list_number c.args.p.list) c.args.p.owner c.args.events c.loop-at.members c.loop-at.m c.loop-at.at c.loop-at.invariant c.next_in-next.result c.next_in-next.ensures c.loop-at-test.true, c.requires)

pub overflow_add-word-in-loop-at : goal.overflow_add-word-in-loop-at
overflow_add-word-in-loop-at c = omega (arith, lies c.args.members.now c.args.used c.args.v.now c.args.base (list_number c.args.p.list) c.args.p.owner c.args.events c.loop-at.members c.loop-at.m c.loop-at.at c.loop-at.invariant c.next_in-next.result c.next_in-next.ensures c.loop-at-test.true, c.requires)

pub overflow_cast-word : goal.overflow_cast-word
overflow_cast-word c = omega (arith, lies c.args.members.now c.args.used c.args.v.now c.args.base (list_number c.args.p.list) c.args.p.owner c.args.events c.loop-at.members c.loop-at.m c.loop-at.at c.loop-at.invariant c.next_in-next.result c.next_in-next.ensures c.loop-at-test.true, c.requires)

pub slice_bounds-kept_len-count : goal.slice_bounds-kept_len-count
slice_bounds-kept_len-count c = omega (arith, lies c.args.members.now c.args.used c.args.v.now c.args.base (list_number c.args.p.list) c.args.p.owner c.args.events c.loop-at.members c.loop-at.m c.loop-at.at c.loop-at.invariant c.next_in-next.result c.next_in-next.ensures c.loop-at-test.true)

pub slice_bounds-kept_len-start : goal.slice_bounds-kept_len-start
slice_bounds-kept_len-start c = omega (arith, lies c.args.members.now c.args.used c.args.v.now c.args.base (list_number c.args.p.list) c.args.p.owner c.args.events c.loop-at.members c.loop-at.m c.loop-at.at c.loop-at.invariant c.next_in-next.result c.next_in-next.ensures c.loop-at-test.true)

pub slice_bounds-kept_len-end : goal.slice_bounds-kept_len-end
slice_bounds-kept_len-end c = omega (arith, lies c.args.members.now c.args.used c.args.v.now c.args.base (list_number c.args.p.list) c.args.p.owner c.args.events c.loop-at.members c.loop-at.m c.loop-at.at c.loop-at.invariant c.next_in-next.result c.next_in-next.ensures c.loop-at-test.true)

pub loop-at-smaller : goal.loop-at-smaller
loop-at-smaller c = omega (arith, lies c.args.members.now c.args.used c.args.v.now c.args.base (list_number c.args.p.list) c.args.p.owner c.args.events c.loop-at.members c.loop-at.m c.loop-at.at c.loop-at.invariant c.next_in-next.result c.next_in-next.ensures c.loop-at-test.true)

pub overflow_cast-word-in-loop-at : goal.overflow_cast-word-in-loop-at
overflow_cast-word-in-loop-at c = omega (arith, kept_short c.args.members.now c.args.used c.args.v.now c.args.base (list_number c.args.p.list) c.args.p.owner c.args.events c.loop-at.members c.loop-at.m c.loop-at.at c.loop-at.invariant c.next_in-next.result c.next_in-next.ensures c.loop-at-test.true c.if-next.false _ _ refl c.kept_len.ensures, c.requires)

pub loop-at-preserved : goal.loop-at-preserved
unfolding as_cell cell
loop-at-preserved c = listing_more c.args.members.now c.args.used c.args.v.now c.args.base (list_number c.args.p.list) c.args.p.owner c.args.events c.loop-at.members c.loop-at.m c.loop-at.at c.loop-at.invariant c.next_in-next.result c.next_in-next.ensures c.loop-at-test.true c.if-next.false _ _ refl c.kept_len.ensures _ c.word_row.ensures _ c.put.ensures

pub returns : goal.returns
returns c = let r = listing_end c.args.members.now c.args.used c.args.v.now c.args.base (list_number c.args.p.list) c.args.p.owner c.args.events c.loop-at.members c.loop-at.m c.loop-at.at c.loop-at.invariant c.loop-at-test.false in record { value = r.0; members_after = r.1 }
