use mathlib.Core.Path.{◌≡◌, sym, ap, ◌∙◌}
use borrow.Author.Rules.{rules}
use native.Mathlib.Omega.{arith}
use Rattle.std.proofs.Common.{ℕ, Result, Err}
use Rattle.definition.specs.declared.codes.Refusal.{Refusal}
use Rattle.event.specs.declared.Head.{Head}
use Rattle.event.specs.Described.{told_by}
use Rattle.conclude.specs.Fed.{given}
use Rattle.rows.specs.Lent.{lent_of}
use Rattle.streams.proofs.Refused.{some_number}
use Rattle.feed.proofs.Laws.{out_of}
use Rattle.streams.proofs.Laws.{ran_first, goes_on, stays_in, taken_apart, ran_more, ran_stop, ran_last}
use Rattle.streams.proofs.feed_all.Goals as goal

pub loop-i-init : goal.loop-i-init
loop-i-init c = record { loans = search rules; ran = ran_first c.requires }

pub overflow_add-n : goal.overflow_add-n
overflow_add-n c = omega (arith, c.loop-i-test.true, c.loop-i.invariant.ran.few)

pub returns-in-Err-clause-stream : goal.returns-in-Err-clause-stream
unfolding told_by
returns-in-Err-clause-stream c =
    let none : c.number.result ≡ 0 → ⊥ = λ z. some_number c.in-Err.no (sym c.number.ensures ∙ z) in
    ran_stop c.loop-i.invariant.ran c.loop-i-test.true c.describe_next-x.ensures.end c.part_of-raw.ensures
    (ap (λ (k : ℕ). given k c.loop-i.q (lent_of c.loop-i.lent)) c.number.ensures
    ∙ out_of _ _ _ (told_by (Err c.in-Err.no) c.describe_next-x.new.pairs) (taken_apart c.loop-i.invariant.ran c.loop-i-test.true c.describe_next-x.ensures.end c.part_of-raw.ensures (sym (ap (λ (e : Result Head Refusal). told_by e c.describe_next-x.new.pairs) c.in-Err.is) ∙ c.describe_next-x.ensures.event)) (some_number c.in-Err.no))
    none

pub feed-a-requires-clause-p_value : goal.feed-a-requires-clause-p_value
feed-a-requires-clause-p_value c = c.loop-i.invariant.ran.asked

pub feed-a-requires-clause-pairs_value : goal.feed-a-requires-clause-pairs_value
unfolding told_by
feed-a-requires-clause-pairs_value c = taken_apart c.loop-i.invariant.ran c.loop-i-test.true c.describe_next-x.ensures.end c.part_of-raw.ensures (sym (ap (λ (e : Result Head Refusal). told_by e c.describe_next-x.new.pairs) c.in-Ok.is) ∙ c.describe_next-x.ensures.event)

pub returns-then-a-ne0-clause-stream : goal.returns-then-a-ne0-clause-stream
returns-then-a-ne0-clause-stream c = ran_stop c.loop-i.invariant.ran c.loop-i-test.true c.describe_next-x.ensures.end c.part_of-raw.ensures c.feed-a.ensures.answer c.if-a-ne0.true

pub overflow_add-i : goal.overflow_add-i
overflow_add-i c = omega (arith, stays_in c.loop-i.invariant.ran c.loop-i-test.true c.describe_next-x.ensures.end)

pub loop-i-smaller : goal.loop-i-smaller
loop-i-smaller c = omega (arith, goes_on c.loop-i.invariant.ran c.loop-i-test.true c.describe_next-x.ensures.end, c.loop-i-test.true)

pub loop-i-preserved : goal.loop-i-preserved
loop-i-preserved c = record { loans = search rules; ran = ran_more c.loop-i.invariant.ran c.loop-i-test.true c.describe_next-x.ensures.end c.part_of-raw.ensures c.feed-a.ensures.answer c.if-a-ne0.false }

pub returns-clause-stream : goal.returns-clause-stream
returns-clause-stream c = ran_last c.loop-i.invariant.ran c.loop-i-test.false
