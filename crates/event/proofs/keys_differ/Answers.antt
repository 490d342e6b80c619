use Rattle.std.proofs.Common.{◌∙◌, refl}
use Rattle.event.proofs.KeyLaws.{coded_first, differ_none, differ_stop, differ_more}
use Rattle.event.proofs.keys_differ.Goals as goal

pub loop-p-init : goal.loop-p-init
loop-p-init c = (c.requires, refl)

pub key_repeats-requires-clause-p_value : goal.key_repeats-requires-clause-p_value
key_repeats-requires-clause-p_value c = (coded_first c.args.raw.now c.loop-p.rest.now c.in-Some.p.now c.in-Some.later.now c.in-Some.ensures.cases.0 c.loop-p.invariant.0).0

pub key_repeats-requires-clause-coded : goal.key_repeats-requires-clause-coded
key_repeats-requires-clause-coded c = (coded_first c.args.raw.now c.loop-p.rest.now c.in-Some.p.now c.in-Some.later.now c.in-Some.ensures.cases.0 c.loop-p.invariant.0).1

pub returns-then-key_repeats : goal.returns-then-key_repeats
returns-then-key_repeats c = differ_stop c.args.raw.now c.loop-p.rest.now c.in-Some.p.now c.in-Some.later.now c.in-Some.ensures.cases.0 c.key_repeats.ensures c.if-key_repeats.true ∙ c.loop-p.invariant.1

pub loop-p-preserved : goal.loop-p-preserved
loop-p-preserved c = ((coded_first c.args.raw.now c.loop-p.rest.now c.in-Some.p.now c.in-Some.later.now c.in-Some.ensures.cases.0 c.loop-p.invariant.0).1, differ_more c.args.raw.now c.loop-p.rest.now c.in-Some.p.now c.in-Some.later.now c.in-Some.ensures.cases.0 c.key_repeats.ensures c.if-key_repeats.false ∙ c.loop-p.invariant.1)

pub returns : goal.returns
returns c = differ_none c.args.raw.now c.loop-p.rest.now c.in_default.ensures.cases ∙ c.loop-p.invariant.1
