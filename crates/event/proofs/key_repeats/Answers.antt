use Rattle.std.proofs.Common.{◌∙◌, refl}
use Rattle.event.specs.Described.{read}
use Rattle.event.proofs.KeyLaws.{coded_first, among_none, among_stop, among_more}
use Rattle.event.proofs.key_repeats.Goals as goal

pub loop-q-init : goal.loop-q-init
loop-q-init c = (c.requires.coded, refl)

pub same_key-requires : goal.same_key-requires
same_key-requires c = record { p_value = c.requires.p_value; q_value = (coded_first c.args.raw.now c.loop-q.rest.now c.in-Some.q.now c.in-Some.left.now c.in-Some.ensures.cases.0 c.loop-q.invariant.0).0 }

pub returns-then-same_key : goal.returns-then-same_key
returns-then-same_key c =
    among_stop c.args.raw.now c.loop-q.rest.now (read c.args.raw.now c.args.p.key) c.in-Some.q.now c.in-Some.left.now c.in-Some.ensures.cases.0 c.same_key.ensures c.if-same_key.true
    ∙ c.loop-q.invariant.1

pub loop-q-preserved : goal.loop-q-preserved
loop-q-preserved c = (
  (coded_first c.args.raw.now c.loop-q.rest.now c.in-Some.q.now c.in-Some.left.now c.in-Some.ensures.cases.0 c.loop-q.invariant.0).1,
  among_more c.args.raw.now c.loop-q.rest.now (read c.args.raw.now c.args.p.key) c.in-Some.q.now c.in-Some.left.now c.in-Some.ensures.cases.0 c.same_key.ensures c.if-same_key.false
      ∙ c.loop-q.invariant.1,
)

pub returns : goal.returns
returns c = among_none c.args.raw.now c.loop-q.rest.now (read c.args.raw.now c.args.p.key) c.in_default.ensures.cases ∙ c.loop-q.invariant.1
