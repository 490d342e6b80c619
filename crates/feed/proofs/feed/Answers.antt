use mathlib.Core.Path.{refl, sym, subst}
use Rattle.rows.specs.Lent.{lent_of}
use Rattle.event.specs.Described.{described_by}
use Rattle.plain.specs.Plain.{Parsed}
use Rattle.settle.specs.Settled.{InForm}
use Rattle.feed.proofs.Laws.{plainly_parsed, in_form_here, answered}
use Rattle.feed.proofs.feed.Goals as goal

pub feed_parsed-requires : goal.feed_parsed-requires
unfolding described_by
feed_parsed-requires c = subst (λ (z : Parsed). InForm (lent_of c.args.lent.now) c.args.p z) (sym (plainly_parsed (lent_of c.args.lent.now) c.args.p c.args.raw.now (described_by c.args.d c.args.pairs.now) c.requires.pairs_value _ c.plain_of-w.ensures.plain c.if-w.true _ c.plain_of-w.ensures.parts)) (in_form_here (lent_of c.args.lent.now) c.args.p c.args.raw.now (described_by c.args.d c.args.pairs.now) c.requires.pairs_value c.requires.p_value refl)

pub returns-then-w-clause-answer : goal.returns-then-w-clause-answer
unfolding described_by
returns-then-w-clause-answer c = answered (lent_of c.args.lent.now) c.args.p c.args.raw.now (described_by c.args.d c.args.pairs.now) c.requires.pairs_value c.requires.p_value refl _ (plainly_parsed (lent_of c.args.lent.now) c.args.p c.args.raw.now (described_by c.args.d c.args.pairs.now) c.requires.pairs_value _ c.plain_of-w.ensures.plain c.if-w.true _ c.plain_of-w.ensures.parts) _ c.feed_parsed.ensures.answers

pub feed_copy-requires-clause-in_form : goal.feed_copy-requires-clause-in_form
unfolding described_by
feed_copy-requires-clause-in_form c = in_form_here (lent_of c.args.lent.now) c.args.p c.args.raw.now (described_by c.args.d c.args.pairs.now) c.requires.pairs_value c.requires.p_value refl

pub returns-clause-answer : goal.returns-clause-answer
unfolding described_by
returns-clause-answer c = answered (lent_of c.args.lent.now) c.args.p c.args.raw.now (described_by c.args.d c.args.pairs.now) c.requires.pairs_value c.requires.p_value refl _ refl _ c.feed_copy.ensures.answers
