use mathlib.Core.Path.{sym, subst}
use Rattle.rows.specs.Lent.{lent_of}
use Rattle.event.specs.Described.{described_by}
use Rattle.plain.specs.Plain.{Parsed}
use Rattle.settle.specs.Settled.{InForm}
use Rattle.feed.proofs.Laws.{alike, room}
use Rattle.feed.proofs.feed_copy.Goals as goal

pub unescape_all-pl-requires : goal.unescape_all-pl-requires
unescape_all-pl-requires c = room (lent_of c.args.lent.now) c.args.p c.args.raw.now (described_by c.args.d c.args.pairs.now) c.requires.pairs_value

pub feed_parsed-requires : goal.feed_parsed-requires
feed_parsed-requires c = subst (λ (z : Parsed). InForm (lent_of c.args.lent.now) c.args.p z) (sym c.unescape_all-pl.ensures) c.requires.in_form

pub returns-clause-answers : goal.returns-clause-answers
returns-clause-answers c = alike (lent_of c.args.lent.now) c.args.p _ _ c.unescape_all-pl.ensures _ c.feed_parsed.ensures.answers
