use mathlib.Core.List.{[]}
use mathlib.Core.Path.{refl}
use borrow.Author.Rules.{rules}
use Rattle.reading.specs.Read.{own_place}
use Rattle.reading.proofs.Laws.{at_none, own_some}
use Rattle.definition.proofs.Changes.{place_le}
use Rattle.reading.proofs.read_own.Goals as goal

pub returns-then-number-eq0 : goal.returns-then-number-eq0
unfolding own_place
returns-then-number-eq0 c = rw (c.if-number-eq0.true, own_place) (at_none [] 0 0 _ refl)

pub at-requires : goal.at-requires
at-requires c = (search rules, (search rules, rw c.requires (place_le _ _)))

pub returns : goal.returns
returns c = rw (← own_some c.args.rows.now c.args.number c.if-number-eq0.false, ← c.requires) c.at.ensures
