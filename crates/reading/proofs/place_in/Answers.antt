use mathlib.Core.Path.{refl}
use Rattle.reading.proofs.Laws.{placed_past, placed_in}
use Rattle.reading.proofs.place_in.Goals as goal

pub returns-then-count-number-clause-value : goal.returns-then-count-number-clause-value
returns-then-count-number-clause-value c = placed_past c.args.count c.args.number refl c.if-count-number.true

pub returns-clause-value : goal.returns-clause-value
returns-clause-value c = placed_in c.args.count c.args.number refl c.if-count-number.false
