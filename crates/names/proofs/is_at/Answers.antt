use mathlib.Core.Path.{refl}
use Rattle.names.proofs.Laws.{cell_absent, cell_same}
use Rattle.names.proofs.is_at.Goals as goal

pub returns-then-at-eq0 : goal.returns-then-at-eq0
returns-then-at-eq0 c = cell_absent c.args.text.now c.args.at c.args.len c.args.w.now c.if-at-eq0.true

pub returns : goal.returns
returns c = cell_same c.args.text.now c.args.at c.args.len c.args.w.now _ _ _ c.if-at-eq0.false refl refl c.same_at.ensures
