use mathlib.Core.Path.{sym}
use Rattle.rows.proofs.Laws.{altered_none, altered_past, altered_at}
use Rattle.rows.proofs.alter.Goals as goal

pub returns-then-number-eq0 : goal.returns-then-number-eq0
returns-then-number-eq0 g c = λ f h. sym (altered_none c.args.number f c.args.rows.now c.if-number-eq0.true)

pub returns-then-i-rows : goal.returns-then-i-rows
returns-then-i-rows g c = λ f h.
    sym (altered_at c.args.number f c.args.rows.now c.index-rows-i.result c.change.result c.if-number-eq0.false c.if-i-rows.true c.index-rows-i.is (h _ _ c.change.ensures))

pub returns-else-i-rows : goal.returns-else-i-rows
returns-else-i-rows g c = λ f h. sym (altered_past c.args.number f c.args.rows.now c.if-i-rows.false)
