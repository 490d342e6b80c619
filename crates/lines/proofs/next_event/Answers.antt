use Rattle.definition.specs.Text.{str}
use Rattle.lines.proofs.LineLaws.{line_ended_at, event_line, event_stop, event_more, event_none}
use mathlib.Core.Path.{◌∙◌}
use Rattle.lines.proofs.next_event.Goals as goal

pub loop-i-init : goal.loop-i-init
loop-i-init c = (line_ended_at _ _ c.line_end-i.ensures, event_line _ _ c.line_end-i.ensures)

pub returns-then-begins : goal.returns-then-begins
unfolding str
returns-then-begins c = event_stop _ c.loop-i.i c.loop-i-test.true c.loop-i.invariant.0 c.begins.ensures c.if-begins.true ∙ c.loop-i.invariant.1

pub loop-i-preserved : goal.loop-i-preserved
unfolding str
loop-i-preserved c = (line_ended_at _ _ c.line_end-i-in-loop-i.ensures, event_line _ _ c.line_end-i-in-loop-i.ensures ∙ event_more _ c.loop-i.i c.loop-i-test.true c.loop-i.invariant.0 c.begins.ensures c.if-begins.false ∙ c.loop-i.invariant.1)

pub returns : goal.returns
returns c = event_none _ c.loop-i.i c.loop-i-test.false ∙ c.loop-i.invariant.1
