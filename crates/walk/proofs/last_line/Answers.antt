use Rattle.std.proofs.Common.{None, ◌∙◌, refl, sym}
use Rattle.definition.specs.Text.{str}
use Rattle.walk.specs.Views.{last_of}
use Rattle.walk.proofs.StepLaws.{on_lost, on_end}
use Rattle.walk.proofs.last_line.Goals as goal

pub last_text-requires-clause-stream_value : goal.last_text-requires-clause-stream_value
unfolding str
last_text-requires-clause-stream_value c = sym c.begins.ensures ∙ c.if-begins.true

pub returns-then-not-is_over : goal.returns-then-not-is_over
unfolding str
returns-then-not-is_over c = on_lost c.args.stream.now c.args.at c.requires.at_nonzero c.is_over.ensures c.requires.stream_value (sym c.begins.ensures ∙ c.if-begins.false) c.if-not-is_over.true (last_of None) refl

pub returns : goal.returns
returns c = on_end c.args.stream.now c.args.at c.requires.at_nonzero c.is_over.ensures c.if-not-is_over.false _ refl
