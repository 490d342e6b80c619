use Rattle.std.proofs.Common.{Some, ◌∙◌, refl, sym}
use Rattle.definition.specs.Codes.{kind_code}
use Rattle.definition.specs.Text.{str}
use Rattle.lines.specs.Blocks.{all, is_within_line}
use Rattle.walk.specs.Views.{found_of}
use Rattle.walk.proofs.TakesLaws.{event_none, head_open, event_takes}
use Rattle.walk.proofs.event_line.Goals as goal

pub returns-then-not-begins : goal.returns-then-not-begins
unfolding str
returns-then-not-begins c = event_none c.args.stream.now _ refl (sym c.begins.ensures ∙ c.if-not-begins.true) _

pub returns-then-not-is_ended : goal.returns-then-not-is_ended
unfolding str all is_within_line
returns-then-not-is_ended c = head_open c.args.stream.now _ refl 0 _ _ (str "event=") refl (sym c.begins.ensures ∙ c.if-not-begins.false) c.line_end-end.result c.line_end-end.ensures (sym c.is_ended.ensures ∙ c.if-not-is_ended.true)

pub returns : goal.returns
unfolding str
returns c = event_takes c.args.stream.now _ (found_of (Some c.no_part.result)) (kind_code c.kind_of.result) c.line_end-end.result _ (sym c.begins.ensures ∙ c.if-not-begins.false) c.line_end-end.ensures (sym c.is_ended.ensures ∙ c.if-not-is_ended.false) refl refl c.kind_of.ensures refl (λ q. refl)
