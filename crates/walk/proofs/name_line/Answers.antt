use Rattle.std.proofs.Common.{Some, None, ◌∙◌, refl, sym}
use Rattle.definition.specs.Codes.{tag_number}
use Rattle.definition.specs.Text.{str}
use Rattle.definition.proofs.Base.{true_is_false}
use Rattle.lines.specs.Blocks.{all, is_within_line}
use Rattle.walk.specs.Views.{found_of}
use Rattle.walk.proofs.TakesLaws.{name_none, head_open, name_takes}
use Rattle.walk.proofs.Known.{tag_named}
use Rattle.walk.proofs.Plain.{tag_known}
use Rattle.walk.proofs.name_line.Goals as goal

pub returns-then-not-begins : goal.returns-then-not-begins
unfolding str
returns-then-not-begins c = name_none c.args.stream.now _ refl c.args.at (sym c.begins.ensures ∙ c.if-not-begins.true) _

pub returns-then-not-is_ended : goal.returns-then-not-is_ended
unfolding str all is_within_line
returns-then-not-is_ended c = head_open c.args.stream.now _ refl c.args.at _ _ (str "name=") refl (sym c.begins.ensures ∙ c.if-not-begins.false) c.line_end-end.result c.line_end-end.ensures (sym c.is_ended.ensures ∙ c.if-not-is_ended.true)

pub name_part-requires-clause-as_written : goal.name_part-requires-clause-as_written
name_part-requires-clause-as_written c = λ h. tag_known _ (tag_number c.tag_of-what.result) c.tag_of-what.ensures (tag_named c.tag_of-what.result (sym c.ne.ensures ∙ h))

pub returns-in_err-name_part : goal.returns-in_err-name_part
unfolding str
returns-in_err-name_part c =
    rw c.from_residual.ensures (
    name_takes c.args.stream.now c.args.at _ (found_of None) (tag_number c.tag_of-what.result) c.line_end-end.result _ (sym c.is_ended.ensures ∙ c.if-not-is_ended.false) refl (λ q. true_is_false (sym q)) (sym c.begins.ensures ∙ c.if-not-begins.false) c.line_end-end.ensures refl c.tag_of-what.ensures c.in_err-name_part.ensures
    )

pub returns : goal.returns
unfolding str
returns c = name_takes c.args.stream.now c.args.at _ (found_of (Some c.in_ok-name_part.field-0)) (tag_number c.tag_of-what.result) c.line_end-end.result _ (sym c.is_ended.ensures ∙ c.if-not-is_ended.false) refl (λ q. refl) (sym c.begins.ensures ∙ c.if-not-begins.false) c.line_end-end.ensures refl c.tag_of-what.ensures c.in_ok-name_part.ensures
