use Rattle.std.proofs.Common.{Some, None, ◌∙◌, refl, sym}
use Rattle.definition.specs.Codes.{key_code}
use Rattle.definition.specs.Text.{str}
use Rattle.definition.proofs.Base.{true_is_false}
use Rattle.lines.specs.Blocks.{all, is_within_line}
use Rattle.walk.specs.Views.{found_of}
use Rattle.walk.proofs.TakesLaws.{head_open, key_takes}
use Rattle.walk.proofs.Known.{key_named}
use Rattle.walk.proofs.Plain.{key_known}
use Rattle.walk.proofs.key_line.Goals as goal

pub returns-then-not-is_ended : goal.returns-then-not-is_ended
unfolding str all is_within_line
returns-then-not-is_ended c = head_open c.args.stream.now _ refl c.args.at _ _ (str "key=") refl c.requires.stream_value c.line_end-end.result c.line_end-end.ensures (sym c.is_ended.ensures ∙ c.if-not-is_ended.true)

pub name_part-requires-clause-as_written : goal.name_part-requires-clause-as_written
name_part-requires-clause-as_written c = λ h. key_known _ (key_code c.key_of-what.result) c.key_of-what.ensures (key_named c.key_of-what.result (sym c.is_some.ensures ∙ h))

pub returns-in_err-name_part : goal.returns-in_err-name_part
unfolding str
returns-in_err-name_part c =
    rw c.from_residual.ensures (
    key_takes c.args.stream.now c.args.at _ (found_of None) (key_code c.key_of-what.result) c.line_end-end.result _ (sym c.is_ended.ensures ∙ c.if-not-is_ended.false) refl (λ q. true_is_false (sym q)) c.requires.stream_value c.line_end-end.ensures refl c.key_of-what.ensures c.in_err-name_part.ensures
    )

pub returns : goal.returns
unfolding str
returns c = key_takes c.args.stream.now c.args.at _ (found_of (Some c.in_ok-name_part.field-0)) (key_code c.key_of-what.result) c.line_end-end.result _ (sym c.is_ended.ensures ∙ c.if-not-is_ended.false) refl (λ q. refl) c.requires.stream_value c.line_end-end.ensures refl c.key_of-what.ensures c.in_ok-name_part.ensures
