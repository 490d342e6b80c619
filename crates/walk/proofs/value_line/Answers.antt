use Rattle.std.proofs.Common.{Some, None, ◌∙◌, refl, sym}
use Rattle.definition.specs.Text.{str}
use Rattle.definition.proofs.Base.{true_is_false}
use Rattle.lines.specs.Blocks.{all, is_within_line}
use Rattle.walk.specs.Views.{found_of}
use Rattle.walk.proofs.TakesLaws.{value_none, head_open, value_takes, tail_all}
use Rattle.walk.proofs.value_line.Goals as goal

pub returns-then-not-begins : goal.returns-then-not-begins
unfolding str
returns-then-not-begins c = value_none c.args.stream.now _ refl c.args.at (sym c.begins.ensures ∙ c.if-not-begins.true) _

pub returns-then-not-is_ended : goal.returns-then-not-is_ended
unfolding str all is_within_line
returns-then-not-is_ended c = head_open c.args.stream.now _ refl c.args.at _ _ (str "value=") refl (sym c.begins.ensures ∙ c.if-not-begins.false) c.tail_of-t.result.end c.tail_of-t.ensures.at (sym c.is_ended.ensures ∙ c.if-not-is_ended.true)

pub find_part-requires-clause-written_value : goal.find_part-requires-clause-written_value
find_part-requires-clause-written_value c = tail_all _ _ c.tail_of-t.result c.tail_of-t.ensures.at c.tail_of-t.ensures.plain

pub returns-in_err-find_part : goal.returns-in_err-find_part
unfolding str
returns-in_err-find_part c =
    rw c.from_residual.ensures (
    value_takes c.args.stream.now c.args.at _ (found_of None) 0 c.tail_of-t.result.end _ (sym c.is_ended.ensures ∙ c.if-not-is_ended.false) refl (λ q. true_is_false (sym q)) (sym c.begins.ensures ∙ c.if-not-begins.false) c.tail_of-t.ensures.at refl c.in_err-find_part.ensures
    )

pub returns : goal.returns
unfolding str
returns c = value_takes c.args.stream.now c.args.at _ (found_of (Some c.in_ok-find_part.field-0)) 0 c.tail_of-t.result.end _ (sym c.is_ended.ensures ∙ c.if-not-is_ended.false) refl (λ q. refl) (sym c.begins.ensures ∙ c.if-not-begins.false) c.tail_of-t.ensures.at refl c.in_ok-find_part.ensures
