use Rattle.std.proofs.Common.{ap, ◌∙◌, sym, drop}
use Rattle.std.proofs.Math.Seq.{drop-drop}
use Rattle.lines.specs.Parts.{part}
use Rattle.lines.specs.Blocks.{is_text}
use Rattle.lines.proofs.BlockLaws.{tail_end, tail_plain}
use Rattle.lines.proofs.tail_of_text.Goals as goal

pub returns-clause-at : goal.returns-clause-at
returns-clause-at c =
    c.tail_of.ensures.at
    ∙ tail_end c.args.raw.now c.after.result.now _ c.args.from c.passed-k.result c.after.ensures (sym (drop-drop c.passed-k.result c.args.from c.args.raw.now) ∙ ap (drop c.passed-k.result) (sym c.after.ensures)) c.passed-k.ensures.within (c.passed-k.ensures.passed is_text (λ b r e. e))

pub returns-clause-plain : goal.returns-clause-plain
unfolding part
returns-clause-plain c =
    λ h. tail_plain c.args.raw.now c.after.result.now _ c.args.from c.passed-k.result c.after.ensures (sym (drop-drop c.passed-k.result c.args.from c.args.raw.now) ∙ ap (drop c.passed-k.result) (sym c.after.ensures)) c.passed-k.ensures.within (c.passed-k.ensures.passed is_text (λ b r e. e)) (c.tail_of.ensures.plain h)
