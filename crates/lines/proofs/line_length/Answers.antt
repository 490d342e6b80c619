use Rattle.std.proofs.Common.{Option, ℕ, ap, length, unwrap_or, ◌∙◌, ◌+◌, ◌-◌}
use Rattle.lines.specs.Blocks.{is_within_line}
use Rattle.lines.proofs.BlockLaws.{line_past, line_first_at}
use Rattle.lines.proofs.line_length.Goals as goal

pub returns : goal.returns
returns c =
    ap (λ (n : ℕ). c.passed-i.result + n) (
    c.unwrap_or.ensures
    ∙ ap (λ (o : Option ℕ). unwrap_or o (length c.args.raw.now - c.passed-i.result)) c.first_end.ensures
    ∙ line_first_at c.args.raw.now c.passed-i.result
    )
    ∙ line_past c.passed-i.result c.args.raw.now c.passed-i.ensures.within (c.passed-i.ensures.passed is_within_line (λ b r e. e))
