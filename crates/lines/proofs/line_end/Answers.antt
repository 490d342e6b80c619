use Rattle.std.proofs.Common.{ℕ, ap, drop, ◌∙◌, ◌+◌, arith}
use Rattle.std.proofs.Math.ListN.{length-drop}
use Rattle.lines.specs.Lines.{line_length}
use Rattle.lines.proofs.BlockLaws.{line_within}
use Rattle.lines.proofs.line_end.Goals as goal

pub overflow_add-result : goal.overflow_add-result
overflow_add-result c = omega (arith, c.line_length.ensures ∙ ap line_length c.after.ensures, line_within (drop c.args.from c.args.raw.now), length-drop c.args.from c.args.raw.now)

pub returns : goal.returns
returns c = ap (λ (n : ℕ). c.args.from + n) (c.line_length.ensures ∙ ap line_length c.after.ensures)
