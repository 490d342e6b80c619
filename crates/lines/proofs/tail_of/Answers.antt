use Rattle.std.proofs.Common.{ℕ, List, ◌≡◌, ◌≤◌, ap, length, ◌∙◌, ◌+◌, ◌-◌, sym, take, drop, arith}
use Rattle.std.proofs.Math.ListN.{length-drop}
use Rattle.lines.specs.Lines.{line_length}
use Rattle.lines.specs.Parts.{part}
use Rattle.lines.specs.Blocks.{is_text, is_plain, all}
use Rattle.lines.proofs.BlockLaws.{tail_end, tail_fits, tail_plain, block_plain, rest_is}
use Rattle.lines.proofs.tail_of.Goals as goal

pub overflow_add-result-2 : goal.overflow_add-result-2
overflow_add-result-2 c =
    let r : List ℕ = take (length c.after-line.result.now - c.passed-k.result) (drop c.passed-k.result c.after-line.result.now) in
    let h : c.args.from + c.passed-k.result + line_length r ≤ c.args.from + length c.after-line.result.now = tail_fits c.args.raw.now c.after-line.result.now _ c.args.from c.passed-k.result c.after-line.ensures (rest_is c.passed-k.result c.after-line.result.now) c.passed-k.ensures.within (c.passed-k.ensures.passed is_text (λ b r e. e)) in
    omega (arith, c.line_length.ensures, ap length c.after-line.ensures, length-drop c.args.from c.args.raw.now)

pub returns-then-rest-ge-BLOCK-clause-at : goal.returns-then-rest-ge-BLOCK-clause-at
returns-then-rest-ge-BLOCK-clause-at c =
    ap (λ (n : ℕ). c.args.from + c.passed-k.result + n) c.line_length.ensures
    ∙ tail_end c.args.raw.now c.after-line.result.now _ c.args.from c.passed-k.result c.after-line.ensures (rest_is c.passed-k.result c.after-line.result.now) c.passed-k.ensures.within (c.passed-k.ensures.passed is_text (λ b r e. e))

pub returns-then-rest-ge-BLOCK-clause-plain : goal.returns-then-rest-ge-BLOCK-clause-plain
unfolding part
returns-then-rest-ge-BLOCK-clause-plain c =
    λ h.
    let r : take (length c.after-line.result.now - c.passed-k.result) (drop c.passed-k.result c.after-line.result.now) ≡ drop c.passed-k.result c.after-line.result.now = rest_is c.passed-k.result c.after-line.result.now in
    tail_plain c.args.raw.now c.after-line.result.now _ c.args.from c.passed-k.result c.after-line.ensures (rest_is c.passed-k.result c.after-line.result.now) c.passed-k.ensures.within (c.passed-k.ensures.passed is_text (λ b r e. e)) (
    block_plain 8 _
    (sym (c.all_of.ensures is_plain (λ b r e. e)) ∙ h)
    (ap (λ (l : List ℕ). all is_text (take 8 l)) r ∙ c.passed-k.ensures.stopped is_text (λ b r e. e) (omega (arith, ap length r, length-drop c.passed-k.result c.after-line.result.now)))
    )

pub returns-else-rest-ge-BLOCK-clause-at : goal.returns-else-rest-ge-BLOCK-clause-at
returns-else-rest-ge-BLOCK-clause-at c =
    ap (λ (n : ℕ). c.args.from + c.passed-k.result + n) c.line_length.ensures
    ∙ tail_end c.args.raw.now c.after-line.result.now _ c.args.from c.passed-k.result c.after-line.ensures (rest_is c.passed-k.result c.after-line.result.now) c.passed-k.ensures.within (c.passed-k.ensures.passed is_text (λ b r e. e))
