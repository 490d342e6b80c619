use Rattle.std.proofs.Common.{ℕ, Bool, List, ◌≡◌, ◌+◌, length, drop, ap, ◌∙◌, arith, sym}
use Rattle.std.proofs.Math.ListN.{length-drop}
use Rattle.std.specs.Bool.{then_some}
use Rattle.definition.specs.Event.{legible}
use Rattle.lines.specs.Escapes.{counted, scanned}
use Rattle.lines.specs.Blocks.{is_plain}
use Rattle.lines.proofs.BlockLaws.{scan_past, rest_is}
use Rattle.lines.proofs.EscapeLaws.{scan_more, scan_end}
use Rattle.lines.proofs.scan_line.Goals as goal

pub loop-left-init : goal.loop-left-init
unfolding scanned
loop-left-init c =
    let n : ℕ = c.passed-n.result in
    let z : 0 + n ≡ n = omega arith in (
      ap (λ (l : List ℕ). counted n (legible l)) (rest_is n c.args.raw.now)
          ∙ ap (λ (m : ℕ). counted m (legible (drop n c.args.raw.now))) (sym z)
          ∙ scan_past n 0 c.args.raw.now c.passed-n.ensures.within (c.passed-n.ensures.passed is_plain (λ b r e. e)),
      omega (arith, ap length (rest_is n c.args.raw.now), length-drop n c.args.raw.now, c.passed-n.ensures.within),
    )

pub loop-left-preserved : goal.loop-left-preserved
loop-left-preserved c = (scan_more c.loop-left.rest.now c.in-Some.field-0-0 c.in-Some.left.now c.loop-left.n c.in-Some.ensures ∙ c.loop-left.invariant.0, omega (arith, c.in-Some.ensures.1))

pub returns : goal.returns
returns c =
    c.then_some.ensures
    ∙ ap (λ (b : Bool). then_some b c.loop-left.n) c.is_empty.ensures
    ∙ scan_end c.loop-left.rest.now c.loop-left.n c.in_default.ensures
    ∙ c.loop-left.invariant.0
