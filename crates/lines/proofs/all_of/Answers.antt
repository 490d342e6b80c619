use Rattle.std.proofs.Common.{Bool, ap, ◌∙◌, ◌&&◌, refl, arith}
use Rattle.std.proofs.Math.Seq.{take_all}
use Rattle.lines.specs.Blocks.{all}
use Rattle.lines.proofs.BlockLaws.{all_more}
use Rattle.lines.proofs.all_of.Goals as goal

pub loop-b-init : goal.loop-b-init
unfolding all
loop-b-init g c = λ p t. refl

pub loop-b-preserved : goal.loop-b-preserved
loop-b-preserved g c =
    λ p t. ap (λ (x : Bool). c.loop-b.so && x) (t _ _ c.test-so.ensures) ∙ all_more p c.args.block.now c.loop-b.b-index c.loop-b.so c.loop-b-test.true (c.loop-b.invariant p t)

pub returns : goal.returns
returns g c = λ p t. c.loop-b.invariant p t ∙ ap (all p) (take_all c.loop-b.b-index _ (omega arith))
