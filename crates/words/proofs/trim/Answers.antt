use Rattle.std.proofs.Common.{arith}
use Rattle.definition.specs.Text.{is_space}
use Rattle.words.proofs.Ends.{trim_inside, trim_made}
use Rattle.words.proofs.trim.Goals as goal

pub slice_bounds-body_length-count : goal.slice_bounds-body_length-count
slice_bounds-body_length-count c = trim_inside _ _ (c.skip-off.ensures is_space (λ b r e. e))

pub slice_bounds-body_length-start : goal.slice_bounds-body_length-start
slice_bounds-body_length-start c = omega (arith, trim_inside c.args.v.now c.skip-off.result (c.skip-off.ensures is_space (λ b r e. e)))

pub returns : goal.returns
returns c = trim_made _ _ _ (c.skip-off.ensures is_space (λ b r e. e)) c.body_length.ensures
