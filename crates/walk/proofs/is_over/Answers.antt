use Rattle.std.proofs.Common.{Bool, ap, length, ◌||◌, leb}
use Rattle.definition.specs.Text.{str}
use Rattle.walk.proofs.is_over.Goals as goal

pub returns : goal.returns
unfolding str
returns c = ap (λ (x : Bool). x || leb (length c.args.stream.now) c.args.at) c.begins.ensures
