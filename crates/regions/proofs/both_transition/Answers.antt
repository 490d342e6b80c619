use Rattle.std.proofs.Common.{◌∙◌, arith}
use Rattle.regions.proofs.Laws.{whole}
use Rattle.regions.proofs.both_transition.Goals as goal

pub returns : goal.returns
returns c = c.transition.ensures ∙ whole _ c.args.v.now c.args.q.now (omega arith)
