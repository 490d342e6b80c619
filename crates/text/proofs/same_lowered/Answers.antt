use Rattle.std.proofs.Common.{◌∙◌, arith}
use Rattle.definition.proofs.Base.{same_length}
use Rattle.text.proofs.Laws.{zipped_same, lowered_length}
use Rattle.text.proofs.same_lowered.Goals as goal

pub returns-then-w-v : goal.returns-then-w-v
returns-then-w-v c = c.agrees.ensures ∙ zipped_same c.args.w.now c.args.v.now (omega arith)

pub returns-else-w-v : goal.returns-else-w-v
returns-else-w-v c = grind (arith, lowered_length, same_length)
