use Rattle.std.proofs.Math.Bool.{and_assoc}
use Rattle.questions.proofs.Bounds.{long_is}
use Rattle.questions.proofs.long_enough.Goals as goal

pub returns : goal.returns
returns c = simp and_assoc (simp and_assoc at (long_is c.args.tables))
