use mathlib.Core.Path.{refl}
use Rattle.std.proofs.Math.Bool.{and_assoc}
use Rattle.questions.proofs.Bounds.{counts_is, once}
use Rattle.questions.proofs.counts_fit.Goals as goal

pub returns : goal.returns
returns c = simp and_assoc (simp (and_assoc, once) at (counts_is c.args.p refl))
