use mathlib.Core.Path.{◌∙◌}
use native.Mathlib.Omega.{arith}
use Rattle.plain.proofs.KeyLaws.{code_low, place_is}
use Rattle.plain.proofs.place_of.Goals as goal

pub returns-clause-value : goal.returns-clause-value
returns-clause-value c = c.number.ensures ∙ place_is c.args.slot.code

pub returns-clause-upper_bound : goal.returns-clause-upper_bound
returns-clause-upper_bound c = omega (arith, c.number.ensures, code_low c.args.slot.code)
