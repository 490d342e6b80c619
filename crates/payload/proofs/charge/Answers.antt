use native.Mathlib.Omega.{arith}
use Rattle.payload.proofs.PartLaws.{charge_is}
use Rattle.payload.proofs.charge.Goals as goal

pub returns-clause-value : goal.returns-clause-value
returns-clause-value c = charge_is c.args.event.now.src.now c.args.event.now.plain.now c.args.made c.args.drawn c.requires.drawn_le_drawn.1 _ _ _ c.args.event.now.summed c.text_charge.ensures.value c.name_charge.ensures.value

pub returns-clause-upper_bound : goal.returns-clause-upper_bound
returns-clause-upper_bound c = omega (arith, c.args.event.now.bounded, c.text_charge.ensures.upper_bound, c.name_charge.ensures.upper_bound)
