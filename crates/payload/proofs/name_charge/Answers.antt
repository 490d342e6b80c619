use lib.ListN.{length}
use mathlib.Core.Path.{refl, sym, ap}
use native.Mathlib.Omega.{arith}
use Rattle.payload.proofs.PartLaws.{name_long, name_none}
use Rattle.payload.proofs.name_charge.Goals as goal

pub returns : goal.returns
returns c = let r = name_long c.args.made c.args.drawn c.if-not-made.false _ refl _ c.put_generated.ensures.value in record { value = r.0; upper_bound = r.1 }

pub returns-then-not-made-clause-value : goal.returns-then-not-made-clause-value
returns-then-not-made-clause-value c = sym (ap length (name_none c.args.made c.args.drawn c.if-not-made.true))

pub returns-then-not-made-clause-upper_bound : goal.returns-then-not-made-clause-upper_bound
returns-then-not-made-clause-upper_bound c = omega arith
