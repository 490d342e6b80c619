use native.Mathlib.Omega.{arith}
use lib.ListN.{replicate}
use Rattle.definition.specs.Rules.{keeps, chosen}
use Rattle.definition.specs.Rows.{free}
use Rattle.columns.proofs.Columns.{all, columns_all}
use Rattle.order.proofs.name_keeps.Goals as goal

pub returns : goal.returns
unfolding all keeps chosen
returns c = λ s e. rw (columns_all s c.args.row (replicate 64 free) (omega (arith, c.well_formed.0.1)))
