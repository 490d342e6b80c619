use Rattle.columns.proofs.Columns.{all, columns_all, spares_all, zeros_part}
use Rattle.definition.specs.Rows.{open_region_columns}
use native.Mathlib.Omega.{arith}
use lib.Dec.{leb-zero}
use Rattle.definition.specs.Elements.{among}
use Rattle.definition.specs.Rules.{keeps, chosen, is_row, is_row_or_zero, has_own_number, following}
use Rattle.definition.proofs.Base.{and_true}
use Rattle.rules.proofs.open_region_keeps.Goals as goal

pub returns : goal.returns
unfolding open_region_columns all keeps chosen is_row is_row_or_zero has_own_number among following
returns c = λ s e. rw (columns_all s c.args.row open_region_columns (omega (arith, c.well_formed.0.1)), spares_all s c.args.row 2 6) (simp (and_true, leb-zero, c.region_or_zero.ensures, zeros_part c.args.row 2 6 (omega (arith, c.well_formed.0.1)) c.zeros.ensures, e.regions))
