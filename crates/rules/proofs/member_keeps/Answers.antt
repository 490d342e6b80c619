use Rattle.columns.proofs.Columns.{all, columns_all, spares_all, zeros_part}
use native.Mathlib.Omega.{arith}
use mathlib.Core.List.{[], ◌∷◌}
use mathlib.Core.Path.{refl}
use lib.Dec.{leb-zero}
use Rattle.definition.specs.Elements.{among}
use Rattle.definition.specs.Rules.{keeps, chosen, is_row, is_row_or_zero, has_own_number, following}
use Rattle.definition.specs.Rows.{member_columns, num}
use Rattle.definition.proofs.Base.{and_true}
use Rattle.rules.proofs.member_keeps.Goals as goal

pub returns : goal.returns
unfolding member_columns all keeps chosen is_row is_row_or_zero has_own_number among following
returns c = λ s e. rw (columns_all s c.args.row member_columns (omega (arith, c.well_formed.0.1)), spares_all s c.args.row 5 3) (simp (and_true, leb-zero, c.member_owner_keeps.ensures s e c.args.row (num c.args.row 2 ∷ []) refl, c.member_value_keeps.ensures s e c.args.row (num c.args.row 3 ∷ []) refl, c.inside.ensures, zeros_part c.args.row 5 3 (omega (arith, c.well_formed.0.1)) c.zeros.ensures, e.used))
