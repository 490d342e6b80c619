use Rattle.columns.proofs.Columns.{all, columns_all}
use Rattle.definition.specs.Rows.{transition_columns}
use native.Mathlib.Omega.{arith}
use lib.Dec.{leb-zero}
use Rattle.definition.specs.Elements.{among}
use Rattle.definition.specs.Rules.{keeps, chosen, is_row, is_row_or_zero, has_own_number, following}
use Rattle.definition.proofs.Base.{and_true}
use Rattle.rules.proofs.transition_keeps.Goals as goal

pub returns : goal.returns
unfolding transition_columns all keeps chosen is_row is_row_or_zero has_own_number among following
returns c = λ s e. rw (columns_all s c.args.row transition_columns (omega (arith, c.well_formed.0.1))) (simp (and_true, leb-zero, c.is_state.ensures, c.region_or_zero.ensures, c.inside.ensures, e.ids, e.docs, e.states, e.used, e.regions))
