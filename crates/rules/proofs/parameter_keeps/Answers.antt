use Rattle.columns.proofs.Columns.{all, columns_all, texts_of, past_texts, ending, texts_part}
use Rattle.columns.specs.Cells.{zeros_from}
use Rattle.definition.specs.Elements.{plain, masked}
use native.Mathlib.Omega.{arith}
use mathlib.Core.List.{[], ◌∷◌}
use mathlib.Core.Path.{refl}
use lib.Dec.{leb-zero}
use Rattle.definition.specs.Elements.{among}
use Rattle.definition.specs.Rules.{keeps, chosen, is_row, is_row_or_zero, has_own_number, following}
use Rattle.definition.specs.Rows.{parameter_columns, num}
use Rattle.definition.proofs.Base.{and_true}
use Rattle.rules.proofs.parameter_keeps.Goals as goal

pub returns : goal.returns
unfolding parameter_columns all keeps chosen is_row is_row_or_zero has_own_number among following texts_of past_texts zeros_from
returns c = λ s e. rw (columns_all s c.args.row parameter_columns (omega (arith, c.well_formed.0.1)), ending s c.args.row (plain ∷ masked ∷ plain ∷ []) 2 0) (simp (and_true, leb-zero, c.parameter_owner_keeps.ensures s e c.args.row (num c.args.row 2 ∷ []) refl, texts_part c.args.row 2 6 (omega (arith, c.well_formed.0.1)) c.args.k.now.used c.texts.ensures, e.used))
