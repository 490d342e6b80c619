use Rattle.columns.proofs.Columns.{all, columns_all, texts_of, past_texts, ending, texts_part, zeros_part}
use Rattle.definition.specs.Rows.{invoke_columns}
use mathlib.Core.List.{[], ◌∷◌}
use Rattle.definition.specs.Elements.{plain, masked}
use native.Mathlib.Omega.{arith}
use lib.Dec.{leb-zero}
use Rattle.definition.specs.Elements.{among}
use Rattle.definition.specs.Rules.{keeps, chosen, is_row, is_row_or_zero, has_own_number, following}
use Rattle.definition.proofs.Base.{and_true}
use Rattle.rules.proofs.invoke_keeps.Goals as goal

pub returns : goal.returns
unfolding invoke_columns all keeps chosen is_row is_row_or_zero has_own_number among following texts_of past_texts
returns c = λ s e. rw (columns_all s c.args.row invoke_columns (omega (arith, c.well_formed.0.1)), ending s c.args.row (plain ∷ plain ∷ plain ∷ plain ∷ plain ∷ plain ∷ plain ∷ masked ∷ []) 4 4) (simp (and_true, leb-zero, c.state_or_zero.ensures, c.region_or_zero.ensures, texts_part c.args.row 4 16 (omega (arith, c.well_formed.0.1)) c.args.k.now.used c.texts.ensures, zeros_part c.args.row 20 4 (omega (arith, c.well_formed.0.1)) c.zeros.ensures, e.states, e.regions, e.used))
