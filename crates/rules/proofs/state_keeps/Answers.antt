use Rattle.columns.proofs.Columns.{all, columns_all, texts_of, past_texts, ending, texts_part, zeros_part}
use Rattle.definition.specs.Rows.{state_columns}
use mathlib.Core.List.{[], ◌∷◌}
use Rattle.definition.specs.Elements.{plain, masked}
use native.Mathlib.Omega.{arith}
use lib.Dec.{leb-zero}
use Rattle.definition.specs.Elements.{among}
use Rattle.definition.specs.Rules.{keeps, chosen, is_row, is_row_or_zero, has_own_number, following}
use Rattle.definition.proofs.Base.{and_true}
use Rattle.rules.proofs.state_keeps.Goals as goal

pub returns : goal.returns
unfolding state_columns all keeps chosen is_row is_row_or_zero has_own_number among following texts_of past_texts
returns c = λ s e. rw (columns_all s c.args.row state_columns (omega (arith, c.well_formed.0.1)), ending s c.args.row (plain ∷ masked ∷ []) 10 10) (simp (and_true, leb-zero, c.inside.ensures, c.transition_or_zero.ensures, c.state_or_zero.ensures, c.up_to_next.ensures, texts_part c.args.row 10 4 (omega (arith, c.well_formed.0.1)) c.args.k.now.used c.texts.ensures, zeros_part c.args.row 14 10 (omega (arith, c.well_formed.0.1)) c.zeros.ensures, e.docs, e.states, e.transitions, e.parameters, e.used))
