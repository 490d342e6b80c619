use Rattle.columns.proofs.Columns.{all, columns_all, texts_of, past_texts, ending, texts_part, zeros_part}
use lib.ListN.{replicate}
use Rattle.definition.specs.Elements.{plain, masked}
use native.Mathlib.Omega.{arith}
use mathlib.Core.List.{[], ◌∷◌}
use mathlib.Core.Path.{refl}
use lib.Dec.{leb-zero}
use Rattle.definition.specs.Elements.{among}
use Rattle.definition.specs.Rules.{keeps, chosen, is_row, is_row_or_zero, has_own_number, following}
use Rattle.definition.specs.Rows.{entry_columns, num}
use Rattle.definition.proofs.Base.{and_true}
use Rattle.rules.proofs.entry_keeps.Goals as goal

pub returns : goal.returns
unfolding entry_columns all keeps chosen is_row is_row_or_zero has_own_number among following texts_of past_texts
returns c = λ s e. rw (columns_all s c.args.row entry_columns (omega (arith, c.well_formed.0.1)), ending s c.args.row (masked ∷ masked ∷ masked ∷ replicate 16 plain) 6 4) (simp (and_true, leb-zero, c.region_or_zero.ensures, c.state_or_zero.ensures, c.content_keeps.ensures s e c.args.row (num c.args.row 4 ∷ []) refl, c.else_keeps.ensures s e c.args.row (num c.args.row 5 ∷ []) refl, texts_part c.args.row 6 38 (omega (arith, c.well_formed.0.1)) c.args.k.now.used c.texts.ensures, zeros_part c.args.row 44 4 (omega (arith, c.well_formed.0.1)) c.zeros.ensures, e.states, e.regions, e.used))
