use mathlib.Core.Path.{refl}
use Rattle.definition.specs.Codes.{tag_number}
use Rattle.entries.specs.Whole.{states_in, state_row_by}
use Rattle.entries.proofs.Laws.{then_altered}
use Rattle.charts.proofs.change_states.Goals as goal

pub returns : goal.returns
unfolding states_in
returns c = then_altered (λ p. p.at.0) (state_row_by c.args.texts.cells.now (tag_number c.args.texts.tag)) _ _ _ _ _ c.in-Some.is refl (c.alter.ensures _ (λ x y h. h))
