use mathlib.Core.Path.{refl}
use Rattle.definition.specs.Codes.{tag_number}
use Rattle.entries.specs.Whole.{chart_in, chart_row}
use Rattle.entries.proofs.Laws.{then_altered}
use Rattle.charts.proofs.change_chart.Goals as goal

pub returns : goal.returns
unfolding chart_in
returns c = then_altered (λ p. 1) (chart_row c.args.texts.cells.now (tag_number c.args.texts.tag)) _ _ _ _ _ c.in-Some.is refl (c.alter.ensures _ (λ x y h. h))
