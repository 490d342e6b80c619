use mathlib.Core.Path.{◌∙◌}
use Rattle.reading.proofs.Laws.{chart_none, chart_empty, chart_there}
use Rattle.reading.proofs.read_chart.Goals as goal

pub returns-then-place-eq0 : goal.returns-then-place-eq0
returns-then-place-eq0 c = chart_none c.args.chart.now c.args.number c.place_in-place.ensures.value c.if-place-eq0.true

pub returns-then-chart-eq0 : goal.returns-then-chart-eq0
returns-then-chart-eq0 c = chart_empty c.args.chart.now c.args.number c.place_in-place.ensures.value c.if-chart-eq0.true

pub returns : goal.returns
returns c = c.at.ensures ∙ chart_there c.args.chart.now c.args.number c.place_in-place.ensures.value c.if-chart-eq0.false
