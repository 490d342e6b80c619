use mathlib.Core.Path.{◌∙◌}
use Rattle.reading.proofs.Laws.{parameter_none, parameter_left, parameter_there}
use Rattle.reading.proofs.read_parameter.Goals as goal

pub returns-then-place-eq0 : goal.returns-then-place-eq0
returns-then-place-eq0 c = parameter_none c.args.parameters.now c.args.states.now c.args.number c.place_in-place.ensures.value c.if-place-eq0.true

pub returns-then-has_left : goal.returns-then-has_left
returns-then-has_left c = parameter_left c.args.parameters.now c.args.states.now c.args.number c.place_in-place.ensures.value c.if-place-eq0.false c.has_left.ensures c.if-has_left.true

pub returns : goal.returns
returns c = c.at.ensures ∙ parameter_there c.args.parameters.now c.args.states.now c.args.number c.place_in-place.ensures.value c.if-place-eq0.false c.has_left.ensures c.if-has_left.false
