-- Every source that an element's shapes name has the role of its column's class, by one computed test.
use mathlib.Core.Path.{◌≡◌, refl}
use mathlib.Core.Bool.{true}
use Rattle.definition.specs.Shapes.{all_fit, shapes_by_element}

pub sources_fit : all_fit shapes_by_element ≡ true
unfolding all_fit shapes_by_element
sources_fit = refl
