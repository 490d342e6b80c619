-- Numbers of states, transitions and regions, typed; the numbers of shapes and of types of a transition; what an event's numbers count as.
use Rattle.std.specs.Prelude.{ℕ, zero, suc, true, false, leb}
use Rattle.definition.specs.Elements.{tag}
use Rattle.definition.specs.declared.StateId.{StateId}
use Rattle.definition.specs.declared.TransitionId.{TransitionId}
use Rattle.definition.specs.declared.RegionId.{RegionId}
use Rattle.plan.specs.declared.Shape.{Shape}
use Rattle.plan.specs.declared.Shape.TheVariants as S
use Rattle.plan.specs.declared.TransitionType.{TransitionType}
use Rattle.plan.specs.declared.TransitionType.TheVariants as M

abbrev pub state_id : ℕ → StateId
state_id i = record { 0 = i }

abbrev pub transition_id : ℕ → TransitionId
transition_id i = record { 0 = i }

abbrev pub region_id : ℕ → RegionId
region_id i = record { 0 = i }

abbrev pub shape_number : Shape → ℕ
shape_number S.First = 0
shape_number S.Second = 1
shape_number S.Third = 2

abbrev pub mode_number : TransitionType → ℕ
mode_number M.External = 0
mode_number M.Internal = 1

-- A kind past `end` counts as `end`.
unfoldable pub kind_counted : ℕ → ℕ
kind_counted zero = 0
kind_counted (suc zero) = 1
kind_counted (suc (suc zero)) = 2
kind_counted (suc (suc (suc k))) = 3

-- A number past the last element's counts as `unknown`.
unfoldable pub tag_counted : ℕ → ℕ
tag_counted g = elim (leb g tag.include) [ true ↦ g | false ↦ tag.unknown ]
