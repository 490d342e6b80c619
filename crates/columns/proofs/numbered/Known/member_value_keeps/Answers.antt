use native.Mathlib.Omega.{arith}
use mathlib.Core.Path.{◌≡◌, refl}
use lib.Dec.{leb-zero}
use Rattle.definition.specs.Codes.{list_number}
use Rattle.definition.specs.Elements.{among}
use Rattle.definition.specs.Rules.{keeps, is_row, is_row_or_zero, has_own_number}
use Rattle.definition.specs.Rows.{choices}
use Rattle.columns.proofs.Columns.{spare_is}
use Rattle.columns.proofs.Choices.{free_past, value_state, value_region, value_none}
use Rattle.columns.proofs.numbered.Known.member_value_keeps.Goals as goal

pub returns-in-Children : goal.returns-in-Children
unfolding choices keeps is_row is_row_or_zero has_own_number among
returns-in-Children c = λ s e x vs q. let k : list_number c.in-Ok.list ≡ c.args.list = c.in-Ok.ensures in rw (← k, value_state _ c.in-Children.is) (simp (c.is_state.ensures, e.states))

pub returns-in-Onentry : goal.returns-in-Onentry
unfolding choices keeps is_row is_row_or_zero has_own_number among
returns-in-Onentry c = λ s e x vs q. let k : list_number c.in-Ok.list ≡ c.args.list = c.in-Ok.ensures in rw (← k, value_region _ c.in-Onentry.is) (simp (c.is_numbered.ensures, e.regions))

pub returns-in-Transitions : goal.returns-in-Transitions
unfolding choices keeps is_row is_row_or_zero has_own_number among
returns-in-Transitions c = λ s e x vs q. let k : list_number c.in-Ok.list ≡ c.args.list = c.in-Ok.ensures in rw (← k, c.in-Transitions.is) (simp (c.is_numbered-in-Transitions.ensures, e.transitions))

pub returns-in_default-list : goal.returns-in_default-list
unfolding choices keeps is_row is_row_or_zero has_own_number among
returns-in_default-list c = λ s e x vs q. let k : list_number c.in-Ok.list ≡ c.args.list = c.in-Ok.ensures in rw (← k, value_none _ c.in_default-list.not-Children c.in_default-list.not-History c.in_default-list.not-Targets c.in_default-list.not-Onentry c.in_default-list.not-Onexit c.in_default-list.not-Transitions) (simp (leb-zero, spare_is))

pub returns-in_default : goal.returns-in_default
unfolding choices keeps is_row is_row_or_zero has_own_number among
returns-in_default c = λ s e x vs q. rw (free_past 4 c.args.list (λ l. omega (arith, c.in_default.ensures l)) refl) refl
