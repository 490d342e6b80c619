use native.Mathlib.Omega.{arith}
use mathlib.Core.Path.{◌≡◌, refl}
use Rattle.definition.specs.Codes.{list_number}
use Rattle.definition.specs.Elements.{among}
use Rattle.definition.specs.Rules.{keeps, is_row, is_row_or_zero, has_own_number}
use Rattle.definition.specs.Rows.{choices}
use Rattle.columns.proofs.Choices.{free_past, owner_transition, owner_state}
use Rattle.columns.proofs.numbered.Known.member_owner_keeps.Goals as goal

pub returns-in-Targets : goal.returns-in-Targets
unfolding choices keeps is_row is_row_or_zero has_own_number among
returns-in-Targets c = λ s e x vs q. let k : list_number c.in-Ok.list ≡ c.args.list = c.in-Ok.ensures in rw (← k, owner_transition _ c.in-Targets.is) (simp (c.transition_or_zero.ensures, e.transitions))

pub returns-in-SendNames : goal.returns-in-SendNames
unfolding choices keeps is_row is_row_or_zero has_own_number among
returns-in-SendNames c = λ s e x vs q. let k : list_number c.in-Ok.list ≡ c.args.list = c.in-Ok.ensures in rw (← k, c.in-SendNames.is) (simp (c.up_to.ensures, e.entries))

pub returns-in-InvokeNames : goal.returns-in-InvokeNames
unfolding choices keeps is_row is_row_or_zero has_own_number among
returns-in-InvokeNames c = λ s e x vs q. let k : list_number c.in-Ok.list ≡ c.args.list = c.in-Ok.ensures in rw (← k, c.in-InvokeNames.is) (simp (c.up_to-in-InvokeNames.ensures, e.invokes))

pub returns-in_default-list : goal.returns-in_default-list
unfolding choices keeps is_row is_row_or_zero has_own_number among
returns-in_default-list c = λ s e x vs q. let k : list_number c.in-Ok.list ≡ c.args.list = c.in-Ok.ensures in rw (← k, owner_state _ c.in_default-list.not-Targets c.in_default-list.not-Events c.in_default-list.not-SendNames c.in_default-list.not-InvokeNames) (simp (c.state_or_zero.ensures, e.states))

pub returns-in_default : goal.returns-in_default
unfolding choices keeps is_row is_row_or_zero has_own_number among
returns-in_default c = λ s e x vs q. rw (free_past 3 c.args.list (λ l. omega (arith, c.in_default.ensures l)) refl) refl
