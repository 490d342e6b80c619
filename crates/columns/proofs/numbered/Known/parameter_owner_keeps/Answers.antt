use native.Mathlib.Omega.{arith}
use mathlib.Core.Path.{◌≡◌, refl}
use Rattle.definition.specs.Codes.{owner_number}
use Rattle.definition.specs.Elements.{among}
use Rattle.definition.specs.Rules.{keeps, is_row, is_row_or_zero, has_own_number}
use Rattle.definition.specs.Rows.{choices}
use Rattle.columns.proofs.Choices.{free_past}
use Rattle.columns.proofs.numbered.Known.parameter_owner_keeps.Goals as goal

pub returns-in-Send : goal.returns-in-Send
unfolding choices keeps is_row is_row_or_zero has_own_number among
returns-in-Send c = λ s e x vs q. let k : owner_number c.in-Ok.kind ≡ c.args.kind = c.in-Ok.ensures in rw (← k, c.in-Send.is) (simp (c.up_to.ensures, e.entries))

pub returns-in-Invoke : goal.returns-in-Invoke
unfolding choices keeps is_row is_row_or_zero has_own_number among
returns-in-Invoke c = λ s e x vs q. let k : owner_number c.in-Ok.kind ≡ c.args.kind = c.in-Ok.ensures in rw (← k, c.in-Invoke.is) (simp (c.up_to-in-Invoke.ensures, e.invokes))

pub returns-in-Donedata : goal.returns-in-Donedata
unfolding choices keeps is_row is_row_or_zero has_own_number among
returns-in-Donedata c = λ s e x vs q. let k : owner_number c.in-Ok.kind ≡ c.args.kind = c.in-Ok.ensures in rw (← k, c.in-Donedata.is) (simp (c.state_or_zero.ensures, e.states))

pub returns-in_default : goal.returns-in_default
unfolding choices keeps is_row is_row_or_zero has_own_number among
returns-in_default c = λ s e x vs q. rw (free_past 2 c.args.kind (λ l. omega (arith, c.in_default.ensures l)) refl) refl
