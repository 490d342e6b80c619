use native.Mathlib.Omega.{arith}
use mathlib.Core.Path.{◌≡◌, refl}
use Rattle.definition.specs.Codes.{entry_number}
use Rattle.definition.specs.Elements.{among}
use Rattle.definition.specs.Rules.{keeps, is_row, is_row_or_zero, has_own_number}
use Rattle.definition.specs.Rows.{choices}
use Rattle.columns.proofs.Choices.{free_past, else_above, else_row}
use Rattle.columns.proofs.numbered.Known.else_keeps.Goals as goal

pub returns-in-If : goal.returns-in-If
unfolding choices keeps is_row is_row_or_zero has_own_number among
returns-in-If c = λ s e x vs q. let k : entry_number c.in-Ok.kind ≡ c.args.kind = c.in-Ok.ensures in rw (← k, else_above _ c.in-If.is) (simp (c.region_above.ensures, e.regions, q))

pub returns-in_default-kind : goal.returns-in_default-kind
unfolding choices keeps is_row is_row_or_zero has_own_number among
returns-in_default-kind c = λ s e x vs q. let k : entry_number c.in-Ok.kind ≡ c.args.kind = c.in-Ok.ensures in rw (← k, else_row _ c.in_default-kind.not-If) (simp (c.region_or_zero.ensures, e.regions))

pub returns-in_default : goal.returns-in_default
unfolding choices keeps is_row is_row_or_zero has_own_number among
returns-in_default c = λ s e x vs q. rw (free_past 1 c.args.kind (λ l. omega (arith, c.in_default.ensures l)) refl) refl
