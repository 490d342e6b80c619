use native.Mathlib.Omega.{arith}
use Rattle.std.proofs.Common.{◌≡◌, ◌-◌, ◌+◌, ℕ, get_or, ap, ◌∙◌}
use Rattle.rows.proofs.Laws.{row_some}
use Rattle.see.specs.Scans.{walk_over}
use Rattle.see.proofs.Scans.{walk_on}
use Rattle.see.proofs.else_walk.Goals as goal

pub loop-step-preserved : goal.loop-step-preserved
loop-step-preserved c =
    let z : c.args.steps - (c.loop-step._step + 1) ≡ c.args.steps - c.loop-step._step - 1 = omega arith in
    ap (λ (f : ℕ). walk_over f c.args.entries.now (get_or c.in-Some.row.now 4 0)) z
    ∙ walk_on c.args.entries.now (c.args.steps - c.loop-step._step) c.loop-step.at.0 _ _ (omega arith) c.last_entry-e.ensures (row_some c.args.entries.now _ _ c.in-Some.ensures) (c.if-row-number.false ∙ c.number.ensures)
    c.if-row-eq0.false
    ∙ c.loop-step.invariant
