use native.Mathlib.Omega.{arith}
use Rattle.std.proofs.Common.{◌∙◌, sym, length}
use Rattle.see.proofs.Nexts.{with_met, with_there, child_next, child_this, child_later, child_no, same_yes, same_not, same_other}
use Rattle.see.proofs.is_child.Goals as goal
use Rattle.see.proofs.is_child.Goals.{else-members-i-via-then-members-i+else-members-i-2, else-members-i-via-else-members-i}

pub returns-then-members-i-2 : goal.returns-then-members-i-2
returns-then-members-i-2 c =
    let z = c.in-Some.ensures in
    child_this c.args.p.0 c.args.s.0 c.args.members.now c.in-Some.i z.0
    (with_there 2 c.args.s.0 c.args.members.now c.in-Some.i z.0 (with_met 2 c.args.s.0 c.args.members.now c.loop-i.from c.in-Some.i z.1)) (same_yes _ c.args.p.0 (c.if-members-i.true ∙ c.number.ensures) c.if-members-i-2.true)
    ∙ child_next c.args.members.now c.loop-i.from c.in-Some.i c.args.p.0 c.args.s.0 z.1 ∙ c.loop-i.invariant.1

pub loop-i-preserved : goal.loop-i-preserved
loop-i-preserved c =
    let z = c.in-Some.ensures in (
      omega (arith, z.0),
      child_later c.args.p.0 c.args.s.0 c.args.members.now c.in-Some.i z.0 (
          elim c.else-members-i.branch [
            | else-members-i-via-then-members-i+else-members-i-2 w ↦ same_not _ c.args.p.0 (w.if-members-i.true ∙ c.number.ensures) w.if-members-i-2.false
            | else-members-i-via-else-members-i w ↦ same_other _ c.args.p.0 (λ e. w.if-members-i.false (e ∙ sym c.number.ensures))
          ])
          ∙ child_next c.args.members.now c.loop-i.from c.in-Some.i c.args.p.0 c.args.s.0 z.1 ∙ c.loop-i.invariant.1,
    )

pub returns : goal.returns
returns c =
    child_no c.args.p.0 c.args.s.0 c.args.members.now (length c.args.members.now) (omega arith)
    ∙ child_next c.args.members.now c.loop-i.from (length c.args.members.now) c.args.p.0 c.args.s.0 (sym c.in_default.ensures) ∙ c.loop-i.invariant.1
