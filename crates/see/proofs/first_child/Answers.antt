use native.Mathlib.Omega.{arith}
use Rattle.std.proofs.Common.{◌∙◌, sym, length}
use Rattle.see.proofs.Scans.{first_none}
use Rattle.see.proofs.Nexts.{with_met, with_there, first_next, first_this, first_other}
use Rattle.see.proofs.first_child.Goals as goal

pub returns-then-members-i : goal.returns-then-members-i
returns-then-members-i c =
    let z = c.in-Some.ensures in
    first_this c.args.members.now c.args.d c.args.s.0 c.in-Some.i z.0 (c.if-members-i.true ∙ c.number.ensures)
    (with_there 1 c.args.s.0 c.args.members.now c.in-Some.i z.0 (with_met 1 c.args.s.0 c.args.members.now c.loop-i.from c.in-Some.i z.1))
    ∙ first_next c.args.members.now c.loop-i.from c.in-Some.i c.args.d c.args.s.0 z.1 ∙ c.loop-i.invariant.1

pub loop-i-preserved : goal.loop-i-preserved
loop-i-preserved c =
    let z = c.in-Some.ensures in (
      omega (arith, z.0),
      first_other c.args.members.now c.args.d c.args.s.0 c.in-Some.i z.0 (λ e. c.if-members-i.false (e ∙ sym c.number.ensures))
          ∙ first_next c.args.members.now c.loop-i.from c.in-Some.i c.args.d c.args.s.0 z.1 ∙ c.loop-i.invariant.1,
    )

pub returns : goal.returns
returns c =
    first_none c.args.members.now c.args.d c.args.s.0 (length c.args.members.now) (omega arith)
    ∙ first_next c.args.members.now c.loop-i.from (length c.args.members.now) c.args.d c.args.s.0 (sym c.in_default.ensures) ∙ c.loop-i.invariant.1
