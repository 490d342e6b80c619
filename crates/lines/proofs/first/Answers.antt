use Rattle.lines.proofs.EscapeLaws.{first_high, first_plain, first_lone, first_newline, first_backslash, first_other}
use native.Mathlib.Omega.{arith}
use Rattle.lines.proofs.first.Goals as goal

pub returns-then-b-ge128 : goal.returns-then-b-ge128
returns-then-b-ge128 c = λ h. first_high _ _ _ c.in_ok-b.ensures.cases c.if-b-ge128.true

pub returns-then-b-ne92 : goal.returns-then-b-ne92
returns-then-b-ne92 c = first_plain _ _ _ c.in_ok-b.ensures.cases c.if-b-ge128.false c.if-b-ne92.true

pub returns-in_err-c : goal.returns-in_err-c
returns-in_err-c c = rw c.from_residual-in_err-c.ensures (λ h. first_lone _ _ _ c.in_ok-b.ensures.cases c.if-b-ne92.false c.in_err-c.ensures.cases)

pub returns-in-110 : goal.returns-in-110
returns-in-110 c = first_newline _ _ _ c.in_ok-b.ensures.cases c.if-b-ne92.false _ _ c.in_ok-c.ensures.cases c.in-110.is

pub returns-in-92 : goal.returns-in-92
returns-in-92 c = first_backslash _ _ _ c.in_ok-b.ensures.cases c.if-b-ne92.false _ _ c.in_ok-c.ensures.cases c.in-92.is

pub returns-in_default : goal.returns-in_default
returns-in_default c = λ h. first_other _ _ _ c.in_ok-b.ensures.cases c.if-b-ne92.false _ _ c.in_ok-c.ensures.cases (omega arith) (omega arith)
