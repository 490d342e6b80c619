use Rattle.std.proofs.Common.{ℕ, Bool, true, ◌≡◌, ◌≤◌, ◌-◌, length, take}
use Rattle.lines.specs.Blocks.{all, Tells}
use Rattle.lines.proofs.passed.Given as goal

abbrev pub invariant-loop-i : goal.invariant-loop-i
invariant-loop-i g l = (l.i ≤ length l.raw) × ((p : ℕ → Bool) → Tells p (λ b r. goal.F-post g l.test b r) → all p (take l.i l.raw) ≡ true)

abbrev pub decreases-loop-i : goal.decreases-loop-i
decreases-loop-i g l = length l.raw - l.i
