use Rattle.std.proofs.Common.{ℕ, Bool, ◌≡◌, ◌+◌, drop}
use Rattle.words.specs.Next.{Tells, gap}
use Rattle.words.proofs.skip.Given as goal

abbrev pub invariant-loop-i : goal.invariant-loop-i
invariant-loop-i g l = (p : ℕ → Bool) → Tells p (λ b r. goal.F-post g l.test b r) → l.i + gap p (drop l.i l.v) ≡ l.from + gap p (drop l.from l.v)
