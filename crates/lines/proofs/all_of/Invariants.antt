use Rattle.std.proofs.Common.{ℕ, Bool, ◌≡◌, take}
use Rattle.lines.specs.Blocks.{all, Tells}
use Rattle.lines.proofs.all_of.Given as goal

abbrev pub invariant-loop-b : goal.invariant-loop-b
invariant-loop-b g l = (p : ℕ → Bool) → Tells p (λ b r. goal.F-post g l.test b r) → l.so ≡ all p (take l.b-index l.block)
