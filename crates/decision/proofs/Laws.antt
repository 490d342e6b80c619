-- What has a number is there.
use Rattle.std.proofs.Common.{◌≡◌, ◌<◌, ℕ, zero, suc, refl, arith}
use Rattle.plan.specs.Plan.{Planned, refused}
use Rattle.plan.specs.Plans.{unless_zero_p}

pub there : (s : ℕ) (P : Planned) → 0 < s → unless_zero_p s P ≡ P
unfolding unless_zero_p
there zero P h = absurd (omega arith)
there (suc s) P h = refl

pub not_there : (s : ℕ) (P : Planned) → s ≡ 0 → unless_zero_p s P ≡ refused 2
unfolding unless_zero_p
not_there zero P e = refl
not_there (suc s) P e = absurd (omega (arith, e))
