-- A lent buffer that is filled from the front: what stands in it after something was put behind its first i bytes.
use Rattle.std.specs.Prelude.{ℕ, ◌≤◌, ◌≡◌, List, ◌++◌, length, take}

-- w was put behind the first i bytes of a, which gives b and the place j behind it. What does not fit is left out.
pub record Added (a : List ℕ) (i : ℕ) (b : List ℕ) (j : ℕ) (w : List ℕ) : Type 0 where
  pub long : length b ≡ length a
  pub within : j ≤ length b
  pub told : take j b ≡ take (length b) (take i a ++ w)
