-- A loop over an event's 16 places: of 16 elements the first c are the first `at_most16 c`.
use Prim.Native.Nat.{ℕ, ◌+◌, ◌≤◌, ◌<◌}
use mathlib.Core.Path.{◌≡◌, sym, ap₂, ◌∙◌}
use mathlib.Core.List.{List, [], ◌∷◌}
use native.Mathlib.Numerals.{add-one}
use native.Mathlib.Omega.{arith}
use lib.ListN.{length, get_or, take, drop, drop_of_length-le, length-take}
use lib.Seq.{drop-cons, get_or-take, take_all, take-take}
use Rattle.parts.specs.Parts.{at_most16}

module _ {A : Type 0} (xs : List A) (c : ℕ) (long : length xs ≡ 16) where
  length_most : length (take c xs) ≡ at_most16 c
  length_most = omega (arith, length-take c xs, long)

  module _ (i : ℕ) where
    pub take_most : i ≤ at_most16 c → at_most16 c ≤ i → take i xs ≡ take c xs
    take_most h k = sym (take-take i c xs (omega arith)) ∙ take_all i (take c xs) (omega (arith, length_most))

    pub past_most : at_most16 c ≤ i → drop i (take c xs) ≡ []
    past_most h = let m : length (take c xs) ≤ i = omega (arith, length_most) in drop_of_length-le (take c xs) m

    pub next_most : (z : A) → i < at_most16 c → drop i (take c xs) ≡ get_or xs i z ∷ drop (i + 1) (take c xs)
    next_most z h =
        drop-cons (take c xs) i z (omega (arith, length_most))
        ∙ ap₂ (λ (x : A) (n : ℕ). x ∷ drop n (take c xs)) (get_or-take c xs i z (omega arith)) (sym (add-one i))
