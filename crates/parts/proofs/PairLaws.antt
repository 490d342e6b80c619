-- Attributes as code has them, and in numbers.
use Prim.Native.Nat.{ℕ, zero, suc, ◌<◌}
use mathlib.Core.Path.{◌≡◌, refl, sym, ap, ap₂, ◌∙◌}
use mathlib.Core.List.{List, [], ◌∷◌}
use native.Mathlib.Omega.{arith}
use lib.ListN.{length, get_or, set, take, replicate}
use lib.Seq.{take-nil}
use Rattle.parts.specs.declared.Pair as code
use Rattle.parts.specs.Walked.{Pair}
use Rattle.parts.specs.Parts.{no_pair, pair_of, pairs_of}

pub pairs_length : (ps : List code.Pair) → length (pairs_of ps) ≡ length ps
unfolding pairs_of
pairs_length [] = refl
pairs_length (p ∷ ps) = ap suc (pairs_length ps)

pub pairs_set : (ps : List code.Pair) (i : ℕ) (p : code.Pair) → pairs_of (set ps i p) ≡ set (pairs_of ps) i (pair_of p)
unfolding pairs_of
pairs_set [] i p = refl
pairs_set (x ∷ ps) zero p = refl
pairs_set (x ∷ ps) (suc i) p = ap (λ (qs : List Pair). pair_of x ∷ qs) (pairs_set ps i p)

pub pairs_at : (ps : List code.Pair) (i : ℕ) (d : code.Pair) → i < length ps → pair_of (get_or ps i d) ≡ get_or (pairs_of ps) i no_pair
unfolding pairs_of
pairs_at [] i d h = absurd (omega arith)
pairs_at (p ∷ ps) zero d h = refl
pairs_at (p ∷ ps) (suc i) d h = pairs_at ps i d (omega arith)

-- No attribute in any place.
pub pairs_none : (n : ℕ) (p : code.Pair) → pair_of p ≡ no_pair → pairs_of (replicate n p) ≡ replicate n no_pair
unfolding pairs_of
pairs_none zero p e = refl
pairs_none (suc n) p e = ap₂ (λ (q : Pair) (qs : List Pair). q ∷ qs) e (pairs_none n p e)

pub pairs_take : (ps : List code.Pair) (n : ℕ) → pairs_of (take n ps) ≡ take n (pairs_of ps)
unfolding pairs_of
pairs_take [] n = ap pairs_of (take-nil n) ∙ sym (take-nil n)
pairs_take (p ∷ ps) zero = refl
pairs_take (p ∷ ps) (suc n) = ap (λ (qs : List Pair). pair_of p ∷ qs) (pairs_take ps n)
