-- Small facts that the other proofs use.
use Prim.Native.Nat.{ℕ, ◌≤◌}
use mathlib.Core.Path.{◌≡◌, refl, sym, ◌∙◌}
use mathlib.Core.Bool.{Bool, true, false, ◌||◌}
use mathlib.Core.List.{List, [], ◌∷◌}
use lib.Dec.{eqb, leb, le→leb, eqb→eq, eqb_refl}
pub use Rattle.definition.proofs.Base.{true_is_false, T_of, is_true_lem, and_left, and_right, and_both, or_right, le_of, test, All, All-append, All-get_or, AllAt, at_place, get_d_set}

pub false_is_true : {X : Type 0} → false ≡ true → X
false_is_true e = true_is_false (sym e)

pub leb_of : (a b : ℕ) → a ≤ b → leb a b ≡ true
leb_of a b h = is_true_lem (leb a b) (le→leb a b h)

pub eq_of : (a b : ℕ) → eqb a b ≡ true → a ≡ b
eq_of a b e = eqb→eq a b (T_of (eqb a b) e)

pub eqb_of : (a b : ℕ) → a ≡ b → eqb a b ≡ true
eqb_of a b e = rw e (is_true_lem (eqb b b) (eqb_refl b))

pub neqb_of : (a b : ℕ) → ¬ (a ≡ b) → eqb a b ≡ false
neqb_of a b h = go (eqb a b) refl
  where
    go : (c : Bool) → eqb a b ≡ c → c ≡ false
    go true e = absurd (h (eq_of a b e))
    go false e = refl

pub neq_of : (a b : ℕ) → eqb a b ≡ false → ¬ (a ≡ b)
neq_of a b e h = true_is_false (sym (eqb_of a b h) ∙ e)

pub All-map {ℓ} : {A : Type ℓ} (P Q : A → Type 0) → ((x : A) → P x → Q x) → (xs : List A) → All P xs → All Q xs
All-map P Q f [] a = tt
All-map P Q f (x ∷ xs) a = (f x a.0, All-map P Q f xs a.1)

pub or_of : (p q : Bool) → (p ≡ false → q ≡ true) → (p || q) ≡ true
or_of true q f = refl
or_of false q f = f refl
