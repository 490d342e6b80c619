use Prim.Native.Nat.{ℕ, zero, suc, ◌+◌, ◌-◌, ◌≤◌}
use mathlib.Core.Path.{◌≡◌, refl, ap, ◌∙◌}
use mathlib.Core.List.{List, [], ◌∷◌, ◌++◌}
use native.Mathlib.Omega.{arith}
use lib.ListN.{length, drop, replicate}
use Rattle.definition.specs.Look.{kept_name, name_row}
use Rattle.payload.specs.Laid.{laid}
use Rattle.definition.specs.Rows.{Table}
use Rattle.rows.specs.Lent.{tables}

pub joined : (a a' b b' c c' d d' e e' f f' g g' h h' i i' j j' k k' l l' : Table) → a ≡ a' → b ≡ b' → c ≡ c' → d ≡ d' → e ≡ e' → f ≡ f' → g ≡ g' → h ≡ h' → i ≡ i' → j ≡ j' → k ≡ k' → l ≡ l'
    → tables a b c d e f g h i j k l ≡ tables a' b' c' d' e' f' g' h' i' j' k' l'
joined a a' b b' c c' d d' e e' f f' g g' h h' i i' j j' k k' l l' ea eb ec ed ee ef eg eh ei ej ek el = λ x. ea x ∷ eb x ∷ ec x ∷ ed x ∷ ee x ∷ ef x ∷ eg x ∷ eh x ∷ ei x ∷ ej x ∷ ek x ∷ el x ∷ []

drop_zeros : (n k : ℕ) → k ≤ n → drop {A = ℕ} k (replicate n 0) ≡ replicate {A = ℕ} (n - k) 0
drop_zeros n zero h = let e : n ≡ n - 0 = omega arith in ap (λ (i : ℕ). replicate {A = ℕ} i 0) e
drop_zeros zero (suc k) h = absurd (omega arith)
drop_zeros (suc n) (suc k) h = let e : n - k ≡ suc n - suc k = omega arith in drop_zeros n k (omega arith) ∙ ap (λ (i : ℕ). replicate {A = ℕ} i 0) e

pub name_known : (g : ℕ) (w : List ℕ) → (g ≡ 0 → ⊥) → replicate 64 0 ≡ name_row (kept_name g w)
unfolding name_row kept_name
name_known zero w h = absurd (h refl)
name_known (suc g) w h = refl

pub name_unknown : (g : ℕ) (w r : List ℕ) → g ≡ 0 → length w ≤ 64 → r ≡ laid (replicate 64 0) 0 w → r ≡ name_row (kept_name g w)
unfolding name_row kept_name laid
name_unknown (suc g) w r h l e = absurd (omega arith)
name_unknown zero w r h l e =
    let z : 0 + length w ≡ length w = omega arith in
    e ∙ ap (λ (i : ℕ). w ++ drop i (replicate 64 0)) z ∙ ap (λ (x : List ℕ). w ++ x) (drop_zeros 64 (length w) l)
