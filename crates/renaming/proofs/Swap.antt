-- A renaming that is not the identity: two words of one length change places.
use Prim.Native.Nat.{ℕ}
use mathlib.Core.Path.{◌≡◌, refl, sym, ap, ◌∙◌}
use mathlib.Core.Bool.{Bool, true, false}
use mathlib.Core.List.{List}
use lib.ListN.{length}
use lib.Dec.{T}
use Rattle.definition.specs.Text.{same, all_allowed, is_word, starts_generated}
use Rattle.renaming.specs.Renaming.{Renaming}
use Rattle.definition.proofs.Base.{same_eq, same_refl, true_is_false}

unfoldable pub swap : List ℕ → List ℕ → List ℕ → List ℕ
unfolding same
swap a b w = elim (same w a) [ true ↦ b | false ↦ elim (same w b) [ true ↦ a | false ↦ w ] ]

same_no : (x y : List ℕ) → same x y ≡ false → x ≡ y → ⊥
same_no x y e q = true_is_false (sym (rw q (same_refl y)) ∙ e)

no_same : (x y : List ℕ) → (x ≡ y → ⊥) → same x y ≡ false
no_same x y h = go (same x y) refl
  where
    go : (c : Bool) → same x y ≡ c → same x y ≡ false
    go true e = absurd (h (same_eq x y e))
    go false e = e

module _ (a b : List ℕ) where
  -- What a swap can do to w.
  data Swapped (w : List ℕ) : List ℕ → Type 0 where
    first : w ≡ a → Swapped w b
    second : w ≡ b → Swapped w a
    neither : (w ≡ a → ⊥) → (w ≡ b → ⊥) → Swapped w w

  swapped : (w : List ℕ) → Swapped w (swap a b w)
  unfolding swap
  swapped w = go (same w a) (same w b) refl refl
    where
      go : (c d : Bool) → same w a ≡ c → same w b ≡ d → Swapped w (swap a b w)
      go true d e f = rw (e, swap) (Swapped.first (same_eq w a e))
      go false true e f = rw (e, swap, f, swap) (Swapped.second (same_eq w b f))
      go false false e f = rw (e, swap, f, swap) (Swapped.neither (same_no w a e) (same_no w b f))

  swap_a : swap a b a ≡ b
  unfolding swap
  swap_a = rw (same_refl a, swap)

  swap_b : swap a b b ≡ a
  unfolding swap
  swap_b = go (same b a) refl
    where
      go : (c : Bool) → same b a ≡ c → swap a b b ≡ a
      go true e = rw (e, swap) (same_eq b a e)
      go false e = rw (e, swap, same_refl b, swap)

  -- It is its own inverse.
  back : (w x : List ℕ) → Swapped w x → swap a b x ≡ w
  unfolding swap
  back w x (Swapped.first e) = swap_b ∙ sym e
  back w x (Swapped.second e) = swap_a ∙ sym e
  back w x (Swapped.neither p q) = rw (no_same w a p, swap, no_same w b q, swap)

  keeps_length : (w x : List ℕ) → Swapped w x → length a ≡ length b → length x ≡ length w
  keeps_length w x (Swapped.first e) l = cc
  keeps_length w x (Swapped.second e) l = cc
  keeps_length w x (Swapped.neither p q) l = refl

  -- What holds of both words and of w holds after the swap.
  keeps_of : (P : List ℕ → Type 0) (w x : List ℕ) → Swapped w x → P a → P b → P w → P x
  keeps_of P w x (Swapped.first e) ha hb h = hb
  keeps_of P w x (Swapped.second e) ha hb h = ha
  keeps_of P w x (Swapped.neither p q) ha hb h = h

  moves_not : (w x : List ℕ) → Swapped w x → (w ≡ a → ⊥) → (w ≡ b → ⊥) → x ≡ w
  moves_not w x (Swapped.first e) p q = absurd (p e)
  moves_not w x (Swapped.second e) p q = absurd (q e)
  moves_not w x (Swapped.neither p' q') p q = refl

  pub swap_renaming : length a ≡ length b → T (all_allowed a) → T (all_allowed b) → T (is_word a) → T (is_word b) → (T (starts_generated a) → ⊥) → (T (starts_generated b) → ⊥)
      → Renaming (swap a b)
  swap_renaming l sa sb ha hb na nb =
      record {
        allowed = λ w h. keeps_of (λ x. T (all_allowed x)) w (swap a b w) (swapped w) sa sb h;
        inj = λ v w x y e. sym (back v (swap a b v) (swapped v)) ∙ ap (swap a b) e ∙ back w (swap a b w) (swapped w);
        len = λ w x. keeps_length w (swap a b w) (swapped w) l;
        word = λ w x h. keeps_of (λ v. T (is_word v)) w (swap a b w) (swapped w) ha hb h;
        other = λ w x h. moves_not w (swap a b w) (swapped w) (λ e. h (rw e ha)) (λ e. h (rw e hb));
        keeps = λ w x h. moves_not w (swap a b w) (swapped w) (λ e. na (rw e at h)) (λ e. nb (rw e at h));
      }
