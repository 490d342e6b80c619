-- What comparing texts as they are read needs of the definitions.
use Prim.Native.Nat.{ℕ, ◌+◌, ◌≤◌, ◌<◌}
use mathlib.Core.Path.{◌≡◌, refl, sym, ap, ap₂, ◌∙◌}
use mathlib.Core.Bool.{true, false}
use mathlib.Core.Option.{Option, none, some}
use mathlib.Core.List.{List, [], ◌∷◌}
use native.Mathlib.Omega.{arith}
use lib.ListN.{length}
use borrow.Author.Tests.{ne_eqb, eq-eqb}
use Rattle.std.specs.Prelude as std
use Rattle.std.proofs.Common.{unwrap_or}
use Rattle.definition.specs.Text.{same, all_allowed}
use Rattle.definition.specs.Event.{legible, prepend, unescape_from, if_allowed}
use Rattle.lines.specs.Escapes.{counted, scanned, IsFirst}
use Rattle.lines.specs.Parts.{or_nothing}

abbrev pub text : List ℕ → List ℕ
text s = or_nothing (legible s)

pub text_length : (s : List ℕ) (o : std.Option ℕ) → o ≡ scanned s → unwrap_or o 0 ≡ length (text s)
unfolding scanned counted or_nothing
text_length s o e = ap (λ (x : std.Option ℕ). unwrap_or x 0) e ∙ go (legible s)
  where
    go : (x : Option (List ℕ)) → unwrap_or (counted 0 x) 0 ≡ length (or_nothing x)
    go none = refl
    go (some v) = omega arith

text_first : (s : List ℕ) (b : ℕ) (t : List ℕ) → IsFirst s b t → 0 < length (text s) → text s ≡ b ∷ text t
unfolding or_nothing prepend
text_first s b t f h = ap or_nothing f.0 ∙ go (legible t) (omega (arith, h, ap length (ap or_nothing f.0)))
  where
    go : (x : Option (List ℕ)) → 0 < length (or_nothing (prepend b x)) → or_nothing (prepend b x) ≡ b ∷ or_nothing x
    go none h = absurd (omega arith)
    go (some v) h = refl

text_over : (s : List ℕ) → (0 < length s → legible s ≡ none) → length (text s) ≡ 0
unfolding or_nothing legible unescape_from if_allowed all_allowed
text_over [] f = refl
text_over (b ∷ bs) f = ap (λ (x : Option (List ℕ)). length (or_nothing x)) (f (omega arith))

same_heads : (x y : ℕ) (xs ys : List ℕ) → x ≡ y → same xs ys ≡ same (x ∷ xs) (y ∷ ys)
unfolding same
same_heads x y xs ys e = rw (eq-eqb x y e, same)

other_heads : (x y : ℕ) (xs ys : List ℕ) → (x ≡ y → ⊥) → false ≡ same (x ∷ xs) (y ∷ ys)
unfolding same
other_heads x y xs ys e = rw (ne_eqb x y e, same)

-- Of two texts of len bytes n are read, and s and t are left.
pub record Texts (a b s t : List ℕ) (len n : ℕ) : Type 0 where
  pub one : n + length (text s) ≡ len
  pub two : n + length (text t) ≡ len
  pub rest : same (text s) (text t) ≡ same (text a) (text b)

pub texts_start : (a b : List ℕ) (o p : std.Option ℕ) (len : ℕ) → len ≡ unwrap_or o 0 → o ≡ scanned a → p ≡ scanned b → len ≡ unwrap_or p 0 → Texts a b a b len 0
texts_start a b o p len e f g h = record { one = omega (arith, text_length a o f); two = omega (arith, text_length b p g); rest = refl }

module _ (a b s t : List ℕ) (len n : ℕ) (r : Texts a b s t len n) where
  module _ (h : n < len) where
    pub not_over : (0 < length s → legible s ≡ none) → ⊥
    not_over f = omega (arith, text_over s f, r.one)

    pub nor_over : (0 < length t → legible t ≡ none) → ⊥
    nor_over f = omega (arith, text_over t f, r.two)

    module _ (x y : ℕ) (s' t' : List ℕ) (f : IsFirst s x s') (g : IsFirst t y t') where
      heads : same (x ∷ text s') (y ∷ text t') ≡ same (text a) (text b)
      heads = sym (ap₂ same (text_first s x s' f (omega (arith, r.one))) (text_first t y t' g (omega (arith, r.two)))) ∙ r.rest

      pub texts_more : x ≡ y → Texts a b s' t' len (n + 1)
      texts_more e =
          record {
            one = omega (arith, r.one, ap length (text_first s x s' f (omega (arith, r.one))));
            two = omega (arith, r.two, ap length (text_first t y t' g (omega (arith, r.two))));
            rest = same_heads x y (text s') (text t') e ∙ heads;
          }

      pub texts_stop : (x ≡ y → ⊥) → false ≡ same (text a) (text b)
      texts_stop e = other_heads x y (text s') (text t') e ∙ heads

  pub texts_end : len ≤ n → true ≡ same (text a) (text b)
  unfolding same
  texts_end h = same_nils (text s) (text t) (omega (arith, r.one)) (omega (arith, r.two)) ∙ r.rest
    where
      same_nils : (x y : List ℕ) → length x ≡ 0 → length y ≡ 0 → true ≡ same x y
      same_nils [] [] e f = refl
      same_nils [] (z ∷ zs) e f = absurd (omega (arith, f))
      same_nils (z ∷ zs) y e f = absurd (omega (arith, e))
