-- What this crate and those above it need of the definitions of texts: equality as std has it, letter case, the place of a word, spans.
use mathlib.Core.Path.{◌≡◌, refl, ap, sym, ◌∙◌}
use mathlib.Core.List.{List, [], ◌∷◌}
use mathlib.Core.Bool.{Bool, true, false, ◌&&◌}
use Prim.Native.Nat.{ℕ, suc, ◌+◌, ◌-◌, ◌≤◌}
use native.Mathlib.Numerals.{one-add}
use native.Mathlib.Omega.{arith}
use lib.Dec.{eqb, eqb-suc-zero}
use lib.Pointwise.{pointwise}
use Rattle.std.proofs.Common.{Some, None, Bor, map, cond, not, min, zip, position, unwrap_or, nat_eq, nat_lt}
use Rattle.std.specs.List.{list_all, position_or_len}
use Rattle.std.proofs.lemmas.List.Sums.{prefix_len-le-length}
use Rattle.std.proofs.lemmas.List.{take_min, drop_min}
use lib.ListN.{length, take, drop, length-drop, length-map}
use lib.Seq.{take_all}
use borrow.Author.Tests.{ne_eqb, eq-eqb, eqb-true, eqb-false}
use Rattle.definition.specs.Text.{same, place_in, lower, lowered, bytes_at}

-- ---- equality

both : (p q : Bool) → (p && q) ≡ elim p [ true ↦ q | false ↦ false ]
both true q = refl
both false q = refl

-- `==` at slices of bytes.
pub pointwise_same : (a b : List ℕ) → pointwise nat_eq a b ≡ same a b
unfolding same
pointwise_same [] [] = refl
pointwise_same [] (y ∷ ys) = refl
pointwise_same (x ∷ xs) [] = refl
pointwise_same (x ∷ xs) (y ∷ ys) = ap (λ (r : Bool). eqb x y && r) (pointwise_same xs ys) ∙ both (eqb x y) (same xs ys)

eqb_sym : (x y : ℕ) → eqb x y ≡ eqb y x
eqb_sym x y = go (eqb x y) refl
  where
    back : eqb x y ≡ false → y ≡ x → ⊥
    back e k = eqb-false x y e (sym k)

    go : (t : Bool) → eqb x y ≡ t → eqb x y ≡ eqb y x
    go true e = e ∙ sym (eq-eqb y x (sym (eqb-true x y e)))
    go false e = e ∙ sym (ne_eqb y x (back e))

pub same_sym : (a b : List ℕ) → same a b ≡ same b a
unfolding same
same_sym [] [] = refl
same_sym [] (y ∷ ys) = refl
same_sym (x ∷ xs) [] = refl
same_sym (x ∷ xs) (y ∷ ys) = rw (eqb_sym x y, same) (ap (λ (b : Bool). elim (eqb y x) [ true ↦ b | false ↦ false ]) (same_sym xs ys))

pub same_empty : (w : List ℕ) → eqb (length w) 0 ≡ same [] w
unfolding same
same_empty [] = refl
same_empty (x ∷ xs) = eqb-suc-zero (length xs)

-- ---- letter case

-- Two texts of one length, compared pair by pair.
pub zipped_same : (w v : List ℕ) → length w ≡ length v → list_all (λ (p : ℕ × ℕ). nat_eq p.0 (lower p.1)) (zip w v) ≡ same w (lowered v)
unfolding same lowered
zipped_same [] [] e = refl
zipped_same [] (y ∷ ys) e = absurd (omega arith)
zipped_same (x ∷ xs) [] e = absurd (omega arith)
zipped_same (x ∷ xs) (y ∷ ys) e = ap (λ (r : Bool). eqb x (lower y) && r) (zipped_same xs ys (omega arith)) ∙ both (eqb x (lower y)) (same xs (lowered ys))

pub lowered_length : (v : List ℕ) → length (lowered v) ≡ length v
unfolding lowered
lowered_length v = length-map v lower

-- ---- the place of a word

or_length : (n m : ℕ) → n ≤ m → unwrap_or (cond (nat_lt n m) (Some n) None) m ≡ n
or_length n m h = choose (nat_lt n m) refl
  where
    choose : (p : Bool) → nat_lt n m ≡ p → unwrap_or (cond p (Some n) None) m ≡ n
    choose true e = refl
    choose false e = grind arith

-- Of words that are lent.
module _ (q : List ℕ) where
  abbrev is : Bor (List ℕ) → Bool
  is w = same w.now q

  abbrev words_of : List (Bor (List ℕ)) → List (List ℕ)
  words_of ws = map (λ (w : Bor (List ℕ)). w.now) ws

  place_len : (ws : List (Bor (List ℕ))) → position_or_len is ws ≡ place_in (words_of ws) q
  unfolding place_in
  place_len [] = refl
  place_len (w ∷ ws) = choose (same w.now q) (place_len ws)
    where
      choose : (p : Bool) → position_or_len is ws ≡ place_in (words_of ws) q → cond (not p) (1 + position_or_len is ws) 0 ≡ elim p [ true ↦ 0 | false ↦ suc (place_in (words_of ws) q) ]
      choose true e = refl
      choose false e = one-add _ ∙ ap suc e

  pub place_found : (ws : List (Bor (List ℕ))) → unwrap_or (position is ws) (length ws) ≡ place_in (words_of ws) q
  place_found ws = or_length (position_or_len is ws) (length ws) (prefix_len-le-length (λ w. not (is w)) ws) ∙ place_len ws

-- ---- spans

-- A span of a text, as code takes it from what is left of the text.
pub span_is : (t : List ℕ) (off len m n : ℕ) → m ≡ min off (length t) → n ≡ min len (length (take (length t - m) (drop m t)))
    → take n (take (length t - m) (drop m t)) ≡ bytes_at t (record { off = off; len = len })
unfolding bytes_at
span_is t off len m n e f =
    let z : take (length t - m) (drop m t) ≡ drop off t = take_all _ _ (omega (arith, length-drop m t)) ∙ ap (λ (k : ℕ). drop k t) e ∙ drop_min off t in
    ap (λ (k : ℕ). take k (take (length t - m) (drop m t))) f ∙ take_min len _ ∙ ap (take len) z

-- A span within a text, as code takes it.
pub part_at : (t : List ℕ) (off len : ℕ) → take (off + len - off) (drop off t) ≡ bytes_at t (record { off = off; len = len })
unfolding bytes_at
part_at t off len = let e : off + len - off ≡ len = omega arith in rw e
