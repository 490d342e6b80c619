-- A line of a stream by its head.
use Prim.Native.Nat.{ℕ, zero, suc, ◌+◌, ◌-◌, ◌≤◌}
use mathlib.Core.Path.{◌≡◌, refl, sym, ap, ◌∙◌, subst}
use mathlib.Core.Bool.{Bool, true, false, and-eq-true_iff}
use mathlib.Core.List.{List, [], ◌∷◌, ◌++◌}
use native.Mathlib.Omega.{arith}
use lib.Dec.{eqb}
use lib.ListN.{length, take, drop, length-drop}
use lib.Seq.{drop-drop, take-add, drop_at, length-take-le}
use borrow.Author.Tests.{not-true, eqb-true}
use Rattle.definition.specs.Event.{after}
use Rattle.definition.proofs.Base.{true_is_false}
use Rattle.lines.specs.Lines.{line_length, has_head}
use Rattle.lines.specs.Blocks.{all, is_within_line}
use Rattle.lines.proofs.LineLaws.{head_next, head_other}
use Rattle.walk.specs.Stream.{end_of, line_in}
use Rattle.walk.proofs.CodeLaws.{head_length}

head_cut : (x : ℕ) (h : List ℕ) (b : ℕ) (bs : List ℕ) (n : ℕ) → eqb x b ≡ false → has_head (x ∷ h) (take n (b ∷ bs)) ≡ false
unfolding has_head after
head_cut x h b bs zero e = refl
head_cut x h b bs (suc n) e = head_other x b h (take n bs) e

within_first : (x : ℕ) (h : List ℕ) → all is_within_line (x ∷ h) ≡ true → (eqb x 10 ≡ false) × (all is_within_line h ≡ true)
unfolding all is_within_line
within_first x h w = let g = (and-eq-true_iff (is_within_line x) (all is_within_line h)).0 w in (not-true (eqb x 10) g.0, g.1)

length_first : (x b : ℕ) (bs : List ℕ) → eqb x 10 ≡ false → eqb x b ≡ true → line_length (b ∷ bs) ≡ suc (line_length bs)
unfolding line_length
length_first x b bs w e = let z : eqb b 10 ≡ false = subst (λ (y : ℕ). eqb y 10 ≡ false) (eqb-true x b e) w in rw (z, line_length)

-- A head without byte 10 is the line's.
head_of_line : (h t : List ℕ) → all is_within_line h ≡ true → has_head h (take (line_length t) t) ≡ has_head h t
unfolding has_head after line_length
head_of_line [] t w = refl
head_of_line (x ∷ h) [] w = refl
head_of_line (x ∷ h) (b ∷ bs) w = go (eqb x b) refl (head_of_line h bs (within_first x h w).1)
  where
    go : (p : Bool) → eqb x b ≡ p → has_head h (take (line_length bs) bs) ≡ has_head h bs → has_head (x ∷ h) (take (line_length (b ∷ bs)) (b ∷ bs)) ≡ has_head (x ∷ h) (b ∷ bs)
    go true e ih =
        ap (λ (n : ℕ). has_head (x ∷ h) (take n (b ∷ bs))) (length_first x b bs (within_first x h w).0 e)
        ∙ head_next x b h (take (line_length bs) bs) e
        ∙ ih
        ∙ sym (head_next x b h bs e)
    go false e ih = head_cut x h b bs (line_length (b ∷ bs)) e ∙ sym (head_other x b h bs e)

line_behind : (h t : List ℕ) → all is_within_line h ≡ true → has_head h t ≡ true → line_length t ≡ length h + line_length (drop (length h) t)
unfolding has_head after
line_behind [] t w e = let z : 0 + line_length t ≡ line_length t = omega arith in sym z
line_behind (x ∷ h) [] w e = true_is_false (sym e)
line_behind (x ∷ h) (b ∷ bs) w e = go (eqb x b) refl (line_behind h bs (within_first x h w).1)
  where
    go : (p : Bool) → eqb x b ≡ p → (has_head h bs ≡ true → line_length bs ≡ length h + line_length (drop (length h) bs)) → line_length (b ∷ bs) ≡ suc (length h) + line_length (drop (length h) bs)
    go true q ih = omega (arith, length_first x b bs (within_first x h w).0 q, ih (sym (head_next x b h bs q) ∙ e))
    go false q ih = true_is_false (sym e ∙ head_other x b h bs q)

-- Heads whose first bytes differ.
pub other_head : (x y : ℕ) (h k t : List ℕ) → eqb y x ≡ false → has_head (x ∷ h) t ≡ true → has_head (y ∷ k) t ≡ false
unfolding has_head after
other_head x y h k [] n e = refl
other_head x y h k (b ∷ bs) n e = go (eqb x b) refl
  where
    go : (p : Bool) → eqb x b ≡ p → has_head (y ∷ k) (b ∷ bs) ≡ false
    go true q = head_other y b k bs (subst (λ (z : ℕ). eqb y z ≡ false) (eqb-true x b q) n)
    go false q = true_is_false (sym e ∙ head_other x b h bs q)

module _ (h : List ℕ) (w : all is_within_line h ≡ true) (s : List ℕ) (at : ℕ) where
  pub line_head : {p : Bool} → has_head h (drop at s) ≡ p → has_head h (line_in s at) ≡ p
  line_head e = head_of_line h (drop at s) w ∙ e

  module _ (e : has_head h (drop at s) ≡ true) where
    pub behind_within : at ≤ length s → at + length h ≤ length s
    behind_within k = omega (arith, head_length h (drop at s) e, length-drop at s)

    behind : line_length (drop at s) ≡ length h + line_length (drop (at + length h) s)
    behind = line_behind h (drop at s) w e ∙ ap (λ (x : List ℕ). length h + line_length x) (drop-drop (length h) at s)

    module _ (end : ℕ) (ee : end ≡ at + length h + line_length (drop (at + length h) s)) where
      pub behind_end : end ≡ end_of s at
      behind_end = omega (arith, ee, behind)

      pub behind_rest : (x : List ℕ) → x ≡ take (end - (at + length h)) (drop (at + length h) s) → x ≡ drop (length h) (line_in s at)
      behind_rest x ex =
          let m : ℕ = line_length (drop (at + length h) s) in
          let z : end - (at + length h) ≡ line_length (drop (at + length h) s) = omega (arith, ee) in
          let y : line_in s at ≡ take (length h) (drop at s) ++ take m (drop (length h) (drop at s)) =
          ap (λ (n : ℕ). take n (drop at s)) behind ∙ take-add (length h) m (drop at s) in
          let l : length (take (length h) (drop at s)) ≡ length h = length-take-le (length h) (drop at s) (head_length h (drop at s) e) in
          ex
          ∙ ap (λ (n : ℕ). take n (drop (at + length h) s)) z
          ∙ ap (take m) (sym (drop-drop (length h) at s))
          ∙ sym (drop_at (take (length h) (drop at s)) (take m (drop (length h) (drop at s))) (length h) l)
          ∙ ap (drop (length h)) (sym y)
