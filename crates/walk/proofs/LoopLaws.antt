-- The loop over an event's lines.
use Prim.Native.Nat.{ℕ, suc, ◌+◌, ◌-◌, ◌≤◌, ◌<◌}
use mathlib.Core.Path.{◌≡◌, refl, sym, ap, ap₂, ◌∙◌}
use mathlib.Core.Bool.{Bool, true, false}
use mathlib.Core.List.{List, [], ◌∷◌, ◌++◌, append-nil, append_assoc}
use native.Mathlib.Omega.{arith}
use lib.Dec.{eqb, leb}
use lib.ListN.{length, take, drop, length-drop, drop_of_length-le}
use borrow.Author.Tests.{le-leb}
use lib.Seq.{drop-drop, length-take-le}
use Rattle.definition.specs.Event.{line_of, lines_from, tail_from, is_nil}
use Rattle.lines.specs.Lines.{line_length}
use Rattle.parts.specs.Walked.{Walked}
use Rattle.parts.specs.Parts.{begun, broken}
use Rattle.walk.specs.Walk.{placed_lines, step, walk, walked_lines, walked}
use Rattle.walk.specs.Stream.{Left}

-- ---- the first line of what is left

lines_next : (w t : List ℕ) → line_length t < length t → lines_from w t ≡ (w ++ take (line_length t) t) ∷ lines_from [] (drop (suc (line_length t)) t)
unfolding lines_from line_length
lines_next w [] h = absurd (omega arith)
lines_next w (b ∷ bs) h = go (eqb b 10) refl (lines_next (w ++ b ∷ []) bs)
  where
    go : (p : Bool) → eqb b 10 ≡ p
        → (line_length bs < length bs → lines_from (w ++ b ∷ []) bs ≡ ((w ++ b ∷ []) ++ take (line_length bs) bs) ∷ lines_from [] (drop (suc (line_length bs)) bs))
        → lines_from w (b ∷ bs) ≡ (w ++ take (line_length (b ∷ bs)) (b ∷ bs)) ∷ lines_from [] (drop (suc (line_length (b ∷ bs))) (b ∷ bs))
    go true q ih =
        let z : line_length (b ∷ bs) ≡ 0 = rw (q, line_length) in
        let y : lines_from w (b ∷ bs) ≡ w ∷ lines_from [] bs = rw (q, lines_from) in
        y ∙ ap (λ (x : List ℕ). x ∷ lines_from [] bs) (sym (append-nil w)) ∙ sym (ap (λ (n : ℕ). (w ++ take n (b ∷ bs)) ∷ lines_from [] (drop (suc n) (b ∷ bs))) z)
    go false q ih =
        let z : line_length (b ∷ bs) ≡ suc (line_length bs) = rw (q, line_length) in
        let y : lines_from w (b ∷ bs) ≡ lines_from (w ++ b ∷ []) bs = rw (q, lines_from) in
        let k : line_length bs < length bs = omega (arith, h, z) in
        y
        ∙ ih k
        ∙ ap (λ (x : List ℕ). x ∷ lines_from [] (drop (suc (line_length bs)) bs)) (append_assoc w (b ∷ []) (take (line_length bs) bs))
        ∙ sym (ap (λ (n : ℕ). (w ++ take n (b ∷ bs)) ∷ lines_from [] (drop (suc n) (b ∷ bs))) z)

tail_next : (w t : List ℕ) → line_length t < length t → tail_from w t ≡ tail_from [] (drop (suc (line_length t)) t)
unfolding tail_from line_length
tail_next w [] h = absurd (omega arith)
tail_next w (b ∷ bs) h = go (eqb b 10) refl (tail_next (w ++ b ∷ []) bs)
  where
    go : (p : Bool) → eqb b 10 ≡ p → (line_length bs < length bs → tail_from (w ++ b ∷ []) bs ≡ tail_from [] (drop (suc (line_length bs)) bs))
        → tail_from w (b ∷ bs) ≡ tail_from [] (drop (suc (line_length (b ∷ bs))) (b ∷ bs))
    go true q ih =
        let z : line_length (b ∷ bs) ≡ 0 = rw (q, line_length) in
        let y : tail_from w (b ∷ bs) ≡ tail_from [] bs = rw (q, tail_from) in
        y ∙ sym (ap (λ (n : ℕ). tail_from [] (drop (suc n) (b ∷ bs))) z)
    go false q ih =
        let z : line_length (b ∷ bs) ≡ suc (line_length bs) = rw (q, line_length) in
        let y : tail_from w (b ∷ bs) ≡ tail_from (w ++ b ∷ []) bs = rw (q, tail_from) in
        let k : line_length bs < length bs = omega (arith, h, z) in
        y ∙ ih k ∙ sym (ap (λ (n : ℕ). tail_from [] (drop (suc n) (b ∷ bs))) z)

tail_last : (w t : List ℕ) → length t ≤ line_length t → tail_from w t ≡ w ++ t
unfolding tail_from line_length
tail_last w [] h = sym (append-nil w)
tail_last w (b ∷ bs) h = go (eqb b 10) refl (tail_last (w ++ b ∷ []) bs)
  where
    go : (p : Bool) → eqb b 10 ≡ p → (length bs ≤ line_length bs → tail_from (w ++ b ∷ []) bs ≡ (w ++ b ∷ []) ++ bs) → tail_from w (b ∷ bs) ≡ w ++ (b ∷ bs)
    go true q ih = let z : line_length (b ∷ bs) ≡ 0 = rw (q, line_length) in absurd (omega (arith, h, z))
    go false q ih =
        let z : line_length (b ∷ bs) ≡ suc (line_length bs) = rw (q, line_length) in
        let y : tail_from w (b ∷ bs) ≡ tail_from (w ++ b ∷ []) bs = rw (q, tail_from) in
        let k : length bs ≤ line_length bs = omega (arith, h, z) in
        y ∙ ih k ∙ append_assoc w (b ∷ []) bs

lines_last : (w t : List ℕ) → length t ≤ line_length t → lines_from w t ≡ []
unfolding lines_from line_length
lines_last w [] h = refl
lines_last w (b ∷ bs) h = go (eqb b 10) refl (lines_last (w ++ b ∷ []) bs)
  where
    go : (p : Bool) → eqb b 10 ≡ p → (length bs ≤ line_length bs → lines_from (w ++ b ∷ []) bs ≡ []) → lines_from w (b ∷ bs) ≡ []
    go true q ih = let z : line_length (b ∷ bs) ≡ 0 = rw (q, line_length) in absurd (omega (arith, h, z))
    go false q ih =
        let z : line_length (b ∷ bs) ≡ suc (line_length bs) = rw (q, line_length) in
        let k : length bs ≤ line_length bs = omega (arith, h, z) in
        rw (q, lines_from) (ih k)

not_nil : (t : List ℕ) → 0 < length t → is_nil t ≡ false
unfolding is_nil
not_nil [] h = absurd (omega arith)
not_nil (b ∷ bs) h = refl

-- ---- the loop over lines

pub left_start : (raw : List ℕ) (d : Walked) → d ≡ begun → Left raw 0 d
left_start raw d e = record { within = omega arith; rest = ap (λ (x : Walked). walk (placed_lines 0 (lines_from [] raw)) x) e; tail = refl }

module _ (raw : List ℕ) (at end : ℕ) (d : Walked) (l : Left raw at d) (e : end ≡ at + line_length (drop at raw)) where
  short : end < length raw → line_length (drop at raw) < length (drop at raw)
  short h = omega (arith, e, length-drop at raw, l.within, h)

  past : drop (suc (line_length (drop at raw))) (drop at raw) ≡ drop (end + 1) raw
  past = drop-drop (suc (line_length (drop at raw))) at raw ∙ ap (λ (n : ℕ). drop n raw) (let z : at + suc (line_length (drop at raw)) ≡ end + 1 = omega (arith, e) in z)

  pub left_more : end < length raw → {w : List ℕ} → w ≡ take (end - at) (drop at raw) → {f : Walked} → f ≡ step d.next at (line_of w) d → Left raw (end + 1) f
  unfolding walk placed_lines
  left_more h {w} ew {f} ef =
      let n : ℕ = line_length (drop at raw) in
      let m : end - at ≡ line_length (drop at raw) = omega (arith, e) in
      let w-is : w ≡ take (line_length (drop at raw)) (drop at raw) = ew ∙ ap (λ (k : ℕ). take k (drop at raw)) m in
      let size : length w ≡ line_length (drop at raw) = ap length w-is ∙ length-take-le (line_length (drop at raw)) (drop at raw) (omega (arith, short h)) in
      let k : at + suc (length w) ≡ end + 1 = omega (arith, e, size) in
      let ls : lines_from [] (drop at raw) ≡ w ∷ lines_from [] (drop (end + 1) raw) =
      lines_next [] (drop at raw) (short h) ∙ ap₂ (λ (x y : List ℕ). x ∷ lines_from [] y) (sym w-is) past in
      let here : walk (placed_lines at (lines_from [] (drop at raw))) d ≡ walk (placed_lines (end + 1) (lines_from [] (drop (end + 1) raw))) f =
      ap (λ (x : List (List ℕ)). walk (placed_lines at x) d) ls
      ∙ ap₂ (λ (k : ℕ) (x : Walked). walk (placed_lines k (lines_from [] (drop (end + 1) raw))) x) k (sym ef) in
      record {
        within = omega (arith, h);
        rest = sym here ∙ l.rest;
        tail = ap (tail_from []) (sym past) ∙ sym (tail_next [] (drop at raw) (short h)) ∙ l.tail;
      }

  -- The last line is not ended.
  pub left_open : at < length raw → length raw ≤ end → broken d ≡ walked_lines raw
  unfolding walked_lines lines_from placed_lines walk
  left_open h k =
      let long : length (drop at raw) ≤ line_length (drop at raw) = omega (arith, e, length-drop at raw, k) in
      let z : tail_from [] raw ≡ drop at raw = sym l.tail ∙ tail_last [] (drop at raw) long in
      let y : is_nil (tail_from [] raw) ≡ false = ap is_nil z ∙ not_nil (drop at raw) (omega (arith, length-drop at raw, h)) in
      let x : d ≡ walk (placed_lines 0 (lines_from [] raw)) begun = sym (ap (λ (t : List (List ℕ)). walk (placed_lines at t) d) (lines_last [] (drop at raw) long)) ∙ l.rest in
      rw (y, walked_lines) (ap broken x)

-- All lines are read.
module _ (raw : List ℕ) (at : ℕ) (d : Walked) (l : Left raw at d) (h : length raw ≤ at) where
  left_closed : is_nil (tail_from [] raw) ≡ true
  unfolding is_nil tail_from
  left_closed = ap is_nil (sym l.tail ∙ ap (tail_from []) (drop_of_length-le raw h))

  pub left_end : d ≡ walked_lines raw
  unfolding walked_lines lines_from placed_lines walk
  left_end =
      let z : d ≡ walk (placed_lines 0 (lines_from [] raw)) begun = sym (ap (λ (t : List ℕ). walk (placed_lines at (lines_from [] t)) d) (drop_of_length-le raw h)) ∙ l.rest in
      rw (left_closed, walked_lines) z

-- ---- the length of the event

module _ (raw : List ℕ) (d : Walked) where
  pub short_enough : length raw ≤ 49152 → d ≡ walked_lines raw → d ≡ walked raw
  unfolding walked
  short_enough h e = let z : leb (length raw) 49152 ≡ true = le-leb (length raw) 49152 h in rw (z, walked) e
