-- The walk over a stream's first event: a line more, the end, an event out of form.
use Prim.Native.Nat.{ℕ, zero, suc, ◌+◌, ◌-◌, ◌≤◌, ◌<◌}
use mathlib.Core.Path.{◌≡◌, refl, sym, ap, ap₂, ◌∙◌, subst}
use mathlib.Core.Bool.{Bool, true, false, ◌&&◌, ◌||◌, and-eq-true_iff}
use mathlib.Core.List.{List, [], ◌∷◌}
use native.Mathlib.Numerals.{add-one}
use native.Mathlib.Omega.{arith}
use lib.Dec.{eqb, ltb, leb}
use lib.ListN.{length, take, drop, length-drop, drop_of_length-le}
use lib.Seq.{take-take, take_all, length-take-le, take-nil}
use borrow.Author.Tests.{ltb-true, ltb-false, lt-ltb, leb-true, leb-false, ne_eqb}
use Rattle.definition.specs.Text.{str}
use Rattle.definition.specs.Event.{Line, line_of, lines_from, tail_from, is_nil, begins_event}
use Rattle.lines.specs.Lines.{line_length, has_head, rest_length, event_length}
use Rattle.lines.proofs.LineLaws.{rest_event, rest_begun, rest_on, rest_after, line_ended_at, event_line}
use Rattle.std.proofs.Common.{None}
use Rattle.parts.specs.declared.Pair as code
use Rattle.parts.specs.Walked.{Pair}
use Rattle.parts.specs.Walked.{Walked}
use Rattle.parts.specs.Parts.{part_at, no_pairs, begun, broken, pairs_of, walked_by}
use Rattle.walk.specs.Views.{Lined}
use Rattle.walk.specs.Walk.{placed_lines, step, walk, walked_lines, walked}
use Rattle.walk.specs.Stream.{first_event, settled, end_of, line_in, InForm, Takes, Left, Reached}
use Rattle.walk.proofs.WalkLaw.{Stopped, stopped, walk_stays}
use Rattle.definition.proofs.Base.{true_is_false}
use Rattle.walk.proofs.CodeLaws.{head_length}
use Rattle.walk.proofs.LineIn.{other_head}
use Rattle.walk.proofs.LoopLaws.{left_start, left_more, left_open, left_end, short_enough}

-- ---- the first event's bytes

rest_within : (b : Bool) (l : List ℕ) → rest_length b l ≤ length l
unfolding rest_length
rest_within b [] = omega arith
rest_within b (x ∷ xs) = go (b && begins_event (x ∷ xs)) refl (rest_within (eqb x 10) xs)
  where
    go : (p : Bool) → (b && begins_event (x ∷ xs)) ≡ p → rest_length (eqb x 10) xs ≤ length xs → rest_length b (x ∷ xs) ≤ suc (length xs)
    go true e ih = rw (e, rest_length) (omega arith)
    go false e ih = rw (e, rest_length) (omega (arith, ih))

pub event_within : (s : List ℕ) → event_length s ≤ length s
event_within s = omega (arith, rest_event s, rest_within false s)

pub first_length : (s : List ℕ) → length (first_event s) ≡ event_length s
first_length s = length-take-le (event_length s) s (event_within s)

line_take : (n : ℕ) (t : List ℕ) → line_length t < n → line_length (take n t) ≡ line_length t
unfolding line_length
line_take zero t h = absurd (omega arith)
line_take (suc n) [] h = refl
line_take (suc n) (b ∷ bs) h = go (eqb b 10) refl (line_take n bs)
  where
    go : (p : Bool) → eqb b 10 ≡ p → (line_length bs < n → line_length (take n bs) ≡ line_length bs) → line_length (b ∷ take n bs) ≡ line_length (b ∷ bs)
    go true e ih = rw (e, line_length)
    go false e ih =
        let z : line_length (b ∷ bs) ≡ suc (line_length bs) = rw (e, line_length) in
        rw (e, line_length) (ap suc (ih (omega (arith, h, z))))

drop_take : (n m : ℕ) (l : List ℕ) → n ≤ m → drop n (take m l) ≡ take (m - n) (drop n l)
drop_take zero m l h = let z : m - 0 ≡ m = omega arith in rw z refl
drop_take (suc n) zero l h = absurd (omega arith)
drop_take (suc n) (suc m) [] h = sym (take-nil (suc m - suc n))
drop_take (suc n) (suc m) (x ∷ l) h = let z : suc m - suc n ≡ m - n = omega arith in rw z (drop_take n m l (omega arith))

-- ---- out of form

pub settled_out : (w : Walked) → Stopped w → settled w ≡ broken begun
unfolding settled
settled_out w s =
    let a : eqb w.next 2 ≡ false = ne_eqb w.next 2 s.0 in
    let b : eqb w.next 4 ≡ false = ne_eqb w.next 4 s.1 in
    rw (a, b, settled)

pub settled_in : (w : Walked) → (eqb w.next 2 || eqb w.next 4) ≡ true → settled w ≡ w
unfolding settled
settled_in w e = rw (e, settled)

too_far : (raw : List ℕ) → 49152 < length raw → broken begun ≡ settled (walked raw)
unfolding walked broken
too_far raw h =
    let z : leb (length raw) 49152 ≡ false = go (leb (length raw) 49152) refl in
    let y : walked raw ≡ broken begun = rw (z, walked) in
    sym (settled_out (walked raw) (stopped (walked raw) (ap (λ (w : Walked). w.next) y)))
  where
    go : (p : Bool) → leb (length raw) 49152 ≡ p → p ≡ false
    go true e = absurd (omega (arith, h, leb-true (length raw) 49152 e))
    go false e = refl

out_of : (raw : List ℕ) → Stopped (walked_lines raw) → broken begun ≡ settled (walked raw)
out_of raw s = go (leb (length raw) 49152) refl
  where
    go : (p : Bool) → leb (length raw) 49152 ≡ p → broken begun ≡ settled (walked raw)
    go true e = sym (settled_out (walked raw) (subst Stopped (short_enough raw (walked_lines raw) (leb-true (length raw) 49152 e) refl) s))
    go false e = too_far raw (leb-false (length raw) 49152 e)

pub left_out : (raw : List ℕ) (at : ℕ) (d : Walked) → Left raw at d → d.next ≡ 5 → Stopped (walked_lines raw)
unfolding walked_lines broken
left_out raw at d l e = go (is_nil (tail_from [] raw)) refl
  where
    w : Walked
    w = walk (placed_lines 0 (lines_from [] raw)) begun

    five : w.next ≡ 5
    five = ap (λ (x : Walked). x.next) (sym l.rest) ∙ walk_stays (placed_lines at (lines_from [] (drop at raw))) d e

    go : (p : Bool) → is_nil (tail_from [] raw) ≡ p → Stopped (walked_lines raw)
    go true q = let y : walked_lines raw ≡ w = rw (q, walked_lines) in stopped (walked_lines raw) (ap (λ (x : Walked). x.next) y ∙ five)
    go false q = let y : walked_lines raw ≡ broken w = rw (q, walked_lines) in stopped (walked_lines raw) (ap (λ (x : Walked). x.next) y)

-- ---- on the way

-- Whether the event ends at `at`.
abbrev pub is_over : List ℕ → ℕ → Bool
is_over s at = (ltb 0 at && has_head (str "event=") (drop at s)) || leb (length s) at

not_over : (s : List ℕ) (at : ℕ) → is_over s at ≡ false → (0 < at → has_head (str "event=") (drop at s) ≡ false) × (at < length s)
not_over s at e = go (ltb 0 at && has_head (str "event=") (drop at s)) refl (leb (length s) at) refl
  where
    own : (ltb 0 at && has_head (str "event=") (drop at s)) ≡ false → 0 < at → has_head (str "event=") (drop at s) ≡ false
    own f h = ap (λ (b : Bool). b && has_head (str "event=") (drop at s)) (sym (lt-ltb 0 at h)) ∙ f

    go : (p : Bool) → (ltb 0 at && has_head (str "event=") (drop at s)) ≡ p → (q : Bool) → leb (length s) at ≡ q → (0 < at → has_head (str "event=") (drop at s) ≡ false) × (at < length s)
    go true f q g = true_is_false (ap (λ (b : Bool). b || leb (length s) at) (sym f) ∙ e)
    go false f true g = true_is_false (sym (ap₂ (λ (a b : Bool). a || b) f g) ∙ e)
    go false f false g = (own f, leb-false (length s) at g)

pub over_is : (s : List ℕ) (at : ℕ) {r : Bool} → 0 < at → r ≡ (has_head (str "event=") (drop at s) || leb (length s) at) → is_over s at ≡ r
over_is s at h e = ap (λ (b : Bool). (b && has_head (str "event=") (drop at s)) || leb (length s) at) (lt-ltb 0 at h) ∙ sym e

-- Where a line with another head begins, the event goes on.
pub head_on : (s : List ℕ) (at : ℕ) (x : ℕ) (h : List ℕ) → eqb 101 x ≡ false → has_head (x ∷ h) (drop at s) ≡ true → is_over s at ≡ false
unfolding str
head_on s at x h n e =
    let a : has_head (str "event=") (drop at s) ≡ false = other_head x 101 h _ (drop at s) n e in
    let b : leb (length s) at ≡ false = go (leb (length s) at) refl in
    ap₂ (λ (p q : Bool). (ltb 0 at && p) || q) a b ∙ off (ltb 0 at)
  where
    go : (p : Bool) → leb (length s) at ≡ p → p ≡ false
    go true f = absurd (omega (arith, head_length (x ∷ h) (drop at s) e, length-drop at s, leb-true (length s) at f))
    go false f = refl

    off : (b : Bool) → ((b && false) || false) ≡ false
    off true = refl
    off false = refl

module _ (s : List ℕ) (at : ℕ) (so : event_length s ≡ at + rest_length (ltb 0 at) (drop at s)) where
  pub over_length : is_over s at ≡ true → event_length s ≡ at
  unfolding rest_length has_head begins_event
  over_length e = go (leb (length s) at) refl (ltb 0 at && has_head (str "event=") (drop at s)) refl
    where
      none : length s ≤ at → rest_length (ltb 0 at) (drop at s) ≡ 0
      none h = ap (rest_length (ltb 0 at)) (drop_of_length-le s h)

      go : (q : Bool) → leb (length s) at ≡ q → (p : Bool) → (ltb 0 at && has_head (str "event=") (drop at s)) ≡ p → event_length s ≡ at
      go true g p f = omega (arith, so, none (leb-true (length s) at g))
      go false g true f =
          let h = (and-eq-true_iff (ltb 0 at) (has_head (str "event=") (drop at s))).0 f in
          omega (arith, so, ap (λ (b : Bool). rest_length b (drop at s)) h.0 ∙ rest_begun (drop at s) h.1)
      go false g false f = true_is_false (sym e ∙ ap₂ (λ (x y : Bool). x || y) f g)

  pub own_on : (0 < at → has_head (str "event=") (drop at s) ≡ false) → event_length s ≡ at + event_length (drop at s)
  unfolding has_head begins_event
  own_on own = go (ltb 0 at) refl
    where
      go : (p : Bool) → ltb 0 at ≡ p → event_length s ≡ at + event_length (drop at s)
      go true f = omega (arith, so, ap (λ (b : Bool). rest_length b (drop at s)) f ∙ rest_on (drop at s) (own (ltb-true 0 at f)))
      go false f = omega (arith, so, ap (λ (b : Bool). rest_length b (drop at s)) f ∙ rest_event (drop at s))

module _ (s : List ℕ) (at : ℕ) (on : event_length s ≡ at + event_length (drop at s)) where
  -- A line that is ended is the event's, and the event goes on after it or ends there.
  pub line_on : end_of s at < length s → event_length s ≡ end_of s at + 1 + rest_length (ltb 0 (end_of s at + 1)) (drop (end_of s at + 1) s)
  line_on h =
      let z : ltb 0 (end_of s at + 1) ≡ true = lt-ltb 0 (end_of s at + 1) (omega arith) in
      let y : event_length s ≡ end_of s at + 1 + rest_length true (drop (end_of s at + 1) s) =
      rw add-one (omega (arith, on, event_line s at {r = end_of s at} refl, rest_after s (end_of s at) h (line_ended_at s at {r = end_of s at} refl))) in
      y ∙ ap (λ (b : Bool). end_of s at + 1 + rest_length b (drop (end_of s at + 1) s)) (sym z)

  -- A line that is not is its last.
  pub line_last : length s ≤ end_of s at → length s ≤ event_length s
  line_last k = omega (arith, on, event_line s at {r = end_of s at} refl, k)

module _ (s : List ℕ) (at : ℕ) (d : Walked) (re : Reached s at d) where
  module _ (on : event_length s ≡ at + event_length (drop at s)) where
    line_step : end_of s at < length s → {f : Walked} → f ≡ step d.next at (line_of (line_in s at)) d → Left (first_event s) (end_of s at + 1) f
    line_step h e =
        let k : end_of s at < event_length s = omega (arith, line_on s at on h) in
        let a : drop at (first_event s) ≡ take (event_length s - at) (drop at s) = drop_take at (event_length s) s (omega (arith, k)) in
        let b : line_length (drop at (first_event s)) ≡ line_length (drop at s) = ap line_length a ∙ line_take (event_length s - at) (drop at s) (omega (arith, k)) in
        let m : end_of s at - at ≡ line_length (drop at s) = omega arith in
        let w : take (end_of s at - at) (drop at (first_event s)) ≡ line_in s at =
        ap (take (end_of s at - at)) a ∙ take-take (end_of s at - at) (event_length s - at) (drop at s) (omega (arith, k)) ∙ ap (λ (n : ℕ). take n (drop at s)) m in
        left_more (first_event s) at (end_of s at) d re.left (omega (arith, b)) (omega (arith, k, first_length s)) (sym w) e

  -- A line in form.
  pub reached_goes : (f : Line → Walked → Walked) (g : Walked → Walked) (after : ℕ) → InForm s at f g after → ((l : Line) → step d.next at l d ≡ f l d) → Reached s after (g d)
  reached_goes f g after i hs =
      let on : event_length s ≡ at + event_length (drop at s) = own_on s at re.on i.own in
      subst (λ (n : ℕ). Reached s n (g d)) (sym i.next)
      (record {
        left = line_step on i.ended (sym (i.does d) ∙ sym (hs (line_of (line_in s at))));
        within = omega (arith, i.ended);
        short = omega (arith, i.short);
        on = line_on s at on i.ended;
      })

  -- The event ends here, or the line that follows is out of form.
  pub reached_lost : (is_over s at ≡ true → Stopped d) → (is_over s at ≡ false → end_of s at < length s → end_of s at < 49152 → step d.next at (line_of (line_in s at)) d ≡ broken d)
      → broken begun ≡ settled (walked (first_event s))
  unfolding broken
  reached_lost st br = go (is_over s at) refl
    where
      last : event_length s ≡ at + event_length (drop at s) → at < length s → length s ≤ end_of s at → broken begun ≡ settled (walked (first_event s))
      last on h k =
          let z : first_event s ≡ s = take_all (event_length s) s (line_last s at on k) in
          let y : broken d ≡ walked_lines s = left_open s at (end_of s at) d (subst (λ (x : List ℕ). Left x at d) z re.left) refl h k in
          out_of s (stopped (walked_lines s) (sym (ap (λ (w : Walked). w.next) y))) ∙ ap (λ (x : List ℕ). settled (walked x)) (sym z)

      inner : event_length s ≡ at + event_length (drop at s) → end_of s at < length s → (end_of s at < 49152 → step d.next at (line_of (line_in s at)) d ≡ broken d)
          → (q : Bool) → ltb (end_of s at) 49152 ≡ q → broken begun ≡ settled (walked (first_event s))
      inner on h b true e = out_of (first_event s) (left_out (first_event s) (end_of s at + 1) (broken d) (line_step on h (sym (b (ltb-true (end_of s at) 49152 e)))) refl)
      inner on h b false e = too_far (first_event s) (omega (arith, first_length s, line_on s at on h, ltb-false (end_of s at) 49152 e))

      ends : event_length s ≡ at + event_length (drop at s) → at < length s → (end_of s at < length s → end_of s at < 49152 → step d.next at (line_of (line_in s at)) d ≡ broken d)
          → (q : Bool) → ltb (end_of s at) (length s) ≡ q → broken begun ≡ settled (walked (first_event s))
      ends on h b true e = inner on (ltb-true (end_of s at) (length s) e) (b (ltb-true (end_of s at) (length s) e)) (ltb (end_of s at) 49152) refl
      ends on h b false e = last on h (ltb-false (end_of s at) (length s) e)

      go : (p : Bool) → is_over s at ≡ p → broken begun ≡ settled (walked (first_event s))
      go true e = out_of (first_event s) (subst Stopped (left_end (first_event s) at d re.left (omega (arith, first_length s, over_length s at re.on e))) (st e))
      go false e = let n = not_over s at e in ends (own_on s at re.on n.0) n.1 (br e) (ltb (end_of s at) (length s)) refl

  pub takes_lost : (f : Line → Walked → Walked) (g : Walked → Walked) (r : Lined) → Takes s at f g r → r.ok ≡ false → ((l : Line) → step d.next at l d ≡ f l d)
      → (is_over s at ≡ true → Stopped d) → broken begun ≡ settled (walked (first_event s))
  takes_lost f g r t o hs st = reached_lost st (λ e h k. hs (line_of (line_in s at)) ∙ t.bad o h k d)

  pub broken_lost : d.next ≡ 5 → broken begun ≡ settled (walked (first_event s))
  broken_lost e = out_of (first_event s) (left_out (first_event s) at d re.left e)

  pub reached_end : is_over s at ≡ true → (eqb d.next 2 || eqb d.next 4) ≡ true → (d ≡ settled (walked (first_event s))) × (at ≡ event_length s)
  reached_end e c =
      let n : event_length s ≡ at = over_length s at re.on e in
      let z : d ≡ walked_lines (first_event s) = left_end (first_event s) at d re.left (omega (arith, first_length s, n)) in
      let y : d ≡ walked (first_event s) = short_enough (first_event s) d (omega (arith, first_length s, n, re.short)) z in
      (sym (settled_in d c) ∙ ap settled y, sym n)

pub reached_start : (s : List ℕ) → Reached s 0 begun
reached_start s = record { left = left_start (first_event s) begun refl; within = omega arith; short = omega arith; on = omega (arith, rest_event s) }

-- As the code writes an event out of form.

-- Without a heading, and no attributes beside it, the event is out of form.
pub out_is : (ps : List code.Pair) → pairs_of ps ≡ no_pairs → walked_by None ps ≡ broken begun
unfolding walked_by broken begun
out_is ps e =
    ap (λ (qs : List Pair). record { next = 5; kind = 0; tag = 0; name = part_at 0 0 0; code = 0; key = part_at 0 0 0; count = 0; pairs = qs; text = part_at 0 0 0 }) e
