-- THE LAW of a second event: bytes in which another event begins are out of form.
use Prim.Native.Nat.{ℕ, zero, suc, ◌+◌, ◌-◌, ◌≤◌, ◌<◌}
use mathlib.Core.Path.{◌≡◌, refl, sym, ap, ◌∙◌, subst}
use mathlib.Core.Bool.{Bool, true, false, ◌&&◌, and-eq-true_iff}
use mathlib.Core.List.{List}
use native.Mathlib.Omega.{arith}
use lib.Dec.{ltb, leb}
use lib.ListN.{length, take, drop}
use borrow.Author.Tests.{ltb-true, ltb-false, lt-ltb, leb-true}
use Rattle.definition.specs.Text.{str}
use Rattle.definition.specs.Event as E
use Rattle.definition.specs.Event.{Line, line_of}
use Rattle.lines.specs.Lines.{line_length, has_head, rest_length, event_length}
use Rattle.lines.specs.Blocks.{all, is_within_line}
use Rattle.parts.specs.Walked.{Walked}
use Rattle.parts.specs.Parts.{begun, broken, with_kind, with_name, with_key, with_value, with_text, added_value, room_left}
use Rattle.walk.specs.Walk.{name_fits, key_fits, value_fits, text_fits, on_event, on_name, on_key, on_value, step, walked_lines, walked}
use Rattle.walk.specs.Stream.{Left, end_of, line_in}
use Rattle.walk.proofs.CodeLaws.{as_event}
use Rattle.walk.proofs.LineIn.{line_head}
use Rattle.walk.proofs.WalkLaw.{Stopped, stopped}
use Rattle.walk.proofs.LoopLaws.{left_start, left_more, left_open, short_enough}
use Rattle.walk.proofs.StreamLaws.{line_on, line_last, own_on, left_out}
use Rattle.lines.proofs.LineLaws.{rest_event}

-- ---- after a line, `event=` is awaited no more

abbrev Later : Walked → Type 0
Later w = 1 ≤ w.next

event_later : (l : Line) (d : Walked) → Later (on_event l d)
unfolding on_event with_kind broken
event_later (E.event k) d = omega arith
event_later (E.name n) d = omega arith
event_later (E.key k) d = omega arith
event_later (E.value v) d = omega arith
event_later (E.text v) d = omega arith
event_later E.junk d = omega arith

name_later : (at : ℕ) (l : Line) (d : Walked) → Later (on_name at l d)
unfolding on_name with_name broken
name_later at (E.event k) d = omega arith
name_later at (E.name n) d = go (name_fits n) refl
  where
    go : (p : Bool) → name_fits n ≡ p → Later (on_name at (E.name n) d)
    go true q = rw (q, on_name) (omega arith)
    go false q = rw (q, on_name) (omega arith)
name_later at (E.key k) d = omega arith
name_later at (E.value v) d = omega arith
name_later at (E.text v) d = omega arith
name_later at E.junk d = omega arith

key_later : (at : ℕ) (l : Line) (d : Walked) → Later (on_key at l d)
unfolding on_key with_key with_text broken
key_later at (E.event k) d = omega arith
key_later at (E.name n) d = omega arith
key_later at (E.key k) d = go (key_fits k) refl
  where
    go : (p : Bool) → key_fits k ≡ p → Later (on_key at (E.key k) d)
    go true q = rw (q, on_key) (omega arith)
    go false q = rw (q, on_key) (omega arith)
key_later at (E.value v) d = omega arith
key_later at (E.text v) d = go (text_fits v) refl
  where
    go : (p : Bool) → text_fits v ≡ p → Later (on_key at (E.text v) d)
    go true q = rw (q, on_key) (omega arith)
    go false q = rw (q, on_key) (omega arith)
key_later at E.junk d = omega arith

value_later : (at : ℕ) (l : Line) (d : Walked) → Later (on_value at l d)
unfolding on_value added_value with_value broken
value_later at (E.event k) d = omega arith
value_later at (E.name n) d = omega arith
value_later at (E.key k) d = omega arith
value_later at (E.value v) d = go (value_fits v) (room_left d.count) refl refl
  where
    go : (p r : Bool) → value_fits v ≡ p → room_left d.count ≡ r → Later (on_value at (E.value v) d)
    go true true q t = rw (q, on_value, t, added_value) (omega arith)
    go true false q t = rw (q, on_value, t, added_value) (omega arith)
    go false r q t = rw (q, on_value) (omega arith)
value_later at (E.text v) d = omega arith
value_later at E.junk d = omega arith

step_later : (m at : ℕ) (l : Line) (d : Walked) → Later (step m at l d)
unfolding step broken
step_later zero at l d = event_later l d
step_later (suc zero) at l d = name_later at l d
step_later (suc (suc zero)) at l d = key_later at l d
step_later (suc (suc (suc zero))) at l d = value_later at l d
step_later (suc (suc (suc (suc n)))) at l d = omega arith

event_breaks : (m at : ℕ) (k : List ℕ) (d : Walked) → 1 ≤ m → step m at (E.event k) d ≡ broken d
unfolding step on_name on_key on_value
event_breaks zero at k d h = absurd (omega arith)
event_breaks (suc zero) at k d h = refl
event_breaks (suc (suc zero)) at k d h = refl
event_breaks (suc (suc (suc zero))) at k d h = refl
event_breaks (suc (suc (suc (suc n)))) at k d h = refl

-- ---- a line more, or the last one

module _ (s : List ℕ) (at : ℕ) (d : Walked) (l : Left s at d) where
  line_step : end_of s at < length s → {f : Walked} → f ≡ step d.next at (line_of (line_in s at)) d → Left s (end_of s at + 1) f
  line_step h e =
      let m : line_length (drop at s) ≡ end_of s at - at = omega arith in
      left_more s at (end_of s at) d l refl h (ap (λ (n : ℕ). take n (drop at s)) m) e

  line_open : at < length s → length s ≤ end_of s at → Stopped (walked_lines s)
  unfolding broken
  line_open h k = stopped (walked_lines s) (sym (ap (λ (w : Walked). w.next) (left_open s at (end_of s at) d l refl h k)))

  -- Another event begins here.
  begins_out : at < length s → 1 ≤ d.next → has_head (str "event=") (drop at s) ≡ true → Stopped (walked_lines s)
  unfolding str all is_within_line broken
  begins_out h p e = go (ltb (end_of s at) (length s)) refl
    where
      breaks : broken d ≡ step d.next at (line_of (line_in s at)) d
      breaks =
          sym (ap (λ (x : Line). step d.next at x d) (as_event (line_in s at) (line_head (str "event=") refl s at e)) ∙ event_breaks d.next at (drop 6 (line_in s at)) d p)

      go : (q : Bool) → ltb (end_of s at) (length s) ≡ q → Stopped (walked_lines s)
      go true f = left_out s (end_of s at + 1) (broken d) (line_step (ltb-true (end_of s at) (length s) f) breaks) refl
      go false f = line_open h (ltb-false (end_of s at) (length s) f)

-- Line by line up to the second event; n lines are enough.
walk_to : (s : List ℕ) → event_length s < length s → (n at : ℕ) (d : Walked) → length s < at + n → Left s at d → (0 < at → 1 ≤ d.next)
    → event_length s ≡ at + rest_length (ltb 0 at) (drop at s) → Stopped (walked_lines s)
walk_to s h zero at d k l p so = absurd (omega (arith, l.within))
walk_to s h (suc n) at d k l p so = go (ltb 0 at && has_head (str "event=") (drop at s)) refl (walk_to s h n)
  where
    Further : Type 0
    Further = (i : ℕ) (f : Walked) → length s < i + n → Left s i f → (0 < i → 1 ≤ f.next) → event_length s ≡ i + rest_length (ltb 0 i) (drop i s) → Stopped (walked_lines s)

    more : event_length s ≡ at + event_length (drop at s) → Further → (q : Bool) → ltb (end_of s at) (length s) ≡ q → Stopped (walked_lines s)
    more on ih true f =
        ih (end_of s at + 1) (step d.next at (line_of (line_in s at)) d) (omega arith) (line_step s at d l (ltb-true (end_of s at) (length s) f) refl)
        (λ z. step_later d.next at (line_of (line_in s at)) d)
        (line_on s at on (ltb-true (end_of s at) (length s) f))
    more on ih false f = absurd (omega (arith, h, line_last s at on (ltb-false (end_of s at) (length s) f)))

    own : (ltb 0 at && has_head (str "event=") (drop at s)) ≡ false → 0 < at → has_head (str "event=") (drop at s) ≡ false
    own f z = ap (λ (b : Bool). b && has_head (str "event=") (drop at s)) (sym (lt-ltb 0 at z)) ∙ f

    go : (q : Bool) → (ltb 0 at && has_head (str "event=") (drop at s)) ≡ q → Further → Stopped (walked_lines s)
    go true f ih =
        let g = (and-eq-true_iff (ltb 0 at) (has_head (str "event=") (drop at s))).0 f in
        begins_out s at d l (omega (arith, so, h)) (p (ltb-true 0 at g.0)) g.1
    go false f ih = more (own_on s at so (own f)) ih (ltb (end_of s at) (length s)) refl

pub second_event : (s : List ℕ) → event_length s < length s → Stopped (walked s)
unfolding walked broken
second_event s h = go (leb (length s) 49152) refl
  where
    lines : Stopped (walked_lines s)
    lines = walk_to s h (length s + 1) 0 begun (omega arith) (left_start s begun refl) (λ z. absurd (omega arith)) (omega (arith, rest_event s))

    go : (q : Bool) → leb (length s) 49152 ≡ q → Stopped (walked s)
    go true e = subst Stopped (short_enough s (walked_lines s) (leb-true (length s) 49152 e) refl) lines
    go false e = let y : walked s ≡ broken begun = rw (e, walked) in stopped (walked s) (ap (λ (w : Walked). w.next) y)
