-- What heads and the loop over a stream's lines need of the definitions.
use mathlib.Core.Path.{◌≡◌, refl, sym, ap, ◌∙◌, subst}
use mathlib.Core.Bool.{Bool, true, false, ◌&&◌, and-eq-true_iff}
use mathlib.Core.Option.{none}
use mathlib.Core.List.{List, [], ◌∷◌, ◌++◌, append-nil, append_assoc}
use Prim.Native.Nat.{ℕ, suc, ◌+◌, ◌≤◌, ◌<◌}
use native.Mathlib.Numerals.{add-one}
use native.Mathlib.Omega.{arith}
use lib.Dec.{eqb}
use lib.ListN.{length, get_or, take, drop, drop_of_length-le}
use lib.Seq.{drop-cons, drop-drop}
use lib.Pointwise.{pointwise}
use Rattle.std.proofs.Common.{nat_eq}
use borrow.Author.Tests.{ne_eqb}
use Rattle.definition.specs.Text.{str}
use Rattle.definition.specs.Event.{after, begins_event, flush, cut, events_of}
use Rattle.lines.specs.Lines.{line_length, has_head, rest_length, event_length}

pub head_next : (x y : ℕ) (h l : List ℕ) → eqb x y ≡ true → has_head (x ∷ h) (y ∷ l) ≡ has_head h l
unfolding has_head after
head_next x y h l e = let z : after (x ∷ h) (y ∷ l) ≡ after h l = rw (e, after) in rw (z, has_head)

pub head_other : (x y : ℕ) (h l : List ℕ) → eqb x y ≡ false → has_head (x ∷ h) (y ∷ l) ≡ false
unfolding has_head after
head_other x y h l e = let z : after (x ∷ h) (y ∷ l) ≡ none = rw (e, after) in rw (z, has_head)

-- A head is a line's first bytes.
pub head_starts : (h l : List ℕ) → pointwise nat_eq h (take (length h) l) ≡ has_head h l
unfolding has_head after
head_starts [] l = refl
head_starts (x ∷ h) [] = refl
head_starts (x ∷ h) (y ∷ l) = go (eqb x y) refl (head_starts h l)
  where
    go : (p : Bool) → eqb x y ≡ p → pointwise nat_eq h (take (length h) l) ≡ has_head h l → (p && pointwise nat_eq h (take (length h) l)) ≡ has_head (x ∷ h) (y ∷ l)
    go true e ih = ih ∙ sym (head_next x y h l e)
    go false e ih = sym (head_other x y h l e)

-- ---- a stream

-- Where no line begins, the rest is as long as an event.
pub rest_event : (l : List ℕ) → rest_length false l ≡ event_length l
unfolding rest_length event_length
rest_event [] = refl
rest_event (b ∷ bs) = refl

-- An event's end, seen from the end of the line it begins on.
line_event : (l : List ℕ) → line_length l + event_length (drop (line_length l) l) ≡ event_length l
unfolding line_length event_length
line_event [] = refl
line_event (b ∷ bs) = go (eqb b 10) refl (line_event bs)
  where
    go : (p : Bool) → eqb b 10 ≡ p → line_length bs + event_length (drop (line_length bs) bs) ≡ event_length bs → line_length (b ∷ bs) + event_length (drop (line_length (b ∷ bs)) (b ∷ bs)) ≡ event_length (b ∷ bs)
    go true q ih = rw (q, line_length) (omega (arith, ap (λ (x : Bool). rest_length x bs) q))
    go false q ih = rw (q, line_length, event_length) (omega (arith, ih, rest_event bs))

line_ended : (l : List ℕ) → line_length (drop (line_length l) l) ≡ 0
unfolding line_length
line_ended [] = refl
line_ended (b ∷ bs) = go (eqb b 10) refl (line_ended bs)
  where
    go : (p : Bool) → eqb b 10 ≡ p → line_length (drop (line_length bs) bs) ≡ 0 → line_length (drop (line_length (b ∷ bs)) (b ∷ bs)) ≡ 0
    go true q ih = rw (q, line_length, q, line_length)
    go false q ih = rw (q, line_length) ih

-- After the end of a line an event begins, or the one before goes on.
line_next : (b : ℕ) (bs : List ℕ) → line_length (b ∷ bs) ≡ 0 → event_length (b ∷ bs) ≡ suc (rest_length true bs)
unfolding line_length event_length
line_next b bs e = go (eqb b 10) refl
  where
    go : (p : Bool) → eqb b 10 ≡ p → event_length (b ∷ bs) ≡ suc (rest_length true bs)
    go true q = rw (q, event_length)
    go false q = let z : suc (line_length bs) ≡ 0 = rw (q, line_length) at e in absurd (omega arith)

pub rest_begun : (l : List ℕ) → begins_event l ≡ true → rest_length true l ≡ 0
unfolding rest_length begins_event after str
rest_begun [] e = refl
rest_begun (b ∷ bs) e = rw (e, rest_length)

pub rest_on : (l : List ℕ) → begins_event l ≡ false → rest_length true l ≡ event_length l
unfolding rest_length event_length
rest_on [] e = refl
rest_on (b ∷ bs) e = rw (e, rest_length)

module _ (s : List ℕ) (i : ℕ) where
  pub line_ended_at : {r : ℕ} → r ≡ i + line_length (drop i s) → line_length (drop r s) ≡ 0
  line_ended_at e = rw (e, ← drop-drop (line_length (drop i s)) i s) (line_ended (drop i s))

  pub event_line : {r : ℕ} → r ≡ i + line_length (drop i s) → r + event_length (drop r s) ≡ i + event_length (drop i s)
  event_line e = rw (e, ← drop-drop (line_length (drop i s)) i s) (omega (arith, line_event (drop i s)))

  module _ (h : i < length s) (e : line_length (drop i s) ≡ 0) where
    pub rest_after : event_length (drop i s) ≡ suc (rest_length true (drop (suc i) s))
    rest_after = rw (drop-cons s i 0 h) (line_next (get_or s i 0) (drop (suc i) s) (rw (drop-cons s i 0 h) at e))

    module _ {r : Bool} (f : r ≡ has_head (str "event=") (drop (i + 1) s)) where
      begins : begins_event (drop (suc i) s) ≡ r
      unfolding has_head begins_event
      begins = sym (rw add-one at f)

      pub event_stop : r ≡ true → i + 1 ≡ i + event_length (drop i s)
      event_stop g = omega (arith, rest_after, rest_begun (drop (suc i) s) (begins ∙ g))

      pub event_more : r ≡ false → i + 1 + event_length (drop (i + 1) s) ≡ i + event_length (drop i s)
      event_more g = rw add-one (omega (arith, rest_after, rest_on (drop (suc i) s) (begins ∙ g)))

  pub event_none : length s ≤ i → i ≡ i + event_length (drop i s)
  unfolding event_length
  event_none h = rw (drop_of_length-le s h) (omega arith)

-- THE LAW: cutting a stream by the lengths of its first events gives its events.
cut_rest : (l e : List ℕ) (start : Bool) → cut start e l ≡ flush (e ++ take (rest_length start l) l) (events_of (drop (rest_length start l) l))
unfolding cut rest_length events_of flush
cut_rest [] e start = rw (append-nil e) refl
cut_rest (b ∷ bs) e start = go (start && begins_event (b ∷ bs)) refl (cut_rest bs (e ++ b ∷ []) (eqb b 10))
  where
    begun : (start && begins_event (b ∷ bs)) ≡ true → begins_event (b ∷ bs) ≡ true
    begun f = ((and-eq-true_iff start (begins_event (b ∷ bs))).0 f).1

    go : (p : Bool) → (start && begins_event (b ∷ bs)) ≡ p → cut (eqb b 10) (e ++ b ∷ []) bs ≡ flush (e ++ b ∷ [] ++ take (rest_length (eqb b 10) bs) bs) (events_of (drop (rest_length (eqb b 10) bs) bs))
        → cut start e (b ∷ bs) ≡ flush (e ++ take (rest_length start (b ∷ bs)) (b ∷ bs)) (events_of (drop (rest_length start (b ∷ bs)) (b ∷ bs)))
    go true q ih = rw (q, cut, rest_length, append-nil e) (ap (flush e) (sym (rw (begun q, cut))))
    go false q ih = rw (q, cut, rest_length) (ih ∙ rw (append_assoc e (b ∷ []) (take (rest_length (eqb b 10) bs) bs)) refl)

-- An event's first byte is no byte 10.
no_line_end : (b : ℕ) (bs : List ℕ) → begins_event (b ∷ bs) ≡ true → eqb b 10 ≡ false
unfolding begins_event after str
no_line_end b bs e = ne_eqb b 10 (λ f. let z : false ≡ true = subst (λ (x : ℕ). begins_event (x ∷ bs) ≡ true) f e in let y : ◌≡◌ {A = ℕ} 0 1 = cc in omega arith)

pub events_by_length : (b : ℕ) (bs : List ℕ) → events_of (b ∷ bs) ≡ take (event_length (b ∷ bs)) (b ∷ bs) ∷ events_of (drop (event_length (b ∷ bs)) (b ∷ bs))
unfolding events_of cut event_length flush
events_by_length b bs = go (begins_event (b ∷ bs)) refl
  where
    go : (p : Bool) → begins_event (b ∷ bs) ≡ p → cut true [] (b ∷ bs) ≡ take (suc (rest_length (eqb b 10) bs)) (b ∷ bs) ∷ cut true [] (drop (suc (rest_length (eqb b 10) bs)) (b ∷ bs))
    go true q = rw (q, cut) (subst (λ (x : Bool). cut x (b ∷ []) bs ≡ (b ∷ take (rest_length (eqb b 10) bs) bs) ∷ cut true [] (drop (rest_length (eqb b 10) bs) bs)) (no_line_end b bs q) (cut_rest bs (b ∷ []) (eqb b 10)))
    go false q = rw (q, cut) (cut_rest bs (b ∷ []) (eqb b 10))
