-- Where a stream may be parted: at the start, and where an event begins.
use mathlib.Core.Path.{◌≡◌, refl, ap, ap₂, sym, ◌∙◌, subst}
use mathlib.Core.Bool.{Bool, true, false, ◌&&◌}
use mathlib.Core.List.{List, [], ◌∷◌, ◌++◌, append_assoc, append-nil}
use Prim.Native.Nat.{ℕ, zero, suc, ◌+◌, ◌-◌, ◌≤◌, ◌<◌}
use native.Mathlib.Omega.{arith}
use lib.Dec.{eqb}
use lib.ListN.{length, get_or, take, drop, length-append, length-drop, take-append-drop}
use lib.Seq.{drop-cons, take-suc, get_or-drop, drop-drop}
use borrow.Author.Tests.{eqb-true}
use Rattle.definition.specs.Text.{str}
use Rattle.definition.specs.Event.{after, begins_event, flush, cut, events_of}
use Rattle.definition.proofs.Base.{test as by}
use Rattle.lines.specs.Lines.{has_head, rest_length, event_length}
use Rattle.lines.proofs.LineLaws.{head_next, head_other, events_by_length}
use Rattle.pieces.specs.Pieces.{Parted}

-- ---- heads

-- no byte of a head ends a line
apart : List ℕ → Type 0
apart [] = Unit {0}
apart (x ∷ h) = (eqb x 10 ≡ false) × apart h

-- what follows a line's end does not make it begin otherwise
head_same : (h w y z : List ℕ) → apart h → has_head h (w ++ 10 ∷ y) ≡ has_head h (w ++ 10 ∷ z)
unfolding apart has_head after
head_same [] w y z a = refl
head_same (x ∷ h) [] y z a = head_other x 10 h y a.0 ∙ sym (head_other x 10 h z a.0)
head_same (x ∷ h) (b ∷ w) y z a =
    by (eqb x b)
    (λ e. head_next x b h (w ++ 10 ∷ y) e ∙ head_same h w y z a.1 ∙ sym (head_next x b h (w ++ 10 ∷ z) e))
    (λ e. head_other x b h (w ++ 10 ∷ y) e ∙ sym (head_other x b h (w ++ 10 ∷ z) e))

begins_same : (w y z : List ℕ) → begins_event (w ++ 10 ∷ y) ≡ begins_event (w ++ 10 ∷ z)
unfolding begins_event has_head apart str
begins_same w y z = head_same (str "event=") w y z (refl, (refl, (refl, (refl, (refl, (refl, tt))))))

head_longer : (h l m : List ℕ) → has_head h l ≡ true → has_head h (l ++ m) ≡ true
unfolding has_head after
head_longer [] l m e = refl
head_longer (x ∷ h) [] m e = let z : false ≡ true = e in absurd (let y : ◌≡◌ {A = ℕ} 0 1 = cc in omega arith)
head_longer (x ∷ h) (b ∷ l) m e =
    by (eqb x b) (λ f. head_next x b h (l ++ m) f ∙ head_longer h l m (sym (head_next x b h l f) ∙ e))
    (λ f. let z : false ≡ true = sym (head_other x b h l f) ∙ e in absurd (let y : ◌≡◌ {A = ℕ} 0 1 = cc in omega arith))

begins_longer : (l m : List ℕ) → begins_event l ≡ true → begins_event (l ++ m) ≡ true
unfolding begins_event has_head
begins_longer l m e = head_longer (str "event=") l m e

-- ---- events

flush_on : (w : List ℕ) (xs ys : List (List ℕ)) → flush w (xs ++ ys) ≡ flush w xs ++ ys
unfolding flush
flush_on [] xs ys = refl
flush_on (b ∷ w) xs ys = refl

-- a line's end, and behind it an event
cut_on :
    (z : List ℕ) (start : Bool) (e y : List ℕ) (b : ℕ) → begins_event (b ∷ y) ≡ true → cut start e (z ++ 10 ∷ b ∷ y) ≡ cut start e (z ++ 10 ∷ []) ++ events_of (b ∷ y)
unfolding cut events_of
cut_on [] start e y b h = at_once start
  where
    next : cut true (e ++ 10 ∷ []) (b ∷ y) ≡ flush (e ++ 10 ∷ []) [] ++ cut true [] (b ∷ y)
    next = rw (h, cut) (flush_on (e ++ 10 ∷ []) [] (cut false (b ∷ []) y))

    at_once : (t : Bool) → cut t e (10 ∷ b ∷ y) ≡ cut t e (10 ∷ []) ++ cut true [] (b ∷ y)
    at_once true = next
    at_once false = next
cut_on (c ∷ z) start e y b h = go (start && begins_event (c ∷ z ++ 10 ∷ b ∷ y)) refl (cut_on z false (c ∷ []) y b h) (cut_on z (eqb c 10) (e ++ c ∷ []) y b h)
  where
    same : (start && begins_event (c ∷ z ++ 10 ∷ [])) ≡ (start && begins_event (c ∷ z ++ 10 ∷ b ∷ y))
    same = ap (λ (t : Bool). start && t) (begins_same (c ∷ z) [] (b ∷ y))

    go :
        (p : Bool) → (start && begins_event (c ∷ z ++ 10 ∷ b ∷ y)) ≡ p → cut false (c ∷ []) (z ++ 10 ∷ b ∷ y) ≡ cut false (c ∷ []) (z ++ 10 ∷ []) ++ events_of (b ∷ y)
        → cut (eqb c 10) (e ++ c ∷ []) (z ++ 10 ∷ b ∷ y) ≡ cut (eqb c 10) (e ++ c ∷ []) (z ++ 10 ∷ []) ++ events_of (b ∷ y)
        → cut start e (c ∷ z ++ 10 ∷ b ∷ y) ≡ cut start e (c ∷ z ++ 10 ∷ []) ++ events_of (b ∷ y)
    go true q f g = rw (q, cut, same ∙ q, cut) (ap (flush e) f ∙ flush_on e (cut false (c ∷ []) (z ++ 10 ∷ [])) (events_of (b ∷ y)))
    go false q f g = rw (q, cut, same ∙ q, cut) g

-- where an event stops before the end, a line has ended and the next event begins; p is the byte before
rest_stops : (l : List ℕ) (p : ℕ) → rest_length (eqb p 10) l < length l → (get_or (p ∷ l) (rest_length (eqb p 10) l) 0 ≡ 10) × (begins_event (drop (rest_length (eqb p 10) l) l) ≡ true)
unfolding rest_length
rest_stops [] p h = absurd (omega arith)
rest_stops (b ∷ l) p h = go (eqb p 10 && begins_event (b ∷ l)) refl (rest_stops l b)
  where
    both : (s t : Bool) → (s && t) ≡ true → (s ≡ true) × (t ≡ true)
    both true t f = (refl, f)
    both false t f = let z : false ≡ true = f in absurd (let y : ◌≡◌ {A = ℕ} 0 1 = cc in omega arith)

    go :
        (t : Bool) → (eqb p 10 && begins_event (b ∷ l)) ≡ t
        → (rest_length (eqb b 10) l < length l → (get_or (b ∷ l) (rest_length (eqb b 10) l) 0 ≡ 10) × (begins_event (drop (rest_length (eqb b 10) l) l) ≡ true))
        → (get_or (p ∷ b ∷ l) (rest_length (eqb p 10) (b ∷ l)) 0 ≡ 10) × (begins_event (drop (rest_length (eqb p 10) (b ∷ l)) (b ∷ l)) ≡ true)
    go true q f =
        let n : rest_length (eqb p 10) (b ∷ l) ≡ 0 = rw (q, rest_length) in
        rw n (eqb-true _ _ (both _ _ q).0, (both (eqb p 10) _ q).1)
    go false q f =
        let n : rest_length (eqb p 10) (b ∷ l) ≡ suc (rest_length (eqb b 10) l) = rw (q, rest_length) in
        rw n (f (omega arith))

-- of an event that ends before the stream does
pub stops : (l : List ℕ) → 0 < length l → event_length l < length l → (get_or l (event_length l - 1) 0 ≡ 10) × (begins_event (drop (event_length l) l) ≡ true)
unfolding event_length
stops [] h k = absurd (omega arith)
stops (p ∷ l) h k = let n : suc (rest_length (eqb p 10) l) - 1 ≡ rest_length (eqb p 10) l = omega arith in rw n (rest_stops l p (omega arith))

-- ---- where a stream may be parted

abbrev pub EventsAt : List ℕ → ℕ → Type 0
EventsAt s at = (more : List ℕ) → events_of (s ++ more) ≡ events_of (take at s) ++ events_of (drop at s ++ more)

pub parts_none : (s : List ℕ) → EventsAt s 0
unfolding events_of cut flush
parts_none s more = refl

pub parts_at : (s : List ℕ) (at : ℕ) → 0 < at → at < length s → get_or s (at - 1) 0 ≡ 10 → begins_event (drop at s) ≡ true → EventsAt s at
unfolding events_of
parts_at s zero h k e f more = absurd (omega arith)
parts_at s (suc j) h k e f more =
    ap events_of (ap (λ (l : List ℕ). l ++ more) (sym (take-append-drop (suc j) s)) ∙ append_assoc (take (suc j) s) (drop (suc j) s) more)
    ∙ ap₂ (λ (x y : List ℕ). events_of (x ++ y)) front back
    ∙ whole
    ∙ ap₂ (λ (x y : List ℕ). events_of x ++ events_of y) (sym front) (sym back)
  where
    b : ℕ
    b = get_or s (suc j) 0

    one_less : j ≡ suc j - 1
    one_less = omega arith

    front : take (suc j) s ≡ take j s ++ 10 ∷ []
    front = take-suc s j 0 (omega arith) ∙ ap (λ (x : ℕ). take j s ++ x ∷ []) (ap (λ (n : ℕ). get_or s n 0) one_less ∙ e)

    tail : drop (suc j) s ≡ b ∷ drop (suc (suc j)) s
    tail = drop-cons s (suc j) 0 k

    back : drop (suc j) s ++ more ≡ b ∷ (drop (suc (suc j)) s ++ more)
    back = ap (λ (l : List ℕ). l ++ more) tail

    begins : begins_event (b ∷ (drop (suc (suc j)) s ++ more)) ≡ true
    begins = subst (λ (l : List ℕ). begins_event l ≡ true) back (begins_longer (drop (suc j) s) more f)

    whole : events_of (take j s ++ 10 ∷ [] ++ b ∷ (drop (suc (suc j)) s ++ more)) ≡ events_of (take j s ++ 10 ∷ []) ++ events_of (b ∷ (drop (suc (suc j)) s ++ more))
    whole = ap events_of (append_assoc (take j s) (10 ∷ []) (b ∷ (drop (suc (suc j)) s ++ more))) ∙ joined
      where
        joined : events_of (take j s ++ 10 ∷ b ∷ (drop (suc (suc j)) s ++ more)) ≡ events_of (take j s ++ 10 ∷ []) ++ events_of (b ∷ (drop (suc (suc j)) s ++ more))
        joined = cut_on (take j s) true [] (drop (suc (suc j)) s ++ more) b begins

-- ---- from event to event

event_some : (l : List ℕ) → 0 < length l → 0 < event_length l
unfolding event_length
event_some [] h = absurd (omega arith)
event_some (b ∷ l) h = omega arith

one_more_lem : (l : List ℕ) → 0 < length l → length (events_of l) ≡ suc (length (events_of (drop (event_length l) l)))
one_more_lem [] h = absurd (omega arith)
one_more_lem (b ∷ l) h = ap length (events_by_length b l)

-- `at` begins an event, and `before` events stand before it
abbrev pub Walked : List ℕ → ℕ → ℕ → Type 0
Walked s at before =
    (at ≤ length s) × ((before ≤ at) × (EventsAt s at × (before + length (events_of (drop at s)) ≡ length (events_of s))))

pub walk_begins : (s : List ℕ) → Walked s 0 0
walk_begins s = (omega arith, (omega arith, (parts_none s, omega arith)))

module _ (s : List ℕ) (at : ℕ) where
  pub walk_less : (next : ℕ) → next < length s → next ≡ at + event_length (drop at s) → at < next
  walk_less next h e = omega (arith, event_some (drop at s) (omega (arith, length-drop at s)))

  module _ (before : ℕ) (w : Walked s at before) where
    pub walk_on : (next : ℕ) → next < length s → next ≡ at + event_length (drop at s) → Walked s next (before + 1)
    walk_on next h e = (omega arith, (omega (arith, some), (parts_at s next (omega (arith, some)) h byte head, counts)))
      where
        l : List ℕ
        l = drop at s

        long : length l ≡ length s - at
        long = length-drop at s

        some : 0 < event_length l
        some = event_some l (omega (arith, long))

        ended : (get_or l (event_length l - 1) 0 ≡ 10) × (begins_event (drop (event_length l) l) ≡ true)
        ended = stops l (omega (arith, long)) (omega (arith, long))

        place : at + (event_length l - 1) ≡ next - 1
        place = omega (arith, some)

        byte : get_or s (next - 1) 0 ≡ 10
        byte = ap (λ (n : ℕ). get_or s n 0) (sym place) ∙ sym (get_or-drop at s (event_length l - 1) 0) ∙ ended.0

        onward : drop (event_length l) l ≡ drop next s
        onward = drop-drop (event_length l) at s ∙ ap (λ (n : ℕ). drop n s) (sym e)

        head : begins_event (drop next s) ≡ true
        head = subst (λ (x : List ℕ). begins_event x ≡ true) onward ended.1

        counts : before + 1 + length (events_of (drop next s)) ≡ length (events_of s)
        counts = omega (arith, one_more_lem l (omega (arith, long)), ap (λ (x : List ℕ). length (events_of x)) onward)

    pub walk_ends : Parted s at before
    walk_ends =
        record {
          within = w.0;
          events = w.1.1.0;
          counted = omega (arith, sums);
        }
      where
        sums : length (events_of s) ≡ length (events_of (take at s)) + length (events_of (drop at s))
        sums =
            ap (λ (x : List ℕ). length (events_of x)) (sym (append-nil s)) ∙ ap length (w.1.1.0 [])
            ∙ length-append (events_of (take at s)) (events_of (drop at s ++ []))
            ∙ ap (λ (x : List ℕ). length (events_of (take at s)) + length (events_of x)) (append-nil (drop at s))
