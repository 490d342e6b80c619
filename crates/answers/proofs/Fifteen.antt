-- Which numbers are answered: an event gets none above 15, a reading 0, 1, 2 or 16; and 15 is exact.
use Prim.Native.Nat.{ℕ, zero, suc, ◌≤◌}
use mathlib.Core.Path.{◌≡◌, refl, sym, ap, ◌∙◌}
use mathlib.Core.Bool.{Bool, true, false}
use mathlib.Core.Option.{Option, none, some}
use mathlib.Core.List.{List, [], ◌∷◌}
use lib.Dec.{leb}
use native.Mathlib.Omega.{arith}
use Rattle.definition.specs.declared.Limits.{Limits}
use Rattle.definition.specs.Elements.{among}
use Rattle.definition.specs.Rows.{Numbers, Store}
use Rattle.definition.specs.Event.{Event, read_event, in_form, keys_differ}
use Rattle.definition.specs.Look.{Look, look, text_after}
use Rattle.definition.specs.Change.{Change, Outcome, done, refuse, entered}
use Rattle.definition.specs.Rules.{within_limits}
use Rattle.definition.specs.declared.Position.{Position}
use Rattle.definition.specs.Reader.{start_of, end_of, Question, first_no, questions, Verdict, accept, reject, on_done, started, finished, handled, limited, decided, Reply, settled, reply_to, event_reply, Lent, Call, event, reading, Answer, refused, answer_of, answer_to, call, exists, store_of, long_enough, in_order}
use Rattle.answers.specs.Statements.{EventAnswers, ReadingAnswers, Grows, FifteenOnly, FifteenAlways}
use Rattle.answers.proofs.LowOutcomes.{Low, other, low_start, low_end}
use Rattle.definition.proofs.Base.{true_is_false, le_of}

-- ---- the verdict

pub data LowV : Verdict → Type 0 where
  yes_v : {n : Numbers} → LowV (accept n)
  no_v : {k : ℕ} → leb k 14 ≡ true → LowV (reject k)

on_done_lem : (o : Outcome) (next : Change → Verdict) → Low o → ((c : Change) → LowV (next c)) → LowV (on_done o next)
unfolding on_done
on_done_lem (done c) next p q = q c
on_done_lem (refuse k) next (other e) q = no_v e

low_started : (l : Look) (n : Numbers) (next : Numbers → Verdict) → ((m : Numbers) → LowV (next m)) → LowV (started l n next)
unfolding started
low_started l n next q = on_done_lem (start_of l.tag n l) _ (low_start l.tag n l) (λ c. q _)

low_finished : (l : Look) (n : Numbers) → LowV (finished l n)
unfolding finished
low_finished l n = on_done_lem (end_of l.tag n) _ (low_end l.tag n) (λ c. yes_v)

low_handled : (k : ℕ) (l : Look) (n : Numbers) → LowV (handled k l n)
unfolding handled
low_handled zero l n = low_started l n accept (λ m. yes_v)
low_handled (suc zero) l n = low_started l n (finished l) (low_finished l)
low_handled (suc (suc zero)) l n = low_started l n (finished l) (low_finished l)
low_handled (suc (suc (suc k))) l n = low_finished l n

AllQ : List Question → Type 0
AllQ [] = Unit {0}
AllQ (q ∷ qs) = (leb q.otherwise 14 ≡ true) × AllQ qs

low_first : (qs : List Question) → AllQ qs → leb (first_no qs) 14 ≡ true
unfolding first_no AllQ
low_first [] a = refl
low_first (q ∷ qs) a = go q.yes refl (low_first qs a.1)
  where
    go : (b : Bool) → q.yes ≡ b → leb (first_no qs) 14 ≡ true → leb (first_no (q ∷ qs)) 14 ≡ true
    go true e ih = rw (e, first_no) ih
    go false e ih = rw (e, first_no) a.0

low_questions : (L : Limits) (n : Numbers) (l : Look) → leb (first_no (questions L n l)) 14 ≡ true
unfolding questions AllQ
low_questions L n l = low_first (questions L n l) (refl, (refl, (refl, (refl, (refl, (refl, (refl, (refl, tt))))))))

limited_fifteen : (L : Limits) (v : Verdict) → LowV v → limited L v ≡ reject 15 → (m : Numbers) × (v ≡ accept m) × (within_limits L m ≡ false)
unfolding limited
limited_fifteen L (reject k) (no_v e) h = let z : k ≡ 15 = cc in let y : leb 15 14 ≡ true = rw z at e in true_is_false (sym y)
limited_fifteen L (accept m) p h = go (within_limits L m) refl
  where
    go : (b : Bool) → within_limits L m ≡ b → (r : Numbers) × (accept m ≡ accept r) × (within_limits L r ≡ false)
    go true e = let y : accept m ≡ reject 15 = rw (e, limited) at h in let z : ◌≡◌ {A = ℕ} 0 1 = cc in absurd (omega arith)
    go false e = (m, refl, e)

decided_fifteen : (L : Limits) (n : Numbers) (l : Look) → decided L n l ≡ reject 15
    → (first_no (questions L n l) ≡ 0) × ((m : Numbers) × (handled l.kind l (entered l n) ≡ accept m) × (within_limits L m ≡ false))
unfolding decided
decided_fifteen L n l h = go (first_no (questions L n l)) refl
  where
    go : (k : ℕ) → first_no (questions L n l) ≡ k
        → (first_no (questions L n l) ≡ 0) × ((m : Numbers) × (handled l.kind l (entered l n) ≡ accept m) × (within_limits L m ≡ false))
    go zero e = (e, limited_fifteen L (handled l.kind l (entered l n)) (low_handled l.kind l (entered l n)) (rw (e, decided) at h))
    go (suc k) e =
        let y : reject (suc k) ≡ reject 15 = rw (e, decided) at h in
        let z : suc k ≡ 15 = cc in
        let w : leb 15 14 ≡ true = rw (e, z) at (low_questions L n l) in
        true_is_false (sym w)

-- ---- no event's answer is above 15

abbrev UpTo : Verdict → Type 0
UpTo (accept n) = Unit {0}
UpTo (reject k) = k ≤ 15

limited_low : (L : Limits) (v : Verdict) → LowV v → UpTo (limited L v)
unfolding limited
limited_low L (reject k) (no_v e) = omega (arith, le_of k 14 e)
limited_low L (accept n) p = go (within_limits L n) refl
  where
    go : (b : Bool) → within_limits L n ≡ b → UpTo (limited L (accept n))
    go true e = rw (e, limited) tt
    go false e = rw (e, limited) (omega arith)

decided_low : (L : Limits) (n : Numbers) (l : Look) → UpTo (decided L n l)
unfolding decided
decided_low L n l = go (first_no (questions L n l)) refl
  where
    go : (k : ℕ) → first_no (questions L n l) ≡ k → UpTo (decided L n l)
    go zero e = rw (e, decided) (limited_low L (handled l.kind l (entered l n)) (low_handled l.kind l (entered l n)))
    go (suc k) e = rw (e, decided) (omega (arith, le_of (suc k) 14 (rw e at (low_questions L n l))))

settled_low : (s : Store) (t : List ℕ) (v : Verdict) → UpTo v → (settled s t v).number ≤ 15
unfolding settled
settled_low s t (accept n) p = omega arith
settled_low s t (reject k) p = p

reply_low : (L : Limits) (s : Store) (o : Option Event) → (reply_to L s o).number ≤ 15
unfolding reply_to
reply_low L s none = omega arith
reply_low L s (some e) = go (in_form L e) (keys_differ e.attributes) refl refl
  where
    go : (p q : Bool) → in_form L e ≡ p → keys_differ e.attributes ≡ q → (reply_to L s (some e)).number ≤ 15
    go false q f g = rw (f, reply_to) (omega arith)
    go true false f g = rw (f, reply_to, g, reply_to) (omega arith)
    go true true f g = rw (f, reply_to, g, reply_to) (settled_low s (text_after s e) (decided L s.numbers (look s e)) (decided_low L s.numbers (look s e)))

-- ---- a call

pub answer_number : (x : Lent) (p : Position) (r : Reply) → (answer_of x p r).number ≡ r.number
unfolding answer_of refused
answer_number x p r = go r.number refl
  where
    go : (k : ℕ) → r.number ≡ k → (answer_of x p r).number ≡ r.number
    go zero e = rw (e, answer_of)
    go (suc k) e = rw (e, answer_of)

-- An answer that is neither 1 nor 2: these questions were yes.
pub record Asked (L : Limits) (x : Lent) (p : Position) (c : Call) : Type 0 where
  pub long : long_enough L x ≡ true
  pub order : in_order L x p ≡ true
  pub answer : call L x p c ≡ answer_to L x p c

pub asked_both : (L : Limits) (x : Lent) (p : Position) (c : Call) → ¬ ((call L x p c).number ≡ 1) → ¬ ((call L x p c).number ≡ 2) → Asked L x p c
unfolding call refused
asked_both L x p c one two = go (long_enough L x) (in_order L x p) refl refl
  where
    go : (a b : Bool) → long_enough L x ≡ a → in_order L x p ≡ b → Asked L x p c
    go false b f g = absurd (one (rw (f, call)))
    go true false f g = absurd (two (rw (f, call, g, call)))
    go true true f g = record { long = f; order = g; answer = rw (f, call, g, call) }

-- AN EVENT GETS 0 OR A NUMBER 1 TO 15.
pub event_answers : EventAnswers
unfolding call refused answer_to event_reply
event_answers L x p raw = go (long_enough L x) (in_order L x p) refl refl
  where
    go : (a b : Bool) → long_enough L x ≡ a → in_order L x p ≡ b → (call L x p (event raw)).number ≤ 15
    go false b f g = rw (f, call) (omega arith)
    go true false f g = rw (f, call, g, call) (omega arith)
    go true true f g =
        rw (f, call, g, call) (omega (arith, answer_number x p (event_reply L (store_of x p) raw), reply_low L (store_of x p) (read_event raw)))

-- A READING GETS 0, 1, 2 OR 16.
pub reading_answers : ReadingAnswers
unfolding call refused answer_to
reading_answers L x p t i = go (long_enough L x) (in_order L x p) (exists (store_of x p).numbers t i) refl refl refl
  where
    go : (a b c : Bool) → long_enough L x ≡ a → in_order L x p ≡ b → exists (store_of x p).numbers t i ≡ c
        → among (call L x p (reading t i)).number (0 ∷ 1 ∷ 2 ∷ 16 ∷ []) ≡ true
    go false b c f g h = rw (f, call) refl
    go true false c f g h = rw (f, call, g, call) refl
    go true true true f g h = rw (f, call, g, call, h, answer_to) refl
    go true true false f g h = rw (f, call, g, call, h, answer_to) refl

-- ---- 15 is exact

settled_fifteen : (s : Store) (t : List ℕ) (v : Verdict) → (settled s t v).number ≡ 15 → v ≡ reject 15
unfolding settled
settled_fifteen s t (accept n) e = absurd (omega (arith, e))
settled_fifteen s t (reject k) e = ap reject e

replied_fifteen : (L : Limits) (s : Store) (raw : List ℕ) (o : Option Event) → read_event raw ≡ o → (reply_to L s o).number ≡ 15
    → (grown : Numbers) × Grows L s raw grown × (within_limits L grown ≡ false)
unfolding reply_to
replied_fifteen L s raw none r h = absurd (omega (arith, h))
replied_fifteen L s raw (some e) r h = go (in_form L e) (keys_differ e.attributes) refl refl
  where
    go : (p q : Bool) → in_form L e ≡ p → keys_differ e.attributes ≡ q → (grown : Numbers) × Grows L s raw grown × (within_limits L grown ≡ false)
    go false q f g = absurd (let z : ◌≡◌ {A = ℕ} 3 15 = rw (f, reply_to) at h in omega (arith, z))
    go true false f g = absurd (let z : ◌≡◌ {A = ℕ} 4 15 = rw (f, reply_to, g, reply_to) at h in omega (arith, z))
    go true true f g =
        let d = settled_fifteen s (text_after s e) (decided L s.numbers (look s e)) (rw (f, reply_to, g, reply_to) at h) in
        let w = decided_fifteen L s.numbers (look s e) d in
        (w.1.0, record { event = e; read = r; form = f; keys = g; asked = w.0; made = w.1.1 }, w.1.2)

-- 15 IS ANSWERED ONLY WHERE THE CHART, GROWN BY THE EVENT, PASSES A LIMIT,
pub fifteen_only : FifteenOnly
unfolding answer_to event_reply
fifteen_only L x p raw h =
    let A : Asked L x p (event raw) = asked_both L x p (event raw) (λ e. omega (arith, h, e)) (λ e. omega (arith, h, e)) in
    replied_fifteen L (store_of x p) raw (read_event raw) refl
    (sym (answer_number x p (event_reply L (store_of x p) raw)) ∙ sym (ap (λ (a : Answer). a.number) A.answer) ∙ h)

-- AND ALWAYS THERE.
pub fifteen_always : FifteenAlways
unfolding call answer_to event_reply reply_to decided limited settled
fifteen_always L x p raw grown long order G past =
    rw (long, call, order, call) (answer_number x p (event_reply L (store_of x p) raw)
    ∙ rw (G.read, reply_to, G.form, reply_to, G.keys, reply_to, G.asked, decided, G.made, limited, past, limited) refl)
