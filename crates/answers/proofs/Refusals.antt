-- A refusal leaves everything as it was.
use Prim.Native.Nat.{ℕ, zero, suc}
use mathlib.Core.Path.{◌≡◌, refl}
use mathlib.Core.Bool.{Bool, true, false}
use mathlib.Core.Option.{Option, none, some}
use mathlib.Core.List.{List}
use native.Mathlib.Omega.{arith}
use Rattle.definition.specs.declared.Limits.{Limits}
use Rattle.definition.specs.Rows.{Store}
use Rattle.definition.specs.Event.{Event, read_event, in_form, keys_differ}
use Rattle.definition.specs.Look.{look, text_after}
use Rattle.definition.specs.declared.Position.{Position}
use Rattle.definition.specs.Reader.{Verdict, accept, reject, Reply, settled, reply_to, event_reply, decided, Lent, Call, event, reading, refused, answer_of, answer_to, call, exists, store_of, long_enough, in_order}
use Rattle.answers.specs.Statements.{RefusalKeeps, Untouched, CallRefused, ReadingKeeps}

zero_is_suc : {X : Type 0} (k : ℕ) → ◌≡◌ {A = ℕ} 0 (suc k) → X
zero_is_suc k e = absurd (omega arith)

-- ---- the store

settled_refused : (s : Store) (t : List ℕ) (v : Verdict) (k : ℕ) → (settled s t v).number ≡ suc k → (settled s t v).store ≡ s
unfolding settled
settled_refused s t (accept n) k e = zero_is_suc k e
settled_refused s t (reject j) k e = refl

reply_refused : (L : Limits) (s : Store) (o : Option Event) (k : ℕ) → (reply_to L s o).number ≡ suc k → (reply_to L s o).store ≡ s
unfolding reply_to
reply_refused L s none k e = refl
reply_refused L s (some ev) k e = go (in_form L ev) (keys_differ ev.attributes) refl refl
  where
    go : (p q : Bool) → in_form L ev ≡ p → keys_differ ev.attributes ≡ q → (reply_to L s (some ev)).store ≡ s
    go false q f g = rw (f, reply_to)
    go true false f g = rw (f, reply_to, g, reply_to)
    go true true f g =
        rw (f, reply_to, g, reply_to) (settled_refused s (text_after s ev) (decided L s.numbers (look s ev)) k (rw (f, reply_to, g, reply_to) at e))

-- A REFUSED EVENT LEAVES THE STORE AS IT WAS.
pub refusal_keeps : RefusalKeeps
unfolding event_reply
refusal_keeps L s raw k e = reply_refused L s (read_event raw) k e

-- ---- a call

answer_refused : (x : Lent) (p : Position) (r : Reply) (k : ℕ) → (answer_of x p r).number ≡ suc k → Untouched x p (answer_of x p r)
unfolding answer_of refused
answer_refused x p r k e = go r.number refl
  where
    go : (m : ℕ) → r.number ≡ m → Untouched x p (answer_of x p r)
    go zero f = zero_is_suc k (rw (f, answer_of) at e)
    go (suc m) f = rw (f, answer_of) (record { row = refl; lent = refl; position = refl })

answer_to_refused : (L : Limits) (x : Lent) (p : Position) (c : Call) (k : ℕ) → (answer_to L x p c).number ≡ suc k → Untouched x p (answer_to L x p c)
unfolding answer_to refused
answer_to_refused L x p (event raw) k e = answer_refused x p (event_reply L (store_of x p) raw) k e
answer_to_refused L x p (reading t i) k e = go (exists (store_of x p).numbers t i) refl
  where
    go : (b : Bool) → exists (store_of x p).numbers t i ≡ b → Untouched x p (answer_to L x p (reading t i))
    go true f = zero_is_suc k (rw (f, answer_to) at e)
    go false f = rw (f, answer_to) (record { row = refl; lent = refl; position = refl })

-- A REFUSED CALL LEAVES THE LENT SLICES AND THE POSITION AS THEY WERE, AND GIVES A ROW OF ZEROS.
pub call_refused : CallRefused
unfolding call refused
call_refused L x p c k e = go (long_enough L x) (in_order L x p) refl refl
  where
    go : (a b : Bool) → long_enough L x ≡ a → in_order L x p ≡ b → Untouched x p (call L x p c)
    go false b f g = rw (f, call) (record { row = refl; lent = refl; position = refl })
    go true false f g = rw (f, call, g, call) (record { row = refl; lent = refl; position = refl })
    go true true f g = rw (f, call, g, call) (answer_to_refused L x p c k (rw (f, call, g, call) at e))

-- A reading never changes what is lent.
pub reading_keeps : ReadingKeeps
unfolding call refused answer_to
reading_keeps L x p t i = go (long_enough L x) (in_order L x p) (exists (store_of x p).numbers t i) refl refl refl
  where
    go : (a b c : Bool) → long_enough L x ≡ a → in_order L x p ≡ b → exists (store_of x p).numbers t i ≡ c
        → ((call L x p (reading t i)).lent ≡ x) × ((call L x p (reading t i)).position ≡ p)
    go false b c f g h = rw (f, call) (refl, refl)
    go true false c f g h = rw (f, call, g, call) (refl, refl)
    go true true true f g h = rw (f, call, g, call, h, answer_to) (refl, refl)
    go true true false f g h = rw (f, call, g, call, h, answer_to) (refl, refl)
