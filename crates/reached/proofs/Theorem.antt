-- THE THEOREM: from the empty chart no list of events meets an internal error.
use Prim.Native.Nat.{ℕ, zero, suc, ◌≤◌}
use mathlib.Core.Path.{◌≡◌, refl, sym, ◌∙◌, subst}
use mathlib.Core.Bool.{Bool, true, false, ◌||◌, not, false≢true}
use mathlib.Core.Option.{Option, none, some}
use mathlib.Core.List.{List, [], ◌∷◌}
use lib.Dec.{eqb}
use borrow.Author.Tests.{eqb-true, eq-eqb, ne_eqb}
use native.Mathlib.Omega.{arith}
use Rattle.definition.specs.declared.Limits.{Limits}
use Rattle.definition.specs.Elements.{names_state}
use Rattle.definition.specs.Nesting.{parent_allowed}
use Rattle.definition.specs.Event.{Event, read_event, in_form, kind_fits, keys_differ}
use Rattle.definition.specs.Rows.{blank, Numbers, Store, no_tables, empty, parent_tag, root}
use Rattle.definition.specs.Look.{Look, look, text_after}
use Rattle.definition.specs.Change.{entered}
use Rattle.definition.specs.Rules.{within_limits}
use Rattle.definition.specs.Reader.{is_start, Question, questions, first_no, Verdict, accept, reject, handled, limited, decided, Reply, settled, reply_to, event_reply}
use Rattle.definition.proofs.Base.{or_right}
use Rattle.reached.specs.Statements.{NoInternalError}
use Rattle.reached.specs.Fed.{fed}
use Rattle.reached.proofs.Tables.{AllRows, and_left}
use Rattle.reached.proofs.Stack.{idle, Idle, Bare}
use Rattle.reached.proofs.Reached.{Reached, tags_of}
use Rattle.reached.proofs.Steps.{Asked}
use Rattle.reached.proofs.Handled.{VerdictOk, handled_ok}
use Rattle.reached.proofs.Looks.{own_exists, entered_reached, entered_parent, entered_root, look_innermost, look_kind, look_tag}

-- ---- the questions

no_first : (q : Question) (qs : List Question) → ¬ (q.otherwise ≡ 0) → first_no (q ∷ qs) ≡ 0 → (q.yes ≡ true) × (first_no qs ≡ 0)
unfolding first_no
no_first q qs h e = go q.yes refl
  where
    go : (b : Bool) → q.yes ≡ b → (q.yes ≡ true) × (first_no qs ≡ 0)
    go true f = (f, rw (f, first_no) at e)
    go false f = absurd (h (rw (f, first_no) at e))

record Passed (n : Numbers) (l : Look) : Type 0 where
  five : (is_start l || l.innermost) ≡ true
  eight : (not (is_start l) || parent_allowed l.tag (parent_tag n)) ≡ true
  nine : (not (is_start l) || not (eqb l.tag 1) || eqb (root n) 0) ≡ true

passed : (L : Limits) (n : Numbers) (l : Look) → first_no (questions L n l) ≡ 0 → Passed n l
unfolding questions
passed L n l e =
    let q₅ = no_first _ _ (omega arith) e in
    let q₆ = no_first _ _ (omega arith) q₅.1 in
    let q₇ = no_first _ _ (omega arith) q₆.1 in
    let q₈ = no_first _ _ (omega arith) q₇.1 in
    let q₉ = no_first _ _ (omega arith) q₈.1 in
    record { five = q₅.0; eight = q₈.0; nine = q₉.0 }

NoTwo : List Question → Type 0
NoTwo [] = Unit {0}
NoTwo (q ∷ qs) = ¬ (q.otherwise ≡ 2) × NoTwo qs

no_two : (qs : List Question) → NoTwo qs → ¬ (first_no qs ≡ 2)
unfolding NoTwo first_no
no_two [] a = omega arith
no_two (q ∷ qs) a = go q.yes (no_two qs a.1)
  where
    go : (b : Bool) → ¬ (first_no qs ≡ 2) → ¬ (◌≡◌ {A = ℕ} (elim b [ true ↦ first_no qs | false ↦ q.otherwise ]) 2)
    go true ih = ih
    go false ih = a.0

questions_not_two : (L : Limits) (n : Numbers) (l : Look) → ¬ (first_no (questions L n l) ≡ 2)
unfolding questions NoTwo
questions_not_two L n l = no_two (questions L n l) (omega arith, (omega arith, (omega arith, (omega arith, (omega arith, (omega arith, (omega arith, (omega arith, tt))))))))

-- ---- an event decided

or_first : (a b c : Bool) → a ≡ false → (a || b || c) ≡ true → (b || c) ≡ true
or_first true b c e f = absurd (false≢true (sym e))
or_first false b c e f = f

module _ (s : Store) (e : Event) (R : Reached s.numbers) (P : Passed s.numbers (look s e)) where
  starting : ¬ (e.kind ≡ 3) → not (is_start (look s e)) ≡ false
  unfolding is_start
  starting h = rw (look_kind s e, ne_eqb e.kind 3 h) refl

  asked : ¬ (e.kind ≡ 3) → Asked (entered (look s e) s.numbers) (look s e) (look s e).tag
  unfolding root
  asked h =
      record {
        tag = refl;
        allowed = rw (entered_parent (look s e) s.numbers) (or_right (not (is_start (look s e))) _ (starting h) P.eight);
        first = λ q. entered_root (look s e) s.numbers ∙ eqb-true _ 0 (or_right (not (eqb (look s e).tag 1)) _ (rw (eq-eqb (look s e).tag 1 q) refl) (or_first (not (is_start (look s e))) _ _ (starting h) P.nine));
        own = λ m. own_exists s e R.solid.size (ne_eqb e.kind 3 h) (subst (λ (x : ℕ). names_state x ≡ true) (look_tag s e) m);
      }

  ending_at : e.kind ≡ 3 → parent_tag (entered (look s e) s.numbers) ≡ (look s e).tag
  unfolding is_start
  ending_at h = entered_parent (look s e) s.numbers ∙ look_innermost s e (or_right (is_start (look s e)) _ (rw (look_kind s e, h) refl) P.five)

limited_ok : (L : Limits) (v : Verdict) → VerdictOk v → VerdictOk (limited L v)
unfolding limited VerdictOk
limited_ok L (reject k) h = h
limited_ok L (accept n) h = go (within_limits L n)
  where
    go : (b : Bool) → VerdictOk (elim b [ true ↦ accept n | false ↦ reject 15 ])
    go true = h
    go false = omega arith

decided_ok : (L : Limits) (s : Store) (e : Event) → Reached s.numbers → e.kind ≤ 3 → VerdictOk (decided L s.numbers (look s e))
unfolding decided
decided_ok L s e R b = go (first_no (questions L s.numbers (look s e))) refl
  where
    go : (k : ℕ) → first_no (questions L s.numbers (look s e)) ≡ k
        → VerdictOk (elim k [ zero ↦ limited L (handled (look s e).kind (look s e) (entered (look s e) s.numbers)) | suc j ↦ reject (suc j) ])
    go zero f =
        let P : Passed s.numbers (look s e) = passed L s.numbers (look s e) f in
        limited_ok L _ (handled_ok (look s e).kind (look s e) (entered (look s e) s.numbers) (entered_reached (look s e) s.numbers R) (rw look_kind b) (
        λ h. asked s e R P (rw look_kind at h)) (λ h. ending_at s e R P (sym (look_kind s e) ∙ h)))
    go (suc j) f = unfold VerdictOk in λ q. questions_not_two L s.numbers (look s e) (f ∙ q)

-- ---- an event answered

pub record Answered (r : Reply) : Type 0 where
  pub reached : Reached r.store.numbers
  pub number : ¬ (r.number ≡ 2)

settled_ok : (s : Store) (t : List ℕ) (v : Verdict) → Reached s.numbers → VerdictOk v → Answered (settled s t v)
unfolding settled VerdictOk
settled_ok s t (accept n) R h = record { reached = h; number = omega arith }
settled_ok s t (reject k) R h = record { reached = R; number = h }

kind_fits_lem : (k : ℕ) (e : Event) → kind_fits k e ≡ true → k ≤ 3
unfolding kind_fits
kind_fits_lem zero e h = omega arith
kind_fits_lem (suc zero) e h = omega arith
kind_fits_lem (suc (suc zero)) e h = omega arith
kind_fits_lem (suc (suc (suc zero))) e h = omega arith
kind_fits_lem (suc (suc (suc (suc k)))) e h = absurd (false≢true h)

form_kind : (L : Limits) (e : Event) → in_form L e ≡ true → e.kind ≤ 3
unfolding in_form
form_kind L e h = kind_fits_lem e.kind e (and_left _ _ (and_left _ _ (and_left _ _ (and_left _ _ h))))

reply_ok : (L : Limits) (s : Store) (o : Option Event) → Reached s.numbers → Answered (reply_to L s o)
unfolding reply_to
reply_ok L s none R = record { reached = R; number = omega arith }
reply_ok L s (some e) R = go (in_form L e) refl
  where
    next : in_form L e ≡ true → (b : Bool) → Answered (elim b [ false ↦ record { number = 4; store = s } | true ↦ settled s (text_after s e) (decided L s.numbers (look s e)) ])
    next f true = settled_ok s (text_after s e) (decided L s.numbers (look s e)) R (decided_ok L s e R (form_kind L e f))
    next f false = record { reached = R; number = omega arith }

    go : (b : Bool) → in_form L e ≡ b
        → Answered (elim b [ false ↦ record { number = 3; store = s } | true ↦ elim (keys_differ e.attributes) [ false ↦ record { number = 4; store = s } | true ↦ settled s (text_after s e) (decided L s.numbers (look s e)) ] ])
    go true f = next f (keys_differ e.attributes)
    go false f = record { reached = R; number = omega arith }

-- Every event keeps the invariant, and none meets an internal error where it holds.
pub event_ok : (L : Limits) (s : Store) (raw : List ℕ) → Reached s.numbers → Answered (event_reply L s raw)
unfolding event_reply
event_ok L s raw R = reply_ok L s (read_event raw) R

-- ---- from the empty chart

pub empty_reached : Reached empty.numbers
unfolding empty no_tables blank AllRows Bare tags_of Idle
empty_reached =
    record {
      os = [];
      opened = refl;
      solid = record { size = refl; chart = omega arith; charts = (omega arith, tt); states = tt };
      facts = tt;
      begun = λ z. tt;
      place = idle tt;
    }

pub fed_reached : (L : Limits) (s : Store) (raws : List (List ℕ)) → Reached s.numbers → Reached (fed L s raws).numbers
unfolding fed
fed_reached L s [] R = R
fed_reached L s (r ∷ rs) R = fed_reached L (event_reply L s r).store rs (event_ok L s r R).reached

pub no_internal_error : NoInternalError
no_internal_error L raws raw = (event_ok L (fed L empty raws) raw (fed_reached L empty raws empty_reached)).number
