-- The theorem over calls: where accepted events keep the chart rules, no answer of a run from the empty chart is 2.
use Prim.Native.Nat.{ℕ, zero, suc, ◌+◌, ◌≤◌}
use mathlib.Core.Path.{◌≡◌, refl, sym, ap, ◌∙◌, subst}
use mathlib.Core.Bool.{Bool, true, false, ◌&&◌, false≢true}
use mathlib.Core.List.{List, [], ◌∷◌}
use lib.ListN.{length, get_or, take, replicate}
use lib.Dec.{leb, leb-zero}
use native.Mathlib.Omega.{arith}
use Rattle.definition.specs.declared.Limits.{Limits}
use Rattle.definition.specs.Event.{events_of}
use Rattle.definition.specs.Rows.{Table, blank, schema, no_tables, empty, Store}
use Rattle.definition.specs.Rules.{chart_limits, open_limits, table_limits, all_within, counters_within, tables_keep, names_distinct, numbers_fit, open_names_fit, open_regions_fit, is_row_or_zero, keeps_rules}
use Rattle.definition.specs.declared.Position.{Position}
use Rattle.definition.specs.Reader.{Reply, event_reply, Lent, counts, taken, store_of, position_of, lent_after, all_long, long_enough, all_at_most, in_order, start, Streamed, streamed, stream, Call, event, reading, Answer, refused, answer_of, answer_to, exists, row_read, call, run, no_row, zero_tables, zeros}
use Rattle.definition.proofs.Lending.{long_after, long_twelve, long_chart}
use Rattle.definition.proofs.Base.{and_both}
use Rattle.reached.specs.Statements.{NoneIsTwo}
use Rattle.reached.proofs.Tables.{and_left}
use Rattle.reached.proofs.Reached.{Reached}
use Rattle.reached.proofs.Theorem.{Answered, event_ok, empty_reached}
use Rattle.reached.proofs.Lent.{read_back, in_order_lem}

-- ---- the empty chart keeps the rules

empty_within : (ms : List ℕ) (k : ℕ) → all_within ms (replicate k []) ≡ true
unfolding all_within
empty_within [] zero = refl
empty_within [] (suc k) = refl
empty_within (m ∷ ms) zero = refl
empty_within (m ∷ ms) (suc k) = rw (leb-zero m, all_within) (empty_within ms k)

empty_counted : (L : Limits) → counters_within L empty.numbers ≡ true
unfolding counters_within empty
empty_counted L = simp leb-zero

empty_fits : (L : Limits) → all_within (table_limits L) empty.numbers.tables ≡ true
unfolding empty no_tables table_limits chart_limits open_limits all_within
empty_fits L = empty_within (L.states ∷ L.transitions ∷ L.regions ∷ L.entries ∷ L.invokes ∷ L.datums ∷ L.parameters ∷ L.members ∷ L.opened ∷ L.opened ∷ (L.opened + L.opened) ∷ []) 11

pub empty_keeps : (L : Limits) → keeps_rules L empty ≡ true
unfolding keeps_rules empty no_tables tables_keep names_distinct numbers_fit open_names_fit open_regions_fit is_row_or_zero schema
empty_keeps L = rw (and_both (all_within (table_limits L) empty.numbers.tables && counters_within L empty.numbers) true (and_both (all_within (table_limits L) empty.numbers.tables) _ (empty_fits L) (empty_counted L)) refl, keeps_rules) refl

-- ---- the first position

zero_at_most : (k : ℕ) (ms : List ℕ) → all_at_most (replicate k 0) ms ≡ true
unfolding all_at_most
zero_at_most zero [] = refl
zero_at_most zero (m ∷ ms) = refl
zero_at_most (suc k) [] = refl
zero_at_most (suc k) (m ∷ ms) = rw (leb-zero m, all_at_most) (zero_at_most k ms)

start_at_most : (L : Limits) → all_at_most (counts start) (table_limits L) && leb start.used L.charge ≡ true
unfolding counts start table_limits chart_limits open_limits all_at_most
start_at_most L = and_both (all_at_most (counts start) (table_limits L)) _ (zero_at_most 11 (L.states ∷ L.transitions ∷ L.regions ∷ L.entries ∷ L.invokes ∷ L.datums ∷ L.parameters ∷ L.members ∷ L.opened ∷ L.opened ∷ (L.opened + L.opened) ∷ [])) (leb-zero L.charge)

none_taken : (k : ℕ) (ts : List Table) → k ≤ length ts → taken (replicate k 0) ts ≡ replicate k []
unfolding taken
none_taken zero [] h = refl
none_taken zero (t ∷ ts) h = refl
none_taken (suc k) [] h = absurd (omega arith)
none_taken (suc k) (t ∷ ts) h = ap {B = List Table} (λ x. [] ∷ x) (none_taken k ts (omega arith))

start_taken : (ts : List Table) → 12 ≤ length ts → take 1 (get_or ts 0 []) ≡ blank 0 ∷ [] → taken (counts start) ts ≡ empty.numbers.tables
unfolding counts start taken empty no_tables
start_taken [] h e = absurd (omega arith)
start_taken (t ∷ ts) h e = λ i. e i ∷ none_taken 11 ts (omega arith) i

-- Slices whose one row of the chart is zeros hold the empty chart.
pub start_empty : (x : Lent) → 12 ≤ length x.tables → take 1 (get_or x.tables 0 []) ≡ blank 0 ∷ [] → store_of x start ≡ empty
unfolding store_of empty start
start_empty x h e = λ i. record { numbers = record { tables = start_taken x.tables h e i; current = 0; ids = 0; docs = 0; names = 0; charge = 0 }; text = [] }

-- ---- calls

module _ (L : Limits) (kept : (s : Store) (raw : List ℕ) → Reached s.numbers → keeps_rules L s ≡ true → (event_reply L s raw).number ≡ 0 → keeps_rules L (event_reply L s raw).store ≡ true) where
  pub record Sound (x : Lent) (p : Position) : Type 0 where
    pub long : long_enough L x ≡ true
    pub order : in_order L x p ≡ true
    pub reached : Reached (store_of x p).numbers

  record Next (a : Answer) : Type 0 where
    number : ¬ (a.number ≡ 2)
    sound : Sound a.lent a.position

  rules : (x : Lent) (p : Position) → in_order L x p ≡ true → keeps_rules L (store_of x p) ≡ true
  unfolding in_order
  rules x p e = go (all_at_most (counts p) (table_limits L) && leb p.used L.charge) refl
    where
      go : (b : Bool) → all_at_most (counts p) (table_limits L) && leb p.used L.charge ≡ b → keeps_rules L (store_of x p) ≡ true
      go true f = rw (f, in_order) at e
      go false f = absurd (false≢true (rw (f, in_order) at e))

  event_next : (x : Lent) (p : Position) → Sound x p → (raw : List ℕ) → Next (answer_of x p (event_reply L (store_of x p) raw))
  unfolding answer_of refused
  event_next x p S raw = go (event_reply L (store_of x p) raw).number refl
    where
      r : Reply
      r = event_reply L (store_of x p) raw

      A : Answered (event_reply L (store_of x p) raw)
      A = event_ok L (store_of x p) raw S.reached

      go : (k : ℕ) → (event_reply L (store_of x p) raw).number ≡ k
          → Next (elim k [ zero ↦ record { number = 0; row = no_row; lent = lent_after x (event_reply L (store_of x p) raw).store; position = position_of (event_reply L (store_of x p) raw).store } | suc j ↦ refused (suc j) x p ])
      go zero f =
          let s : Store = (event_reply L (store_of x p) raw).store in
          let K : keeps_rules L s ≡ true = kept (store_of x p) raw S.reached (rules x p S.order) f in
          record {
            number = omega arith;
            sound =
                record {
                  long = long_after L x s S.long;
                  order = in_order_lem L x s S.long A.reached.solid K;
                  reached = subst (λ (y : Store). Reached y.numbers) (sym (read_back L x s S.long A.reached.solid K)) A.reached;
                };
          }
      go (suc j) f = record { number = λ q. A.number (f ∙ q); sound = S }

  answer_next : (x : Lent) (p : Position) → Sound x p → (c : Call) → Next (answer_to L x p c)
  unfolding answer_to refused
  answer_next x p S (event raw) = event_next x p S raw
  answer_next x p S (reading t i) = go (exists (store_of x p).numbers t i)
    where
      go : (b : Bool) → Next (elim b [ true ↦ record { number = 0; row = row_read (store_of x p).numbers t i; lent = x; position = p } | false ↦ refused 16 x p ])
      go true = record { number = omega arith; sound = S }
      go false = record { number = omega arith; sound = S }

  call_next : (x : Lent) (p : Position) → Sound x p → (c : Call) → Next (call L x p c)
  unfolding call
  call_next x p S c = rw (S.long, call, S.order) (answer_next x p S c)

  pub run_sound : (x : Lent) (p : Position) (cs : List Call) → Sound x p → NoneIsTwo (run L x p cs)
  unfolding run NoneIsTwo
  run_sound x p [] S = tt
  run_sound x p (c ∷ cs) S = let N : Next (call L x p c) = call_next x p S c in (N.number, run_sound (call L x p c).lent (call L x p c).position cs N.sound)

  pub stream_sound : (x : Lent) (p : Position) (i : ℕ) (es : List (List ℕ)) → Sound x p → ¬ ((streamed L x p i es).number ≡ 2)
  unfolding streamed
  stream_sound x p i [] S = omega arith
  stream_sound x p i (e ∷ es) S = go (call L x p (event e)).number refl (stream_sound (call L x p (event e)).lent (call L x p (event e)).position (suc i) es (call_next x p S (event e)).sound)
    where
      go : (k : ℕ) → (call L x p (event e)).number ≡ k → ¬ ((streamed L (call L x p (event e)).lent (call L x p (event e)).position (suc i) es).number ≡ 2)
          → ¬ (◌≡◌ {A = ℕ} (elim k as (λ (j : ℕ). Streamed) [ zero ↦ streamed L (call L x p (event e)).lent (call L x p (event e)).position (suc i) es | suc j ↦ record { number = suc j; event = suc i; lent = x; position = p } ]).number 2)
      go zero f ih = ih
      go (suc j) f ih = λ q. (call_next x p S (event e)).number (f ∙ q)

  -- ---- slices that are too short

  short_call : (x : Lent) (p : Position) (c : Call) → long_enough L x ≡ false → call L x p c ≡ refused 1 x p
  unfolding call
  short_call x p c e = rw (e, call) refl

  short_run : (x : Lent) (p : Position) (cs : List Call) → long_enough L x ≡ false → NoneIsTwo (run L x p cs)
  unfolding run NoneIsTwo refused
  short_run x p [] e = tt
  short_run x p (c ∷ cs) e =
      subst (λ (a : Answer). ¬ (a.number ≡ 2) × NoneIsTwo (run L a.lent a.position cs)) (sym (short_call x p c e)) (omega arith, short_run x p cs e)

  short_stream : (x : Lent) (p : Position) (i : ℕ) (es : List (List ℕ)) → long_enough L x ≡ false → ¬ ((streamed L x p i es).number ≡ 2)
  unfolding streamed refused
  short_stream x p i [] e = omega arith
  short_stream x p i (r ∷ rs) e = rw (short_call x p (event r) e, streamed) (omega arith)

  -- ---- from the empty chart

  pub start_sound : (x : Lent) → long_enough L x ≡ true → take 1 (get_or x.tables 0 []) ≡ blank 0 ∷ [] → Sound x start
  unfolding in_order
  start_sound x g e =
      let b : store_of x start ≡ empty = start_empty x (long_twelve L x g) e in
      record {
        long = g;
        order = rw (start_at_most L, in_order) (subst (λ (y : Store). keeps_rules L y ≡ true) (sym b) (empty_keeps L));
        reached = subst (λ (y : Store). Reached y.numbers) (sym b) empty_reached;
      }

  blank_first : (ks : List ℕ) (k : ℕ) → long_enough L (zeros ks k) ≡ true → take 1 (get_or (zeros ks k).tables 0 []) ≡ blank 0 ∷ []
  unfolding long_enough zeros zero_tables
  blank_first [] k e = absurd (let h : 12 ≤ 0 = long_twelve L (zeros [] k) e in omega arith)
  blank_first (zero ∷ ks) k e = absurd (let h : 1 ≤ 0 = long_chart L [] (zero_tables 1 ks) (and_left (all_long (table_limits L) ([] ∷ zero_tables 1 ks)) (leb L.charge (length (zeros (zero ∷ ks) k).text)) e) in omega arith)
  blank_first (suc m ∷ ks) k e = refl

  pub zeros_sound : (ks : List ℕ) (k : ℕ) → long_enough L (zeros ks k) ≡ true → Sound (zeros ks k) start
  zeros_sound ks k e = start_sound (zeros ks k) e (blank_first ks k e)

  -- No answer of a run from the empty chart, in slices of zeros of any lengths, is 2.
  pub run_none_two : (ks : List ℕ) (k : ℕ) (cs : List Call) → NoneIsTwo (run L (zeros ks k) start cs)
  run_none_two ks k cs = go (long_enough L (zeros ks k)) refl
    where
      go : (b : Bool) → long_enough L (zeros ks k) ≡ b → NoneIsTwo (run L (zeros ks k) start cs)
      go true e = run_sound (zeros ks k) start cs (zeros_sound ks k e)
      go false e = short_run (zeros ks k) start cs e

  pub stream_not_two : (ks : List ℕ) (k : ℕ) (text : List ℕ) → ¬ ((stream L (zeros ks k) start text).number ≡ 2)
  unfolding stream
  stream_not_two ks k text = go (long_enough L (zeros ks k)) refl
    where
      go : (b : Bool) → long_enough L (zeros ks k) ≡ b → ¬ ((streamed L (zeros ks k) start 0 (events_of text)).number ≡ 2)
      go true e = stream_sound (zeros ks k) start 0 (events_of text) (zeros_sound ks k e)
      go false e = short_stream (zeros ks k) start 0 (events_of text) e
