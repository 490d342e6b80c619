-- From the questions 1 and 2 to the definition's call and stream.
use Prim.Native.Nat.{ℕ, zero, suc, ◌+◌, ◌-◌, ◌≤◌, ◌<◌}
use mathlib.Core.Path.{◌≡◌, refl, sym, ap, ◌∙◌, subst}
use mathlib.Core.Bool.{Bool, true, false}
use mathlib.Core.List.{List, [], ◌∷◌}
use native.Mathlib.Omega.{arith}
use native.Mathlib.Numerals.{add-one}
use lib.ListN.{length, take, drop, length-drop}
use lib.Seq.{drop-drop, take_all}
use Rattle.definition.specs.declared.Position.{Position}
use Rattle.definition.specs.Limits.{limits01}
use Rattle.definition.specs.Event.{events_of, cut, flush}
use Rattle.definition.specs.Rows.{Store}
use Rattle.definition.specs.Reader.{Lent, no_row, Answer, event, long_enough, in_order, call, answer_to, answer_of, refused, Reply, event_reply, store_of, lent_after, position_of, Streamed, streamed, stream}
use Rattle.kept.proofs.Lending.{stays_in_order}
use Rattle.lines.specs.Lines.{event_length}
use Rattle.lines.specs.Parts.{part}
use Rattle.lines.proofs.LineLaws.{events_by_length}
use Rattle.walk.proofs.StreamLaws.{event_within}
use Rattle.event.specs.Description.{Described}
use Rattle.event.specs.Described.{described}
use Rattle.questions.specs.Lent.{first_two}
use Rattle.conclude.specs.Fed.{given}
use Rattle.streams.specs.Stream.{ended}

-- ---- the questions 1 and 2

-- By the answers to both.
unfoldable first : Bool → Bool → ℕ
first a b = elim a [ false ↦ 1 | true ↦ elim b [ false ↦ 2 | true ↦ 0 ] ]

unfoldable called : Bool → Bool → Lent → Position → Answer → Answer
unfolding refused
called a b x p y = elim a [ false ↦ refused 1 x p | true ↦ elim b [ false ↦ refused 2 x p | true ↦ y ] ]

refused_by : (a b : Bool) (x : Lent) (p : Position) (y : Answer) → (first a b ≡ 0 → ⊥) → given (first a b) p x ≡ called a b x p y
unfolding first called
refused_by true true x p y n = absurd (n refl)
refused_by true false x p y n = refl
refused_by false b x p y n = refl

asked_by : (a b : Bool) → first a b ≡ 0 → (a ≡ true) × (b ≡ true)
unfolding first
asked_by true true e = (refl, refl)
asked_by true false e = absurd (omega (arith, e))
asked_by false b e = absurd (omega (arith, e))

answered_by : (a b : Bool) (x : Lent) (p : Position) (y : Answer) → first a b ≡ 0 → y ≡ called a b x p y
unfolding first called
answered_by true true x p y e = refl
answered_by true false x p y e = absurd (omega (arith, e))
answered_by false b x p y e = absurd (omega (arith, e))

module _ (x : Lent) (p : Position) where
  pub call_refused : (k : ℕ) → k ≡ first_two x p → (k ≡ 0 → ⊥) → (raw : List ℕ) → given k p x ≡ call limits01 x p (event raw)
  unfolding first_two call first called
  call_refused k e n raw =
      ap (λ (z : ℕ). given z p x) e ∙ refused_by (long_enough limits01 x) (in_order limits01 x p) x p (answer_to limits01 x p (event raw)) (λ f. n (e ∙ f))

  pub call_answered : first_two x p ≡ 0 → (raw : List ℕ) → answer_to limits01 x p (event raw) ≡ call limits01 x p (event raw)
  unfolding first_two call first called
  call_answered e raw = answered_by (long_enough limits01 x) (in_order limits01 x p) x p (answer_to limits01 x p (event raw)) e

  -- They are yes again after any event.
  pub again : first_two x p ≡ 0 → (raw : List ℕ) (a : Answer) → a ≡ call limits01 x p (event raw) → first_two a.lent a.position ≡ 0
  unfolding first_two first
  again e raw a h =
      let both : (long_enough limits01 x ≡ true) × (in_order limits01 x p ≡ true) = asked_by (long_enough limits01 x) (in_order limits01 x p) e in
      let next = stays_in_order limits01 x p (event raw) refl both.0 both.1 in
      subst (λ (z : Answer). first_two z.lent z.position ≡ 0) (sym h) (yes (call limits01 x p (event raw)).lent (call limits01 x p (event raw)).position next.0 next.1)
    where
      yes : (x : Lent) (p : Position) → long_enough limits01 x ≡ true → in_order limits01 x p ≡ true → first_two x p ≡ 0
      yes x p f g = λ i. first (f i) (g i)

-- ---- a stream's events

-- What one more event does to a stream of which the rest gives z.
unfoldable step : ℕ → Streamed → ℕ → Lent → Position → Streamed
step k z n x p = elim k [ zero ↦ z | suc j ↦ ended (suc j) (suc n) p x ]

none_left : (x : Lent) (p : Position) (n : ℕ) (bs : List ℕ) → length bs ≡ 0 → ended 0 0 p x ≡ streamed limits01 x p n (events_of bs)
unfolding streamed events_of cut flush
none_left x p n [] e = refl
none_left x p n (b ∷ bs) e = absurd (omega (arith, e))

one_more_lem : (x : Lent) (p : Position) (n : ℕ) (bs : List ℕ) → 0 < length bs → (a : Answer) → a ≡ call limits01 x p (event (take (event_length bs) bs))
    → streamed limits01 x p n (events_of bs) ≡ step a.number (streamed limits01 a.lent a.position (suc n) (events_of (drop (event_length bs) bs))) n x p
unfolding streamed step
one_more_lem x p n [] h a e = absurd (omega (arith, h))
one_more_lem x p n (b ∷ bs) h a e =
    ap (streamed limits01 x p n) (events_by_length b bs)
    ∙ ap (λ (z : Answer). step z.number (streamed limits01 z.lent z.position (suc n) (events_of (drop (event_length (b ∷ bs)) (b ∷ bs)))) n x p) (sym e)

some_bytes : (bs : List ℕ) → 0 < length bs → 0 < event_length bs
unfolding event_length
some_bytes [] h = absurd (omega (arith, h))
some_bytes (b ∷ bs) h = omega arith

-- A refusal leaves all that is lent.
stays : (x : Lent) (p : Position) (raw : List ℕ) → ((answer_to limits01 x p (event raw)).number ≡ 0 → ⊥) → (answer_to limits01 x p (event raw)).lent ≡ x
unfolding answer_to answer_of refused
stays x p raw = let r : Reply = event_reply limits01 (store_of x p) raw in at (given 0 (position_of r.store) (lent_after x r.store)) refl r.number
  where
    by : Answer → ℕ → Answer
    by a k = elim k [ zero ↦ a | suc j ↦ refused (suc j) x p ]

    at : (a : Answer) → a.number ≡ 0 → (k : ℕ) → ((by a k).number ≡ 0 → ⊥) → (by a k).lent ≡ x
    at a e zero f = absurd (f e)
    at a e (suc k) f = refl

-- A stream without an event, and one whose questions 1 or 2 are no.
module _ (x : Lent) (p : Position) (bytes : List ℕ) where
  pub stream_none : length bytes ≡ 0 → ended 0 0 p x ≡ stream limits01 x p bytes
  unfolding stream
  stream_none e = none_left x p 0 bytes e

  pub stream_refused : (length bytes ≡ 0 → ⊥) → (k : ℕ) → k ≡ first_two x p → (k ≡ 0 → ⊥) → ended k 1 p x ≡ stream limits01 x p bytes
  unfolding stream step
  stream_refused h k e n =
      stop k n ∙ sym (one_more_lem x p 0 bytes (positive (length bytes) h) (given k p x) (call_refused x p k e n (take (event_length bytes) bytes)))
    where
      stop : (j : ℕ) → (j ≡ 0 → ⊥) → ended j 1 p x ≡ step j (streamed limits01 x p 1 (events_of (drop (event_length bytes) bytes))) 0 x p
      stop zero f = absurd (f refl)
      stop (suc j) f = refl

      positive : (j : ℕ) → (j ≡ 0 → ⊥) → 0 < j
      positive zero f = absurd (f refl)
      positive (suc j) f = omega arith

-- A stream of one event is that event's call.
module _ (x : Lent) (p : Position) (raw : List ℕ) (some : 0 < length raw) (one : event_length raw ≡ length raw) where
  is_step : stream limits01 x p raw ≡ step (call limits01 x p (event raw)).number (ended 0 0 (call limits01 x p (event raw)).position (call limits01 x p (event raw)).lent) 0 x p
  unfolding stream
  is_step =
      let a : Answer = call limits01 x p (event raw) in
      let all : take (event_length raw) raw ≡ raw = take_all (event_length raw) raw (omega (arith, one)) in
      let rest : length (drop (event_length raw) raw) ≡ 0 = omega (arith, one, length-drop (event_length raw) raw) in
      one_more_lem x p 0 raw some a (ap (λ (z : List ℕ). call limits01 x p (event z)) (sym all))
      ∙ ap (λ (z : Streamed). step a.number z 0 x p) (sym (none_left a.lent a.position 1 (drop (event_length raw) raw) rest))

  pub one_event_lem : (k n : ℕ) (q : Position) (y : Lent) → ended k n q y ≡ stream limits01 x p raw → given k q y ≡ call limits01 x p (event raw)
  unfolding call answer_to answer_of refused step
  one_event_lem k n q y e = by (long_enough limits01 x) (in_order limits01 x p) (event_reply limits01 (store_of x p) raw) (e ∙ is_step)
    where
      Told : Answer → Type 0
      Told a = ended k n q y ≡ step a.number (ended 0 0 a.position a.lent) 0 x p → given k q y ≡ a

      told : (z : Streamed) → ended k n q y ≡ z → given k q y ≡ given z.number z.position z.lent
      told z = ap (λ (w : Streamed). given w.number w.position w.lent)

      reply : (after : Store) (j : ℕ) → Told (elim j [ zero ↦ record { number = 0; row = no_row; lent = lent_after x after; position = position_of after } | suc i ↦ refused (suc i) x p ])
      reply after zero f = told _ f
      reply after (suc j) f = told _ f

      by : (a b : Bool) (r : Reply) → Told (elim a [ false ↦ refused 1 x p | true ↦ elim b [ false ↦ refused 2 x p | true ↦ answer_of x p r ] ])
      by true true r f = reply r.store r.number f
      by true false r f = told _ f
      by false b r f = told _ f

-- ---- the loop: at byte i, after n events

pub record Ran (x₀ : Lent) (p₀ : Position) (bytes : List ℕ) (x : Lent) (p : Position) (i n : ℕ) : Type 0 where
  pub asked : first_two x p ≡ 0
  pub few : n ≤ i
  pub rest : streamed limits01 x p n (events_of (drop i bytes)) ≡ stream limits01 x₀ p₀ bytes

module _ {x₀ : Lent} {p₀ : Position} {bytes : List ℕ} where
  pub ran_first : first_two x₀ p₀ ≡ 0 → Ran x₀ p₀ bytes x₀ p₀ 0 0
  unfolding stream
  ran_first e = record { asked = e; few = omega arith; rest = refl }

  module _ {x : Lent} {p : Position} {i n : ℕ} (ran : Ran x₀ p₀ bytes x p i n) where
    pub ran_last : length bytes ≤ i → ended 0 0 p x ≡ stream limits01 x₀ p₀ bytes
    ran_last h = none_left x p n (drop i bytes) (omega (arith, h, length-drop i bytes)) ∙ ran.rest

    -- What is left, cut out.
    abbrev leftover : List ℕ
    leftover = take (length bytes - i) (drop i bytes)

    left_is : leftover ≡ drop i bytes
    left_is = take_all (length bytes - i) (drop i bytes) (omega (arith, length-drop i bytes))

    module _ (h : i < length bytes) {m : ℕ} (ec : m ≡ event_length leftover) where
      em : m ≡ event_length (drop i bytes)
      em = ec ∙ ap event_length left_is

      left : 0 < length (drop i bytes)
      left = omega (arith, h, length-drop i bytes)

      pub goes_on : 0 < m
      goes_on = omega (arith, em, some_bytes (drop i bytes) left)

      pub stays_in : i + m ≤ length bytes
      stays_in = omega (arith, h, em, event_within (drop i bytes), length-drop i bytes)

      module _ {raw : List ℕ} (er : raw ≡ part bytes i m) where
        whole_event : raw ≡ take (event_length (drop i bytes)) (drop i bytes)
        unfolding part
        whole_event = er ∙ ap (λ (k : ℕ). take k (drop i bytes)) em

        pub taken_apart : {d : Described} → d ≡ described (take (event_length leftover) leftover) → d ≡ described raw
        taken_apart ed = ed ∙ (ap (λ (z : List ℕ). described (take (event_length z) z)) left_is ∙ ap described (sym whole_event))

      module _ {raw : List ℕ} (er : raw ≡ part bytes i m) {k : ℕ} {q : Position} {y : Lent} (ea : given k q y ≡ answer_to limits01 x p (event raw)) where
        past : drop (event_length (drop i bytes)) (drop i bytes) ≡ drop (i + m) bytes
        past = drop-drop (event_length (drop i bytes)) i bytes ∙ ap (λ (l : ℕ). drop (i + l) bytes) (sym em)

        is_call : given k q y ≡ call limits01 x p (event raw)
        is_call = ea ∙ call_answered x p ran.asked raw

        stepped : step k (streamed limits01 y q (suc n) (events_of (drop (i + m) bytes))) n x p ≡ stream limits01 x₀ p₀ bytes
        stepped =
            ap (λ (z : List ℕ). step k (streamed limits01 y q (suc n) (events_of z)) n x p) (sym past)
            ∙ (sym (one_more_lem x p n (drop i bytes) left (given k q y) (is_call ∙ ap (λ (z : List ℕ). call limits01 x p (event z)) (whole_event er))) ∙ ran.rest)

        pub ran_more : k ≡ 0 → Ran x₀ p₀ bytes y q (i + m) (n + 1)
        unfolding step
        ran_more z =
            record {
              asked = again x p ran.asked raw (given k q y) is_call;
              few = omega (arith, goes_on, ran.few);
              rest =
                  ap (λ (l : ℕ). streamed limits01 y q l (events_of (drop (i + m) bytes))) (add-one n)
                  ∙ (ap (λ (l : ℕ). step l (streamed limits01 y q (suc n) (events_of (drop (i + m) bytes))) n x p) (sym z) ∙ stepped);
            }

        pub ran_stop : (k ≡ 0 → ⊥) → ended k (n + 1) p y ≡ stream limits01 x₀ p₀ bytes
        unfolding step
        ran_stop f =
            let l : y ≡ x = ap (λ (z : Answer). z.lent) ea ∙ stays x p raw (λ g. f (ap (λ (z : Answer). z.number) ea ∙ g)) in
            (λ j. ended k (add-one n j) p (l j)) ∙ (at k f ∙ stepped)
          where
            at : (l : ℕ) → (l ≡ 0 → ⊥) → ended l (suc n) p x ≡ step l (streamed limits01 y q (suc n) (events_of (drop (i + m) bytes))) n x p
            at zero f = absurd (f refl)
            at (suc l) f = refl
