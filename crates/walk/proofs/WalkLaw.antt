-- The walk over an event's lines agrees with the definition: what follows the first two lines.
use Prim.Native.Nat.{ℕ, suc, ◌+◌, ◌≤◌, ◌<◌}
use mathlib.Core.Path.{◌≡◌, refl, sym, ap, ◌∙◌, subst}
use mathlib.Core.Bool.{Bool, true, false, ◌&&◌}
use mathlib.Core.Option.{Option, none, some}
use mathlib.Core.List.{List, [], ◌∷◌, ◌++◌, map, append-nil, append_assoc}
use lib.ListN.{length, take, set, length-append, length-set}
use lib.Seq.{take-suc-set}
use borrow.Author.Tests.{ltb-true, ltb-false}
use native.Mathlib.Omega.{arith}
use native.Mathlib.Numerals.{add-one}
use Rattle.definition.specs.Limits.{limits01}
use Rattle.definition.specs.Elements.{key_of}
use Rattle.definition.specs.Event as E
use Rattle.definition.specs.Event.{Line, Attribute, Body, legible, with_pair, last_text, body_of, between, attributes_fit, text_fits}
use Rattle.definition.proofs.Base.{true_is_false, none_is_some, some_inj, and_left, and_right}
use Rattle.walk.specs.Views.{counted, measured}
use Rattle.lines.specs.Parts.{part}
use Rattle.parts.specs.declared.Part.{Part}
use Rattle.parts.specs.Walked.{Pair}
use Rattle.parts.specs.Walked.{Walked}
use Rattle.walk.specs.Walk as W
use Rattle.parts.specs.Parts.{broken, with_key, with_value, with_text, added_value, room_left}
use Rattle.walk.specs.Walk.{Placed, line, written, fits, key_fits, value_fits, on_key, on_value, step, walk}
use Rattle.walk.specs.Reads.{Reads, PairReads, Pairs, no_pairs_lem, pair}
use Rattle.walk.proofs.Standing.{Stands, AllStand, cons, decoded}
use Rattle.walk.proofs.Plain.{key_plain}

-- ---- a part within its limits

pub data Fits (low high : ℕ) (o : Option (List ℕ)) : Bool → Type 0 where
  yes : (x : List ℕ) → o ≡ some x → between low high x ≡ true → (counted 0 o).len ≡ length x → Fits low high o true
  no : ((x : List ℕ) → o ≡ some x → between low high x ≡ true → ⊥) → Fits low high o false

pub fits_of : (low high : ℕ) (o : Option (List ℕ)) → Fits low high o (fits low high (counted 0 o))
unfolding fits counted between
fits_of low high none = no (λ x e f. none_is_some x e)
fits_of low high (some x) = go (between low high x) refl
  where
    w : 0 + length x ≡ length x
    w = omega arith

    z : fits low high (counted 0 (some x)) ≡ between low high x
    z = rw w

    go : (p : Bool) → between low high x ≡ p → Fits low high (some x) (fits low high (counted 0 (some x)))
    go true q = subst (Fits low high (some x)) (sym (z ∙ q)) (yes x refl q w)
    go false q = subst (Fits low high (some x)) (sym (z ∙ q)) (no (λ y e f. true_is_false (sym f ∙ ap (between low high) (sym (some_inj [] x y e)) ∙ q)))

-- Document 01's limits.
key_limits : (k : List ℕ) → Fits 1 64 (legible k) (key_fits k)
unfolding key_fits measured
key_limits k = fits_of 1 64 (legible k)

value_limits : (v : List ℕ) → Fits 0 1024 (legible v) (value_fits v)
unfolding value_fits measured
value_limits v = fits_of 0 1024 (legible v)

text_limits : (v : List ℕ) → Fits 0 4096 (legible v) (W.text_fits v)
unfolding W.text_fits measured
text_limits v = fits_of 0 4096 (legible v)

room_in : (n : ℕ) → room_left n ≡ true → n < 16
unfolding room_left
room_in n e = ltb-true n 16 e

room_out : (n : ℕ) → room_left n ≡ false → 16 ≤ n
unfolding room_left
room_out n e = ltb-false n 16 e

-- ---- what is brought of an event

-- A text, or none, by what may come next.
pub data TextReads (raw : List ℕ) (d : Walked) : Option (List ℕ) → Type 0 where
  walk_no_text : d.next ≡ 2 → TextReads raw d none
  walk_text : (v : List ℕ) → d.next ≡ 4 → Reads raw d.text v → TextReads raw d (some v)

pairs_snoc : {raw : List ℕ} {ps : List Pair} {ats : List Attribute} (p : Pair) (a : Attribute) → Pairs raw ps ats → PairReads raw p a → Pairs raw (ps ++ p ∷ []) (ats ++ a ∷ [])
pairs_snoc p a no_pairs_lem r = pair r no_pairs_lem
pairs_snoc p a (pair q h) r = pair q (pairs_snoc p a h r)

-- The parts of the first two lines are kept.
pub record Kept (d w : Walked) : Type 0 where
  pub kind : w.kind ≡ d.kind
  pub tag : w.tag ≡ d.tag
  pub name : w.name ≡ d.name

pub record Fitting (n : ℕ) (b : Body) : Type 0 where
  pub attributes : attributes_fit limits01 b.attributes ≡ true
  pub few : n + length b.attributes ≤ 16
  pub text : text_fits limits01 b.text ≡ true

-- The walk has met something out of form.
abbrev pub Stopped : Walked → Type 0
Stopped w = (w.next ≡ 2 → ⊥) × (w.next ≡ 4 → ⊥)

-- d is what is described before, with the attributes ats; w after.
pub data Went (raw : List ℕ) (d w : Walked) (ats : List Attribute) (o : Option Body) : Type 0 where
  good : (b : Body) → o ≡ some b → Fitting (length ats) b → Kept d w → w.count ≡ length (ats ++ b.attributes)
      → Pairs raw (take w.count w.pairs) (ats ++ b.attributes) → TextReads raw w b.text → Went raw d w ats o
  bad : Stopped w → ((b : Body) → o ≡ some b → Fitting (length ats) b → ⊥) → Went raw d w ats o

pub record Before (raw : List ℕ) (d : Walked) (ats : List Attribute) : Type 0 where
  pub count : d.count ≡ length ats
  pub room : d.count ≤ 16
  pub size : length d.pairs ≡ 16
  pub pairs : Pairs raw (take d.count d.pairs) ats

-- ---- the walk, by what may come next

unfoldable pub walk_at : ℕ → List Placed → Walked → Walked
walk_at m [] d = d
walk_at m (line at l ∷ ls) d = walk ls (step m at l d)

pub walk_at_lem : (ls : List Placed) (d : Walked) → walk ls d ≡ walk_at d.next ls d
unfolding walk walk_at
walk_at_lem [] d = refl
walk_at_lem (line at l ∷ ls) d = refl

five : (at : ℕ) (l : Line) (d : Walked) → (step 5 at l d).next ≡ 5
unfolding step broken
five at l d = refl

pub walk_stays : (ls : List Placed) (d : Walked) → d.next ≡ 5 → (walk ls d).next ≡ 5
unfolding walk
walk_stays [] d e = e
walk_stays (line at l ∷ ls) d e = subst (λ (m : ℕ). (walk ls (step m at l d)).next ≡ 5) (sym e) (walk_stays ls (step 5 at l d) (five at l d))

pub stopped : (d : Walked) → d.next ≡ 5 → Stopped d
stopped d e = ((λ f. omega (arith, e, f)), (λ f. omega (arith, e, f)))

-- ---- lines out of form

unfoldable is_value : Line → Bool
is_value (E.event x) = false
is_value (E.name x) = false
is_value (E.key x) = false
is_value (E.value x) = true
is_value (E.text x) = false
is_value E.junk = false

value_only : (at : ℕ) (l : Line) (d : Walked) → is_value l ≡ false → (on_value at l d).next ≡ 5
unfolding on_value broken is_value
value_only at (E.event x) d e = refl
value_only at (E.name x) d e = refl
value_only at (E.key x) d e = refl
value_only at (E.value x) d e = true_is_false e
value_only at (E.text x) d e = refl
value_only at E.junk d e = refl

-- A key and then no value.
key_then : (at : ℕ) (k : List ℕ) (d : Walked) (b : ℕ) (l : Line) → is_value l ≡ false → (step (on_key at (E.key k) d).next b l (on_key at (E.key k) d)).next ≡ 5
unfolding on_key with_key broken step
key_then at k d b l e = go (key_fits k) refl
  where
    go : (p : Bool) → key_fits k ≡ p → (step (on_key at (E.key k) d).next b l (on_key at (E.key k) d)).next ≡ 5
    go true q = rw (q, on_key) (value_only b l (with_key (key_of k) (written (at + 4) k) d) e)
    go false q = rw (q, on_key) refl

text_then : (at : ℕ) (v : List ℕ) (d : Walked) (b : ℕ) (l : Line) → (step (on_key at (E.text v) d).next b l (on_key at (E.text v) d)).next ≡ 5
unfolding on_key with_text broken step
text_then at v d b l = go (W.text_fits v) refl
  where
    go : (p : Bool) → W.text_fits v ≡ p → (step (on_key at (E.text v) d).next b l (on_key at (E.text v) d)).next ≡ 5
    go true q = rw (q, on_key) refl
    go false q = rw (q, on_key) refl

no_last : (o : Option (List ℕ)) (l : Line) (ls : List Line) → last_text o (l ∷ ls) ≡ none
unfolding last_text
no_last none l ls = refl
no_last (some v) l ls = refl

key_waits : (at : ℕ) (k : List ℕ) (d : Walked) → Stopped (on_key at (E.key k) d)
unfolding on_key with_key broken
key_waits at k d = go (key_fits k) refl
  where
    go : (p : Bool) → key_fits k ≡ p → Stopped (on_key at (E.key k) d)
    go true q = rw (q, on_key) ((λ f. omega (arith, f)), (λ f. omega (arith, f)))
    go false q = rw (q, on_key) ((λ f. omega (arith, f)), (λ f. omega (arith, f)))

-- ---- a pair

abbrev attribute : List ℕ → List ℕ → Attribute
attribute x y = record { key = x; value = y }

-- What a pair in form has, with the rest of the body.
record PairNeeds (k v : List ℕ) (o : Option Body) (n : ℕ) : Type 0 where
  key_text : List ℕ
  value_text : List ℕ
  rest : Body
  key : legible k ≡ some key_text
  value : legible v ≡ some value_text
  body : o ≡ some rest
  key_fits_lem : between 1 64 key_text ≡ true
  value_fits_lem : between 0 1024 value_text ≡ true
  room : n < 16
  fitting : Fitting (suc n) rest

pair_split : (k v : Option (List ℕ)) (o : Option Body) (b : Body) → with_pair k v o ≡ some b
    → (x : List ℕ) × (y : List ℕ) × (c : Body) × (k ≡ some x) × (v ≡ some y) × (o ≡ some c) × (record { attributes = attribute x y ∷ c.attributes; text = c.text } ≡ b)
unfolding with_pair
pair_split none v o b e = none_is_some b e
pair_split (some x) none o b e = none_is_some b e
pair_split (some x) (some y) none b e = none_is_some b e
pair_split (some x) (some y) (some c) b e = (x, y, c, refl, refl, refl, some_inj b _ b e)

-- The attributes fit one by one.
fits_first : (x y : List ℕ) (ats : List Attribute) → attributes_fit limits01 (attribute x y ∷ ats) ≡ true
    → (between 1 64 x ≡ true) × (between 0 1024 y ≡ true) × (attributes_fit limits01 ats ≡ true)
unfolding attributes_fit
fits_first x y ats e = go (between 1 64 x && between 0 1024 y) refl
  where
    go : (p : Bool) → (between 1 64 x && between 0 1024 y) ≡ p → (between 1 64 x ≡ true) × (between 0 1024 y ≡ true) × (attributes_fit limits01 ats ≡ true)
    go true q = (and_left (between 1 64 x) (between 0 1024 y) q, and_right (between 1 64 x) (between 0 1024 y) q, rw (q, attributes_fit) at e)
    go false q = true_is_false (sym (rw (q, attributes_fit) at e))

fits_more : (x y : List ℕ) (ats : List Attribute) → between 1 64 x ≡ true → between 0 1024 y ≡ true → attributes_fit limits01 ats ≡ true → attributes_fit limits01 (attribute x y ∷ ats) ≡ true
unfolding attributes_fit
fits_more x y ats e f g = let z : (between 1 64 x && between 0 1024 y) ≡ true = rw (e, f) in rw (z, attributes_fit) g

pair_needs : (k v : List ℕ) (o : Option Body) (n : ℕ) (b : Body) → with_pair (legible k) (legible v) o ≡ some b → Fitting n b → PairNeeds k v o n
pair_needs k v o n b e f =
    let z = pair_split (legible k) (legible v) o b e in
    let c : Body = z.2 in
    let g : Fitting n (record { attributes = attribute z.0 z.1 ∷ c.attributes; text = c.text }) = subst (Fitting n) (sym z.6) f in
    let h = fits_first z.0 z.1 c.attributes g.attributes in
    let m : n + suc (length c.attributes) ≤ 16 = g.few in
    record {
      key_text = z.0;
      value_text = z.1;
      rest = c;
      key = z.3;
      value = z.4;
      body = z.5;
      key_fits_lem = h.0;
      value_fits_lem = h.1;
      room = omega arith;
      fitting = record { attributes = h.2; few = omega arith; text = g.text };
    }

module _ (raw : List ℕ) (d : Walked) (ats : List Attribute) (before : Before raw d ats) (at at₂ : ℕ) (k v : List ℕ) where
  abbrev key_part : Part
  key_part = written (at + 4) k

  abbrev value_part : Part
  value_part = written (at₂ + 6) v

  abbrev keyed : Walked
  keyed = with_key (key_of k) key_part d

  abbrev paired : Walked
  paired = with_value value_part keyed

  module _ (x y : List ℕ) (ek : legible k ≡ some x) (ev : legible v ≡ some y) (lk : (measured k).len ≡ length x) (lv : (measured v).len ≡ length y)
      (sk : part raw (at + 4) (length k) ≡ k) (sv : part raw (at₂ + 6) (length v) ≡ v) (room : d.count < 16) where
    pair_reads : PairReads raw (record { code = key_of k; key = key_part; value = value_part }) (attribute x y)
    unfolding written
    pair_reads = record { code = key_plain k x ek; key = record { shown = ap legible sk ∙ ek; long = lk }; value = record { shown = ap legible sv ∙ ev; long = lv } }

    grown : Before raw paired (ats ++ attribute x y ∷ [])
    unfolding with_key with_value
    grown =
        let h : d.count < length d.pairs = omega (arith, before.size) in
        let z : take (d.count + 1) (set d.pairs d.count (record { code = key_of k; key = key_part; value = value_part })) ≡ take d.count d.pairs ++ record { code = key_of k; key = key_part; value = value_part } ∷ [] =
        rw add-one (take-suc-set d.pairs d.count (record { code = key_of k; key = key_part; value = value_part }) h) in
        record {
          count = omega (arith, before.count, length-append ats (attribute x y ∷ []));
          room = omega arith;
          size = length-set d.pairs d.count (record { code = key_of k; key = key_part; value = value_part }) ∙ before.size;
          pairs = subst (λ (ps : List Pair). Pairs raw ps (ats ++ attribute x y ∷ [])) (sym z) (pairs_snoc (record { code = key_of k; key = key_part; value = value_part }) (attribute x y) before.pairs pair_reads);
        }

    one_more_lem : (o : Option Body) (w : Walked) → between 1 64 x ≡ true → between 0 1024 y ≡ true → Went raw paired w (ats ++ attribute x y ∷ []) o → Went raw d w ats (with_pair (legible k) (legible v) o)
    unfolding with_key with_value with_pair
    one_more_lem o w fx fy (good b e f kept count pairs text) =
        let s : (ats ++ attribute x y ∷ []) ++ b.attributes ≡ ats ++ attribute x y ∷ b.attributes = append_assoc ats (attribute x y ∷ []) b.attributes in
        let n : length (ats ++ attribute x y ∷ []) ≡ length ats + 1 = length-append ats (attribute x y ∷ []) in
        good (record { attributes = attribute x y ∷ b.attributes; text = b.text }) (rw (ek, ev, e) refl)
        (record { attributes = fits_more x y b.attributes fx fy f.attributes; few = omega (arith, f.few, n); text = f.text })
        (record { kind = kept.kind; tag = kept.tag; name = kept.name })
        (count ∙ ap length s)
        (subst (Pairs raw (take w.count w.pairs)) s pairs)
        text
    one_more_lem o w fx fy (bad s f) =
        bad s
        (λ b e g.
        let p : PairNeeds k v o (length ats) = pair_needs k v o (length ats) b e g in
        let n : length (ats ++ attribute x y ∷ []) ≡ length ats + 1 = length-append ats (attribute x y ∷ []) in
        f p.rest p.body (record { attributes = p.fitting.attributes; few = omega (arith, p.fitting.few, n); text = p.fitting.text }))

  -- A key and its value, the rest being known by ih.
  pair_case : (ls : List Placed) → Stands raw at (E.key k) → Stands raw at₂ (E.value v)
      → ((c : Walked) (bts : List Attribute) → c.next ≡ 2 → Before raw c bts → Went raw c (walk_at 2 ls c) bts (body_of none (map decoded ls)))
      → Went raw d (walk ls (step (on_key at (E.key k) d).next at₂ (E.value v) (on_key at (E.key k) d))) ats (with_pair (legible k) (legible v) (body_of none (map decoded ls)))
  unfolding Stands on_key on_value added_value with_key with_value broken step measured
  pair_case ls sk sv ih = by_key_lem (key_fits k) refl (key_limits k)
    where
      after : Walked
      after = step (on_key at (E.key k) d).next at₂ (E.value v) (on_key at (E.key k) d)

      Goal : Walked → Type 0
      Goal w = Went raw d w ats (with_pair (legible k) (legible v) (body_of none (map decoded ls)))

      out : (w : Walked) → w.next ≡ 5 → (PairNeeds k v (body_of none (map decoded ls)) (length ats) → ⊥) → Goal (walk ls w)
      out w e f = bad (stopped (walk ls w) (walk_stays ls w e)) (λ b g h. f (pair_needs k v (body_of none (map decoded ls)) (length ats) b g h))

      by_value : (x : List ℕ) → legible k ≡ some x → between 1 64 x ≡ true → (measured k).len ≡ length x → (p r : Bool) → value_fits v ≡ p → room_left d.count ≡ r → Fits 0 1024 (legible v) p
          → Goal (walk ls (on_value at₂ (E.value v) keyed))
      by_value x ek bk lk true true q t (yes y ev bv lv) =
          let w : on_value at₂ (E.value v) keyed ≡ paired = rw (q, on_value, t, added_value) in
          let g : Went raw paired (walk_at 2 ls paired) (ats ++ attribute x y ∷ []) (body_of none (map decoded ls)) =
          ih paired (ats ++ attribute x y ∷ []) refl (grown x y ek ev lk lv sk sv (room_in d.count t)) in
          subst (λ (c : Walked). Goal (walk ls c)) (sym w)
          (subst Goal (sym (walk_at_lem ls paired)) (one_more_lem x y ek ev lk lv sk sv (room_in d.count t) (body_of none (map decoded ls)) (walk_at 2 ls paired) bk bv g))
      by_value x ek bk lk true false q t f =
          let w : on_value at₂ (E.value v) keyed ≡ broken keyed = rw (q, on_value, t, added_value) in
          subst (λ (c : Walked). Goal (walk ls c)) (sym w) (out (broken keyed) refl (λ p. omega (arith, p.room, before.count, room_out d.count t)))
      by_value x ek bk lk false r q t (no f) =
          let w : on_value at₂ (E.value v) keyed ≡ broken keyed = rw (q, on_value) in
          subst (λ (c : Walked). Goal (walk ls c)) (sym w) (out (broken keyed) refl (λ p. f p.value_text p.value p.value_fits_lem))

      by_key_lem : (p : Bool) → key_fits k ≡ p → Fits 1 64 (legible k) p → Goal (walk ls after)
      by_key_lem true q (yes x ek bk lk) =
          let w : on_key at (E.key k) d ≡ keyed = rw (q, on_key) in
          subst (λ (c : Walked). Goal (walk ls (step c.next at₂ (E.value v) c))) (sym w)
          (by_value x ek bk lk (value_fits v) (room_left d.count) refl refl (value_limits v))
      by_key_lem false q (no f) =
          let w : on_key at (E.key k) d ≡ broken d = rw (q, on_key) in
          subst (λ (c : Walked). Goal (walk ls (step c.next at₂ (E.value v) c))) (sym w) (out (broken (broken d)) refl (λ p. f p.key_text p.key p.key_fits_lem))

-- ---- the body

last_split : (o : Option (List ℕ)) (b : Body) → last_text o [] ≡ some b → (x : List ℕ) × (o ≡ some x) × (record { attributes = []; text = some x } ≡ b)
unfolding last_text
last_split none b e = none_is_some b e
last_split (some x) b e = (x, refl, some_inj b _ b e)

module _ (raw : List ℕ) where
  out_of_form : {d : Walked} {ats : List Attribute} (ls : List Placed) (w : Walked) → w.next ≡ 5 → Went raw d (walk ls w) ats none
  out_of_form ls w e = bad (stopped (walk ls w) (walk_stays ls w e)) (λ b f g. none_is_some b f)

  -- A text, and no line after it.
  text_case : (d : Walked) (ats : List Attribute) → Before raw d ats → (at : ℕ) (v : List ℕ) → Stands raw at (E.text v) → Went raw d (on_key at (E.text v) d) ats (last_text (legible v) [])
  unfolding Stands on_key with_text broken measured last_text attributes_fit text_fits
  text_case d ats before at v s = go (W.text_fits v) refl (text_limits v)
    where
      go : (p : Bool) → W.text_fits v ≡ p → Fits 0 4096 (legible v) p → Went raw d (on_key at (E.text v) d) ats (last_text (legible v) [])
      go true q (yes x ex bx lx) =
          let p : Part = written (at + 5) v in
          let w : on_key at (E.text v) d ≡ with_text p d = rw (q, on_key) in
          subst (λ (c : Walked). Went raw d c ats (last_text (legible v) [])) (sym w)
          (good (record { attributes = []; text = some x }) (rw (ex, last_text) refl) (record { attributes = refl; few = omega (arith, before.room, before.count); text = bx })
          (record { kind = refl; tag = refl; name = refl })
          (before.count ∙ ap length (sym (append-nil ats)))
          (subst (Pairs raw (take d.count d.pairs)) (sym (append-nil ats)) before.pairs)
          (walk_text x refl (record { shown = ap legible s ∙ ex; long = lx })))
      go false q (no f) =
          let w : on_key at (E.text v) d ≡ broken d = rw (q, on_key) in
          subst (λ (c : Walked). Went raw d c ats (last_text (legible v) [])) (sym w)
          (bad (stopped (broken d) refl)
          (λ b e g.
          let z = last_split (legible v) b e in
          f z.0 z.1 (subst (λ (c : Body). text_fits limits01 c.text ≡ true) (sym z.2) g.text)))

  pub body : (ls : List Placed) (d : Walked) (ats : List Attribute) → d.next ≡ 2 → Before raw d ats → AllStand raw ls → Went raw d (walk_at 2 ls d) ats (body_of none (map decoded ls))
  unfolding walk_at walk step body_of decoded attributes_fit text_fits is_value on_key broken
  body [] d ats e before s =
      good (record { attributes = []; text = none }) refl (record { attributes = refl; few = omega (arith, before.room, before.count); text = refl }) (record { kind = refl; tag = refl; name = refl })
      (before.count ∙ ap length (sym (append-nil ats)))
      (subst (Pairs raw (take d.count d.pairs)) (sym (append-nil ats)) before.pairs)
      (walk_no_text e)
  body (line at (E.key k) ∷ []) d ats e before s = bad (key_waits at k d) (λ b f g. none_is_some b f)
  body (line at (E.key k) ∷ line b (E.value v) ∷ ls) d ats e before (cons sk (cons sv s)) = pair_case raw d ats before at b k v ls sk sv (λ c bts f g. body ls c bts f g s)
  body (line at (E.key k) ∷ line b (E.event x) ∷ ls) d ats e before s = out_of_form ls _ (key_then at k d b (E.event x) refl)
  body (line at (E.key k) ∷ line b (E.name x) ∷ ls) d ats e before s = out_of_form ls _ (key_then at k d b (E.name x) refl)
  body (line at (E.key k) ∷ line b (E.key x) ∷ ls) d ats e before s = out_of_form ls _ (key_then at k d b (E.key x) refl)
  body (line at (E.key k) ∷ line b (E.text x) ∷ ls) d ats e before s = out_of_form ls _ (key_then at k d b (E.text x) refl)
  body (line at (E.key k) ∷ line b E.junk ∷ ls) d ats e before s = out_of_form ls _ (key_then at k d b E.junk refl)
  body (line at (E.text v) ∷ []) d ats e before (cons st s) = text_case d ats before at v st
  body (line at (E.text v) ∷ line b l ∷ ls) d ats e before s = subst (Went raw d _ ats) (sym (no_last (legible v) l (map decoded ls))) (out_of_form ls _ (text_then at v d b l))
  body (line at (E.event x) ∷ ls) d ats e before s = out_of_form ls _ refl
  body (line at (E.name x) ∷ ls) d ats e before s = out_of_form ls _ refl
  body (line at (E.value x) ∷ ls) d ats e before s = out_of_form ls _ refl
  body (line at E.junk ∷ ls) d ats e before s = out_of_form ls _ refl
