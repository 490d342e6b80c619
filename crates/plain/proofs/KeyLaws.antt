-- What is kept of an event's slots by key.
use Prim.Native.Nat.{ℕ, ◌+◌, ◌*◌, ◌-◌, ◌≤◌, ◌<◌}
use mathlib.Core.Path.{◌≡◌, refl, sym, ap, ap₂, ◌∙◌}
use mathlib.Core.Bool.{true, false, not}
use mathlib.Core.List.{List, [], ◌∷◌, ◌++◌}
use native.Mathlib.Omega.{arith}
use lib.Dec.{eqb, ltb}
use lib.ListN.{length, get_or, set, take, drop, replicate, length-set, length-append, get_or-replicate}
use lib.Seq.{get_or-set_same, get_or-set_other}
use borrow.Author.Tests.{eqb-true, eqb-false, lt-ltb}
use Rattle.std.specs.Prelude.{Option, Some, None}
use Rattle.definition.specs.declared.codes.Key.{Key}
use Rattle.definition.specs.declared.codes.Key.TheVariants as Y
use Rattle.definition.specs.Codes.{key_code}
use Rattle.definition.specs.Look.{payload}
use Rattle.words.proofs.Laws.{by}
use Rattle.parts.specs.Parts.{at_most16}
use Rattle.parts.proofs.MostLaws.{past_most, next_most}
use Rattle.plain.specs.declared.Slot.{Slot}
use Rattle.plain.specs.Plain.{slot_bytes, loads_in}
use Rattle.plain.specs.Keyed.{key_place, by_key, keyed_of, is_marked, no_slot, has_slot, slot_for}

pub place_low : (k : ℕ) → k < 31 → k ≡ key_place k
unfolding key_place
place_low k h = let z : ltb k 31 ≡ true = lt-ltb k 31 h in rw (z, key_place)

-- A key's number is below the last place.
pub code_low : (k : Option Key) → key_code k < 31
code_low None = omega arith
code_low (Some Y.Id) = omega arith
code_low (Some Y.Initial) = omega arith
code_low (Some Y.Name) = omega arith
code_low (Some Y.Datamodel) = omega arith
code_low (Some Y.Binding) = omega arith
code_low (Some Y.Version) = omega arith
code_low (Some Y.Type) = omega arith
code_low (Some Y.Typeexpr) = omega arith
code_low (Some Y.Src) = omega arith
code_low (Some Y.Srcexpr) = omega arith
code_low (Some Y.Idlocation) = omega arith
code_low (Some Y.Namelist) = omega arith
code_low (Some Y.Autoforward) = omega arith
code_low (Some Y.Event) = omega arith
code_low (Some Y.Eventexpr) = omega arith
code_low (Some Y.Cond) = omega arith
code_low (Some Y.Target) = omega arith
code_low (Some Y.Targetexpr) = omega arith
code_low (Some Y.Expr) = omega arith
code_low (Some Y.Array) = omega arith
code_low (Some Y.Item) = omega arith
code_low (Some Y.Index) = omega arith
code_low (Some Y.Sendid) = omega arith
code_low (Some Y.Sendidexpr) = omega arith
code_low (Some Y.Delay) = omega arith
code_low (Some Y.Delayexpr) = omega arith
code_low (Some Y.Location) = omega arith
code_low (Some Y.Label) = omega arith

pub place_is : (k : Option Key) → key_code k ≡ key_place (key_code k)
place_is k = place_low (key_code k) (code_low k)

-- ---- the loop

pub record Indexing (src : List ℕ) (ss : List Slot) (c : ℕ) (there at len : List ℕ) (total i : ℕ) : Type 0 where
  pub marks : there ≡ by_key (λ (s : Slot). 1) (drop i (take c ss))
  pub places : at ≡ by_key (λ (s : Slot). s.at) (drop i (take c ss))
  pub lengths : len ≡ by_key (λ (s : Slot). s.len) (drop i (take c ss))
  pub sum : total ≡ length (payload (loads_in src (drop i (take c ss))))
  pub bound : total + i * 65536 ≤ 1048576
  pub few : i ≤ at_most16 c

module _ (ss : List Slot) (c : ℕ) (long : length ss ≡ 16) where
  key_start : (f : Slot → ℕ) (i : ℕ) → at_most16 c ≤ i → replicate 32 0 ≡ by_key f (drop i (take c ss))
  unfolding by_key
  key_start f i h = sym (ap (by_key f) (past_most ss c long i h))

  key_more : (f : Slot → ℕ) (xs : List ℕ) (i j : ℕ) → i ≡ j + 1 → j < at_most16 c → xs ≡ by_key f (drop i (take c ss)) → (k : ℕ) → k ≡ key_place (key_code (get_or ss j no_slot).code)
      → set xs k (f (get_or ss j no_slot)) ≡ by_key f (drop j (take c ss))
  unfolding by_key
  key_more f xs i j y few x k e =
      ap₂ (λ (a : List ℕ) (b : ℕ). set a b (f (get_or ss j no_slot))) (x ∙ ap (λ (m : ℕ). by_key f (drop m (take c ss))) y) e
      ∙ sym (ap (by_key f) (next_most ss c long j no_slot few))

  module _ (src : List ℕ) where
    pub indexing_start : (i : ℕ) → i ≡ at_most16 c → Indexing src ss c (replicate 32 0) (replicate 32 0) (replicate 32 0) 0 i
    unfolding loads_in payload
    indexing_start i e =
        let h : at_most16 c ≤ i = omega (arith, e) in
        record {
          marks = key_start _ i h;
          places = key_start _ i h;
          lengths = key_start _ i h;
          sum = sym (ap (λ (x : List Slot). length (payload (loads_in src x))) (past_most ss c long i h));
          bound = omega (arith, e);
          few = omega (arith, e);
        }

    module _ (there at len : List ℕ) (total i : ℕ) (x : Indexing src ss c there at len total i) where
      pub indexing_more : (j : ℕ) → 0 < i → j ≡ i - 1 → (k : ℕ) → k ≡ key_place (key_code (get_or ss j no_slot).code) → (v : List ℕ) → v ≡ slot_bytes src (get_or ss j no_slot) → length v < 65536
          → Indexing src ss c (set there k 1) (set at k (get_or ss j no_slot).at) (set len k (get_or ss j no_slot).len) (total + length v) j
      unfolding loads_in payload
      indexing_more j h ej k e v ev short =
          let y : i ≡ j + 1 = omega (arith, h, ej) in
          let few : j < at_most16 c = omega (arith, x.few, y) in
          let s : Slot = get_or ss j no_slot in
          let z : payload (loads_in src (drop j (take c ss))) ≡ slot_bytes src s ++ payload (loads_in src (drop (j + 1) (take c ss))) = ap (λ (y : List Slot). payload (loads_in src y)) (next_most ss c long j no_slot few) in
          let w : total ≡ length (payload (loads_in src (drop (j + 1) (take c ss)))) = x.sum ∙ ap (λ (m : ℕ). length (payload (loads_in src (drop m (take c ss))))) y in
          record {
            marks = key_more (λ (s : Slot). 1) there i j y few x.marks k e;
            places = key_more (λ (s : Slot). s.at) at i j y few x.places k e;
            lengths = key_more (λ (s : Slot). s.len) len i j y few x.lengths k e;
            sum = omega (arith, w, ap length z, length-append (slot_bytes src s) (payload (loads_in src (drop (j + 1) (take c ss)))), ap length ev);
            bound = omega (arith, x.bound, y, short);
            few = omega (arith, few);
          }

      pub indexing_end : i ≤ 0 → (record { there = there; at = at; len = len } ≡ keyed_of (take c ss)) × ((total ≡ length (payload (loads_in src (take c ss)))) × (total ≤ 1048576))
      unfolding keyed_of
      indexing_end h =
          let z : i ≡ 0 = omega (arith, h) in
          let d : drop i (take c ss) ≡ take c ss = ap (λ (m : ℕ). drop m (take c ss)) z in
          let m : there ≡ by_key (λ (s : Slot). 1) (take c ss) = x.marks ∙ ap (by_key (λ (s : Slot). 1)) d in
          let a : at ≡ by_key (λ (s : Slot). s.at) (take c ss) = x.places ∙ ap (by_key (λ (s : Slot). s.at)) d in
          let l : len ≡ by_key (λ (s : Slot). s.len) (take c ss) = x.lengths ∙ ap (by_key (λ (s : Slot). s.len)) d in
          ((λ j. record { there = m j; at = a j; len = l j }), (x.sum ∙ ap (λ (y : List Slot). length (payload (loads_in src y))) d, omega (arith, x.bound)))

-- ---- what is kept of a key

key_length : (f : Slot → ℕ) (ss : List Slot) → length (by_key f ss) ≡ 32
unfolding by_key
key_length f [] = refl
key_length f (s ∷ ss) = length-set (by_key f ss) (key_place (key_code s.code)) (f s) ∙ key_length f ss

module _ (k : ℕ) (low : k < 32) where
  place_other : (c : Option Key) → eqb (key_code c) k ≡ false → (k ≡ key_place (key_code c) → ⊥)
  place_other c e z = eqb-false (key_code c) k e (place_is c ∙ sym z)

  nothing : ◌≡◌ {A = ℕ} (get_or (replicate 32 0) k 0) 0
  nothing = get_or-replicate {A = ℕ} 32 k 0 0 (omega (arith, low))

  module _ (f : Slot → ℕ) (s : Slot) (ss : List Slot) where
    key_here : eqb (key_code s.code) k ≡ true → get_or (by_key f (s ∷ ss)) k 0 ≡ f s
    unfolding by_key
    key_here q =
        let z : key_place (key_code s.code) ≡ k = sym (place_is s.code) ∙ eqb-true (key_code s.code) k q in
        ap (λ (n : ℕ). get_or (set (by_key f ss) n (f s)) k 0) z ∙ get_or-set_same (by_key f ss) k (f s) 0 (omega (arith, low, key_length f ss))

    key_past : eqb (key_code s.code) k ≡ false → get_or (by_key f (s ∷ ss)) k 0 ≡ get_or (by_key f ss) k 0
    unfolding by_key
    key_past q = get_or-set_other (by_key f ss) (key_place (key_code s.code)) k (f s) 0 (place_other s.code q)

  module _ (s : Slot) (ss : List Slot) where
    pub slot_here : eqb (key_code s.code) k ≡ true → slot_for k (s ∷ ss) ≡ s
    unfolding slot_for
    slot_here q = rw (q, slot_for)

    pub slot_past : eqb (key_code s.code) k ≡ false → slot_for k (s ∷ ss) ≡ slot_for k ss
    unfolding slot_for
    slot_past q = rw (q, slot_for)

    pub has_here : eqb (key_code s.code) k ≡ true → has_slot k (s ∷ ss) ≡ true
    unfolding has_slot
    has_here q = rw (q, has_slot)

    pub has_past : eqb (key_code s.code) k ≡ false → has_slot k (s ∷ ss) ≡ has_slot k ss
    unfolding has_slot
    has_past q = rw (q, has_slot)

  marked_from : (ss : List Slot) → not (eqb (get_or (by_key (λ (s : Slot). 1) ss) k 0) 0) ≡ has_slot k ss
  unfolding by_key has_slot
  marked_from [] = ap (λ (n : ℕ). not (eqb n 0)) nothing
  marked_from (s ∷ ss) =
      by (eqb (key_code s.code) k) (λ q. ap (λ (n : ℕ). not (eqb n 0)) (key_here (λ (s : Slot). 1) s ss q) ∙ sym (has_here s ss q))
      (λ q. ap (λ (n : ℕ). not (eqb n 0)) (key_past (λ (s : Slot). 1) s ss q) ∙ marked_from ss ∙ sym (has_past s ss q))

  -- WHETHER A KEY IS THERE
  pub marked_is : (ss : List Slot) → is_marked (keyed_of ss) k ≡ has_slot k ss
  unfolding is_marked keyed_of
  marked_is ss = marked_from ss

  -- WHAT IS KEPT OF ITS SLOT, where that is 0 of no slot
  pub kept_is : (f : Slot → ℕ) → f no_slot ≡ 0 → (ss : List Slot) → get_or (by_key f ss) k 0 ≡ f (slot_for k ss)
  unfolding by_key slot_for
  kept_is f z [] = nothing ∙ sym z
  kept_is f z (s ∷ ss) =
      by (eqb (key_code s.code) k) (λ q. key_here f s ss q ∙ sym (ap f (slot_here s ss q))) (λ q. key_past f s ss q ∙ kept_is f z ss ∙ sym (ap f (slot_past s ss q)))
