-- What the loops of this crate need of the definitions.
use Prim.Native.Nat.{ℕ, ◌+◌, ◌≤◌, ◌<◌}
use mathlib.Core.Path.{◌≡◌, refl, sym, ap, ap₂, ◌∙◌}
use mathlib.Core.Bool.{Bool, true, false, ◌&&◌}
use mathlib.Core.List.{List, [], ◌∷◌, ◌++◌, map, map-append}
use native.Mathlib.Numerals.{add-one}
use native.Mathlib.Omega.{arith}
use lib.ListN.{length, get_or, set, take, drop, length-set}
use lib.Seq.{take-suc, take-suc-set}
use Rattle.parts.specs.Walked.{Pair}
use Rattle.parts.specs.Parts.{no_pair, at_most16}
use Rattle.parts.proofs.MostLaws.{take_most, past_most, next_most}
use Rattle.event.specs.Description.{Described}
use Rattle.plain.specs.declared.Slot.{Slot}
use Rattle.plain.specs.Plain.{is_plain, all_plain, plainly, Span, slot_of, span_in}

-- ---- whether all is plain

pub plainly_is : (d : Described) → ((is_plain d.name && is_plain d.text) && all_plain (take d.count d.pairs)) ≡ plainly d
unfolding plainly
plainly_is d = go (is_plain d.name) (is_plain d.text) (all_plain (take d.count d.pairs))
  where
    go : (a b x : Bool) → ((a && b) && x) ≡ elim a as (λ y. Bool) [ true ↦ elim b as (λ y. Bool) [ true ↦ x | false ↦ false ] | false ↦ false ]
    go true true x = refl
    go true false x = refl
    go false b x = refl

plain_more : (b : Bool) (p : Pair) (ps : List Pair) → ((b && is_plain p.value) && all_plain ps) ≡ (b && all_plain (p ∷ ps))
unfolding all_plain
plain_more false p ps = refl
plain_more true p ps = go (is_plain p.value)
  where
    go : (a : Bool) → (a && all_plain ps) ≡ elim a as (λ y. Bool) [ true ↦ all_plain ps | false ↦ false ]
    go true = refl
    go false = refl

plain_none : (b : Bool) → b ≡ (b && all_plain [])
unfolding all_plain
plain_none true = refl
plain_none false = refl

-- ---- slots filled one by one

-- b₀ says whether the name and the text are plain, b whether the values before i are too.
pub record Filling (ps : List Pair) (c : ℕ) (b₀ : Bool) (ss : List Slot) (b : Bool) (i : ℕ) : Type 0 where
  pub within : i ≤ at_most16 c
  pub size : length ss ≡ 16
  pub done : map span_in (take i ss) ≡ map slot_of (take i ps)
  pub rest : (b && all_plain (drop i (take c ps))) ≡ (b₀ && all_plain (take c ps))

module _ (ps : List Pair) (c : ℕ) (len : length ps ≡ 16) (b₀ : Bool) where
  pub filling_start : (ss : List Slot) → length ss ≡ 16 → Filling ps c b₀ ss b₀ 0
  filling_start ss h = record { within = omega arith; size = h; done = refl; rest = refl }

  module _ (ss : List Slot) (b : Bool) (i : ℕ) (f : Filling ps c b₀ ss b i) where
    pub filling_more : i < at_most16 c → (p : Pair) → p ≡ get_or ps i no_pair → (s : Slot) → span_in s ≡ slot_of p → (a : Bool) → a ≡ is_plain p.value → Filling ps c b₀ (set ss i s) (b && a) (i + 1)
    filling_more h p ep s es a ea =
        record {
          within = omega arith;
          size = length-set ss i s ∙ f.size;
          done =
              rw (add-one, take-suc-set ss i s (omega (arith, f.size)), take-suc ps i no_pair (omega (arith, len)), map-append slot_of (take i ps) (get_or ps i no_pair ∷ []), map-append span_in (take i ss) (s ∷ []))
              (ap₂ ◌++◌ f.done (ap (λ (x : Span). x ∷ []) (es ∙ ap slot_of ep)));
          rest =
              ap (λ (x : Bool). (b && x) && all_plain (drop (i + 1) (take c ps))) (ea ∙ ap (λ (q : Pair). is_plain q.value) ep)
              ∙ plain_more b (get_or ps i no_pair) (drop (i + 1) (take c ps))
              ∙ sym (ap (λ (qs : List Pair). b && all_plain qs) (next_most ps c len i no_pair h))
              ∙ f.rest;
        }

    pub filled : at_most16 c ≤ i → map span_in (take c ss) ≡ map slot_of (take c ps)
    filled h = ap (map span_in) (sym (take_most ss c f.size i f.within h)) ∙ f.done ∙ ap (map slot_of) (take_most ps c len i f.within h)

    pub filled_plain : at_most16 c ≤ i → b ≡ (b₀ && all_plain (take c ps))
    filled_plain h = plain_none b ∙ sym (ap (λ (qs : List Pair). b && all_plain qs) (past_most ps c len i h)) ∙ f.rest
