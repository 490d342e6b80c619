-- THE LAW: the description of an event's bytes agrees with the definition.
use Prim.Native.Nat.{ℕ, zero, suc, ◌≤◌}
use mathlib.Core.Path.{◌≡◌, refl, sym, ap, ap₂, ◌∙◌, subst}
use mathlib.Core.Bool.{Bool, true, false, ◌&&◌, not}
use mathlib.Core.Option.{Option}
use mathlib.Core.List.{List, [], ◌∷◌, map}
use lib.ListN.{length, take}
use lib.Dec.{eqb, leb, eqb-suc-zero}
use borrow.Author.Tests.{leb-true, le-leb, ne_eqb}
use native.Mathlib.Omega.{arith}
use Rattle.definition.specs.Limits.{limits01}
use Rattle.definition.specs.Text.{same}
use Rattle.definition.specs.Elements.{tag_of, holds_text}
use Rattle.definition.specs.Event.{Attribute, Event, has_text, no_attributes, kind_fits, between, attributes_fit, text_fits, in_form, has_key, keys_differ, read_event}
use Rattle.definition.proofs.Base.{true_is_false, some_inj, and_left, and_right}
use Rattle.definition.proofs.EventLength.{event_length_lem}
use Rattle.lines.specs.Parts.{or_nothing}
use Rattle.parts.specs.Walked.{Pair}
use Rattle.parts.specs.Walked.{Walked}
use Rattle.walk.specs.Walk.{walked}
use Rattle.walk.specs.Reads.{Pairs, no_pairs_lem, pair}
use Rattle.walk.proofs.WalkLaw.{TextReads, walk_no_text, walk_text, Stopped}
use Rattle.walk.proofs.TakenLaw.{Carries, Within, Taken, whole, too_long, none_of, taken_law}
use Rattle.event.specs.Description.{Described}
use Rattle.event.specs.Described.{blank, description_of, shape_fits, in_shape, read, pair_keys, is_among, all_differ, finished, described}
use Rattle.event.specs.Agrees.{TextDescribed, no_text, a_text, Describes, Agrees, out_of_form, keys_repeat, in_form_lem}

-- ---- keys

keys_read : {raw : List ℕ} {ps : List Pair} {ats : List Attribute} → Pairs raw ps ats → pair_keys raw ps ≡ map (λ (a : Attribute). a.key) ats
unfolding pair_keys read or_nothing
keys_read no_pairs_lem = refl
keys_read (pair {p} {a} r h) = ap₂ ◌∷◌ (ap or_nothing r.key.shown) (keys_read h)

among_key : (k : List ℕ) (ats : List Attribute) → is_among k (map (λ (a : Attribute). a.key) ats) ≡ has_key k ats
unfolding is_among has_key
among_key k [] = refl
among_key k (a ∷ ats) = go (same a.key k) refl (among_key k ats)
  where
    go : (p : Bool) → same a.key k ≡ p → is_among k (map (λ (a : Attribute). a.key) ats) ≡ has_key k ats → is_among k (a.key ∷ map (λ (a : Attribute). a.key) ats) ≡ has_key k (a ∷ ats)
    go true q ih = rw (q, is_among, has_key)
    go false q ih = rw (q, is_among, has_key) ih

keys_differ_lem : (ats : List Attribute) → all_differ (map (λ (a : Attribute). a.key) ats) ≡ keys_differ ats
unfolding all_differ keys_differ
keys_differ_lem [] = refl
keys_differ_lem (a ∷ ats) = go (has_key a.key ats) refl (keys_differ_lem ats)
  where
    go : (p : Bool) → has_key a.key ats ≡ p → all_differ (map (λ (a : Attribute). a.key) ats) ≡ keys_differ ats → all_differ (a.key ∷ map (λ (a : Attribute). a.key) ats) ≡ keys_differ (a ∷ ats)
    go true q ih = let z : is_among a.key (map (λ (a : Attribute). a.key) ats) ≡ true = among_key a.key ats ∙ q in rw (z, q, all_differ, keys_differ)
    go false q ih = let z : is_among a.key (map (λ (a : Attribute). a.key) ats) ≡ false = among_key a.key ats ∙ q in rw (z, q, all_differ, keys_differ) ih

-- ---- the kind

text_two : {raw : List ℕ} {d : Walked} {t : Option (List ℕ)} → TextReads raw d t → eqb d.next 2 ≡ not (has_text t)
unfolding has_text
text_two (walk_no_text e) = ap (λ (n : ℕ). eqb n 2) e
text_two (walk_text v e r) = ap (λ (n : ℕ). eqb n 2) e

text_four : {raw : List ℕ} {d : Walked} {t : Option (List ℕ)} → TextReads raw d t → eqb d.next 4 ≡ has_text t
unfolding has_text
text_four (walk_no_text e) = ap (λ (n : ℕ). eqb n 4) e
text_four (walk_text v e r) = ap (λ (n : ℕ). eqb n 4) e

none_zero : (ats : List Attribute) → eqb (length ats) 0 ≡ no_attributes ats
unfolding no_attributes
none_zero [] = refl
none_zero (a ∷ ats) = eqb-suc-zero (length ats)

shape_of : (k : ℕ) (e : Event) (next count : ℕ) → eqb next 2 ≡ not (has_text e.text) → eqb next 4 ≡ has_text e.text → eqb count 0 ≡ no_attributes e.attributes
    → shape_fits k next count (holds_text (tag_of e.name)) ≡ kind_fits k e
unfolding shape_fits kind_fits
shape_of zero e next count two four none₁ = ap (λ (b : Bool). b && not (holds_text (tag_of e.name))) two
shape_of (suc zero) e next count two four none₁ = two
shape_of (suc (suc zero)) e next count two four none₁ = ap (λ (b : Bool). b && holds_text (tag_of e.name)) four
shape_of (suc (suc (suc zero))) e next count two four none₁ = ap₂ ◌&&◌ two none₁
shape_of (suc (suc (suc (suc k)))) e next count two four none₁ = refl

shape_carried : (raw : List ℕ) (w : Walked) (e : Event) → Carries raw w e → in_shape w ≡ kind_fits e.kind e
unfolding in_shape
shape_carried raw w e h =
    ap₂ (λ (k g : ℕ). shape_fits k w.next w.count (holds_text g)) h.kind h.tag
    ∙ shape_of e.kind e w.next w.count (text_two h.text) (text_four h.text) (ap (λ (c : ℕ). eqb c 0) h.count ∙ none_zero e.attributes)

stopped_shape : (k next count : ℕ) (h : Bool) → (next ≡ 2 → ⊥) → (next ≡ 4 → ⊥) → shape_fits k next count h ≡ false
unfolding shape_fits
stopped_shape zero next count h f g = rw (ne_eqb next 2 f)
stopped_shape (suc zero) next count h f g = ne_eqb next 2 f
stopped_shape (suc (suc zero)) next count h f g = rw (ne_eqb next 4 g)
stopped_shape (suc (suc (suc zero))) next count h f g = rw (ne_eqb next 2 f)
stopped_shape (suc (suc (suc (suc k)))) next count h f g = refl

shape_no : (w : Walked) → Stopped w → in_shape w ≡ false
unfolding in_shape
shape_no w s = stopped_shape w.kind w.next w.count (holds_text w.tag) s.0 s.1

-- ---- question 3

within_of : (e : Event) → in_form limits01 e ≡ true → Within e
unfolding in_form
within_of w f =
    let a : Bool = kind_fits w.kind w in
    let b : Bool = between 1 64 w.name in
    let c : Bool = leb (length w.attributes) 16 in
    let d : Bool = attributes_fit limits01 w.attributes in
    let e : Bool = text_fits limits01 w.text in
    let f₁ : (a && b && c && d) ≡ true = and_left (a && b && c && d) e f in
    let f₂ : (a && b && c) ≡ true = and_left (a && b && c) d f₁ in
    let f₃ : (a && b) ≡ true = and_left (a && b) c f₂ in
    record {
      name = and_right a b f₃;
      rest =
          record {
            attributes = and_right (a && b && c) d f₁;
            few = omega (arith, leb-true (length w.attributes) 16 (and_right (a && b) c f₂));
            text = and_right (a && b && c && d) e f;
          };
    }

and_true : (p : Bool) → (p && true && true && true && true) ≡ p
and_true true = refl
and_true false = refl

form_of : (e : Event) → Within e → in_form limits01 e ≡ kind_fits e.kind e
unfolding in_form
form_of e w =
    let m : length e.attributes ≤ 16 = omega (arith, w.rest.few) in
    rw (w.name, le-leb (length e.attributes) 16 m, w.rest.attributes, w.rest.text) (and_true (kind_fits e.kind e))

-- ---- the whole

text_described : {raw : List ℕ} {w : Walked} {t : Option (List ℕ)} → TextReads raw w t → TextDescribed raw w.text t
text_described (walk_no_text e) = no_text
text_described (walk_text v e r) = a_text v r

walked_describes : (raw : List ℕ) (w : Walked) (e : Event) → Carries raw w e → Describes raw (description_of w) e
unfolding description_of
walked_describes raw w e c = record { number = refl; kind = c.kind; tag = c.tag; name = c.name; count = c.count; pairs = c.pairs; text = text_described c.text }

module _ (raw : List ℕ) where
  pub finish_out : (w : Walked) → in_shape w ≡ false → finished raw w ≡ blank 3
  unfolding finished
  finish_out w e = rw (e, finished)

  pub finish_in : (w : Walked) → in_shape w ≡ true → (p : Bool) → all_differ (pair_keys raw (take w.count w.pairs)) ≡ p
      → finished raw w ≡ elim p as (λ b. Described) [ true ↦ description_of w | false ↦ blank 4 ]
  unfolding finished
  finish_in w e true q = rw (e, finished, q, finished) refl
  finish_in w e false q = rw (e, finished, q, finished) refl

  finish_law : (w : Walked) → Taken raw w (read_event raw) → Agrees raw (finished raw w)
  finish_law w (too_long s h) = out_of_form (finish_out w (shape_no w s)) (λ e g f. omega (arith, h, event_length_lem raw e g f))
  finish_law w (none_of s f) = out_of_form (finish_out w (shape_no w s)) (λ e g h. f e g (within_of e h))
  finish_law w (whole e g h c) = go (kind_fits e.kind e) (keys_differ e.attributes) refl refl
    where
      differ : all_differ (pair_keys raw (take w.count w.pairs)) ≡ keys_differ e.attributes
      differ = ap all_differ (keys_read c.pairs) ∙ keys_differ_lem e.attributes

      shape : in_shape w ≡ kind_fits e.kind e
      shape = shape_carried raw w e c

      go : (p r : Bool) → kind_fits e.kind e ≡ p → keys_differ e.attributes ≡ r → Agrees raw (finished raw w)
      go false r q u = out_of_form (finish_out w (shape ∙ q)) (λ x y z. true_is_false (sym z ∙ ap (in_form limits01) (some_inj e x e (sym y ∙ g)) ∙ form_of e h ∙ q))
      go true true q u = in_form_lem e g (form_of e h ∙ q) u (subst (λ (d : Described). Describes raw d e) (sym (finish_in w (shape ∙ q) true (differ ∙ u))) (walked_describes raw w e c))
      go true false q u = keys_repeat e (finish_in w (shape ∙ q) false (differ ∙ u)) g (form_of e h ∙ q) u

  pub agrees : Agrees raw (described raw)
  unfolding described
  agrees = finish_law (walked raw) (taken_law raw)
