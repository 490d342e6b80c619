-- WHERE THE NAMES OF AN EVENT STAND in its payload: its own name where its id or the generated name stands, then the words of one value.
use Prim.Native.Nat.{ℕ, suc, ◌+◌, ◌≤◌}
use mathlib.Core.Path.{◌≡◌, refl, sym, ap, ap₂, ◌∙◌}
use mathlib.Core.Bool.{Bool, true, false}
use mathlib.Core.List.{List, [], ◌∷◌, ◌++◌, append-nil}
use native.Mathlib.Omega.{arith}
use lib.Dec.{eqb, ltb}
use lib.ListN.{length, get_or}
use borrow.Author.Tests.{ltb-true, eqb-true, ne_eqb}
use Rattle.definition.specs.Text.{same, Piece, place_in, generated_name, state_words_at, emit, pieces}
use Rattle.definition.specs.Elements.{Role, names, role_of, is_masked, is_name, is_names, names_state, number_in, key_names, key_of, among}
use Rattle.definition.specs.Event.{Attribute, Event, has_key, keys_differ}
use Rattle.definition.specs.Look.{Load, value_loads, text_loads, has_load, is_generated, name_loads, loads_of, own_name, word_names, names_from, names_brought}
use Rattle.definition.proofs.Base.{same_refl, same_eq, true_is_false, and_no, place_true}
use Rattle.definition.proofs.Roles.{id_name}
use Rattle.words.proofs.Laws.{by}
use Rattle.plain.specs.Keyed.{value_in, offset_in}
use Rattle.plain.proofs.ValueLaws.{has_here, has_past, value_here, value_past, offset_here, offset_past, value_none, value_append, has_behind, value_behind}
use Rattle.plain.proofs.LoadLaw.{no_text, Own, other, rest_none}
use Rattle.names.specs.Names.{own_in}

-- ---- how often a key stands

unfoldable times : ℕ → List Load → ℕ
times k [] = 0
times k (i ∷ is) = elim (eqb i.key k) [ true ↦ suc (times k is) | false ↦ times k is ]

module _ (k : ℕ) where
  module _ (i : Load) (is : List Load) where
    times_here : eqb i.key k ≡ true → times k (i ∷ is) ≡ suc (times k is)
    unfolding times
    times_here e = rw (e, times)

    times_past : eqb i.key k ≡ false → times k (i ∷ is) ≡ times k is
    unfolding times
    times_past e = rw (e, times)

  times_append : (is js : List Load) → times k (is ++ js) ≡ times k is + times k js
  unfolding times
  times_append [] js = omega arith
  times_append (i ∷ is) js =
      by (eqb i.key k) (λ e. omega (arith, times_here i (is ++ js) e, times_here i is e, times_append is js))
      (λ e. omega (arith, times_past i (is ++ js) e, times_past i is e, times_append is js))

  times_none : (is : List Load) → has_load k is ≡ false → times k is ≡ 0
  unfolding times
  times_none [] e = refl
  times_none (i ∷ is) e =
      by (eqb i.key k) (λ q. true_is_false (sym (has_here k i is q) ∙ e)) (λ q. times_past i is q ∙ times_none is (sym (has_past k i is q) ∙ e))

  none_times : (is : List Load) → times k is ≤ 0 → has_load k is ≡ false
  unfolding has_load
  none_times [] h = refl
  none_times (i ∷ is) h =
      by (eqb i.key k) (λ q. absurd (omega (arith, h, times_here i is q))) (λ q. has_past k i is q ∙ none_times is (omega (arith, h, times_past i is q)))

-- ---- a known key stands once

number_named : (ns : List (List ℕ)) (w : List ℕ) (i : ℕ) → number_in ns w ≡ suc i → w ≡ get_or ns i []
unfolding number_in
number_named ns w i e =
    by (ltb (place_in ns w) (length ns))
    (λ q.
    let z : suc (place_in ns w) ≡ suc i = rw (q, number_in) at e in
    let y : place_in ns w ≡ i = omega (arith, z) in
    sym (same_eq (get_or ns (place_in ns w) []) w (place_true ns w (ltb-true (place_in ns w) (length ns) q))) ∙ ap (λ (n : ℕ). get_or ns n []) y)
    (λ q. let z : 0 ≡ suc i = rw (q, number_in) at e in absurd (omega (arith, z)))

key_named : (w : List ℕ) (i : ℕ) → key_of w ≡ suc i → w ≡ get_or key_names i []
unfolding key_of
key_named w i e = number_named key_names w i e

module _ (i : ℕ) where
  abbrev k : ℕ
  k = suc i

  no_more : (a : Attribute) → key_of a.key ≡ k → (ats : List Attribute) → has_key a.key ats ≡ false → times k (value_loads ats) ≡ 0
  unfolding value_loads times has_key
  no_more a e [] h = refl
  no_more a e (b ∷ bs) h =
      by (same b.key a.key) (λ q. true_is_false (rw (q, has_key) at h)) (λ q.
      times_past k (record { key = key_of b.key; bytes = b.value }) (value_loads bs) (ne_eqb (key_of b.key) k (λ z. clash q z)) ∙ no_more a e bs (rw (q, has_key) at h))
    where
      clash : same b.key a.key ≡ false → key_of b.key ≡ k → ⊥
      clash q z =
          let y : b.key ≡ a.key = key_named b.key i z ∙ sym (key_named a.key i e) in
          true_is_false (sym (ap (λ (x : List ℕ). same x a.key) y ∙ same_refl a.key) ∙ q)

  differ_head : (a : Attribute) (ats : List Attribute) → keys_differ (a ∷ ats) ≡ true → (has_key a.key ats ≡ false) × (keys_differ ats ≡ true)
  unfolding keys_differ
  differ_head a ats e = by (has_key a.key ats) (λ q. true_is_false (sym (rw (q, keys_differ) at e))) (λ q. (q, rw (q, keys_differ) at e))

  once : (ats : List Attribute) → keys_differ ats ≡ true → times k (value_loads ats) ≤ 1
  unfolding value_loads times
  once [] h = omega arith
  once (a ∷ ats) h =
      let d = differ_head a ats h in
      let x : Load = record { key = key_of a.key; bytes = a.value } in
      by (eqb (key_of a.key) k)
      (λ q. omega (arith, times_here k x (value_loads ats) q, no_more a (eqb-true (key_of a.key) k q) ats d.0))
      (λ q. omega (arith, times_past k x (value_loads ats) q, once ats d.1))

-- ---- the roles of keys

-- An element's own name is its id.
own_other : (g k o : ℕ) (v : List ℕ) → eqb k 1 ≡ false → own_name (role_of g k) o v ≡ []
unfolding role_of is_name own_name
own_other g k o v e =
    by (is_masked k) (λ q. rw (q, role_of)) (λ q. by (is_names g k) (λ r. rw (q, role_of, e, role_of, r, role_of)) (λ r. rw (q, role_of, e, role_of, r, role_of)))

own_none : (g : ℕ) → names_state g ≡ false → (o : ℕ) (is : List Load) → names_from own_name g o is ≡ []
unfolding names_from
own_none g n o [] = refl
own_none g n o (i ∷ is) = ap₂ ◌++◌ (no i.key) (own_none g n (o + length i.bytes) is)
  where
    no : (k : ℕ) → own_name (role_of g k) o i.bytes ≡ []
    no k =
        unfold role_of is_name own_name in
        by (is_masked k) (λ q. rw (q, role_of)) (λ q. by (is_names g k) (λ r. rw (q, role_of, n, role_of, and_no (eqb k 1), role_of, r, role_of)) (λ r. rw (q, role_of, n, role_of, and_no (eqb k 1), role_of, r, role_of)))

word_not : (g k o : ℕ) (v : List ℕ) → is_names g k ≡ false → word_names (role_of g k) o v ≡ []
unfolding role_of word_names
word_not g k o v e =
    by (is_masked k) (λ q. rw (q, role_of)) (λ q. by (is_name g k) (λ r. rw (q, role_of, r, role_of)) (λ r. rw (q, role_of, r, role_of, e, role_of)))

not_transition : (g : ℕ) → names_state g ≡ true → eqb g 16 ≡ false
unfolding names_state among
not_transition g n = by (eqb g 16) (λ q. true_is_false (sym n ∙ ap names_state (eqb-true g 16 q))) (λ q. q)

words_none : (g : ℕ) → names_state g ≡ false → eqb g 16 ≡ false → (o : ℕ) (is : List Load) → names_from word_names g o is ≡ []
unfolding names_from
words_none g n e o [] = refl
words_none g n e o (i ∷ is) = ap₂ ◌++◌ (word_not g i.key o i.bytes (no i.key)) (words_none g n e (o + length i.bytes) is)
  where
    no : (j : ℕ) → is_names g j ≡ false
    no j = unfold is_names in rw (n, e, and_no (eqb j 2), and_no (eqb j 17))

state_role : (g : ℕ) → names_state g ≡ true → role_of g 2 ≡ names
state_role g n = unfold role_of is_masked is_name is_names among in rw (n, role_of)

state_only : (g : ℕ) → names_state g ≡ true → (j : ℕ) → eqb j 2 ≡ false → is_names g j ≡ false
state_only g n j e = unfold is_names in rw (e, not_transition g n, and_no (eqb j 17))

target_role : role_of 16 17 ≡ names
target_role = unfold role_of is_masked is_name is_names among names_state in refl

target_only : (j : ℕ) → eqb j 17 ≡ false → is_names 16 j ≡ false
target_only j e = unfold is_names names_state among in rw (e, and_no (eqb j 2))

-- ---- names that a key brings

module _ (g k : ℕ) (f : Role → ℕ → List ℕ → List Piece) (no : (j o : ℕ) (v : List ℕ) → eqb j k ≡ false → f (role_of g j) o v ≡ []) where
  from_none : (o : ℕ) (is : List Load) → has_load k is ≡ false → names_from f g o is ≡ []
  unfolding names_from
  from_none o [] h = refl
  from_none o (i ∷ is) h =
      by (eqb i.key k) (λ q. true_is_false (sym (has_here k i is q) ∙ h))
      (λ q. ap₂ ◌++◌ (no i.key o i.bytes q) (from_none (o + length i.bytes) is (sym (has_past k i is q) ∙ h)))

  -- A key that stands at most once: its names stand where its value does.
  from_once : (o : ℕ) (is : List Load) → times k is ≤ 1 → names_from f g o is ≡ elim (has_load k is) [ true ↦ f (role_of g k) (o + offset_in k is) (value_in k is) | false ↦ [] ]
  unfolding names_from
  from_once o [] h = unfold has_load in refl
  from_once o (i ∷ is) h =
      by (eqb i.key k)
      (λ q.
      let e : i.key ≡ k = eqb-true i.key k q in
      let r : names_from f g (o + length i.bytes) is ≡ [] = from_none (o + length i.bytes) is (none_times k is (omega (arith, h, times_here k i is q))) in
      let a : o ≡ o + offset_in k (i ∷ is) = omega (arith, offset_here k i is q) in
      ap (λ (x : List Piece). f (role_of g i.key) o i.bytes ++ x) r ∙ append-nil (f (role_of g i.key) o i.bytes) ∙ ap (λ (x : ℕ). f (role_of g x) o i.bytes) e
      ∙ ap₂ (λ (x : ℕ) (v : List ℕ). f (role_of g k) x v) a (sym (value_here k i is q)) ∙ sym (rw (has_here k i is q)))
      (λ q.
      let a : o + length i.bytes + offset_in k is ≡ o + offset_in k (i ∷ is) = omega (arith, offset_past k i is q) in
      ap (λ (x : List Piece). x ++ names_from f g (o + length i.bytes) is) (no i.key o i.bytes q) ∙ from_once (o + length i.bytes) is (omega (arith, h, times_past k i is q))
      ∙ ap₂ (λ (x : ℕ) (v : List ℕ). elim (has_load k is) [ true ↦ f (role_of g k) x v | false ↦ [] ]) a (sym (value_past k i is q))
      ∙ ap (λ (b : Bool). elim b [ true ↦ f (role_of g k) (o + offset_in k (i ∷ is)) (value_in k (i ∷ is)) | false ↦ [] ]) (sym (has_past k i is q)))

words_stand : (g k : ℕ) → role_of g k ≡ names → ((j : ℕ) → eqb j k ≡ false → is_names g j ≡ false) → (o : ℕ) (is : List Load) → times k is ≤ 1
    → names_from word_names g o is ≡ state_words_at (o + offset_in k is) (value_in k is)
unfolding word_names
words_stand g k role only o is h =
    from_once g k word_names (λ j p v q. word_not g j p v (only j q)) o is h
    ∙ by (has_load k is) (λ q. rw q (ap (λ (r : Role). word_names r (o + offset_in k is) (value_in k is)) role))
    (λ q. rw q (sym (ap (state_words_at (o + offset_in k is)) (value_none k is q) ∙ none_at (o + offset_in k is))))
  where
    none_at : (a : ℕ) → state_words_at a [] ≡ []
    none_at a = unfold state_words_at pieces emit in refl

-- ---- the element's own name: its id, or a generated one

record Id (is : List Load) (w : List ℕ) : Type 0 where
  once : times 1 is ≤ 1
  has : has_load 1 is ≡ true
  value : value_in 1 is ≡ w

has_first : (k : ℕ) (is js : List Load) → has_load k is ≡ true → has_load k (is ++ js) ≡ true
unfolding has_load
has_first k [] js h = true_is_false (sym h)
has_first k (i ∷ is) js h = by (eqb i.key k) (λ q. has_here k i (is ++ js) q) (λ q. has_past k i (is ++ js) q ∙ has_first k is js (sym (has_past k i is q) ∙ h))

module _ (vs tx : List Load) (quiet : has_load 1 tx ≡ false) where
  id_given : times 1 vs ≤ 1 → has_load 1 vs ≡ true → Id (vs ++ tx ++ []) (value_in 1 vs)
  unfolding times has_load
  id_given h q =
      record {
        once = omega (arith, h, times_append 1 (vs ++ tx) [], times_append 1 vs tx, times_none 1 tx quiet);
        has = has_first 1 (vs ++ tx) [] (has_first 1 vs tx q);
        value = value_append 1 (vs ++ tx) [] refl ∙ value_append 1 vs tx quiet;
      }

  id_made : (w : List ℕ) → has_load 1 vs ≡ false → Id (vs ++ tx ++ record { key = 1; bytes = w } ∷ []) w
  unfolding times has_load value_in
  id_made w q =
      let js : List Load = record { key = 1; bytes = w } ∷ [] in
      let none : has_load 1 (vs ++ tx) ≡ false = has_behind 1 vs tx q ∙ quiet in
      record {
        once = omega (arith, times_append 1 (vs ++ tx) js, times_none 1 (vs ++ tx) none);
        has = has_behind 1 (vs ++ tx) js none;
        value = value_behind 1 (vs ++ tx) js none;
      }

module _ (e : Event) (g n : ℕ) (differ : keys_differ e.attributes ≡ true) where
  abbrev vs : List Load
  vs = value_loads e.attributes

  abbrev is : List Load
  is = loads_of g n e

  own_id : names_state g ≡ true → eqb e.kind 3 ≡ false → Id is (own_in n vs)
  unfolding loads_of is_generated name_loads own_in
  own_id s k = by (has_load 1 vs)
      (λ q. rw (k, s, q, own_in) (id_given vs (text_loads g e.text) (no_text 1 g e.text refl refl) (once 0 e.attributes differ) q))
      (λ q. rw (k, s, q, own_in) (id_made vs (text_loads g e.text) (no_text 1 g e.text refl refl) (generated_name (suc n)) q))

  pub own_named : names_state g ≡ true → eqb e.kind 3 ≡ false → value_in 1 is ≡ own_in n vs
  own_named s k = (own_id s k).value

  pub has_own : names_state g ≡ true → eqb e.kind 3 ≡ false → has_load 1 is ≡ true
  has_own s k = (own_id s k).has

  value_once : (i : ℕ) → Own g (suc i) → times (suc i) is ≤ 1
  unfolding loads_of
  value_once i w =
      let tx : List Load = text_loads g e.text in
      let made : List Load = name_loads (is_generated e.kind g vs) (suc n) in
      let r = rest_none g n e (suc i) w in
      omega (arith, once i e.attributes differ, times_append (suc i) (vs ++ tx) made, times_append (suc i) vs tx, times_none (suc i) made r.0, times_none (suc i) tx r.1)

  -- o: where the payload begins
  pub state_stands : names_state g ≡ true → eqb e.kind 3 ≡ false → (o : ℕ)
      → names_brought g o is ≡ record { off = o + offset_in 1 is; word = value_in 1 is } ∷ state_words_at (o + offset_in 2 is) (value_in 2 is)
  unfolding names_brought own_name
  state_stands s k o =
      let w : Id is (own_in n vs) = own_id s k in
      ap₂ ◌++◌
      (from_once g 1 own_name (λ j p v q. own_other g j p v q) o is w.once
      ∙ ap (λ (b : Bool). elim b as (λ c. List Piece) [ true ↦ own_name (role_of g 1) (o + offset_in 1 is) (value_in 1 is) | false ↦ [] ]) w.has
      ∙ ap (λ (r : Role). own_name r (o + offset_in 1 is) (value_in 1 is)) (id_name g s))
      (words_stand g 2 (state_role g s) (state_only g s) o is (value_once 1 (other refl refl refl)))

  pub transition_stands : g ≡ 16 → (o : ℕ) → names_brought g o is ≡ state_words_at (o + offset_in 17 is) (value_in 17 is)
  unfolding names_brought
  transition_stands t o =
      ap₂ ◌++◌ (own_none g (ap names_state t) o is)
      (words_stand g 17 (ap (λ (x : ℕ). role_of x 17) t ∙ target_role) (λ j q. ap (λ (x : ℕ). is_names x j) t ∙ target_only j q) o is (value_once 16 (other refl refl refl)))

  pub others_bring : names_state g ≡ false → eqb g 16 ≡ false → (o : ℕ) → names_brought g o is ≡ []
  unfolding names_brought
  others_bring s t o = ap₂ ◌++◌ (own_none g s o is) (words_none g s t o is)
