-- THE LAW OF FIELDS: what the definition's look has of a key is what the event's values say.
use Prim.Native.Nat.{ℕ, ◌+◌}
use mathlib.Core.Path.{◌≡◌, refl, sym, ap, ap₂, ◌∙◌}
use mathlib.Core.Bool.{Bool, true, false}
use mathlib.Core.Option.{Option, none, some}
use mathlib.Core.List.{List, [], ◌∷◌}
use native.Mathlib.Omega.{arith}
use lib.Dec.{eqb}
use lib.ListN.{length, length-map}
use borrow.Author.Tests.{eqb-true}
use Rattle.definition.specs.Elements.{Role, plain, role_of, is_masked, is_name, is_names, among, tag_of}
use Rattle.definition.specs.Event.{Event}
use Rattle.definition.specs.Rows.{Store}
use Rattle.definition.specs.Look.{Load, value_loads, loads_of, has_load, Field, look, fields_from, field_by, code_by_role, words_by_role, code_of, word_spans, shift}
use Rattle.definition.specs.Change.{field_in, present, has, field_length, length_of, field_code, code_for, field_words, words_of}
use Rattle.definition.specs.States.{own_state}
use Rattle.definition.specs.Actions.{type_of}
use Rattle.definition.proofs.Base.{true_is_false}
use Rattle.words.proofs.Laws.{by}
use Rattle.plain.specs.Keyed.{value_in, offset_in}
use Rattle.plain.proofs.ValueLaws.{value_here, value_past, offset_here, offset_past, value_none}
use Rattle.plain.proofs.LoadLaw.{Own, other, own_has, own_value}
use Rattle.plain.specs.Plain.{parsed_of}
use Rattle.plan.specs.Heard.{heard}
use Rattle.plan.specs.Ids.{state_id}
use Rattle.heard.proofs.CodeLaws.{events_empty, names_empty, wildcard_empty, forward_empty}
use Rattle.heard.specs.Heard.{or_else, code_in, words_in, heard_in}

-- ---- a field by its key

-- The field of a key among loads that begin at o.
unfoldable pub field_of : ℕ → ℕ → ℕ → List Load → Option Field
field_of g k o is = elim (has_load k is) [ true ↦ some (field_by (role_of g k) g (o + offset_in k is) (record { key = k; bytes = value_in k is })) | false ↦ none ]

module _ (g k : ℕ) where
  field_has : (o : ℕ) (is : List Load) → has_load k is ≡ true → field_in (fields_from g o is) k ≡ some (field_by (role_of g k) g (o + offset_in k is) (record { key = k; bytes = value_in k is }))
  unfolding fields_from has_load field_in field_by
  field_has o [] h = true_is_false (sym h)
  field_has o (i ∷ is) h =
      by (eqb i.key k)
      (λ q.
      let e : i.key ≡ k = eqb-true i.key k q in
      let z : o ≡ o + offset_in k (i ∷ is) = omega (arith, offset_here k i is q) in
      let y : i ≡ record { key = k; bytes = value_in k (i ∷ is) } = λ j. record { key = e j; bytes = sym (value_here k i is q) j } in
      let w : field_in (fields_from g o (i ∷ is)) k ≡ some (field_by (role_of g i.key) g o i) = rw (q, field_in) in
      w ∙ ap (λ (x : ℕ). some (field_by (role_of g i.key) g x i)) z ∙ ap (λ (x : Load). some (field_by (role_of g x.key) g (o + offset_in k (i ∷ is)) x)) y)
      (λ q.
      let w : field_in (fields_from g o (i ∷ is)) k ≡ field_in (fields_from g (o + length i.bytes) is) k = rw (q, field_in) in
      let z : o + length i.bytes + offset_in k is ≡ o + offset_in k (i ∷ is) = omega (arith, offset_past k i is q) in
      w ∙ field_has (o + length i.bytes) is (rw (q, has_load) at h)
      ∙ ap₂ (λ (x : ℕ) (v : List ℕ). some (field_by (role_of g k) g x (record { key = k; bytes = v }))) z (sym (value_past k i is q)))

  field_none : (o : ℕ) (is : List Load) → has_load k is ≡ false → field_in (fields_from g o is) k ≡ none
  unfolding fields_from has_load field_in field_by
  field_none o [] h = refl
  field_none o (i ∷ is) h =
      by (eqb i.key k) (λ q. true_is_false (rw (q, has_load) at h))
      (λ q.
      let w : field_in (fields_from g o (i ∷ is)) k ≡ field_in (fields_from g (o + length i.bytes) is) k = rw (q, field_in) in
      w ∙ field_none (o + length i.bytes) is (rw (q, has_load) at h))

  module _ (o : ℕ) (is : List Load) where
    pub field_some : has_load k is ≡ true → field_of g k o is ≡ some (field_by (role_of g k) g (o + offset_in k is) (record { key = k; bytes = value_in k is }))
    unfolding field_of
    field_some q = rw (q, field_of)

    pub field_no : has_load k is ≡ false → field_of g k o is ≡ none
    unfolding field_of
    field_no q = rw (q, field_of)

  pub field_is : (o : ℕ) (is : List Load) → field_in (fields_from g o is) k ≡ field_of g k o is
  unfolding field_of
  field_is o is = by (has_load k is) (λ q. field_has o is q ∙ sym (rw (q, field_of))) (λ q. field_none o is q ∙ sym (rw (q, field_of)))

-- ---- the look

-- The code of no bytes may stand for that of an absent key.
code_empty : (g k : ℕ) (is : List Load) → 0 ≡ code_of g k [] → code_in 0 g k is ≡ code_of g k (value_in k is)
unfolding code_in or_else
code_empty g k is h = by (has_load k is) (λ q. rw q) (λ q. rw q (h ∙ sym (ap (code_of g k) (value_none k is q))))

module _ (s : Store) (e : Event) where
  abbrev tagged : ℕ
  tagged = tag_of e.name

  abbrev loads : List Load
  loads = loads_of tagged s.numbers.names e

  abbrev values : List Load
  values = value_loads e.attributes

  abbrev o : ℕ
  o = length s.text

  pub field_law : (k : ℕ) → field_in (look s e).fields k ≡ field_of tagged k o loads
  unfolding look
  field_law k = field_is tagged k o loads

  present_of : (k : ℕ) → present (field_of tagged k o loads) ≡ has_load k loads
  unfolding present
  present_of k = by (has_load k loads) (λ q. ap present (field_some tagged k o loads q) ∙ sym q) (λ q. ap present (field_no tagged k o loads q) ∙ sym q)

  -- WHETHER A KEY IS THERE
  pub has_law : (k : ℕ) → Own tagged k → has (look s e) k ≡ has_load k values
  unfolding has
  has_law k w = ap present (field_law k) ∙ present_of k ∙ own_has tagged s.numbers.names e k w

  -- ITS LENGTH
  pub length_law : (k : ℕ) → Own tagged k → length_of (look s e) k ≡ length (value_in k values)
  unfolding length_of
  length_law k w = ap field_length (field_law k) ∙ long (has_load k loads) refl ∙ ap length (own_value tagged s.numbers.names e k w)
    where
      long : (b : Bool) → has_load k loads ≡ b → field_length (field_of tagged k o loads) ≡ length (value_in k loads)
      long true q = unfold field_by field_length in ap field_length (field_some tagged k o loads q)
      long false q = unfold field_length in ap field_length (field_no tagged k o loads q) ∙ sym (ap length (value_none k loads q))

  module _ (k : ℕ) (w : Own tagged k) (role : role_of tagged k ≡ plain) where
    -- ITS CODE
    pub code_law : (d : ℕ) → code_for (look s e) k d ≡ code_in d tagged k values
    unfolding code_for code_in
    code_law d =
        ap (field_code d) (field_law k) ∙ code (has_load k loads) refl
        ∙ ap₂ (λ (b : Bool) (v : List ℕ). or_else b (code_of tagged k v) d) (own_has tagged s.numbers.names e k w) (own_value tagged s.numbers.names e k w)
      where
        code : (b : Bool) → has_load k loads ≡ b → field_code d (field_of tagged k o loads) ≡ or_else (has_load k loads) (code_of tagged k (value_in k loads)) d
        code true q =
            unfold field_by field_code code_by_role or_else in
            ap (field_code d) (field_some tagged k o loads q) ∙ ap (λ (r : Role). code_by_role r tagged k (value_in k loads)) role ∙ sym (ap (λ (b : Bool). or_else b (code_of tagged k (value_in k loads)) d) q)
        code false q = unfold field_code or_else in ap (field_code d) (field_no tagged k o loads q) ∙ sym (ap (λ (b : Bool). or_else b (code_of tagged k (value_in k loads)) d) q)

    -- HOW MANY WORDS IT HAS
    pub words_law : length (word_spans tagged k []) ≡ 0 → length (words_of (look s e) k) ≡ words_in tagged k values
    unfolding words_of words_in
    words_law h =
        ap (λ (x : Option Field). length (field_words x)) (field_law k) ∙ count (has_load k loads) refl
        ∙ ap (λ (v : List ℕ). length (word_spans tagged k v)) (own_value tagged s.numbers.names e k w)
      where
        count : (b : Bool) → has_load k loads ≡ b → length (field_words (field_of tagged k o loads)) ≡ length (word_spans tagged k (value_in k loads))
        count true q =
            unfold field_by field_words words_by_role in
            ap (λ (x : Option Field). length (field_words x)) (field_some tagged k o loads q)
            ∙ ap (λ (r : Role). length (words_by_role r tagged (o + offset_in k loads) k (value_in k loads))) role
            ∙ length-map (word_spans tagged k (value_in k loads)) (shift (o + offset_in k loads))
        count false q =
            unfold field_words in
            ap (λ (x : Option Field). length (field_words x)) (field_no tagged k o loads q) ∙ sym (ap (λ (v : List ℕ). length (word_spans tagged k v)) (value_none k loads q) ∙ h)

  -- WHAT IS HEARD OF IT
  pub heard_law : (own found : ℕ) → own ≡ own_state (look s e) → found ≡ (look s e).found → heard_in own found (parsed_of e) ≡ heard (look s e)
  unfolding heard_in heard parsed_of look role_of is_masked is_name is_names among
  heard_law own found eo ef =
      λ i.
      record {
        whole = eqb e.kind 2;
        own = state_id (eo i);
        initial = sym (has_law 2 (other refl refl refl)) i;
        expr = sym (has_law 19 (other refl refl refl)) i;
        binds = sym (has_law 5 (other refl refl refl)) i;
        binding = sym (code_law 5 (other refl refl refl) refl 0) i;
        mode = type_of (sym (code_law 7 (other refl refl refl) refl 0) i);
        history = sym (code_law 7 (other refl refl refl) refl 1) i;
        wildcard = sym (code_law 14 (other refl refl refl) refl 0 ∙ code_empty tagged 14 values (wildcard_empty tagged)) i;
        forward = sym (code_law 13 (other refl refl refl) refl 0 ∙ code_empty tagged 13 values (forward_empty tagged)) i;
        events = sym (words_law 14 (other refl refl refl) refl (sym (events_empty tagged))) i;
        names = sym (words_law 12 (other refl refl refl) refl (sym (names_empty tagged))) i;
        found = ef i;
      }
