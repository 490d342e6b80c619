-- THE LAW OF AN EVENT'S TEXTS: the table is the look's.
use Prim.Native.Nat.{ℕ, suc, ◌+◌, ◌<◌}
use mathlib.Core.Path.{◌≡◌, refl, sym, ap, ap₂, ◌∙◌, subst}
use mathlib.Core.Bool.{Bool, true, false, ◌||◌}
use mathlib.Core.Option.{Option, none, some}
use mathlib.Core.List.{List, [], ◌∷◌, ◌++◌, append_assoc, map}
use native.Mathlib.Omega.{arith}
use lib.Dec.{eqb}
use lib.ListN.{length, get_or, replicate, length-append}
use borrow.Author.Tests.{ne_eqb}
use Rattle.definition.specs.Text.{Span, quoted, trim}
use Rattle.definition.specs.Elements.{Role, plain, role_of, is_masked, is_name, is_names, among, key_of, tag_of}
use Rattle.definition.specs.Event.{Attribute, Event}
use Rattle.definition.specs.Rows.{Cell, no_cell}
use Rattle.definition.specs.Look.{Load, value_loads, text_loads, has_load, name_loads, is_generated, payload, loads_of, field_by, fields_from, words_by_role, word_spans, is_events, is_namelist, shift}
use Rattle.definition.specs.Change.{field_in, field_cell, trimmed_cell}
use Rattle.words.proofs.Laws.{by}
use Rattle.definition.proofs.Base.{key_small, and_no}
use Rattle.plain.specs.Plain.{parsed_of}
use Rattle.plain.specs.Keyed.{value_in, offset_in}
use Rattle.plain.proofs.ValueLaws.{offset_past}
use Rattle.heard.proofs.FieldLaw.{field_is, field_some, field_no}
use Rattle.plain.proofs.ValueLaws.{has_append, has_behind, value_append, value_behind}
use Rattle.payload.specs.Payload.{made_in, all_loads}
use Rattle.fill.specs.Fill.{cell, texts_of}
use Rattle.texts.specs.Texts.{closed, texts_in}
use Rattle.texts.proofs.LookLaw.{texts_law}
use Rattle.texts.specs.EventTexts.{trimmed_of, quoted_of, event_texts}

offset_behind : (k : ℕ) (is js : List Load) → has_load k is ≡ false → offset_in k (is ++ js) ≡ length (payload is) + offset_in k js
unfolding has_load payload
offset_behind k [] js h = omega arith
offset_behind k (i ∷ is) js h =
    by (eqb i.key k) (λ q. let z : ◌≡◌ {A = Bool} true false = rw (q, has_load) at h in absurd (truth z))
    (λ q. omega (arith, offset_past k i (is ++ js) q, offset_behind k is js (rw (q, has_load) at h), length-append i.bytes (payload is)))
  where
    truth : ◌≡◌ {A = Bool} true false → ⊥
    truth z = subst (λ (b : Bool). elim b as (λ c. Type 0) [ true ↦ Unit {0} | false ↦ ⊥ ]) z tt

-- No value has the key of a text.
values_none : (k : ℕ) → 28 < k → (ats : List Attribute) → has_load k (value_loads ats) ≡ false
unfolding value_loads has_load
values_none k h [] = refl
values_none k h (a ∷ ats) =
    let q : eqb (key_of a.key) k ≡ false = ne_eqb (key_of a.key) k (λ e. absurd (omega (arith, e, key_small a.key))) in
    let z : has_load k (value_loads ats) ≡ false = values_none k h ats in
    rw (q, has_load) z

made_none : (k : ℕ) → eqb 1 k ≡ false → (b : Bool) (n : ℕ) → has_load k (name_loads b n) ≡ false
unfolding name_loads has_load
made_none k a true n = rw (a, has_load)
made_none k a false n = refl

text_role_lem : (g : ℕ) → role_of g 29 ≡ plain
unfolding role_of is_masked is_name is_names among
text_role_lem g = refl

text_spans : (g : ℕ) (v : List ℕ) → word_spans g 29 v ≡ trim v ∷ []
unfolding word_spans is_events is_namelist
text_spans g v = rw (and_no (eqb g 16), word_spans, and_no (eqb g 19 || eqb g 8), word_spans)

module _ (e : Event) (n b : ℕ) where
  abbrev g : ℕ
  g = tag_of e.name

  abbrev vs : List Load
  vs = value_loads e.attributes

  abbrev made : List Load
  made = name_loads (is_generated e.kind g vs) (suc n)

  abbrev is : List Load
  is = loads_of g n e

  abbrev at : ℕ
  at = b + length (payload vs)

  -- A key of texts: its load is the text's, or there is none.
  module _ (k : ℕ) (high : 28 < k) where
    one_not : eqb 1 k ≡ false
    one_not = ne_eqb 1 k (λ z. omega (arith, z))

    has_text_lem : has_load k is ≡ has_load k (text_loads g e.text)
    unfolding loads_of
    has_text_lem = has_append k (vs ++ text_loads g e.text) made (made_none k one_not (is_generated e.kind g vs) (suc n)) ∙ has_behind k vs (text_loads g e.text) (values_none k high e.attributes)

    value_text_lem : value_in k is ≡ value_in k (text_loads g e.text)
    unfolding loads_of
    value_text_lem = value_append k (vs ++ text_loads g e.text) made (made_none k one_not (is_generated e.kind g vs) (suc n)) ∙ value_behind k vs (text_loads g e.text) (values_none k high e.attributes)

    offset_text : offset_in k (text_loads g e.text ++ made) ≡ 0 → offset_in k is ≡ length (payload vs)
    unfolding loads_of
    offset_text z =
        ap (offset_in k) (append_assoc vs (text_loads g e.text) made) ∙ offset_behind k vs (text_loads g e.text ++ made) (values_none k high e.attributes) ∙ add z
      where
        add : offset_in k (text_loads g e.text ++ made) ≡ 0 → length (payload vs) + offset_in k (text_loads g e.text ++ made) ≡ length (payload vs)
        add z = omega (arith, z)

    absent : has_load k (text_loads g e.text) ≡ false → field_in (fields_from g b is) k ≡ none
    absent h = field_is g k b is ∙ field_no g k b is (has_text_lem ∙ h)

    there : has_load k (text_loads g e.text) ≡ true → offset_in k (text_loads g e.text ++ made) ≡ 0
        → field_in (fields_from g b is) k ≡ some (field_by (role_of g k) g at (record { key = k; bytes = value_in k (text_loads g e.text) }))
    there h z =
        field_is g k b is ∙ field_some g k b is (has_text_lem ∙ h)
        ∙ ap₂ (λ (o : ℕ) (v : List ℕ). some (field_by (role_of g k) g (b + o) (record { key = k; bytes = v }))) (offset_text z) value_text_lem

  -- ---- the three cells

  is_text_lem : (v : List ℕ) → eqb g 23 ≡ false → text_loads g (some v) ≡ record { key = 29; bytes = v } ∷ []
  unfolding text_loads
  is_text_lem v q = rw (q, text_loads)

  is_quoted : (v : List ℕ) → eqb g 23 ≡ true → text_loads g (some v) ≡ record { key = 30; bytes = quoted v } ∷ []
  unfolding text_loads
  is_quoted v q = rw (q, text_loads)

  high29 : 28 < 29
  high29 = omega arith

  high30 : 28 < 30
  high30 = omega arith

  abbrev loads : Option (List ℕ) → List Load
  loads o = text_loads g o

  no_load : (k : ℕ) (o : Option (List ℕ)) (ls : List Load) → e.text ≡ o → loads o ≡ ls → has_load k ls ≡ false → has_load k (loads e.text) ≡ false
  no_load k o ls p q h = ap (λ (x : Option (List ℕ)). has_load k (loads x)) p ∙ ap (has_load k) q ∙ h

  one_load : (k : ℕ) (v w : List ℕ) → e.text ≡ some v → loads (some v) ≡ record { key = k; bytes = w } ∷ [] → eqb k k ≡ true
      → (has_load k (loads e.text) ≡ true) × ((offset_in k (loads e.text ++ made) ≡ 0) × (value_in k (loads e.text) ≡ w))
  unfolding has_load offset_in value_in
  one_load k v w p q r =
      let z : loads e.text ≡ record { key = k; bytes = w } ∷ [] = ap loads p ∙ q in (
        ap (has_load k) z ∙ rw (r, has_load),
        (ap (λ (x : List Load). offset_in k (x ++ made)) z ∙ rw (r, offset_in), ap (value_in k) z ∙ rw (r, value_in)),
      )

  trimmed_is : (d : Cell) (o : Option (List ℕ)) → e.text ≡ o → trimmed_cell d (field_in (fields_from g b is) 29) ≡ trimmed_of g at o d
  unfolding trimmed_cell trimmed_of text_loads has_load
  trimmed_is d none p = ap (trimmed_cell d) (absent 29 high29 (no_load 29 none [] p refl refl))
  trimmed_is d (some v) p =
      by (eqb g 23)
      (λ q. ap (trimmed_cell d) (absent 29 high29 (no_load 29 (some v) (record { key = 30; bytes = quoted v } ∷ []) p (is_quoted v q) refl)) ∙ sym (rw (q, trimmed_of)))
      (λ q.
      let L = one_load 29 v v p (is_text_lem v q) refl in
      ap (trimmed_cell d) (there 29 high29 L.0 L.1.0) ∙ cell_is v L.1.1 ∙ sym (rw (q, trimmed_of)))
    where
      cell_is : (v : List ℕ) → value_in 29 (loads e.text) ≡ v
          → trimmed_cell d (some (field_by (role_of g 29) g at (record { key = 29; bytes = value_in 29 (loads e.text) }))) ≡ shift at (trim v)
      cell_is v z =
          unfold trimmed_cell field_by words_by_role word_spans is_events is_namelist in
          ap₂ (λ (r : Role) (w : List ℕ). get_or (words_by_role r g at 29 w) 0 no_cell) (text_role_lem g) z ∙ ap (λ (x : List Span). get_or (map (shift at) x) 0 no_cell) (text_spans g v)

  quoted_is : (o : Option (List ℕ)) → e.text ≡ o → field_cell (field_in (fields_from g b is) 30) ≡ quoted_of g at o
  unfolding field_cell quoted_of text_loads has_load field_by cell
  quoted_is none p = ap field_cell (absent 30 high30 (no_load 30 none [] p refl refl))
  quoted_is (some v) p =
      by (eqb g 23)
      (λ q.
      let L = one_load 30 v (quoted v) p (is_quoted v q) refl in
      ap field_cell (there 30 high30 L.0 L.1.0) ∙ ap (λ (w : List ℕ). cell (suc at) (length w)) L.1.1 ∙ sym (rw (q, quoted_of)))
      (λ q. ap field_cell (absent 30 high30 (no_load 30 (some v) (record { key = 29; bytes = v } ∷ []) p (is_text_lem v q) refl)) ∙ sym (rw (q, quoted_of)))

  pub event_texts_lem : event_texts b n (parsed_of e) ≡ texts_of b (fields_from g b is)
  unfolding event_texts parsed_of all_loads made_in loads_of closed
  event_texts_lem =
      (λ j. closed (sym (trimmed_is no_cell e.text refl) j) (sym (quoted_is e.text refl) j) (sym (trimmed_is (cell (suc b) 0) e.text refl) j) (texts_in b is (replicate 64 0)))
      ∙ texts_law g b is
