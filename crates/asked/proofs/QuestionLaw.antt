-- THE LAW OF QUESTIONS: the definition's questions 5 to 12 are those of numbers.
use Prim.Native.Nat.{ℕ, suc, ◌+◌, ◌<◌}
use mathlib.Core.Path.{◌≡◌, refl, sym, ap, ap₂, ◌∙◌, subst}
use mathlib.Core.Bool.{Bool, true, false, not, ◌&&◌, ◌||◌}
use mathlib.Core.Option.{Option, none, some}
use mathlib.Core.List.{List, [], ◌∷◌, ◌++◌, append-nil}
use native.Mathlib.Omega.{arith}
use lib.Dec.{eqb, ltb, leb}
use lib.ListN.{length}
use borrow.Author.Tests.{eqb-true, eqb-false, ltb-true, ne_eqb}
use Rattle.definition.specs.declared.Limits.{Limits}
use Rattle.definition.specs.Elements.{Apart, among, names_state, tag_of, key_of, codings, words_taken, left_out_keys, requirements, required_in, exclusions, role_of, is_masked, is_name, is_names}
use Rattle.definition.specs.Nesting.{parent_allowed}
use Rattle.definition.specs.Event.{Attribute, Event}
use Rattle.definition.specs.Rows.{Store, Numbers, table_of, parent_tag, root}
use Rattle.definition.specs.Look.{Load, value_loads, text_loads, name_loads, is_generated, loads_of, has_load, Field, Look, look, code_of, word_spans, is_events, is_namelist, field_by, words_by_role, shift}
use Rattle.definition.specs.Change.{has, code_for, words_of, field_words}
use Rattle.definition.specs.Reader.{is_start, has_one_of, has_all, are_apart, is_whole, trimmed_length, text_apart, word_taken, is_left_out, questions}
use Rattle.definition.proofs.Base.{true_is_false, key_small}
use Rattle.words.proofs.Laws.{by}
use Rattle.plain.specs.Keyed.{value_in, offset_in}
use Rattle.plain.specs.Plain.{parsed_of}
use Rattle.plan.specs.Heard.{heard}
use Rattle.heard.specs.Heard.{or_else, code_in}
use Rattle.heard.proofs.CodeLaws.{binding_other, type_other}
use Rattle.plain.proofs.ValueLaws.{has_behind, value_behind}
use Rattle.plain.proofs.LoadLaw.{Own, other, id, made_none}
use Rattle.heard.proofs.FieldLaw.{has_law, length_law, code_law, field_law, field_some, field_no, field_of}
use Rattle.asked.specs.Asked.{one_by, all_by, pairs_by, left_out_by, complete_by, apart_by, trimmed_in, text_apart_in, asked_in, start_by, questions_by}
use Rattle.asked.proofs.AskedLaws.{keys_in, lists_in, all_in, pairs_in, left_alike, complete_alike, apart_alike}

-- ---- the definition's tests, by which keys are there

module _ (l : Look) where
  one_has : (ks : List ℕ) → has_one_of l ks ≡ one_by (has l) ks
  unfolding has_one_of one_by
  one_has [] = refl
  one_has (k ∷ ks) = ap (λ (b : Bool). has l k || b) (one_has ks)

  all_has : (kss : List (List ℕ)) → has_all l kss ≡ all_by (has l) kss
  unfolding has_all all_by
  all_has [] = refl
  all_has (ks ∷ kss) = ap₂ ◌&&◌ (one_has ks) (all_has kss)

  pairs_has : (as' : List Apart) → are_apart l as' ≡ pairs_by (has l) l.tag as'
  unfolding are_apart pairs_by
  pairs_has [] = refl
  pairs_has (a ∷ as') = ap (λ (b : Bool). not (eqb a.element l.tag && has l a.one && has l a.other) && b) (pairs_has as')

-- ---- elements that name a state ask for no id

names_each : (X : ℕ → Type 0) → X 1 → X 2 → X 3 → X 5 → X 6 → (g : ℕ) → names_state g ≡ true → X g
unfolding names_state among
names_each X a b c d e g h =
    by (eqb g 1) (λ q. subst X (sym (eqb-true g 1 q)) a) (λ q.
    by (eqb g 2) (λ r. subst X (sym (eqb-true g 2 r)) b) (λ r.
    by (eqb g 3) (λ s. subst X (sym (eqb-true g 3 s)) c) (λ s.
    by (eqb g 5) (λ t. subst X (sym (eqb-true g 5 t)) d) (λ t.
    by (eqb g 6) (λ u. subst X (sym (eqb-true g 6 u)) e) (λ u. true_is_false (sym (rw (q, among, r, among, s, among, t, among, u, among) at h)))))))

complete_names : (f h : ℕ → Bool) (g : ℕ) → names_state g ≡ true → complete_by f g ≡ complete_by h g
unfolding complete_by all_by required_in requirements
complete_names f h = names_each (λ g. complete_by f g ≡ complete_by h g) refl refl refl refl refl

apart_names : (f h : ℕ → Bool) (g : ℕ) → names_state g ≡ true → apart_by f g ≡ apart_by h g
unfolding apart_by pairs_by exclusions
apart_names f h = names_each (λ g. apart_by f g ≡ apart_by h g) refl refl refl refl refl

-- ---- no key has the number of a text

values_no_text : (ats : List Attribute) → has_load 29 (value_loads ats) ≡ false
unfolding value_loads has_load
values_no_text [] = refl
values_no_text (a ∷ ats) =
    let q : eqb (key_of a.key) 29 ≡ false = ne_eqb (key_of a.key) 29 (λ e. absurd (omega (arith, e, key_small a.key))) in
    let z : has_load 29 (value_loads ats) ≡ false = values_no_text ats in
    rw (q, has_load) z

module _ (s : Store) (e : Event) where
  abbrev l : Look
  l = look s e

  abbrev g : ℕ
  g = tag_of e.name

  abbrev vs : List Load
  vs = value_loads e.attributes

  -- Keys that stand among the values alone.
  abbrev inner : ℕ → Bool
  inner n = ltb n 29 && not (eqb n 1)

  inner_own : (n : ℕ) → inner n ≡ true → Own g n
  inner_own n h =
      by (ltb n 29)
      (λ q. by (eqb n 1) (λ r. true_is_false (sym (rw (q, r) at h))) (λ r. let b : n < 29 = ltb-true n 29 q in
      other (ne_eqb 29 n (λ z. absurd (omega (arith, z)))) (ne_eqb 30 n (λ z. absurd (omega (arith, z)))) (ne_eqb 1 n (λ z. eqb-false n 1 r (sym z)))))
      (λ q. true_is_false (sym (rw q at h)))

  small_own : names_state g ≡ false → (n : ℕ) → ltb n 29 ≡ true → Own g n
  small_own w n h =
      by (eqb n 1) (λ r. subst (Own g) (sym (eqb-true n 1 r)) (id w)) (λ r. let b : n < 29 = ltb-true n 29 h in
      other (ne_eqb 29 n (λ z. absurd (omega (arith, z)))) (ne_eqb 30 n (λ z. absurd (omega (arith, z)))) (ne_eqb 1 n (λ z. eqb-false n 1 r (sym z))))

  six : is_left_out l ≡ left_out_by (λ n. has_load n vs) g
  unfolding is_left_out look
  six =
      ap (λ (b : Bool). eqb g 27 || b) (one_has l (left_out_keys g))
      ∙ unfold left_out_by in left_alike inner (has l) (λ n. has_load n vs) (λ n q. has_law s e n (inner_own n q)) g refl refl

  ten : has_all l (required_in requirements g) ≡ complete_by (λ n. has_load n vs) g
  ten =
      all_has l (required_in requirements g)
      ∙ by (names_state g) (λ q. unfold complete_by in complete_names (has l) (λ n. has_load n vs) g q)
      (λ q. unfold complete_by all_in lists_in keys_in requirements in complete_alike (λ n. ltb n 29) (has l) (λ n. has_load n vs) (λ n r. has_law s e n (small_own q n r)) g refl)

  pairs : are_apart l exclusions ≡ apart_by (λ n. has_load n vs) g
  unfolding look
  pairs =
      pairs_has l exclusions
      ∙ by (names_state g) (λ q. unfold apart_by in apart_names (has l) (λ n. has_load n vs) g q)
      (λ q. unfold apart_by pairs_in exclusions in apart_alike (λ n. ltb n 29) (has l) (λ n. has_load n vs) (λ n r. has_law s e n (small_own q n r)) g refl)

  -- the text of a data
  module _ (datum : g ≡ 9) where
    abbrev loads : List Load
    loads = loads_of g s.numbers.names e

    abbrev made : List Load
    made = name_loads (is_generated e.kind g vs) (suc s.numbers.names)

    none_made : made ≡ []
    unfolding name_loads names_state among
    none_made = ap (λ (b : Bool). name_loads b (suc s.numbers.names)) (made_none g s.numbers.names e (ap names_state datum))

    loads_are : loads ≡ vs ++ text_loads 9 e.text
    unfolding loads_of
    loads_are = ap (λ (x : List Load). vs ++ text_loads g e.text ++ x) none_made ∙ append-nil (vs ++ text_loads g e.text) ∙ ap (λ (x : ℕ). vs ++ text_loads x e.text) datum

    abbrev field : Option Field
    field = field_of g 29 (length s.text) loads

    trimmed_law : trimmed_length (words_of l 29) ≡ trimmed_in e.text
    unfolding words_of
    trimmed_law = ap (λ (x : Option Field). trimmed_length (field_words x)) (field_law s e 29) ∙ go e.text refl
      where
        go : (o : Option (List ℕ)) → e.text ≡ o → trimmed_length (field_words field) ≡ trimmed_in o
        go none q =
            unfold text_loads has_load field_words trimmed_length trimmed_in in
            let z : has_load 29 loads ≡ false = ap (has_load 29) (loads_are ∙ ap (λ (o : Option (List ℕ)). vs ++ text_loads 9 o) q) ∙ has_behind 29 vs [] (values_no_text e.attributes) in
            ap (λ (x : Option Field). trimmed_length (field_words x)) (field_no g 29 (length s.text) loads z)
        go (some v) q =
            unfold text_loads has_load value_in field_words trimmed_length trimmed_in field_by words_by_role role_of is_masked is_name is_names among word_spans is_events is_namelist shift in
            let i : Load = record { key = 29; bytes = v } in
            let y : loads ≡ vs ++ i ∷ [] = loads_are ∙ ap (λ (o : Option (List ℕ)). vs ++ text_loads 9 o) q in
            let z : has_load 29 loads ≡ true = ap (has_load 29) y ∙ has_behind 29 vs (i ∷ []) (values_no_text e.attributes) in
            let x : value_in 29 loads ≡ v = ap (value_in 29) y ∙ value_behind 29 vs (i ∷ []) (values_no_text e.attributes) in
            ap (λ (f : Option Field). trimmed_length (field_words f)) (field_some g 29 (length s.text) loads z)
            ∙ ap₂ (λ (t : ℕ) (w : List ℕ). trimmed_length (words_by_role (role_of t 29) t (length s.text + offset_in 29 loads) 29 w)) datum x

  text_law : text_apart l ≡ text_apart_in (parsed_of e)
  unfolding text_apart text_apart_in parsed_of look is_whole
  text_law =
      ap₂ (λ (b : Bool) (n : ℕ). not (eqb g 9 && b && leb 1 (trimmed_length (words_of l 29))) && not (eqb g 15 && b && eqb e.kind 2) && not (eqb g 23 && leb 1 n && eqb e.kind 2)) (has_law s e 19 (other refl refl refl))
      (length_law s e 19 (other refl refl refl))
      ∙ ap (λ (b : Bool). not b && not (eqb g 15 && has_load 19 vs && eqb e.kind 2) && not (eqb g 23 && leb 1 (length (value_in 19 vs)) && eqb e.kind 2)) (datum (eqb g 9) refl)
    where
      datum : (b : Bool) → eqb g 9 ≡ b → (eqb g 9 && has_load 19 vs && leb 1 (trimmed_length (words_of l 29))) ≡ (eqb g 9 && has_load 19 vs && leb 1 (trimmed_in e.text))
      datum true q = ap (λ (n : ℕ). eqb g 9 && has_load 19 vs && leb 1 n) (trimmed_law (eqb-true g 9 q))
      datum false q = rw q

  -- ---- question 12

  words_binding : (g ≡ 1 → ⊥) → words_taken codings g 5 ≡ []
  unfolding words_taken codings
  words_binding h = rw (ne_eqb 1 g (λ z. h (sym z)), words_taken, and_no (eqb 6 g), words_taken, and_no (eqb 16 g), words_taken)
    where
      and_no : (b : Bool) → (b && false) ≡ false
      and_no true = refl
      and_no false = refl

  words_type : (g ≡ 6 → ⊥) → (g ≡ 16 → ⊥) → words_taken codings g 7 ≡ []
  unfolding words_taken codings
  words_type h k = rw (and_no (eqb 1 g), words_taken, ne_eqb 6 g (λ z. h (sym z)), words_taken, ne_eqb 16 g (λ z. k (sym z)), words_taken)
    where
      and_no : (b : Bool) → (b && false) ≡ false
      and_no true = refl
      and_no false = refl

  abbrev taken : List (List ℕ) → Bool → ℕ → Bool
  taken ws b c = eqb (length ws) 0 || not b || ltb c (length ws)

  some_words_lem : (n : ℕ) (b : Bool) (c d : ℕ) → ltb d n ≡ true → (false || not b || ltb (or_else b c 0) n) ≡ ltb (or_else b c d) n
  unfolding or_else
  some_words_lem n true c d h = refl
  some_words_lem n false c d h = sym h

  no_words : (n : ℕ) (b : Bool) (d : ℕ) → ltb 0 n ≡ true → ltb d n ≡ true → true ≡ ltb (or_else b 0 d) n
  unfolding or_else
  no_words n true d h k = sym h
  no_words n false d h k = sym k

  binding_mid : taken (words_taken codings g 5) (has_load 5 vs) (code_in 0 g 5 vs) ≡ ltb (code_in 0 g 5 vs) 2
  unfolding code_in words_taken codings
  binding_mid =
      let c : ℕ = code_of g 5 (value_in 5 vs) in
      let b : Bool = has_load 5 vs in
      by (eqb g 1) (λ q. ap (λ (x : ℕ). taken (words_taken codings x 5) b (or_else b c 0)) (eqb-true g 1 q) ∙ some_words_lem 2 b c 0 refl)
      (λ q.
      let h : g ≡ 1 → ⊥ = eqb-false g 1 q in
      ap₂ (λ (ws : List (List ℕ)) (x : ℕ). taken ws b (or_else b x 0)) (words_binding h) (sym (binding_other (value_in 5 vs) g h)) ∙ no_words 2 b 0 refl refl ∙ ap (λ (x : ℕ). ltb (or_else b x 0) 2) (binding_other (value_in 5 vs) g h))

  binding_law : word_taken l 5 ≡ ltb (code_for l 5 0) 2
  unfolding word_taken look role_of is_masked is_name is_names among
  binding_law =
      ap₂ (taken (words_taken codings g 5)) (has_law s e 5 (other refl refl refl)) (code_law s e 5 (other refl refl refl) refl 0) ∙ binding_mid
      ∙ ap (λ (x : ℕ). ltb x 2) (sym (code_law s e 5 (other refl refl refl) refl 0))

  type_mid : taken (words_taken codings g 7) (has_load 7 vs) (code_in 0 g 7 vs) ≡ ltb (code_in 1 g 7 vs) 3
  unfolding code_in words_taken codings
  type_mid =
      let c : ℕ = code_of g 7 (value_in 7 vs) in
      let b : Bool = has_load 7 vs in
      by (eqb g 6) (λ q. ap (λ (x : ℕ). taken (words_taken codings x 7) b (or_else b c 0)) (eqb-true g 6 q) ∙ some_words_lem 3 b c 1 refl)
      (λ q.
      by (eqb g 16) (λ r. ap (λ (x : ℕ). taken (words_taken codings x 7) b (or_else b c 0)) (eqb-true g 16 r) ∙ some_words_lem 3 b c 1 refl)
      (λ r.
      let h : g ≡ 6 → ⊥ = eqb-false g 6 q in
      let k : g ≡ 16 → ⊥ = eqb-false g 16 r in
      ap₂ (λ (ws : List (List ℕ)) (x : ℕ). taken ws b (or_else b x 0)) (words_type h k) (sym (type_other (value_in 7 vs) g h k)) ∙ no_words 3 b 1 refl refl ∙ ap (λ (x : ℕ). ltb (or_else b x 1) 3) (type_other (value_in 7 vs) g h k)))

  type_law : word_taken l 7 ≡ ltb (code_for l 7 1) 3
  unfolding word_taken look role_of is_masked is_name is_names among
  type_law =
      ap₂ (taken (words_taken codings g 7)) (has_law s e 7 (other refl refl refl)) (code_law s e 7 (other refl refl refl) refl 0) ∙ type_mid
      ∙ ap (λ (x : ℕ). ltb x 3) (sym (code_law s e 7 (other refl refl refl) refl 1))

  -- THE QUESTIONS
  pub questions_law : (L : Limits) → L.opened ≡ 32 → (n : Numbers)
      → questions L n l ≡ questions_by (heard l) (asked_in (parsed_of e)) l.innermost (length (table_of n 9)) (parent_tag n) (root n)
  unfolding questions questions_by start_by heard asked_in parsed_of look is_start
  questions_law L h n =
      λ i.
      record { yes = not (eqb e.kind 3) || l.innermost; otherwise = 5 }
      ∷ record { yes = not (six i); otherwise = 6 }
      ∷ record { yes = not (not (eqb e.kind 3)) || ltb (length (table_of n 9)) (h i); otherwise = 7 }
      ∷ record { yes = not (not (eqb e.kind 3)) || parent_allowed g (parent_tag n); otherwise = 8 }
      ∷ record { yes = not (not (eqb e.kind 3)) || not (eqb g 1) || eqb (root n) 0; otherwise = 9 }
      ∷ record { yes = not (not (eqb e.kind 3)) || ten i; otherwise = 10 }
      ∷ record { yes = pairs i && text_law i; otherwise = 11 }
      ∷ record { yes = binding_law i && type_law i; otherwise = 12 }
      ∷ []
