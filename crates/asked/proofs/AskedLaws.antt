-- The questions' parts.
use Prim.Native.Nat.{ℕ}
use mathlib.Core.Path.{◌≡◌, refl, sym, ap, ap₂, ◌∙◌}
use mathlib.Core.Bool.{Bool, true, false, not, ◌&&◌, ◌||◌}
use mathlib.Core.Option.{Option, none, some}
use mathlib.Core.List.{List, [], ◌∷◌, ◌++◌}
use native.Mathlib.Omega.{arith}
use lib.Dec.{eqb, ltb, leb}
use lib.ListN.{length}
use borrow.Author.Tests.{ltb-true, ltb-false, lt-leb, eq-eqb, ne_eqb, eqb-true, eqb-false, le-leb}
use Rattle.definition.specs.Text.{Span, trim}
use Rattle.definition.specs.Elements.{left_out_keys, Required, requirements, required_in, Apart, exclusions}
use Rattle.definition.specs.Look.{has_load}
use Rattle.definition.specs.Reader.{Question, first_no}
use Rattle.definition.proofs.Base.{and_left, and_right, true_is_false, and_true, and_no, or_no}
use Rattle.words.proofs.Laws.{by}
use Rattle.words.specs.declared.Part.{Part}
use Rattle.words.specs.Next.{as_span}
use Rattle.plain.specs.declared.Plain.{Plain}
use Rattle.plain.specs.Plain.{Parsed, slot_bytes, parsed_in, text_if}
use Rattle.plain.specs.Keyed.{value_in}
use Rattle.definition.specs.Codes.{kind_number, refusal_number}
use Rattle.definition.specs.declared.codes.Refusal.{Refusal}
use Rattle.definition.specs.declared.codes.Refusal.TheVariants as R
use Rattle.heard.proofs.CodeLaws.{flip}
use Rattle.definition.specs.Nesting.{parent_allowed}
use Rattle.plan.specs.declared.Heard.{Heard}
use Rattle.asked.specs.Asked.{questions_by, one_by, all_by, pairs_by, left_out_by, complete_by, apart_by, trimmed_in, text_apart_in, Asked, asked_in, start_by}

-- ---- question 6

module _ (f : ℕ → Bool) (g : ℕ) where
  pub out_include : g ≡ 27 → true ≡ left_out_by f g
  unfolding left_out_by
  out_include e = rw (eq-eqb g 27 e)

  out_by : (g ≡ 27 → ⊥) → (ks : List ℕ) → left_out_keys g ≡ ks → left_out_by f g ≡ one_by f ks
  unfolding left_out_by
  out_by e ks h = ap₂ (λ (b : Bool) (x : List ℕ). b || one_by f x) (ne_eqb g 27 e) h

  pub out_at : (j k : ℕ) → eqb j 27 ≡ false → left_out_keys j ≡ k ∷ [] → g ≡ j → (r : Bool) → r ≡ f k → r ≡ left_out_by f g
  unfolding left_out_by one_by
  out_at j k a b e r h = h ∙ sym (ap₂ (λ (x : Bool) (ks : List ℕ). x || one_by f ks) a b ∙ or_no (f k)) ∙ sym (ap (left_out_by f) e)

  pub out_none : (g ≡ 27 → ⊥) → (g ≡ 9 → ⊥) → (g ≡ 26 → ⊥) → (g ≡ 19 → ⊥) → false ≡ left_out_by f g
  unfolding left_out_keys one_by
  out_none e a b d =
      let h : (eqb g 9 || eqb g 26) ≡ false = ap₂ ◌||◌ (ne_eqb g 9 a) (ne_eqb g 26 b) in
      sym (out_by e [] (rw (h, left_out_keys, ne_eqb g 19 d, left_out_keys)))

  -- ---- question 10

  pub all_one : (k : ℕ) → required_in requirements g ≡ (k ∷ []) ∷ [] → (r : Bool) → r ≡ f k → r ≡ complete_by f g
  unfolding complete_by all_by one_by
  all_one k e r h = h ∙ sym (and_true (f k || false) ∙ or_no (f k)) ∙ sym (ap (all_by f) e)

  pub all_two : required_in requirements g ≡ (20 ∷ []) ∷ (21 ∷ []) ∷ [] → (a b : Bool) → a ≡ f 20 → b ≡ f 21 → (a && b) ≡ complete_by f g
  unfolding complete_by all_by one_by
  all_two e a b h k = ap₂ ◌&&◌ (h ∙ sym (or_no (f 20))) (k ∙ sym (or_no (f 21)) ∙ sym (and_true (f 21 || false))) ∙ sym (ap (all_by f) e)

  pub all_either : required_in requirements g ≡ (23 ∷ 24 ∷ []) ∷ [] → (a b : Bool) → a ≡ f 23 → b ≡ f 24 → (a || b) ≡ complete_by f g
  unfolding complete_by all_by one_by
  all_either e a b h k = ap₂ ◌||◌ h (k ∙ sym (or_no (f 24))) ∙ sym (and_true (f 23 || (f 24 || false))) ∙ sym (ap (all_by f) e)

  pub all_none : required_in requirements g ≡ [] → true ≡ complete_by f g
  unfolding complete_by all_by
  all_none e = sym (ap (all_by f) e)

abbrev pub keys : ℕ → List (List ℕ)
keys g = required_in requirements g

module _ (g : ℕ) where
  pub keys_at : (j : ℕ) (kss : List (List ℕ)) → required_in requirements j ≡ kss → g ≡ j → keys g ≡ kss
  keys_at j kss h e = ap keys e ∙ h

  pub keys_none : (g ≡ 9 → ⊥) → (g ≡ 25 → ⊥) → (g ≡ 24 → ⊥) → (g ≡ 13 → ⊥) → (g ≡ 14 → ⊥) → (g ≡ 23 → ⊥) → (g ≡ 20 → ⊥) → (g ≡ 21 → ⊥) → keys g ≡ []
  unfolding required_in requirements
  keys_none a b c d e h i j = rw (flip g 9 a, required_in, flip g 25 b, required_in, flip g 24 c, required_in, flip g 13 d, required_in, flip g 14 e, required_in, flip g 23 h, required_in, flip g 20 i, required_in, flip g 21 j, required_in)

-- ---- question 11

module _ (f : ℕ → Bool) (g : ℕ) where
  pub apart_send : g ≡ 19 → (a b c d : Bool) → a ≡ not (f 14 && f 15) → b ≡ not (f 17 && f 18) → c ≡ not (f 7 && f 8) → d ≡ not (f 1 && f 11) → (a && b && c && d) ≡ apart_by f g
  unfolding apart_by pairs_by exclusions
  apart_send e a b c d ea eb ec ed =
      go a b c d ∙ ap₂ (λ (x y : Bool). x && y) ea (ap₂ (λ (x y : Bool). x && y) eb (ap₂ (λ (x y : Bool). x && (y && (true && (true && true)))) ec ed)) ∙ sym (ap (λ (x : ℕ). pairs_by f x exclusions) e)
    where
      go : (a b c d : Bool) → (a && b && c && d) ≡ (a && (b && (c && (d && (true && (true && true))))))
      go true true true true = refl
      go true true true false = refl
      go true true false d = refl
      go true false c d = refl
      go false b c d = refl

  pub apart_cancel : g ≡ 21 → (a : Bool) → a ≡ not (f 23 && f 24) → a ≡ apart_by f g
  unfolding apart_by pairs_by exclusions
  apart_cancel e a ea = ea ∙ sym (and_true (not (f 23 && f 24))) ∙ sym (ap (λ (x : ℕ). pairs_by f x exclusions) e)

  pub apart_param : g ≡ 14 → (a : Bool) → a ≡ not (f 19 && f 27) → a ≡ apart_by f g
  unfolding apart_by pairs_by exclusions
  apart_param e a ea = ea ∙ sym (and_true (not (f 19 && f 27))) ∙ sym (ap (λ (x : ℕ). pairs_by f x exclusions) e)

  pub apart_other : (g ≡ 19 → ⊥) → (g ≡ 21 → ⊥) → (g ≡ 14 → ⊥) → true ≡ apart_by f g
  unfolding apart_by pairs_by exclusions
  apart_other a b c = rw (flip g 19 a, flip g 21 b, flip g 14 c) refl

-- ---- a text

module _ (src : List ℕ) (p : Plain) where
  pub text_none : (kind_number p.kind ≡ 2 → ⊥) → false ≡ leb 1 (trimmed_in (parsed_in src p).text)
  unfolding parsed_in text_if trimmed_in
  text_none h =
      let z : (parsed_in src p).text ≡ none = rw (ne_eqb (kind_number p.kind) 2 h, text_if) in
      sym (ap (λ (o : Option (List ℕ)). leb 1 (trimmed_in o)) z)

  pub text_some : kind_number p.kind ≡ 2 → (v : List ℕ) → v ≡ slot_bytes src p.text → (t : Part) → as_span t ≡ trim v → not (eqb t.len 0) ≡ leb 1 (trimmed_in (parsed_in src p).text)
  unfolding parsed_in text_if trimmed_in as_span
  text_some h v ev t et =
      let y : (parsed_in src p).text ≡ some (slot_bytes src p.text) = rw (eq-eqb (kind_number p.kind) 2 h, text_if) in
      some_left t.len ∙ ap (λ (s : Span). leb 1 s.len) et ∙ ap (λ (x : List ℕ). leb 1 (trim x).len) ev ∙ sym (ap (λ (o : Option (List ℕ)). leb 1 (trimmed_in o)) y)
    where
      some_left : (n : ℕ) → not (eqb n 0) ≡ leb 1 n
      some_left n = by (eqb n 0) (λ q. ap not q ∙ sym (ap (leb 1) (eqb-true n 0 q))) (λ q. ap not q ∙ sym (le-leb 1 n (omega (arith, eqb-false n 0 q))))

no_length : (n : ℕ) → eqb n 0 ≡ not (leb 1 n)
no_length n = by (eqb n 0) (λ q. q ∙ sym (ap (λ (k : ℕ). not (leb 1 k)) (eqb-true n 0 q))) (λ q. q ∙ sym (ap not (le-leb 1 n (omega (arith, eqb-false n 0 q)))))

module _ (v : Parsed) where
  abbrev expr : Bool
  expr = has_load 19 v.values

  abbrev long : Bool
  long = leb 1 (trimmed_in v.text)

  abbrev some_expr : Bool
  some_expr = leb 1 (length (value_in 19 v.values))

  abbrev Told : (g k : ℕ) → Bool
  Told g k = not (eqb g 9 && expr && long) && not (eqb g 15 && expr && eqb k 2) && not (eqb g 23 && some_expr && eqb k 2)

  apart_as : (g k : ℕ) → v.tag ≡ g → v.kind ≡ k → Told g k ≡ text_apart_in v
  unfolding text_apart_in
  apart_as g k eg ek = sym (ap₂ Told eg ek)

  pub apart_no_text : (v.kind ≡ 2 → ⊥) → long ≡ false → true ≡ text_apart_in v
  unfolding text_apart_in
  apart_no_text h e = sym (rw (e, ne_eqb v.kind 2 h) (go (eqb v.tag 9) (eqb v.tag 15) (eqb v.tag 23)))
    where
      go : (a b c : Bool) → (not (a && expr && false) && not (b && expr && false) && not (c && some_expr && false)) ≡ true
      go a b c = rw (and_no (a && expr), and_no (b && expr), and_no (c && some_expr))

  module _ (whole : v.kind ≡ 2) where
    pub apart_data : v.tag ≡ 9 → not (expr && long) ≡ text_apart_in v
    apart_data e = sym (and_true _ ∙ and_true _) ∙ apart_as 9 2 e whole

    pub apart_content : v.tag ≡ 15 → not expr ≡ text_apart_in v
    apart_content e = sym (and_true _ ∙ ap not (and_true expr)) ∙ apart_as 15 2 e whole

    pub apart_assign : v.tag ≡ 23 → (w : List ℕ) → w ≡ value_in 19 v.values → eqb (length w) 0 ≡ text_apart_in v
    apart_assign e w ew = no_length (length w) ∙ ap (λ (x : List ℕ). not (leb 1 (length x))) ew ∙ sym (ap not (and_true some_expr)) ∙ apart_as 23 2 e whole

    pub apart_any : (v.tag ≡ 9 → ⊥) → (v.tag ≡ 15 → ⊥) → (v.tag ≡ 23 → ⊥) → true ≡ text_apart_in v
    unfolding text_apart_in
    apart_any a b c = rw (ne_eqb v.tag 9 a, ne_eqb v.tag 15 b, ne_eqb v.tag 23 c) refl

-- ---- two ways to tell which keys are there, alike on the keys that are asked for

unfoldable pub keys_in : (ℕ → Bool) → List ℕ → Bool
keys_in P [] = true
keys_in P (k ∷ ks) = P k && keys_in P ks

unfoldable pub lists_in : (ℕ → Bool) → List (List ℕ) → Bool
unfolding keys_in
lists_in P [] = true
lists_in P (ks ∷ kss) = keys_in P ks && lists_in P kss

unfoldable pub all_in : (ℕ → Bool) → List Required → Bool
unfolding lists_in
all_in P [] = true
all_in P (r ∷ rs) = lists_in P r.one_of && all_in P rs

unfoldable pub pairs_in : (ℕ → Bool) → List Apart → Bool
pairs_in P [] = true
pairs_in P (a ∷ as') = (P a.one && P a.other) && pairs_in P as'

module _ (P f h : ℕ → Bool) (e : (n : ℕ) → P n ≡ true → f n ≡ h n) (g : ℕ) where
  one_alike : (ks : List ℕ) → keys_in P ks ≡ true → one_by f ks ≡ one_by h ks
  unfolding keys_in one_by
  one_alike [] w = refl
  one_alike (k ∷ ks) w = ap₂ ◌||◌ (e k (and_left (P k) (keys_in P ks) w)) (one_alike ks (and_right (P k) (keys_in P ks) w))

  all_alike : (kss : List (List ℕ)) → lists_in P kss ≡ true → all_by f kss ≡ all_by h kss
  unfolding lists_in all_by
  all_alike [] w = refl
  all_alike (ks ∷ kss) w = ap₂ ◌&&◌ (one_alike ks (and_left (keys_in P ks) (lists_in P kss) w)) (all_alike kss (and_right (keys_in P ks) (lists_in P kss) w))

  required_in_lem : (rs : List Required) → all_in P rs ≡ true → lists_in P (required_in rs g) ≡ true
  unfolding all_in required_in lists_in
  required_in_lem [] w = refl
  required_in_lem (r ∷ rs) w =
      by (eqb r.element g) (λ q. let z : lists_in P r.one_of ≡ true = and_left (lists_in P r.one_of) (all_in P rs) w in rw (q, required_in) z)
      (λ q. let z : lists_in P (required_in rs g) ≡ true = required_in_lem rs (and_right (lists_in P r.one_of) (all_in P rs) w) in rw (q, required_in) z)

  pairs_alike : (as' : List Apart) → pairs_in P as' ≡ true → pairs_by f g as' ≡ pairs_by h g as'
  unfolding pairs_in pairs_by
  pairs_alike [] w = refl
  pairs_alike (a ∷ as') w =
      let v : (P a.one && P a.other) ≡ true = and_left (P a.one && P a.other) (pairs_in P as') w in
      ap₂ (λ (x y : Bool). x && y) (ap₂ (λ (x y : Bool). not (eqb a.element g && x && y)) (e a.one (and_left (P a.one) (P a.other) v)) (e a.other (and_right (P a.one) (P a.other) v)))
      (pairs_alike as' (and_right (P a.one && P a.other) (pairs_in P as') w))

  pub left_alike : P 9 ≡ true → P 25 ≡ true → left_out_by f g ≡ left_out_by h g
  unfolding left_out_by
  left_alike a b = ap (λ (x : Bool). eqb g 27 || x) (one_alike (left_out_keys g) keys_in_lem)
    where
      keys_in_lem : keys_in P (left_out_keys g) ≡ true
      keys_in_lem =
          unfold left_out_keys keys_in in
          by (eqb g 9 || eqb g 26) (λ q. rw (q, left_out_keys) (ap (λ (x : Bool). x && true) a))
          (λ q. by (eqb g 19) (λ r. rw (q, left_out_keys, r, left_out_keys) (ap (λ (x : Bool). x && true) b)) (λ r. rw (q, left_out_keys, r, left_out_keys)))

  pub complete_alike : all_in P requirements ≡ true → complete_by f g ≡ complete_by h g
  unfolding complete_by
  complete_alike w = all_alike (required_in requirements g) (required_in_lem requirements w)

  pub apart_alike : pairs_in P exclusions ≡ true → apart_by f g ≡ apart_by h g
  unfolding apart_by
  apart_alike w = pairs_alike exclusions w

-- ---- the first no

-- Of two tests, as the code asks them.
pub neither : (b c : Bool) → (b && not c) ≡ true → (not b || c) ≡ false
neither true true e = true_is_false (sym e)
neither true false e = refl
neither false c e = true_is_false (sym e)

pub either : (b c : Bool) → (b && not c) ≡ false → (not b || c) ≡ true
either true true e = refl
either true false e = true_is_false e
either false c e = refl

below : (m n : ℕ) → leb n m ≡ not (ltb m n)
below m n = by (ltb m n) (λ q. lt-leb n m (ltb-true m n q) ∙ sym (ap not q)) (λ q. le-leb n m (ltb-false m n q) ∙ sym (ap not q))

pub taken_no : (a b m n : ℕ) → (leb m a || leb n b) ≡ true → (ltb a m && ltb b n) ≡ false
taken_no a b m n e = go (ltb a m) (ltb b n) (sym (ap₂ ◌||◌ (below a m) (below b n)) ∙ e)
  where
    go : (x y : Bool) → (not x || not y) ≡ true → (x && y) ≡ false
    go true true e = true_is_false (sym e)
    go true false e = refl
    go false y e = refl

pub taken_yes : (a b m n : ℕ) → (leb m a || leb n b) ≡ false → (ltb a m && ltb b n) ≡ true
taken_yes a b m n e = go (ltb a m) (ltb b n) (sym (ap₂ ◌||◌ (below a m) (below b n)) ∙ e)
  where
    go : (x y : Bool) → (not x || not y) ≡ false → (x && y) ≡ true
    go true true e = refl
    go true false e = true_is_false e
    go false y e = true_is_false e

pub refused : (r : Refusal) → refusal_number r ≡ 0 → ⊥
refused R.TooShort e = omega (arith, e)
refused R.OutOfOrder e = omega (arith, e)
refused R.NotInForm e = omega (arith, e)
refused R.RepeatedKey e = omega (arith, e)
refused R.WrongEnd e = omega (arith, e)
refused R.LeftOut e = omega (arith, e)
refused R.TooDeep e = omega (arith, e)
refused R.WrongParent e = omega (arith, e)
refused R.SecondScxml e = omega (arith, e)
refused R.Missing e = omega (arith, e)
refused R.Together e = omega (arith, e)
refused R.UnknownWord e = omega (arith, e)
refused R.InitialSet e = omega (arith, e)
refused R.NoIf e = omega (arith, e)
refused R.Full e = omega (arith, e)
refused R.NoRow e = omega (arith, e)

module _ (b : Bool) (k : ℕ) (qs : List Question) where
  pub no_here : b ≡ false → k ≡ first_no (record { yes = b; otherwise = k } ∷ qs)
  unfolding first_no
  no_here e = sym (ap (λ (x : Bool). first_no (record { yes = x; otherwise = k } ∷ qs)) e)

  pub no_later : b ≡ true → (r : ℕ) → r ≡ first_no qs → r ≡ first_no (record { yes = b; otherwise = k } ∷ qs)
  unfolding first_no
  no_later e r h = h ∙ sym (ap (λ (x : Bool). first_no (record { yes = x; otherwise = k } ∷ qs)) e)

yes_all : 0 ≡ first_no []
unfolding first_no
yes_all = refl

-- Before other questions.
pub no_before : (qs rs : List Question) → (first_no qs ≡ 0 → ⊥) → first_no qs ≡ first_no (qs ++ rs)
unfolding first_no
no_before [] rs h = absurd (h refl)
no_before (q ∷ qs) rs h = go q.yes refl (no_before qs rs)
  where
    go : (b : Bool) → q.yes ≡ b → ((first_no qs ≡ 0 → ⊥) → first_no qs ≡ first_no (qs ++ rs)) → first_no (q ∷ qs) ≡ first_no (q ∷ qs ++ rs)
    go true e f = rw (e, first_no) (f (rw (e, first_no) at h))
    go false e f = rw (e, first_no)

module _ (start : Bool) (g : ℕ) (done : Bool) (depth parent root : ℕ) where
  abbrev S : ℕ
  S = first_no (start_by start g done depth parent root)

  pub start_end : start ≡ false → 0 ≡ S
  unfolding start_by first_no
  start_end e = sym (ap (λ (b : Bool). first_no (start_by b g done depth parent root)) e)

  module _ (e : start ≡ true) where
    begun : first_no (start_by true g done depth parent root) ≡ S
    begun = ap (λ (b : Bool). first_no (start_by b g done depth parent root)) (sym e)

    pub no_7 : ltb depth 32 ≡ false → 7 ≡ S
    unfolding start_by
    no_7 a = no_here _ 7 _ a ∙ begun

    module _ (x7 : ltb depth 32 ≡ true) where
      pub no_8 : parent_allowed g parent ≡ false → 8 ≡ S
      unfolding start_by
      no_8 a = no_later _ 7 _ x7 8 (no_here _ 8 _ a) ∙ begun

      module _ (x8 : parent_allowed g parent ≡ true) where
        pub no_9 : (not (eqb g 1) || eqb root 0) ≡ false → 9 ≡ S
        unfolding start_by
        no_9 a = no_later _ 7 _ x7 9 (no_later _ 8 _ x8 9 (no_here _ 9 _ a)) ∙ begun

        module _ (x9 : (not (eqb g 1) || eqb root 0) ≡ true) where
          pub no_10 : done ≡ false → 10 ≡ S
          unfolding start_by
          no_10 a = no_later _ 7 _ x7 10 (no_later _ 8 _ x8 10 (no_later _ 9 _ x9 10 (no_here _ 10 [] a))) ∙ begun

          pub start_yes : done ≡ true → 0 ≡ S
          unfolding start_by
          start_yes a = no_later _ 7 _ x7 0 (no_later _ 8 _ x8 0 (no_later _ 9 _ x9 0 (no_later _ 10 [] a 0 yes_all))) ∙ begun

  none_before : S ≡ 0 → (rs : List Question) → first_no (start_by start g done depth parent root ++ rs) ≡ first_no rs
  unfolding start_by
  none_before e rs = go (not start || ltb depth 32) (not start || parent_allowed g parent) (not start || not (eqb g 1) || eqb root 0) (not start || done) e
    where
      go : (a b c d : Bool) → first_no (record { yes = a; otherwise = 7 } ∷ record { yes = b; otherwise = 8 } ∷ record { yes = c; otherwise = 9 } ∷ record { yes = d; otherwise = 10 } ∷ []) ≡ 0
          → first_no (record { yes = a; otherwise = 7 } ∷ record { yes = b; otherwise = 8 } ∷ record { yes = c; otherwise = 9 } ∷ record { yes = d; otherwise = 10 } ∷ rs) ≡ first_no rs
      go true true true true e = unfold first_no in refl
      go true true true false e = unfold first_no in absurd (omega (arith, e))
      go true true false d e = unfold first_no in absurd (omega (arith, e))
      go true false c d e = unfold first_no in absurd (omega (arith, e))
      go false b c d e = unfold first_no in absurd (omega (arith, e))

module _ (v : Parsed) (h : Heard) (inner : Bool) (depth parent root : ℕ) where
  abbrev a : Asked
  a = asked_in v

  abbrev Q : ℕ
  Q = first_no (questions_by h a inner depth parent root)

  abbrev taken : Bool
  taken = ltb h.binding 2 && ltb h.history 3

  pub no_5 : (a.start || inner) ≡ false → 5 ≡ Q
  unfolding questions_by
  no_5 x = no_here _ 5 _ x

  module _ (x5 : (a.start || inner) ≡ true) where
    pub no_6 : a.omitted ≡ true → 6 ≡ Q
    unfolding questions_by
    no_6 x = no_later _ 5 _ x5 6 (no_here _ 6 _ (ap not x))

    module _ (x6 : a.omitted ≡ false) where
      unfoldable late : List Question
      late = record { yes = a.apart; otherwise = 11 } ∷ record { yes = taken; otherwise = 12 } ∷ []

      begins : ℕ
      begins = S a.start a.tag a.complete depth parent root

      past : (r : ℕ) → r ≡ first_no (start_by a.start a.tag a.complete depth parent root ++ late) → r ≡ Q
      unfolding questions_by late
      past r x = no_later _ 5 _ x5 r (no_later _ 6 _ (ap not x6) r x)

      pub no_start : (n : ℕ) → n ≡ S a.start a.tag a.complete depth parent root → (n ≡ 0 → ⊥) → n ≡ Q
      no_start n e x = past n (e ∙ no_before (start_by a.start a.tag a.complete depth parent root) late (λ z. x (e ∙ z)))

      module _ (z : S a.start a.tag a.complete depth parent root ≡ 0) where
        after : (r : ℕ) → r ≡ first_no late → r ≡ Q
        after r x = past r (x ∙ sym (none_before a.start a.tag a.complete depth parent root z late))

        pub no_11 : a.apart ≡ false → 11 ≡ Q
        unfolding late
        no_11 x = after 11 (no_here _ 11 _ x)

        module _ (x11 : a.apart ≡ true) where
          pub no_12 : taken ≡ false → 12 ≡ Q
          unfolding late
          no_12 x = after 12 (no_later _ 11 _ x11 12 (no_here _ 12 [] x))

          pub no_none : taken ≡ true → 0 ≡ Q
          unfolding late
          no_none x = after 0 (no_later _ 11 _ x11 0 (no_later _ 12 [] x 0 yes_all))
