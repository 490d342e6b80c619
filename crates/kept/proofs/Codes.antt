-- Codes stay in their ranges; the charge covers the payload; the open name fits.
use Prim.Native.Nat.{ℕ, zero, suc, ◌+◌, ◌-◌, ◌≤◌}
use mathlib.Core.Path.{◌≡◌, refl, sym, ap, ◌∙◌, subst}
use mathlib.Core.Bool.{Bool, true, false, ◌||◌, not}
use mathlib.Core.Option.{Option, none, some}
use mathlib.Core.List.{List, [], ◌∷◌}
use lib.ListN.{length, replicate, length-append, length-replicate}
use lib.Dec.{eqb, leb, ltb}
use native.Mathlib.Omega.{arith}
use Rattle.definition.specs.Text.{place_in, str, wildcard, event_words, is_true}
use Rattle.definition.specs.Elements.{key, role_of, is_masked, is_name, is_names, element_names, number_in, tag_of, codings, words_taken}
use Rattle.definition.specs.Rows.{Table, num, last_of}
use Rattle.definition.specs.Look.{Look, Load, Field, one_if, code_of, is_events, code_by_role, field_by, fields_from, kept_name, name_row, is_named, is_innermost}
use Rattle.definition.specs.Change.{field_in, present, field_code, has, code_for}
use Rattle.definition.specs.Reader.{word_taken}
use Rattle.kept.proofs.Base.{le_of, leb_of, eq_of, and_left, and_both, or_right, false_is_true, true_is_false, test}
use Rattle.kept.proofs.Dispatch.{Coded}

-- ---- codes

pub field_code_lem : (P : ℕ → Type 0) (d g k o : ℕ) (is : List Load) → ((v : List ℕ) → P (code_by_role (role_of g k) g k v)) → P d → P (field_code d (field_in (fields_from g o is) k))
unfolding fields_from field_in field_code field_by
field_code_lem P d g k o [] f p = p
field_code_lem P d g k o (i ∷ is) f p = go (eqb i.key k) refl (field_code_lem P d g k (o + length i.bytes) is f p)
  where
    go : (b : Bool) → eqb i.key k ≡ b → P (field_code d (field_in (fields_from g (o + length i.bytes) is) k)) → P (field_code d (field_in (fields_from g o (i ∷ is)) k))
    go true e ih = rw (e, field_in) (subst (λ (x : ℕ). P (code_by_role (role_of g x) g x i.bytes)) (sym (eq_of i.key k e)) (f i.bytes))
    go false e ih = rw (e, field_in) ih

one_if_lem : (b : Bool) → Coded (one_if b) 1
unfolding one_if
one_if_lem true = refl
one_if_lem false = refl

pub wild_code : (v : List ℕ) → Coded (code_by_role (role_of 16 14) 16 14 v) 1
unfolding code_by_role role_of is_masked is_name is_names code_of is_events
wild_code v = one_if_lem (wildcard (event_words v))

pub auto_code : (v : List ℕ) → Coded (code_by_role (role_of 8 13) 8 13 v) 1
unfolding code_by_role role_of is_masked is_name is_names code_of is_events
auto_code v = one_if_lem (is_true v)

code_if : (l : Look) (k d : ℕ) → has l k ≡ true → code_for l k d ≡ code_for l k 0
unfolding has code_for
code_if l k d e = go (field_in l.fields k) e
  where
    go : (o : Option Field) → present o ≡ true → field_code d o ≡ field_code 0 o
    go none f = false_is_true (unfold present in f)
    go (some x) f = unfold field_code in refl

code_else : (l : Look) (k d : ℕ) → has l k ≡ false → code_for l k d ≡ d
unfolding has code_for
code_else l k d e = go (field_in l.fields k) e
  where
    go : (o : Option Field) → present o ≡ false → field_code d o ≡ d
    go none f = unfold field_code in refl
    go (some x) f = true_is_false (unfold present in f)

-- A word that is taken has a code below the number of words.
taken : (l : Look) (k m : ℕ) → length (words_taken codings l.tag k) ≡ suc m → word_taken l k ≡ true → has l k ≡ true → code_for l k 0 ≤ m
unfolding word_taken
taken l k m e w h =
    let ws = words_taken codings l.tag k in
    let p = eqb (length ws) 0 in
    let q = not (has l k) in
    let r = ltb (code_for l k 0) (length ws) in
    let z : (p || q) ≡ false = both_false p q (ap (λ (x : ℕ). eqb x 0) e ∙ lib.Dec.eqb-suc-zero m) (ap not h) in
    omega (arith, le_of (suc (code_for l k 0)) (length ws) (or_right (p || q) r z w), e)
  where
    both_false : (p q : Bool) → p ≡ false → q ≡ false → (p || q) ≡ false
    both_false true q e f = e
    both_false false q e f = f

pub hist_code : (l : Look) → l.tag ≡ 6 → word_taken l key.type ≡ true → Coded (code_for l key.type 1) 2
unfolding words_taken codings
hist_code l e w =
    test (has l key.type) (λ h.
    let k : code_for l key.type 0 ≤ 2 = taken l key.type 2 (ap (λ (g : ℕ). length (words_taken codings g key.type)) e) w h in
    and_both (leb 0 (code_for l key.type 1)) (leb (code_for l key.type 1) 2) (leb_of 0 (code_for l key.type 1) (omega arith)) (leb_of (code_for l key.type 1) 2 (omega (arith, k, code_if l key.type 1 h)))) (λ h.
    subst (λ (x : ℕ). Coded x 2) (sym (code_else l key.type 1 h)) refl)

pub bind_code : (l : Look) → l.tag ≡ 1 → word_taken l key.binding ≡ true → has l key.binding ≡ true → Coded (code_for l key.binding 0) 1
unfolding words_taken codings
bind_code l e w h =
    let c : ℕ = code_for l key.binding 0 in
    let k : c ≤ 1 = taken l key.binding 1 (ap (λ (g : ℕ). length (words_taken codings g key.binding)) e) w h in
    and_both (leb 0 c) (leb c 1) (leb_of 0 c (omega arith)) (leb_of c 1 k)

-- ---- the open name

pub tag_range : (w : List ℕ) → Coded (tag_of w) 27
unfolding tag_of number_in element_names str
tag_range w = go (ltb (place_in element_names w) 27) refl
  where
    go : (b : Bool) → ltb (place_in element_names w) 27 ≡ b → Coded (tag_of w) 27
    go true e =
        let z : tag_of w ≡ suc (place_in element_names w) = rw (e, tag_of, number_in) in
        subst (λ (x : ℕ). Coded x 27) (sym z) (and_both (leb 0 (suc (place_in element_names w))) (leb (suc (place_in element_names w)) 27) (leb_of 0 (suc (place_in element_names w)) (omega arith)) e)
    go false e = let z : tag_of w ≡ 0 = rw (e, tag_of, number_in) in subst (λ (x : ℕ). Coded x 27) (sym z) refl

kept_le : (g : ℕ) (w : List ℕ) → length (kept_name g w) ≤ length w
unfolding kept_name
kept_le zero w = omega arith
kept_le (suc g) w = omega arith

pub name_width : (g : ℕ) (w : List ℕ) → length w ≤ 64 → length (name_row (kept_name g w)) ≡ 64
unfolding name_row
name_width g w h =
    omega (arith, length-append (kept_name g w) (replicate (64 - length (kept_name g w)) 0), length-replicate {A = ℕ} (64 - length (kept_name g w)) 0, kept_le g w, h)

-- ---- the innermost name

pub innermost_tag : (xs ns : Table) (g : ℕ) (w : List ℕ) → is_innermost xs ns g w ≡ true → num (last_of [] xs) 0 ≡ g
unfolding is_innermost last_of
innermost_tag [] ns g w e = false_is_true e
innermost_tag (x ∷ xs) [] g w e = false_is_true e
innermost_tag (x ∷ []) (n ∷ ns) g w e = named g e
  where
    named : (g : ℕ) → is_named x n g w ≡ true → num x 0 ≡ g
    named zero f = unfold is_named in eq_of (num x 0) 0 (and_left (eqb (num x 0) 0) _ f)
    named (suc g) f = unfold is_named in eq_of (num x 0) (suc g) f
innermost_tag (x ∷ y ∷ xs) (n ∷ ns) g w e = innermost_tag (y ∷ xs) ns g w e
