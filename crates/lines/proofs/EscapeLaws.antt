-- What reading a line's bytes one by one needs of the definitions: a legible text is its first byte and the rest.
use mathlib.Core.Path.{◌≡◌, refl, sym, ap, ◌∙◌}
use mathlib.Core.Bool.{Bool, true, false}
use mathlib.Core.Option.{Option, none, some}
use mathlib.Core.List.{List, [], ◌∷◌, append_assoc}
use Prim.Native.Nat.{ℕ, suc, ◌+◌, ◌≤◌, ◌<◌}
use native.Mathlib.Numerals.{add-one}
use native.Mathlib.Omega.{arith}
use lib.Dec.{eqb}
use lib.ListN.{length, set, take-append-drop, length-set}
use lib.Seq.{take-suc-set, drop-set-lt}
use borrow.Author.Tests.{ne_eqb, eq-eqb, lt-ltb, le-ltb, le-leb, lt-leb}
use Rattle.std.proofs.Common.{Some, None, nat_eq}
use Rattle.std.specs.Bool.{then_some}
use Rattle.definition.specs.Text.{is_allowed, all_allowed}
use Rattle.definition.specs.Event.{prepend, unescape_from, if_allowed, legible}
use Rattle.lines.specs.Escapes.{counted, scanned, IsFirst, placed, fitting, length_of}

pub allowed_prepend : (b : ℕ) (o : Option (List ℕ)) → is_allowed b ≡ true → if_allowed (prepend b o) ≡ prepend b (if_allowed o)
unfolding if_allowed prepend all_allowed
allowed_prepend b none e = refl
allowed_prepend b (some v) e = go (all_allowed v) refl
  where
    go : (p : Bool) → all_allowed v ≡ p → if_allowed (some (b ∷ v)) ≡ prepend b (if_allowed (some v))
    go true q = rw (e, all_allowed, q, if_allowed, prepend)
    go false q = rw (e, all_allowed, q, if_allowed, prepend)

pub refused_prepend : (b : ℕ) (o : Option (List ℕ)) → is_allowed b ≡ false → if_allowed (prepend b o) ≡ none
unfolding if_allowed prepend all_allowed
refused_prepend b none e = refl
refused_prepend b (some v) e = rw (e, all_allowed, if_allowed)

-- ---- the first byte of what is written

pub plain_first : (b : ℕ) (bs : List ℕ) → eqb b 92 ≡ false → is_allowed b ≡ true → legible (b ∷ bs) ≡ prepend b (legible bs)
unfolding legible unescape_from
plain_first b bs e a = rw (e, unescape_from) (allowed_prepend b (unescape_from false bs) a)

pub high_first : (b : ℕ) (bs : List ℕ) → eqb b 92 ≡ false → is_allowed b ≡ false → legible (b ∷ bs) ≡ none
unfolding legible unescape_from
high_first b bs e a = rw (e, unescape_from) (refused_prepend b (unescape_from false bs) a)

pub newline_first : (b c : ℕ) (bs : List ℕ) → eqb b 92 ≡ true → eqb c 110 ≡ true → legible (b ∷ c ∷ bs) ≡ prepend 10 (legible bs)
unfolding legible unescape_from is_allowed
newline_first b c bs e f = rw (e, unescape_from) (ap (λ (x : Bool). if_allowed (elim x [ true ↦ prepend 10 (unescape_from false bs) | false ↦ elim (eqb c 92) [ true ↦ prepend 92 (unescape_from false bs) | false ↦ none ] ])) f ∙ allowed_prepend 10 (unescape_from false bs) refl)

pub backslash_first : (b c : ℕ) (bs : List ℕ) → eqb b 92 ≡ true → eqb c 110 ≡ false → eqb c 92 ≡ true → legible (b ∷ c ∷ bs) ≡ prepend 92 (legible bs)
unfolding legible unescape_from is_allowed
backslash_first b c bs e f g = rw (e, unescape_from) (ap (λ (x : Bool). if_allowed (elim x [ true ↦ prepend 10 (unescape_from false bs) | false ↦ elim (eqb c 92) [ true ↦ prepend 92 (unescape_from false bs) | false ↦ none ] ])) f
    ∙ ap (λ (x : Bool). if_allowed (elim x [ true ↦ prepend 92 (unescape_from false bs) | false ↦ none ])) g ∙ allowed_prepend 92 (unescape_from false bs) refl)

pub other_first : (b c : ℕ) (bs : List ℕ) → eqb b 92 ≡ true → eqb c 110 ≡ false → eqb c 92 ≡ false → legible (b ∷ c ∷ bs) ≡ none
unfolding legible unescape_from if_allowed
other_first b c bs e f g = rw (e, unescape_from, f, unescape_from, g, unescape_from, if_allowed)

pub lone_first : (b : ℕ) → eqb b 92 ≡ true → legible (b ∷ []) ≡ none
unfolding legible unescape_from if_allowed
lone_first b e = rw (e, unescape_from, if_allowed)

-- The same, as code takes a text apart.
module _ (s : List ℕ) (b : ℕ) (t : List ℕ) (e : (s ≡ b ∷ t) × (length t + 1 ≡ length s)) where
  pub first_high : 128 ≤ b → legible s ≡ none
  unfolding is_allowed
  first_high h = rw (e.0) (high_first b t (ne_eqb b 92 (λ z. omega arith)) (le-ltb b 128 h))

  pub first_plain : b < 128 → (b ≡ 92 → ⊥) → IsFirst s b t
  unfolding is_allowed
  first_plain h n = (ap legible e.0 ∙ plain_first b t (ne_eqb b 92 n) (lt-ltb b 128 h), omega arith)

  module _ (k : b ≡ 92) where
    pub first_lone : length t ≡ 0 → legible s ≡ none
    first_lone h = ap legible e.0 ∙ go t h
      where
        go : (t : List ℕ) → length t ≡ 0 → legible (b ∷ t) ≡ none
        go [] h = lone_first b (eq-eqb b 92 k)
        go (c ∷ u) h = absurd (omega arith)

    module _ (c : ℕ) (u : List ℕ) (f : (t ≡ c ∷ u) × (length u + 1 ≡ length t)) where
      both : s ≡ b ∷ c ∷ u
      both = e.0 ∙ ap (λ (x : List ℕ). b ∷ x) f.0

      pub first_newline : c ≡ 110 → IsFirst s 10 u
      first_newline h = (ap legible both ∙ newline_first b c u (eq-eqb b 92 k) (eq-eqb c 110 h), omega arith)

      pub first_backslash : c ≡ 92 → IsFirst s 92 u
      first_backslash h = (ap legible both ∙ backslash_first b c u (eq-eqb b 92 k) (ne_eqb c 110 (λ z. omega arith)) (eq-eqb c 92 h), omega arith)

      pub first_other : (c ≡ 110 → ⊥) → (c ≡ 92 → ⊥) → legible s ≡ none
      first_other g h = ap legible both ∙ other_first b c u (eq-eqb b 92 k) (ne_eqb c 110 g) (ne_eqb c 92 h)

-- ---- a scan

pub counted_more : (n b : ℕ) (o : Option (List ℕ)) → counted (n + 1) o ≡ counted n (prepend b o)
unfolding counted prepend
counted_more n b none = refl
counted_more n b (some v) = let z : n + 1 + length v ≡ n + suc (length v) = omega arith in rw (z, counted)

pub scan_more : (s : List ℕ) (b : ℕ) (t : List ℕ) (n : ℕ) → IsFirst s b t → counted (n + 1) (legible t) ≡ counted n (legible s)
scan_more s b t n f = counted_more n b (legible t) ∙ ap (counted n) (sym f.0)

pub scan_end : (s : List ℕ) (n : ℕ) → (0 < length s → legible s ≡ none) → then_some (nat_eq (length s) 0) n ≡ counted n (legible s)
unfolding counted legible unescape_from if_allowed all_allowed
scan_end [] n f = let z : n + 0 ≡ n = omega arith in rw z refl
scan_end (b ∷ bs) n f = let z : nat_eq (suc (length bs)) 0 ≡ false = ne_eqb _ _ (λ e. omega arith) in rw (z, f (omega arith), counted) refl

-- ---- the text in a buffer

placed_more : (n b : ℕ) (v out : List ℕ) → n + suc (length v) ≤ length out → placed (n + 1) (some v) (set out n b) ≡ placed n (some (b ∷ v)) out
unfolding placed
placed_more n b v out h =
    let z : n + 1 + length v ≡ n + suc (length v) = omega arith in
    let y : n < length out = omega arith in
    let x : n < n + suc (length v) = omega arith in
    rw (z, drop-set-lt (n + suc (length v)) out n b x, add-one, take-suc-set out n b y, append_assoc)

pub text_shown : (o : Option (List ℕ)) (n len : ℕ) → counted n o ≡ Some len → (v : List ℕ) × (o ≡ some v) × (n + length v ≡ len)
unfolding counted
text_shown none n len e = absurd (none_some len e)
  where
    none_some : (len : ℕ) → None ≡ Some len → ⊥
    none_some len e = cc
text_shown (some v) n len e = (v, refl, cc)

-- An unescaping of s into a buffer, which was o: t is left, and n bytes are written.
pub record Unescaping (s o : List ℕ) (len : ℕ) (out t : List ℕ) (n : ℕ) : Type 0 where
  pub rest : counted n (legible t) ≡ Some len
  pub long : length out ≡ length o
  pub result : placed n (legible t) out ≡ placed 0 (legible s) o

pub un_start : (s o : List ℕ) (len : ℕ) → Some len ≡ scanned s → Unescaping s o len o s 0
unfolding scanned
un_start s o len e = record { rest = sym e; long = refl; result = refl }

module _ (s o : List ℕ) (len : ℕ) (out t : List ℕ) (n : ℕ) (u : Unescaping s o len out t n) where
  module _ (b : ℕ) (t' : List ℕ) (f : IsFirst t b t') where
    left : (v : List ℕ) × (legible t' ≡ some v) × (n + 1 + length v ≡ len)
    left = text_shown (legible t') (n + 1) len (scan_more t b t' n f ∙ u.rest)

    pub un_room : len ≤ length o → n < length out
    un_room h = let l = left in let z : n + 1 + length l.0 ≡ len = l.2 in omega (arith, u.long)

    pub un_more : len ≤ length o → Unescaping s o len (set out n b) t' (n + 1)
    unfolding prepend
    un_more h =
        let l = left in
        let k : n + 1 + length l.0 ≡ len = l.2 in
        let g : n + suc (length l.0) ≤ length out = omega (arith, u.long) in
        record {
          rest = scan_more t b t' n f ∙ u.rest;
          long = length-set out n b ∙ u.long;
          result =
              ap (λ (q : Option (List ℕ)). placed (n + 1) q (set out n b)) l.1
              ∙ placed_more n b l.0 out g
              ∙ sym (ap (λ (q : Option (List ℕ)). placed n q out) (f.0 ∙ ap (prepend b) l.1))
              ∙ u.result;
        }

over_nil : (t : List ℕ) (n len : ℕ) → (0 < length t → legible t ≡ none) → counted n (legible t) ≡ Some len → t ≡ []
over_nil [] n len f e = refl
over_nil (b ∷ bs) n len f e = let t = text_shown (legible (b ∷ bs)) n len e in absurd (some_none t.0 (sym t.1 ∙ f (omega arith)))
  where
    some_none : (v : List ℕ) → some v ≡ none → ⊥
    some_none v e = cc

fit_yes : (o : Option (List ℕ)) (v : List ℕ) (room : ℕ) → o ≡ some v → length v ≤ room → fitting o room ≡ some v
unfolding fitting
fit_yes o v room e h = rw (e, le-leb _ _ h, fitting)

pub un_end : (s o : List ℕ) (len : ℕ) (out t : List ℕ) (n : ℕ) → Unescaping s o len out t n → Some len ≡ scanned s → (0 < length t → legible t ≡ none) → len ≤ length o
    → (len ≡ length_of (fitting (legible s) (length o))) × (out ≡ placed 0 (fitting (legible s) (length o)) o)
unfolding scanned placed length_of legible unescape_from if_allowed all_allowed
un_end s o len out t n u g e f =
    let v = text_shown (legible s) 0 len (sym g) in
    let k : 0 + length v.0 ≡ len = v.2 in
    let m : length v.0 ≤ length o = omega arith in
    let w : fitting (legible s) (length o) ≡ legible s = fit_yes (legible s) v.0 (length o) v.1 m ∙ sym v.1 in
    let d : legible t ≡ some [] = ap legible (over_nil t n len e u.rest) in
    let a : placed n (some []) out ≡ placed 0 (legible s) o = ap (λ (x : Option (List ℕ)). placed n x out) (sym d) ∙ u.result in
    let z : n + 0 ≡ n = omega arith in
    let b : placed n (some []) out ≡ out = rw z (take-append-drop n out) in
    (rw w (rw v.1 (omega arith)), rw w (sym b ∙ a))

pub un_illegible : (s o : List ℕ) → None ≡ scanned s → (0 ≡ length_of (fitting (legible s) (length o))) × (o ≡ placed 0 (fitting (legible s) (length o)) o)
unfolding scanned counted fitting length_of placed
un_illegible s o e = go (legible s) e
  where
    go : (x : Option (List ℕ)) → None ≡ counted 0 x → (0 ≡ length_of (fitting x (length o))) × (o ≡ placed 0 (fitting x (length o)) o)
    go none q = (refl, refl)
    go (some v) q = absurd (some_none (length v) q)
      where
        some_none : (n : ℕ) → None ≡ Some (0 + n) → ⊥
        some_none n e = cc

fit_no : (q : Option (List ℕ)) (v : List ℕ) (room : ℕ) → q ≡ some v → room < length v → fitting q room ≡ none
unfolding fitting
fit_no q v room e h = rw (e, lt-leb _ _ h, fitting)

pub un_long : (s o : List ℕ) (len : ℕ) → Some len ≡ scanned s → length o < len
    → (0 ≡ length_of (fitting (legible s) (length o))) × (o ≡ placed 0 (fitting (legible s) (length o)) o)
unfolding scanned length_of placed
un_long s o len e h =
    let t = text_shown (legible s) 0 len (sym e) in
    let k : 0 + length t.0 ≡ len = t.2 in
    let m : length o < length t.0 = omega arith in
    let w : fitting (legible s) (length o) ≡ none = fit_no (legible s) t.0 (length o) t.1 m in
    rw w (refl, refl)
