-- The end of a text: white space that trimming takes, and what an event word loses.
use mathlib.Core.Path.{◌≡◌, refl, ap, sym, ◌∙◌}
use mathlib.Core.List.{List, [], ◌∷◌, ◌++◌, reverse, reverse-append, reverse-reverse}
use mathlib.Core.Bool.{Bool, true, false, ◌&&◌}
use Prim.Native.Nat.{ℕ, suc, ◌+◌, ◌-◌, ◌≤◌, ◌<◌}
use native.Mathlib.Omega.{arith}
use lib.Dec.{eqb, eqb-suc-zero}
use lib.ListN.{length, get_or, take, drop, length-drop, length-take}
use native.Mathlib.Nat.{zero-add}
use lib.Seq.{take_all, take-suc, take_at, length-take-le}
use borrow.Author.Tests.{eq-eqb, ne_eqb}
use Rattle.definition.proofs.Base.{same_length}
use Rattle.definition.specs.Text.{Span, same, trimmed, bytes_at, is_space, body_length, leading, trim, strip_last, stripped}
use Rattle.words.specs.Next.{IsShorter, goes, gap, as_span}
use Rattle.words.specs.declared.Part.{Part}
use Rattle.words.proofs.Laws.{by, gap_le}

-- ---- trimming

body_cons : (b : ℕ) (bs : List ℕ) → (t : Bool) → (is_space b && eqb (body_length bs) 0) ≡ t → body_length (b ∷ bs) ≡ elim t [ true ↦ 0 | false ↦ suc (body_length bs) ]
unfolding body_length
body_cons b bs t e = ap (λ (t : Bool). elim t [ true ↦ 0 | false ↦ suc (body_length bs) ]) e

-- white space at the end adds nothing
pub body_space : (xs : List ℕ) (b : ℕ) → is_space b ≡ true → body_length (xs ++ b ∷ []) ≡ body_length xs
unfolding body_length
body_space [] b e = body_cons b [] true (rw e)
body_space (x ∷ xs) b e = ap (λ (n : ℕ). elim (is_space x && eqb n 0) [ true ↦ 0 | false ↦ suc n ]) (body_space xs b e)

-- any other byte there ends the text
pub body_full : (xs : List ℕ) (b : ℕ) → is_space b ≡ false → body_length (xs ++ b ∷ []) ≡ suc (length xs)
unfolding body_length
body_full [] b e = body_cons b [] false (rw e)
body_full (x ∷ xs) b e = body_cons x (xs ++ b ∷ []) false (rw (body_full xs b e) (no (is_space x) (length xs))) ∙ ap suc (body_full xs b e)
  where
    no : (t : Bool) (n : ℕ) → (t && eqb (suc n) 0) ≡ false
    no true n = eqb-suc-zero n
    no false n = refl

pub leading_gap : (v : List ℕ) → gap is_space v ≡ leading v
unfolding gap leading
leading_gap [] = refl
leading_gap (b ∷ bs) = ap (λ (n : ℕ). elim (is_space b) [ true ↦ suc n | false ↦ 0 ]) (leading_gap bs)

pub body_none : (w : List ℕ) (n : ℕ) → n ≤ 0 → body_length (take n w) ≡ 0
unfolding body_length
body_none w n h = let e : n ≡ 0 = omega arith in rw e

pub trim_inside : (v : List ℕ) (off : ℕ) → off ≡ 0 + gap is_space (drop 0 v) → off ≤ length v
trim_inside v off h = omega (arith, gap_le is_space v, zero-add (gap is_space v))

pub trim_made : (v : List ℕ) (off len : ℕ) → off ≡ 0 + gap is_space (drop 0 v) → len ≡ body_length (take (length v - off) (drop off v)) → as_span (record { off = off; len = len }) ≡ trim v
unfolding as_span trim
trim_made v off len h k =
    let e : off ≡ leading v = h ∙ zero-add (gap is_space v) ∙ leading_gap v in
    let f : len ≡ body_length (drop off v) = k ∙ ap body_length (take_all (length v - off) (drop off v) (omega (arith, length-drop off v))) in
    rw (f, e)

-- the first n bytes, without the last of them if it is white space
module _ (w : List ℕ) (n : ℕ) (some : 0 < n) (long : n ≤ length w) where
  last : take n w ≡ take (n - 1) w ++ get_or w (n - 1) 0 ∷ []
  last = let e : n ≡ suc (n - 1) = omega arith in ap (λ (m : ℕ). take m w) e ∙ take-suc w (n - 1) 0 (omega arith)

  pub body_more : is_space (get_or w (n - 1) 0) ≡ true → body_length (take (n - 1) w) ≡ body_length (take n w)
  body_more e = sym (ap body_length last ∙ body_space (take (n - 1) w) (get_or w (n - 1) 0) e)

  pub body_stop : is_space (get_or w (n - 1) 0) ≡ false → body_length (take n w) ≡ n
  body_stop e = ap body_length last ∙ body_full (take (n - 1) w) (get_or w (n - 1) 0) e ∙ omega (arith, length-take-le (n - 1) w (omega arith))

-- ---- what an event word loses

module _ (b : ℕ) where
  goes_dot : (r : List ℕ) → eqb b 46 ≡ true → goes (b ∷ r) ≡ 1
  unfolding goes
  goes_dot [] e = rw (e, goes)
  goes_dot (c ∷ r) e = rw (e, goes)

  strip_dot : (r : List ℕ) → eqb b 46 ≡ true → strip_last (b ∷ r) ≡ strip_last r
  unfolding strip_last
  strip_dot [] e = ap (λ (t : Bool). elim t [ true ↦ [] | false ↦ b ∷ [] ]) e
  strip_dot (c ∷ r) e = ap (λ (t : Bool). elim t [ true ↦ strip_last (c ∷ r) | false ↦ elim (eqb b 42 && eqb c 46) [ true ↦ strip_last r | false ↦ b ∷ c ∷ r ] ]) e

  strip_one : eqb b 46 ≡ false → strip_last (b ∷ []) ≡ b ∷ []
  unfolding strip_last
  strip_one e = ap (λ (t : Bool). elim t [ true ↦ [] | false ↦ b ∷ [] ]) e

  module _ (c : ℕ) (r : List ℕ) (e : eqb b 46 ≡ false) where
    goes_star : (eqb b 42 && eqb c 46) ≡ true → goes (b ∷ c ∷ r) ≡ 2
    unfolding goes
    goes_star f = rw (e, goes) (rw f)

    strip_pair : strip_last (b ∷ c ∷ r) ≡ elim (eqb b 42 && eqb c 46) [ true ↦ strip_last r | false ↦ b ∷ c ∷ r ]
    unfolding strip_last
    strip_pair = ap (λ (t : Bool). elim t [ true ↦ strip_last (c ∷ r) | false ↦ elim (eqb b 42 && eqb c 46) [ true ↦ strip_last r | false ↦ b ∷ c ∷ r ] ]) e

    strip_star : (eqb b 42 && eqb c 46) ≡ true → strip_last (b ∷ c ∷ r) ≡ strip_last r
    strip_star f = strip_pair ∙ ap (λ (t : Bool). elim t [ true ↦ strip_last r | false ↦ b ∷ c ∷ r ]) f

    strip_two : (eqb b 42 && eqb c 46) ≡ false → strip_last (b ∷ c ∷ r) ≡ b ∷ c ∷ r
    strip_two f = strip_pair ∙ ap (λ (t : Bool). elim t [ true ↦ strip_last r | false ↦ b ∷ c ∷ r ]) f

-- what stays stood there before, after what goes
front : (l : List ℕ) → (x : List ℕ) × (l ≡ x ++ strip_last l)
unfolding strip_last
front [] = ([], refl)
front (b ∷ []) = by (eqb b 46) (λ e. (b ∷ [], ap (λ (s : List ℕ). b ∷ s) (sym (strip_dot b [] e)))) (λ e. ([], sym (strip_one b e)))
front (b ∷ c ∷ r) =
    by (eqb b 46)
    (λ e. (b ∷ (front (c ∷ r)).0, ap (λ (s : List ℕ). b ∷ s) (front (c ∷ r)).1 ∙ ap (λ (s : List ℕ). b ∷ (front (c ∷ r)).0 ++ s) (sym (strip_dot b (c ∷ r) e))))
    (λ e.
    by (eqb b 42 && eqb c 46)
    (λ f. (b ∷ c ∷ (front r).0, ap (λ (s : List ℕ). b ∷ c ∷ s) (front r).1 ∙ ap (λ (s : List ℕ). b ∷ c ∷ (front r).0 ++ s) (sym (strip_star b c r e f))))
    (λ f. ([], sym (strip_two b c r e f))))

-- The stripped word is the first part of the word.
pub strip_prefix : (w : List ℕ) → stripped w ≡ take (length (stripped w)) w
unfolding stripped
strip_prefix w =
    let s : List ℕ = strip_last (reverse w) in
    let x : List ℕ = (front (reverse w)).0 in
    let e : w ≡ reverse s ++ reverse x = sym (reverse-reverse w) ∙ ap reverse (front (reverse w)).1 ∙ reverse-append x s in
    sym (ap (take (length (reverse s))) e ∙ take_at (reverse s) (reverse x) (length (reverse s)) refl)

-- A word, as code takes it apart at its end.
module _ (w : List ℕ) where
  kept : strip_last (reverse w) ≡ reverse w → w ≡ stripped w
  unfolding stripped
  kept e = sym (ap reverse e ∙ reverse-reverse w)

  left : (l : List ℕ) → reverse w ≡ l → drop (goes (reverse w)) (reverse w) ≡ drop (goes l) l
  left l e = ap (λ (x : List ℕ). drop (goes x) x) e

  pub nothing_goes : length w ≡ 0 → w ≡ stripped w
  unfolding strip_last
  nothing_goes h = kept (go w h)
    where
      go : (l : List ℕ) → length l ≡ 0 → strip_last (reverse l) ≡ reverse l
      go [] e = refl
      go (x ∷ l) e = absurd (omega arith)

  module _ (b : ℕ) (t : List ℕ) (e : (w ≡ t ++ b ∷ []) × (length t + 1 ≡ length w)) where
    rev_one : reverse w ≡ b ∷ reverse t
    rev_one = ap reverse e.0 ∙ reverse-append t (b ∷ [])

    pub dot_goes : b ≡ 46 → IsShorter t w
    unfolding stripped
    dot_goes h =
        let q : eqb b 46 ≡ true = eq-eqb _ _ h in
        (ap reverse (sym (ap strip_last rev_one ∙ strip_dot b (reverse t) q)), omega arith, sym (left (b ∷ reverse t) rev_one ∙ ap (λ (n : ℕ). drop n (b ∷ reverse t)) (goes_dot b (reverse t) q)))

    module _ (n : b ≡ 46 → ⊥) where
      pub lone_stays : length t ≡ 0 → w ≡ stripped w
      lone_stays h =
          let z : reverse w ≡ b ∷ [] = rev_one ∙ go t h in
          kept (ap strip_last z ∙ strip_one b (ne_eqb _ _ n) ∙ sym z)
        where
          go : (l : List ℕ) → length l ≡ 0 → ◌≡◌ {A = List ℕ} (b ∷ reverse l) (b ∷ [])
          go [] e = refl
          go (x ∷ l) e = absurd (omega arith)

      module _ (c : ℕ) (u : List ℕ) (f : (t ≡ u ++ c ∷ []) × (length u + 1 ≡ length t)) where
        rev_two : reverse w ≡ b ∷ c ∷ reverse u
        rev_two = rev_one ∙ ap (λ (l : List ℕ). b ∷ l) (ap reverse f.0 ∙ reverse-append u (c ∷ []))

        pub star_goes : b ≡ 42 → c ≡ 46 → IsShorter u w
        unfolding stripped
        star_goes h k =
            let p : eqb b 46 ≡ false = ne_eqb _ _ n in
            let q : (eqb b 42 && eqb c 46) ≡ true = rw (eq-eqb _ _ h, eq-eqb _ _ k) in
            (ap reverse (sym (ap strip_last rev_two ∙ strip_star b c (reverse u) p q)), omega arith, sym (left (b ∷ c ∷ reverse u) rev_two ∙ ap (λ (n : ℕ). drop n (b ∷ c ∷ reverse u)) (goes_star b c (reverse u) p q)))

        pub star_stays : b ≡ 42 → (c ≡ 46 → ⊥) → w ≡ stripped w
        star_stays h k = kept (ap strip_last rev_two ∙ strip_two b c (reverse u) (ne_eqb _ _ n) (rw (eq-eqb _ _ h, ne_eqb _ _ k)) ∙ sym rev_two)

      pub other_stays : (b ≡ 42 → ⊥) → w ≡ stripped w
      other_stays h = kept (ap strip_last rev_one ∙ go (reverse t) ∙ sym rev_one)
        where
          go : (l : List ℕ) → strip_last (b ∷ l) ≡ b ∷ l
          go [] = strip_one b (ne_eqb _ _ n)
          go (c ∷ r) = strip_two b c r (ne_eqb _ _ n) (rw (ne_eqb _ _ h))

-- ---- the word `*`

pub strip_le : (w : List ℕ) → length (stripped w) ≤ length w
strip_le w = omega (arith, ap length (strip_prefix w), length-take (length (stripped w)) w)

pub star_long : (w : List ℕ) → (length (stripped w) ≡ 1 → ⊥) → same (stripped w) (42 ∷ []) ≡ false
star_long w h = same_length (stripped w) (42 ∷ []) h

-- ---- the trimmed part lies in the text

body_le : (l : List ℕ) → body_length l ≤ length l
body_le [] = omega (arith, body_none [] 0 (omega arith))
body_le (b ∷ bs) =
    by (is_space b && eqb (body_length bs) 0) (λ e. omega (arith, body_cons b bs true e)) (λ e. omega (arith, body_cons b bs false e, body_le bs))

pub trim_fits : (v : List ℕ) → (trim v).off + (trim v).len ≤ length v
unfolding trim
trim_fits v = omega (arith, leading_gap v, gap_le is_space v, body_le (drop (leading v) v), length-drop (leading v) v)

-- the same of a part that code found
module _ (v : List ℕ) (p : Part) (e : as_span p ≡ trim v) where
  pub part_fits : p.off + p.len ≤ length v
  unfolding as_span
  part_fits = omega (arith, trim_fits v, ap (λ (s : Span). s.off) e, ap (λ (s : Span). s.len) e)

  pub part_trimmed : take (p.off + p.len - p.off) (drop p.off v) ≡ trimmed v
  unfolding as_span trimmed bytes_at
  part_trimmed =
      let k : p.off + p.len - p.off ≡ p.len = omega arith in
      rw k (ap (bytes_at v) e)
