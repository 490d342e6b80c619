-- What passing blocks of bytes needs of the definitions: it is passing their bytes one by one.
use Prim.Native.Nat.{ℕ, zero, suc, ◌+◌, ◌-◌, ◌≤◌, ◌<◌}
use mathlib.Core.Path.{◌≡◌, refl, sym, ap, ◌∙◌}
use mathlib.Core.Bool.{Bool, true, false, ◌&&◌, not, cond, and_assoc, and-true, and-eq-true_iff}
use mathlib.Core.List.{List, [], ◌∷◌, ◌++◌}
use native.Mathlib.Numerals.{one-add}
use native.Mathlib.Omega.{arith}
use lib.Dec.{eqb}
use lib.ListN.{length, get_or, take, drop, length-drop, drop_of_length-le}
use lib.Seq.{take-suc, take_all}
use borrow.Author.Tests.{not-true}
use Rattle.std.proofs.Common.{Some, None, nat_lt, position, unwrap_or}
use Rattle.std.specs.List.{position_or_len}
use Rattle.std.proofs.lemmas.List.Sums.{prefix_len-le-length}
use Rattle.definition.specs.Text.{is_allowed}
use Rattle.definition.specs.Event.{legible}
use Rattle.definition.proofs.Base.{true_is_false}
use Rattle.lines.specs.Lines.{line_length}
use Rattle.lines.specs.Escapes.{counted, scanned}
use Rattle.lines.specs.Parts.{part}
use Rattle.lines.specs.Blocks.{all, is_within_line, is_plain, is_text}
use Rattle.lines.proofs.EscapeLaws.{plain_first, counted_more, scan_end}

module _ (p : ℕ → Bool) where
  all_snoc : (l : List ℕ) (b : ℕ) → all p (l ++ b ∷ []) ≡ (all p l && p b)
  unfolding all
  all_snoc [] b = and-true (p b)
  all_snoc (a ∷ l) b = ap (λ (x : Bool). p a && x) (all_snoc l b) ∙ sym (and_assoc (p a) (all p l) (p b))

  -- At one more byte.
  pub all_more : (s : List ℕ) (i : ℕ) (so : Bool) → i < length s → so ≡ all p (take i s) → (so && p (get_or s i 0)) ≡ all p (take (i + 1) s)
  all_more s i so h e =
      let z : i + 1 ≡ suc i = omega arith in
      rw (z, take-suc s i 0 h) (ap (λ (x : Bool). x && p (get_or s i 0)) e ∙ sym (all_snoc (take i s) (get_or s i 0)))

  pub all_join : (n m : ℕ) (t : List ℕ) → all p (take n t) ≡ true → all p (take m (drop n t)) ≡ true → all p (take (n + m) t) ≡ true
  unfolding all
  all_join zero m t e f = let z : 0 + m ≡ m = omega arith in rw z f
  all_join (suc n) m [] e f = let z : suc n + m ≡ suc (n + m) = omega arith in rw z refl
  all_join (suc n) m (b ∷ bs) e f =
      let g : (p b ≡ true) × (all p (take n bs) ≡ true) = (and-eq-true_iff _ _).0 e in
      let z : suc n + m ≡ suc (n + m) = omega arith in
      rw z ((and-eq-true_iff _ _).1 (g.0, all_join n m bs g.1 f))

  all_fewer : (n m : ℕ) (t : List ℕ) → n ≤ m → all p (take m t) ≡ true → all p (take n t) ≡ true
  unfolding all
  all_fewer zero m t h e = refl
  all_fewer (suc n) m [] h e = refl
  all_fewer (suc n) zero (b ∷ bs) h e = absurd (omega arith)
  all_fewer (suc n) (suc m) (b ∷ bs) h e =
      let g : (p b ≡ true) × (all p (take m bs) ≡ true) = (and-eq-true_iff _ _).0 e in
      (and-eq-true_iff _ _).1 (g.0, all_fewer n m bs (omega arith) g.1)

-- What follows for each byte follows for all.
all_weaker : (p q : ℕ → Bool) → ((b : ℕ) → p b ≡ true → q b ≡ true) → (l : List ℕ) → all p l ≡ true → all q l ≡ true
unfolding all
all_weaker p q f [] e = refl
all_weaker p q f (b ∷ l) e =
    let g : (p b ≡ true) × (all p l ≡ true) = (and-eq-true_iff (p b) (all p l)).0 e in
    (and-eq-true_iff (q b) (all q l)).1 (f b g.0, all_weaker p q f l g.1)

pub text_within : (l : List ℕ) → all is_text l ≡ true → all is_within_line l ≡ true
unfolding is_text
text_within = all_weaker is_text is_within_line (λ b e. ((and-eq-true_iff (is_within_line b) (is_plain b)).0 e).0)

pub text_plain : (l : List ℕ) → all is_text l ≡ true → all is_plain l ≡ true
unfolding is_text
text_plain = all_weaker is_text is_plain (λ b e. ((and-eq-true_iff (is_within_line b) (is_plain b)).0 e).1)

-- A byte on its line that is the text's is a text's byte.
all_text : (l : List ℕ) → all is_within_line l ≡ true → all is_plain l ≡ true → all is_text l ≡ true
unfolding all is_text
all_text [] e f = refl
all_text (b ∷ l) e f =
    let g : (is_within_line b ≡ true) × (all is_within_line l ≡ true) = (and-eq-true_iff _ _).0 e in
    let h : (is_plain b ≡ true) × (all is_plain l ≡ true) = (and-eq-true_iff _ _).0 f in
    (and-eq-true_iff _ _).1 ((and-eq-true_iff _ _).1 (g.0, h.0), all_text l g.1 h.1)

-- A block that is not within a line has the line's end.
line_in_lem : (n : ℕ) (t : List ℕ) → all is_within_line (take n t) ≡ false → (line_length t < n) × (line_length t < length t)
unfolding all is_within_line line_length
line_in_lem zero t e = true_is_false e
line_in_lem (suc n) [] e = true_is_false e
line_in_lem (suc n) (b ∷ bs) e = go (eqb b 10) refl (line_in_lem n bs)
  where
    go : (p : Bool) → eqb b 10 ≡ p → (all is_within_line (take n bs) ≡ false → (line_length bs < n) × (line_length bs < length bs)) → (line_length (b ∷ bs) < suc n) × (line_length (b ∷ bs) < suc (length bs))
    go true q ih = rw (q, line_length) (omega arith, omega arith)
    go false q ih =
        let z : all is_within_line (take n bs) ≡ false = sym (ap (λ (x : Bool). not x && all is_within_line (take n bs)) q) ∙ e in
        let r = ih z in
        rw (q, line_length) (omega (arith, r.0), omega (arith, r.1))

-- The length of a line, and what is legible, past bytes of which a test holds.
pub line_past : (i : ℕ) (s : List ℕ) → i ≤ length s → all is_within_line (take i s) ≡ true → i + line_length (drop i s) ≡ line_length s
unfolding all is_within_line line_length
line_past zero s h e = omega arith
line_past (suc i) [] h e = absurd (omega arith)
line_past (suc i) (b ∷ bs) h e = go (eqb b 10) refl (λ k. line_past i bs (omega arith) k) ((and-eq-true_iff (not (eqb b 10)) (all is_within_line (take i bs))).0 e)
  where
    go : (p : Bool) → eqb b 10 ≡ p → (all is_within_line (take i bs) ≡ true → i + line_length (drop i bs) ≡ line_length bs) → (not (eqb b 10) ≡ true) × (all is_within_line (take i bs) ≡ true)
        → suc i + line_length (drop i bs) ≡ line_length (b ∷ bs)
    go true q ih g = true_is_false (sym g.0 ∙ ap not q)
    go false q ih g = rw (q, line_length) (omega (arith, ih g.1))

pub scan_past : (i n : ℕ) (s : List ℕ) → i ≤ length s → all is_plain (take i s) ≡ true → counted (n + i) (legible (drop i s)) ≡ counted n (legible s)
unfolding all is_plain is_allowed
scan_past zero n s h e = let z : n + 0 ≡ n = omega arith in rw z refl
scan_past (suc i) n [] h e = absurd (omega arith)
scan_past (suc i) n (b ∷ bs) h e =
    let g : (is_plain b ≡ true) × (all is_plain (take i bs) ≡ true) = (and-eq-true_iff (is_plain b) (all is_plain (take i bs))).0 e in
    let k : (not (eqb b 92) ≡ true) × (is_allowed b ≡ true) = (and-eq-true_iff (not (eqb b 92)) (is_allowed b)).0 g.0 in
    let z : n + suc i ≡ n + 1 + i = omega arith in
    rw z (scan_past i (n + 1) bs (omega arith) g.1 ∙ counted_more n b (legible bs) ∙ ap (counted n) (sym (plain_first b bs (not-true _ k.0) k.1)))

-- What is plain is legible as it is written.
pub scanned_plain : (x : List ℕ) → all is_plain x ≡ true → Some (length x) ≡ scanned x
unfolding scanned
scanned_plain x e =
    let a : all is_plain (take (length x) x) ≡ true = ap (all is_plain) (take_all (length x) x (omega arith)) ∙ e in
    let z : 0 + length x ≡ length x = omega arith in
    let d : drop (length x) x ≡ [] = drop_of_length-le x (omega arith) in
    scan_end [] (length x) (λ h. absurd (omega arith))
    ∙ ap (λ (l : List ℕ). counted (length x) (legible l)) (sym d)
    ∙ ap (λ (n : ℕ). counted n (legible (drop (length x) x))) (sym z)
    ∙ scan_past (length x) 0 x (omega arith) a

-- ---- slices, as code takes them

pub rest_is : (n : ℕ) (s : List ℕ) → take (length s - n) (drop n s) ≡ drop n s
rest_is n s = take_all _ _ (omega (arith, length-drop n s))

-- The first byte 10.
pub line_found : (s : List ℕ) → position_or_len (λ (b : ℕ). eqb b 10) s ≡ line_length s
unfolding line_length
line_found [] = refl
line_found (b ∷ bs) = go (eqb b 10) (line_found bs)
  where
    go : (p : Bool) → position_or_len (λ (b : ℕ). eqb b 10) bs ≡ line_length bs → cond (not p) (1 + position_or_len (λ (b : ℕ). eqb b 10) bs) 0 ≡ elim p [ true ↦ 0 | false ↦ suc (line_length bs) ]
    go true e = refl
    go false e = one-add _ ∙ ap suc e

or_length : (n m : ℕ) → n ≤ m → unwrap_or (cond (nat_lt n m) (Some n) None) m ≡ n
or_length n m h = choose (nat_lt n m) refl
  where
    choose : (p : Bool) → nat_lt n m ≡ p → unwrap_or (cond p (Some n) None) m ≡ n
    choose true e = refl
    choose false e = grind arith

pub line_first : (s : List ℕ) → unwrap_or (position (λ (b : ℕ). eqb b 10) s) (length s) ≡ line_length s
line_first s = or_length _ _ (prefix_len-le-length (λ (b : ℕ). not (eqb b 10)) s) ∙ line_found s

pub line_first_at : (s : List ℕ) (i : ℕ) → unwrap_or (position (λ (b : ℕ). eqb b 10) (take (length s - i) (drop i s))) (length s - i) ≡ line_length (drop i s)
line_first_at s i =
    let z : length s - i ≡ length (drop i s) = omega (arith, length-drop i s) in
    ap (λ (l : List ℕ). unwrap_or (position (λ (b : ℕ). eqb b 10) l) (length s - i)) (rest_is i s)
    ∙ ap (unwrap_or (position (λ (b : ℕ). eqb b 10) (drop i s))) z
    ∙ line_first (drop i s)

pub line_within : (s : List ℕ) → line_length s ≤ length s
unfolding line_length
line_within [] = omega arith
line_within (b ∷ bs) = go (eqb b 10) (line_within bs)
  where
    go : (p : Bool) → line_length bs ≤ length bs → elim p [ true ↦ 0 | false ↦ suc (line_length bs) ] ≤ suc (length bs)
    go true e = omega arith
    go false e = omega arith

-- ---- what follows a head

-- Of what stands from a place on, a line and what follows it, k bytes are passed, and t is left.
module _ (raw line t : List ℕ) (from k : ℕ) (a : line ≡ drop from raw) (z : t ≡ drop k line) (h : k ≤ length line) (e : all is_text (take k line) ≡ true) where
  tail_length : k + line_length t ≡ line_length line
  tail_length = rw z (line_past k line h (text_within (take k line) e))

  pub tail_end : from + k + line_length t ≡ from + line_length (drop from raw)
  tail_end = omega (arith, tail_length, ap line_length a)

  pub tail_fits : from + k + line_length t ≤ from + length line
  tail_fits = omega (arith, tail_length, line_within line)

  pub tail_plain : all is_plain (take (line_length t) t) ≡ true → all is_plain (part raw from (line_length (drop from raw))) ≡ true
  unfolding part
  tail_plain f =
      let g : all is_plain (take (line_length t) (drop k line)) ≡ true = ap (λ (x : List ℕ). all is_plain (take (line_length t) x)) (sym z) ∙ f in
      ap (λ (x : List ℕ). all is_plain (take (line_length x) x)) (sym a)
      ∙ ap (λ (x : ℕ). all is_plain (take x line)) (sym tail_length)
      ∙ all_join is_plain k (line_length t) line (text_plain (take k line) e) g

-- A block that is plain, and no block of a text on its line, has the line's end.
pub block_plain : (n : ℕ) (t : List ℕ) → all is_plain (take n t) ≡ true → all is_text (take n t) ≡ false → all is_plain (take (line_length t) t) ≡ true
block_plain n t f g =
    let r = line_in_lem n t (ended (all is_within_line (take n t)) refl) in
    let m : line_length t ≤ n = omega (arith, r.0) in
    all_fewer is_plain (line_length t) n t m f
  where
    ended : (q : Bool) → all is_within_line (take n t) ≡ q → all is_within_line (take n t) ≡ false
    ended true w = true_is_false (sym (all_text (take n t) w f) ∙ g)
    ended false w = w
