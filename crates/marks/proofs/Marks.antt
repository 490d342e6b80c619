-- Names found by their marks: no two known names have the same.
use Prim.Native.Nat.{ℕ, zero, suc, ◌+◌, ◌-◌, ◌≤◌, ◌<◌}
use mathlib.Core.Path.{◌≡◌, refl, sym, ap, ◌∙◌}
use mathlib.Core.Bool.{Bool, true, false, ◌&&◌}
use mathlib.Core.List.{List, [], ◌∷◌, map}
use native.Mathlib.Omega.{arith}
use lib.Dec.{eqb, leb, ltb}
use lib.ListN.{length, get_or, length-map}
use Rattle.std.proofs.Common.{unwrap_or}
use Rattle.std.specs.Bool.{then_some}
use borrow.Author.Tests.{eqb-true, eq-eqb, ltb-true, ltb-false, lt-ltb, le-ltb, leb-true}
use Rattle.definition.specs.Text.{str, same, place_in}
use Rattle.definition.specs.Elements.{element_names, key_names, number_in, tag_of, key_of}
use Rattle.definition.proofs.Base.{same_eq, true_is_false, and_left, and_right, place_true}
use Rattle.definition.specs.declared.codes.Key.{Key}
use Rattle.definition.specs.declared.codes.Tag.{Tag}
use Rattle.definition.specs.declared.codes.Tag.TheVariants.{Unknown}
use Rattle.definition.specs.Codes.{key_number, key_code, tag_number}
use Rattle.marks.specs.Marks.{mark, element_marks, key_marks, NotAny, IsSized, IsName}

-- ---- a search in a list of names

place_le : (ns : List (List ℕ)) (w : List ℕ) (i : ℕ) → i < length ns → same (get_or ns i []) w ≡ true → place_in ns w ≤ i
unfolding place_in
place_le [] w i h e = absurd (omega arith)
place_le (n ∷ ns) w zero h e = go (same n w) e
  where
    go : (b : Bool) → b ≡ true → ◌≤◌ (elim b [ true ↦ 0 | false ↦ suc (place_in ns w) ]) 0
    go true e = omega arith
    go false e = true_is_false (sym e)
place_le (n ∷ ns) w (suc i) h e = go (same n w) (place_le ns w i (omega arith) e)
  where
    go : (b : Bool) → place_in ns w ≤ i → ◌≤◌ (elim b [ true ↦ 0 | false ↦ suc (place_in ns w) ]) (suc i)
    go true ih = omega arith
    go false ih = omega (arith, ih)

number_at : (ns : List (List ℕ)) (w : List ℕ) → place_in ns w < length ns → number_in ns w ≡ suc (place_in ns w)
unfolding number_in
number_at ns w h = ap (λ (t : Bool). elim t [ true ↦ suc (place_in ns w) | false ↦ 0 ]) (lt-ltb (place_in ns w) (length ns) h)

number_none : (ns : List (List ℕ)) (w : List ℕ) → length ns ≤ place_in ns w → number_in ns w ≡ 0
unfolding number_in
number_none ns w h = ap (λ (t : Bool). elim t [ true ↦ suc (place_in ns w) | false ↦ 0 ]) (le-ltb (place_in ns w) (length ns) h)

-- ---- by a fact that only the name at i can have

module _ (ns : List (List ℕ)) (w : List ℕ) where
  only_hit : (i : ℕ) → i < length ns → ((j : ℕ) → j < length ns → same (get_or ns j []) w ≡ true → j ≡ i) → same (get_or ns i []) w ≡ true → suc i ≡ number_in ns w
  only_hit i h only e =
      let k : place_in ns w < length ns = omega (arith, h, place_le ns w i h e) in
      sym (number_at ns w k ∙ ap suc (only (place_in ns w) k (place_true ns w k)))

  only_miss : (i : ℕ) → ((j : ℕ) → j < length ns → same (get_or ns j []) w ≡ true → j ≡ i) → same (get_or ns i []) w ≡ false → 0 ≡ number_in ns w
  only_miss i only e = later (ltb (place_in ns w) (length ns)) refl
    where
      later : (b : Bool) → ltb (place_in ns w) (length ns) ≡ b → 0 ≡ number_in ns w
      later true q =
          let k : place_in ns w < length ns = ltb-true (place_in ns w) (length ns) q in
          let z : place_in ns w ≡ i = only (place_in ns w) k (place_true ns w k) in
          true_is_false (sym (place_true ns w k) ∙ ap (λ (j : ℕ). same (get_or ns j []) w) z ∙ e)
      later false q = sym (number_none ns w (ltb-false (place_in ns w) (length ns) q))

  none_by : ((j : ℕ) → j < length ns → same (get_or ns j []) w ≡ true → ⊥) → 0 ≡ number_in ns w
  none_by never = go (ltb (place_in ns w) (length ns)) refl
    where
      go : (b : Bool) → ltb (place_in ns w) (length ns) ≡ b → 0 ≡ number_in ns w
      go true q = let k : place_in ns w < length ns = ltb-true (place_in ns w) (length ns) q in absurd (never (place_in ns w) k (place_true ns w k))
      go false q = sym (number_none ns w (ltb-false (place_in ns w) (length ns) q))

-- ---- computed tests of the names

-- Of the marks, which begin with the place k, only the one at i is v.
unfoldable pub alone : ℕ → List ℕ → ℕ → ℕ → Bool
alone k [] v i = true
alone k (m ∷ ms) v i = elim (eqb m v) [ true ↦ eqb k i && alone (suc k) ms v i | false ↦ alone (suc k) ms v i ]

alone_at : (k : ℕ) (ms : List ℕ) (v i : ℕ) → alone k ms v i ≡ true → (j : ℕ) → j < length ms → get_or ms j 0 ≡ v → k + j ≡ i
unfolding alone
alone_at k [] v i e j h m = absurd (omega arith)
alone_at k (n ∷ ms) v i e zero h m = go (eqb n v) (eq-eqb n v m) e
  where
    go : (b : Bool) → b ≡ true → elim b [ true ↦ eqb k i && alone (suc k) ms v i | false ↦ alone (suc k) ms v i ] ≡ true → k + 0 ≡ i
    go true q e = omega (arith, eqb-true k i (and_left (eqb k i) (alone (suc k) ms v i) e))
    go false q e = true_is_false (sym q)
alone_at k (n ∷ ms) v i e (suc j) h m = go (eqb n v) (λ a. alone_at (suc k) ms v i a j (omega arith) m) e
  where
    go : (b : Bool) → (alone (suc k) ms v i ≡ true → suc k + j ≡ i) → elim b [ true ↦ eqb k i && alone (suc k) ms v i | false ↦ alone (suc k) ms v i ] ≡ true → k + suc j ≡ i
    go true ih e = omega (arith, ih (and_right (eqb k i) (alone (suc k) ms v i) e))
    go false ih e = omega (arith, ih e)

-- Each of the marks ms, which begin with the place k, stands once among vs.
unfoldable each_alone : ℕ → List ℕ → List ℕ → Bool
unfolding alone
each_alone k [] vs = true
each_alone k (m ∷ ms) vs = alone 0 vs m k && each_alone (suc k) ms vs

each_at : (k : ℕ) (ms vs : List ℕ) → each_alone k ms vs ≡ true → (j : ℕ) → j < length ms → alone 0 vs (get_or ms j 0) (k + j) ≡ true
unfolding each_alone
each_at k [] vs e j h = absurd (omega arith)
each_at k (m ∷ ms) vs e zero h = let z : k + 0 ≡ k = omega arith in rw z (and_left (alone 0 vs m k) (each_alone (suc k) ms vs) e)
each_at k (m ∷ ms) vs e (suc j) h = let z : k + suc j ≡ suc k + j = omega arith in rw z (each_at (suc k) ms vs (and_right (alone 0 vs m k) (each_alone (suc k) ms vs) e) j (omega arith))

none_at : (h : ℕ) (vs : List ℕ) → NotAny h vs → (j : ℕ) → j < length vs → get_or vs j 0 ≡ h → ⊥
none_at h [] n j l e = absurd (omega arith)
none_at h (v ∷ vs) n zero l e = n.0 (sym e)
none_at h (v ∷ vs) n (suc j) l e = none_at h vs n.1 j (omega arith) e

-- The marks of all names, in order.
mark_at : (ns : List (List ℕ)) (j : ℕ) → j < length ns → mark (get_or ns j []) ≡ get_or (map mark ns) j 0
mark_at [] j h = absurd (omega arith)
mark_at (n ∷ ns) zero h = refl
mark_at (n ∷ ns) (suc j) h = mark_at ns j (omega arith)

elements_marked : map mark element_names ≡ element_marks
unfolding element_names str mark
elements_marked = refl

keys_marked : map mark key_names ≡ key_marks
unfolding key_names str mark
keys_marked = refl

-- Every name has 2 to 11 bytes.
unfoldable sized : List (List ℕ) → Bool
sized [] = true
sized (n ∷ ns) = (leb 2 (length n) && leb (length n) 11) && sized ns

sized_at : (ns : List (List ℕ)) → sized ns ≡ true → (j : ℕ) → j < length ns → (2 ≤ length (get_or ns j [])) × (length (get_or ns j []) ≤ 11)
unfolding sized
sized_at [] e j h = absurd (omega arith)
sized_at (n ∷ ns) e zero h =
    let z : (leb 2 (length n) && leb (length n) 11) ≡ true = and_left (leb 2 (length n) && leb (length n) 11) (sized ns) e in
    (leb-true 2 (length n) (and_left (leb 2 (length n)) (leb (length n) 11) z), leb-true (length n) 11 (and_right (leb 2 (length n)) (leb (length n) 11) z))
sized_at (n ∷ ns) e (suc j) h = sized_at ns (and_right (leb 2 (length n) && leb (length n) 11) (sized ns) e) j (omega arith)

-- ---- what the functions need

module _ (ns : List (List ℕ)) (w : List ℕ) (ms : List ℕ) (em : map mark ns ≡ ms) where
  known : (j : ℕ) → j < length ns → same (get_or ns j []) w ≡ true → get_or ms j 0 ≡ mark w
  known j k e = sym (mark_at ns j k ∙ ap (λ (l : List ℕ). get_or l j 0) em) ∙ ap mark (same_eq (get_or ns j []) w e)

  as_many : length ms ≡ length ns
  as_many = sym (ap length em) ∙ length-map ns mark

  module _ (once : each_alone 0 ms ms ≡ true) (n : ℕ) (x : List ℕ) (f : IsName ns n x × (mark x ≡ mark w)) where
    place : suc (n - 1) ≡ n
    place = omega (arith, f.0.0)

    inside : n - 1 < length ns
    inside = omega (arith, f.0.0, f.0.1)

    only : (j : ℕ) → j < length ns → same (get_or ns j []) w ≡ true → j ≡ n - 1
    only j k e =
        let h : get_or ms (n - 1) 0 ≡ mark w = sym (ap mark f.0.2 ∙ mark_at ns (n - 1) inside ∙ ap (λ (l : List ℕ). get_or l (n - 1) 0) em) ∙ f.1 in
        let z : 0 + (n - 1) ≡ n - 1 = omega arith in
        let a : alone 0 ms (get_or ms (n - 1) 0) (n - 1) ≡ true = rw z at (each_at 0 ms ms once (n - 1) (omega (arith, inside, as_many))) in
        omega (arith, alone_at 0 ms (get_or ms (n - 1) 0) (n - 1) a j (omega (arith, k, as_many)) (known j k e ∙ sym h))

    hit : same x w ≡ true → n ≡ number_in ns w
    hit e = sym place ∙ only_hit ns w (n - 1) inside only (sym (ap (λ (l : List ℕ). same l w) f.0.2) ∙ e)

    miss : same x w ≡ false → 0 ≡ number_in ns w
    miss e = only_miss ns w (n - 1) only (sym (ap (λ (l : List ℕ). same l w) f.0.2) ∙ e)

  unmarked : NotAny (mark w) ms → 0 ≡ number_in ns w
  unmarked n = none_by ns w (λ j k e. none_at (mark w) ms n j (omega (arith, k, as_many)) (known j k e))

unsized : (ns : List (List ℕ)) (w : List ℕ) → sized ns ≡ true → (IsSized w → ⊥) → 0 ≡ number_in ns w
unsized ns w z n = none_by ns w (λ j k e. n (let x : length (get_or ns j []) ≡ length w = ap length (same_eq (get_or ns j []) w e) in (omega (arith, x, (sized_at ns z j k).0), omega (arith, x, (sized_at ns z j k).1))))

-- A name that has no mark, a mark that has no name, and a mark's one name.
module _ (w : List ℕ) where
  pub key_unsized : (IsSized w → ⊥) → 0 ≡ key_of w
  unfolding key_of sized key_names str
  key_unsized n = unsized key_names w refl n

  pub tag_unsized : (IsSized w → ⊥) → 0 ≡ tag_of w
  unfolding tag_of sized element_names str
  tag_unsized n = unsized element_names w refl n

  pub key_unmarked : NotAny (mark w) key_marks → 0 ≡ key_of w
  unfolding key_of
  key_unmarked n = unmarked key_names w key_marks keys_marked n

  pub tag_unmarked : NotAny (mark w) element_marks → 0 ≡ tag_of w
  unfolding tag_of
  tag_unmarked n = unmarked element_names w element_marks elements_marked n

  module _ (x : List ℕ) where
    pub key_found : (k : Key) → IsName key_names (key_number k) x × (mark x ≡ mark w) → key_code (then_some (same x w) k) ≡ key_of w
    unfolding key_of each_alone
    key_found k f = go (same x w) refl
      where
        go : (b : Bool) → same x w ≡ b → key_code (then_some b k) ≡ key_of w
        go true e = hit key_names w key_marks keys_marked refl (key_number k) x f e
        go false e = miss key_names w key_marks keys_marked refl (key_number k) x f e

    pub tag_found : (g : Tag) → IsName element_names (tag_number g) x × (mark x ≡ mark w) → tag_number (unwrap_or (then_some (same x w) g) Unknown) ≡ tag_of w
    unfolding tag_of each_alone
    tag_found g f = go (same x w) refl
      where
        go : (b : Bool) → same x w ≡ b → tag_number (unwrap_or (then_some b g) Unknown) ≡ tag_of w
        go true e = hit element_names w element_marks elements_marked refl (tag_number g) x f e
        go false e = miss element_names w element_marks elements_marked refl (tag_number g) x f e
