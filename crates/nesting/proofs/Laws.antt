-- The rules of the tables, each by one computed test over the whole table, and what the searches need.
use mathlib.Core.Path.{◌≡◌, refl, ap, sym, ◌∙◌}
use mathlib.Core.List.{List, [], ◌∷◌, map}
use mathlib.Core.Bool.{Bool, true, false, ◌||◌, ◌&&◌}
use Prim.Native.Nat.{ℕ, zero, suc, ◌+◌, ◌-◌, ◌≤◌, ◌<◌}
use native.Mathlib.Nat.{add-zero}
use native.Mathlib.Numerals.{add-one}
use native.Mathlib.Omega.{arith}
use lib.Dec.{eqb}
use lib.ListN.{length, get_or, drop, drop_of_length-le, get_or-map}
use lib.Seq.{drop-cons}
use borrow.Author.Tests.{eq-eqb, ne_eqb, eqb-true}
use Rattle.definition.specs.Elements.{among, holds_text, names_state}
use Rattle.definition.specs.Nesting.{Below, nesting, allowed_in, parent_allowed}
use Rattle.nesting.specs.Tables.{parents_of, parent_row, parent_rows, listed}

-- ---- the nesting table

-- Rows are numbered one after the other, as the code counts them.
unfoldable numbered : ℕ → List Below → Bool
numbered k [] = true
numbered k (b ∷ bs) = eqb b.element k && numbered (suc k) bs

nesting_numbered : numbered 2 nesting ≡ true
unfolding numbered nesting
nesting_numbered = refl

-- Each row of the array holds the parents of the definition.
rows_fit : map listed parent_rows ≡ parents_of
unfolding listed parent_rows parent_row parents_of nesting
rows_fit = refl

rows_long : length nesting ≡ 25
unfolding nesting
rows_long = refl

no_parents : listed [] ≡ []
unfolding listed
no_parents = refl

pub row_listed : (r : ℕ) → listed (get_or parent_rows r []) ≡ get_or parents_of r []
row_listed r =
    sym (ap (λ (d : List ℕ). get_or (map listed parent_rows) r d) (sym no_parents) ∙ get_or-map listed parent_rows r []) ∙ ap (λ (l : List (List ℕ)). get_or l r []) rows_fit

both : (a b : Bool) → (a && b) ≡ true → (a ≡ true) × (b ≡ true)
both true b h = (refl, h)
both false b h = let z : ◌≡◌ {A = ℕ} 0 1 = cc in absurd (omega arith)

module _ (g p : ℕ) where
  allowed_by : (b : Below) (bs : List Below) (t : Bool) → eqb b.element g ≡ t → allowed_in (b ∷ bs) g p ≡ elim t [ true ↦ among p b.parents | false ↦ allowed_in bs g p ]
  unfolding allowed_in
  allowed_by b bs t e = ap (λ (t : Bool). elim t [ true ↦ among p b.parents | false ↦ allowed_in bs g p ]) e

  first : (b : Below) (bs : List Below) (k : ℕ) → numbered k (b ∷ bs) ≡ true → (b.element ≡ k) × (numbered (suc k) bs ≡ true)
  unfolding numbered
  first b bs k n = let s : (eqb b.element k ≡ true) × (numbered (suc k) bs ≡ true) = both _ _ n in (eqb-true _ _ s.0, s.1)

  other : (b : Below) (bs : List Below) (k : ℕ) → numbered k (b ∷ bs) ≡ true → (g ≡ k → ⊥) → allowed_in (b ∷ bs) g p ≡ allowed_in bs g p
  other b bs k n h = allowed_by b bs false (ne_eqb _ _ (λ e. h (sym e ∙ (first b bs k n).0)))

  -- an element that has no row stands anywhere
  allowed_out : (bs : List Below) (k : ℕ) → numbered k bs ≡ true → ((i : ℕ) → i < length bs → g ≡ k + i → ⊥) → allowed_in bs g p ≡ true
  unfolding allowed_in
  allowed_out [] k n h = refl
  allowed_out (b ∷ bs) k n h =
      other b bs k n (λ e. h 0 (omega arith) (omega arith)) ∙ allowed_out bs (suc k) (first b bs k n).1 (λ i l e. h (suc i) (omega arith) (omega arith))

  -- the others only in their row's parents
  allowed_in_lem : (bs : List Below) (k i : ℕ) → numbered k bs ≡ true → i < length bs → g ≡ k + i → allowed_in bs g p ≡ among p (get_or (map (λ (b : Below). b.parents) bs) i [])
  allowed_in_lem [] k i n l e = absurd (omega arith)
  allowed_in_lem (b ∷ bs) k zero n l e = allowed_by b bs true (eq-eqb _ _ ((first b bs k n).0 ∙ sym (e ∙ add-zero k)))
  allowed_in_lem (b ∷ bs) k (suc i) n l e = other b bs k n (λ z. omega arith) ∙ allowed_in_lem bs (suc k) i (first b bs k n).1 (omega arith) (omega arith)

  pub free_below : g < 2 → true ≡ parent_allowed g p
  unfolding parent_allowed
  free_below h = sym (allowed_out nesting 2 nesting_numbered (λ i l e. omega arith))

  pub free_above : 26 < g → true ≡ parent_allowed g p
  unfolding parent_allowed
  free_above h = sym (allowed_out nesting 2 nesting_numbered (λ i l e. omega (arith, rows_long)))

  pub in_table : 2 ≤ g → g ≤ 26 → among p (get_or parents_of (g - 2) []) ≡ parent_allowed g p
  unfolding parent_allowed parents_of
  in_table h k = sym (allowed_in_lem nesting 2 (g - 2) nesting_numbered (omega (arith, rows_long)) (omega arith))

-- ---- a search in a row

listed_zero : (x : ℕ) (xs : List ℕ) → x ≡ 0 → listed (x ∷ xs) ≡ []
unfolding listed
listed_zero x xs e = rw (eq-eqb _ _ e, listed)

listed_more : (x : ℕ) (xs : List ℕ) → (x ≡ 0 → ⊥) → listed (x ∷ xs) ≡ x ∷ listed xs
unfolding listed
listed_more x xs e = rw (ne_eqb _ _ e, listed)

module _ (l : List ℕ) (p i : ℕ) where
  pub row_end : length l ≤ i → among p (listed (drop i l)) ≡ false
  unfolding among listed
  row_end h = rw (drop_of_length-le l h)

  module _ (inside : i < length l) where
    pub row_zero : get_or l i 0 ≡ 0 → among p (listed (drop i l)) ≡ false
    unfolding among
    row_zero e = ap (among p) (ap listed (drop-cons l i 0 inside) ∙ listed_zero _ _ e)

    module _ (some : get_or l i 0 ≡ 0 → ⊥) where
      listed_at : listed (drop i l) ≡ get_or l i 0 ∷ listed (drop (suc i) l)
      listed_at = ap listed (drop-cons l i 0 inside) ∙ listed_more _ _ some

      pub row_here : get_or l i 0 ≡ p → among p (listed (drop i l)) ≡ true
      unfolding among
      row_here e = ap (among p) listed_at ∙ ap (λ (t : Bool). elim t [ true ↦ true | false ↦ among p (listed (drop (suc i) l)) ]) (eq-eqb p _ (sym e))

      pub row_next : (get_or l i 0 ≡ p → ⊥) → among p (listed (drop (i + 1) l)) ≡ among p (listed (drop i l))
      unfolding among
      row_next e =
          ap (λ (n : ℕ). among p (listed (drop n l))) (add-one i)
          ∙ sym (ap (among p) listed_at ∙ ap (λ (t : Bool). elim t [ true ↦ true | false ↦ among p (listed (drop (suc i) l)) ]) (ne_eqb p _ (λ z. e (sym z))))

-- ---- short lists of elements

four : (a b c d : Bool) → (a || (b || (c || d))) ≡ elim a [ true ↦ true | false ↦ elim b [ true ↦ true | false ↦ elim c [ true ↦ true | false ↦ elim d [ true ↦ true | false ↦ false ] ] ] ]
four true b c d = refl
four false true c d = refl
four false false true d = refl
four false false false true = refl
four false false false false = refl

pub text_held : (g : ℕ) → (eqb g 9 || (eqb g 26 || (eqb g 15 || eqb g 23))) ≡ holds_text g
unfolding holds_text among
text_held g = four (eqb g 9) (eqb g 26) (eqb g 15) (eqb g 23)

pub state_named : (g : ℕ) → (eqb g 1 || (eqb g 2 || (eqb g 3 || (eqb g 5 || eqb g 6)))) ≡ names_state g
unfolding names_state among
state_named g = go (eqb g 1) (four (eqb g 2) (eqb g 3) (eqb g 5) (eqb g 6))
  where
    go : (a : Bool) {x y : Bool} → x ≡ y → (a || x) ≡ elim a [ true ↦ true | false ↦ y ]
    go true e = refl
    go false e = e
