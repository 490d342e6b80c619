-- Among names that are distinct, any row that has the name is the first, so rows may be compared in any order.
use Prim.Native.Nat.{ℕ, zero, suc, ◌+◌, ◌≤◌, ◌<◌}
use mathlib.Core.Path.{◌≡◌, refl, sym, ap, ◌∙◌}
use mathlib.Core.Bool.{Bool, true, false}
use mathlib.Core.List.{List, [], ◌∷◌}
use native.Mathlib.Omega.{arith}
use lib.Dec.{eqb, ltb}
use lib.ListN.{length, get_or, take}
use lib.Seq.{get_or-take, length-take-le}
use borrow.Author.Tests.{ltb-true, ltb-false, eqb-true}
use Rattle.definition.specs.Text.{same}
use Rattle.definition.specs.Rows.{Table, Cell, text_at, cell_at}
use Rattle.definition.specs.Look.{find_name, name_cells}
use Rattle.definition.specs.Rules.{names_lead}
use Rattle.definition.proofs.Base.{same_eq, true_is_false}
use Rattle.definition.proofs.Finds.{find_miss}
use Rattle.words.proofs.Laws.{by}
use Rattle.names.specs.Names.{ends_so}
use Rattle.names.proofs.LikeLaws.{Ending, like_not}

-- ---- names that lead to their rows

lead_head : (t : List ℕ) (all : List Cell) (i : ℕ) (c : Cell) (cs : List Cell) → names_lead t all i (c ∷ cs) ≡ true → (find_name t all (text_at t c) ≡ i) × (names_lead t all (suc i) cs ≡ true)
unfolding names_lead
lead_head t all i c cs e =
    by (eqb (find_name t all (text_at t c)) i) (λ q. (eqb-true (find_name t all (text_at t c)) i q, rw (q, names_lead) at e)) (λ q. true_is_false (sym (rw (q, names_lead) at e)))

leads_at : (t : List ℕ) (all : List Cell) (i : ℕ) (rs : Table) → names_lead t all i (name_cells rs) ≡ true → (j : ℕ) → j < length rs → find_name t all (text_at t (cell_at (get_or rs j []) 0)) ≡ i + j
unfolding name_cells
leads_at t all i [] e j h = absurd (omega arith)
leads_at t all i (r ∷ rs) e zero h = (lead_head t all i (cell_at r 0) (name_cells rs) e).0 ∙ omega arith
leads_at t all i (r ∷ rs) e (suc j) h = leads_at t all (suc i) rs (lead_head t all i (cell_at r 0) (name_cells rs) e).1 j (omega arith) ∙ omega arith

-- ---- no row has the name

none_found : (t w : List ℕ) (rs : Table) → ((j : ℕ) → j < length rs → same (text_at t (cell_at (get_or rs j []) 0)) w ≡ false) → find_name t (name_cells rs) w ≡ length rs
unfolding name_cells find_name
none_found t w [] h = refl
none_found t w (r ∷ rs) h =
    find_miss t (cell_at r 0) (name_cells rs) w (h 0 (omega arith)) ∙ ap suc (none_found t w rs (λ j k. h (suc j) (omega (arith, k))))

-- ---- the search

take_less : (k n : ℕ) (xs : Table) → k ≤ n → take k (take n xs) ≡ take k xs
take_less zero n xs h = refl
take_less (suc k) zero xs h = absurd (omega (arith, h))
take_less (suc k) (suc n) [] h = refl
take_less (suc k) (suc n) (x ∷ xs) h = ap (λ (ys : Table). x ∷ ys) (take_less k n xs (omega (arith, h)))

-- Whether the name of row i is w.
abbrev is : (rows : Table) (t w : List ℕ) → ℕ → Bool
is rows t w i = same (text_at t (cell_at (get_or rows i []) 0)) w

-- No row from k on has the name.
abbrev pub Without : Table → List ℕ → List ℕ → ℕ → Type 0
Without rows t w k = (i : ℕ) → k ≤ i → i < length rows → is rows t w i ≡ false

module _ (rows : Table) (t w : List ℕ) where
  abbrev cells : List Cell
  cells = name_cells rows

  pub found_apart : names_lead t cells 0 cells ≡ true → (i : ℕ) → i < length rows → is rows t w i ≡ true → i ≡ find_name t cells w
  found_apart e i h q =
      let y : text_at t (cell_at (get_or rows i []) 0) ≡ w = same_eq (text_at t (cell_at (get_or rows i []) 0)) w q in
      sym (sym (ap (find_name t cells) y) ∙ leads_at t cells 0 rows e i h ∙ omega arith)

  pub none_apart : Without rows t w 0 → length rows ≡ find_name t cells w
  none_apart h = sym (none_found t w rows (λ j g. h j (omega arith) g))

  pub without_start : (n : ℕ) → n ≡ length rows → Without rows t w n
  without_start n e i g h = absurd (omega (arith, e, g, h))

  -- Behind row k of those that are left none may end so, and its own name is another.
  module _ (start b l : ℕ) (tail : List ℕ) (E : Ending t w start b l tail) (n : ℕ) (left : Table) (el : left ≡ take n rows) (ln : length left ≡ n) (W : Without rows t w n) where
    at_left : (i : ℕ) → i < n → get_or left i [] ≡ get_or rows i []
    at_left i h = ap (λ (x : Table). get_or x i []) el ∙ get_or-take n rows i [] h

    unlike : (i : ℕ) → i < n → ends_so tail (get_or (get_or left i []) 0 0) b l ≡ false → is rows t w i ≡ false
    unfolding cell_at
    unlike i h e =
        like_not t w start b l tail E (record { at = get_or (get_or rows i []) 0 0; len = get_or (get_or rows i []) 1 0 })
        (sym (ap (λ (r : List ℕ). ends_so tail (get_or r 0 0) b l) (at_left i h)) ∙ e)

    pub without_all : ((i : ℕ) → i < length left → ends_so tail (get_or (get_or left i []) 0 0) b l ≡ false) → Without rows t w 0
    without_all f i g h = by (ltb i n) (λ z. let y : i < n = ltb-true i n z in unlike i y (f i (omega (arith, y, ln)))) (λ z. W i (ltb-false i n z) h)

    pub without_more : (k : ℕ) → ((i : ℕ) → k < i → i < length left → ends_so tail (get_or (get_or left i []) 0 0) b l ≡ false) → is rows t w k ≡ false → Without rows t w k
    without_more k f q i g h =
        by (ltb i n)
        (λ z.
        let y : i < n = ltb-true i n z in
        by (ltb k i) (λ x. unlike i y (f i (ltb-true k i x) (omega (arith, y, ln)))) (λ x. let s : i ≡ k = omega (arith, g, ltb-false k i x) in ap (is rows t w) s ∙ q))
        (λ z. W i (ltb-false i n z) h)

  module _ (n : ℕ) (left : Table) (el : left ≡ take n rows) (ln : length left ≡ n) where
    pub left_cut : n ≤ length rows → (k : ℕ) → k < length left → Without rows t w k
        → (length (take k left) ≤ length rows) × (take k left ≡ take (length (take k left)) rows) × Without rows t w (length (take k left))
    left_cut fits k h V =
        let z : length (take k left) ≡ k = length-take-le k left (omega (arith, h)) in
        let y : take k left ≡ take k rows = ap (take k) el ∙ take_less k n rows (omega (arith, h, ln)) in
        (omega (arith, z, h, ln, fits), y ∙ ap (λ (m : ℕ). take m rows) (sym z), λ i g. V i (omega (arith, g, z)))
