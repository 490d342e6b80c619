-- The next row that has a number in a column: rows that don't are passed over.
use Prim.Native.Nat.{ℕ, zero, suc, ◌+◌, ◌-◌, ◌<◌, ◌≤◌}
use mathlib.Core.Path.{◌≡◌, refl, sym, ap, ◌∙◌}
use mathlib.Core.Bool.{Bool, true, false, ◌&&◌, ◌||◌}
use mathlib.Core.List.{[], ◌∷◌}
use lib.ListN.{length, get_or, drop, length-drop}
use lib.Seq.{drop-cons, drop-drop, take_all}
use lib.Dec.{eqb, ltb}
use borrow.Author.Tests.{eq-eqb, ne_eqb, eqb-true, eqb-false, ltb-true, ltb-false}
use native.Mathlib.Omega.{arith}
use Rattle.definition.specs.Rows.{Row, Table, num, same_list}
use Rattle.plan.specs.Seen.{first_child_or}
use Rattle.std.proofs.Common.{◌==◌, cond, position, Some, None, take}
use Rattle.std.specs.List.{list_any, position_or_len}
use Rattle.std.proofs.lemmas.List.Recursion.{is_position_or_len}
use Rattle.see.specs.Scans.{is_child_in, first_with}
use Rattle.see.proofs.Scans.{by, no_row, first_here, first_later, child_cons}

module _ (c v : ℕ) where
  hit : (r : Row) (rs : Table) → eqb (num r c) v ≡ true → first_with c v (r ∷ rs) ≡ 0
  unfolding first_with
  hit r rs e = rw (e, first_with)

  miss : (r : Row) (rs : Table) → eqb (num r c) v ≡ false → first_with c v (r ∷ rs) ≡ suc (first_with c v rs)
  unfolding first_with
  miss r rs e = rw (e, first_with)

  with_le : (t : Table) → first_with c v t ≤ length t
  unfolding first_with
  with_le [] = omega arith
  with_le (r ∷ rs) = by (eqb (num r c) v) (λ e. omega (arith, hit r rs e)) (λ e. omega (arith, miss r rs e, with_le rs))

  -- Behind the rows passed over stands one that has it, or none.
  with_behind : (t : Table) → first_with c v (drop (first_with c v t) t) ≡ 0
  unfolding first_with
  with_behind [] = refl
  with_behind (r ∷ rs) =
      by (eqb (num r c) v) (λ e. ap (λ (n : ℕ). first_with c v (drop n (r ∷ rs))) (hit r rs e) ∙ hit r rs e) (λ e. ap (λ (n : ℕ). first_with c v (drop n (r ∷ rs))) (miss r rs e) ∙ with_behind rs)

  with_on : (n : ℕ) (t : Table) → n ≤ first_with c v t → n + first_with c v (drop n t) ≡ first_with c v t
  unfolding first_with
  with_on zero t h = omega arith
  with_on (suc n) [] h = absurd (omega arith)
  with_on (suc n) (r ∷ rs) h =
      by (eqb (num r c) v) (λ e. absurd (omega (arith, h, hit r rs e))) (λ e.
      omega (arith, miss r rs e, with_on n rs (omega (arith, h, miss r rs e))))

  module _ (t : Table) (i : ℕ) where
    abbrev next : ℕ → ℕ
    next j = first_with c v (drop j t)

    pub with_here : i < length t → num (get_or t i []) c ≡ v → next i ≡ 0
    with_here h e = ap (first_with c v) (drop-cons t i [] h) ∙ hit (get_or t i []) (drop (suc i) t) (eq-eqb _ _ e)

    pub with_later : i < length t → ¬ (num (get_or t i []) c ≡ v) → next i ≡ next (i + 1) + 1
    with_later h e =
        let z : i + 1 ≡ suc i = omega arith in
        let y : next i ≡ suc (next (suc i)) = ap (first_with c v) (drop-cons t i [] h) ∙ miss (get_or t i []) (drop (suc i) t) (ne_eqb _ _ e) in
        rw z (omega (arith, y))

    pub with_none : length t ≤ i → next i ≡ 0
    unfolding first_with
    with_none h = ap (first_with c v) (no_row t i h)

    pub with_there : i < length t → next i ≡ 0 → num (get_or t i []) c ≡ v
    with_there h e =
        by (eqb (num (get_or t i []) c) v) (λ f. eqb-true _ _ f)
        (λ f. absurd (omega (arith, e, ap (first_with c v) (drop-cons t i [] h) ∙ miss (get_or t i []) (drop (suc i) t) f)))

    pub with_met : (r : ℕ) → r ≡ i + next i → next r ≡ 0
    with_met r e =
        let z : drop (next i) (drop i t) ≡ drop r t = drop-drop (next i) i t ∙ ap (λ (x : ℕ). drop x t) (sym e) in
        ap (first_with c v) (sym z) ∙ with_behind (drop i t)

  abbrev has_it : Row → Bool
  has_it r = num r c == v

  first_is : (t : Table) → first_with c v t ≡ position_or_len has_it t
  unfolding first_with
  first_is = is_position_or_len (first_with c v) has_it refl (λ r rs. step (has_it r) (first_with c v rs))
    where
      step : (b : Bool) (n : ℕ) → ◌≡◌ {A = ℕ} (elim b [ true ↦ 0 | false ↦ suc n ]) (cond b 0 (1 + n))
      step true n = refl
      step false n = omega arith

  told : (n m j : ℕ) → cond (ltb n m) (Some n) None ≡ Some j → (n ≡ j) × (n < m)
  told n m j e = by (ltb n m) (λ f. (let z : Some n ≡ Some j = rw f at e in cc, ltb-true n m f)) (λ f. let z : None ≡ Some j = rw f at e in cc)

  untold : (n m : ℕ) → cond (ltb n m) (Some n) None ≡ None → m ≤ n
  untold n m e = by (ltb n m) (λ f. let z : Some n ≡ None = rw f at e in cc) (λ f. ltb-false n m f)

  rest : (t : Table) (i : ℕ) → take (length t - i) (drop i t) ≡ drop i t
  rest t i = take_all (length t - i) (drop i t) (omega (arith, length-drop i t))

  pub found_some : (t : Table) (i j : ℕ) → Some j ≡ position has_it (take (length t - i) (drop i t)) → i ≤ length t → (i + j < length t) × (next t i i ≡ j)
  found_some t i j e h =
      let z = told (position_or_len has_it (drop i t)) (length (drop i t)) j (sym (e ∙ ap (position has_it) (rest t i))) in
      (omega (arith, z.0, z.1, length-drop i t), first_is (drop i t) ∙ z.0)

  pub found_none : (t : Table) (i : ℕ) → None ≡ position has_it (take (length t - i) (drop i t)) → i ≤ length t → i + next t i i ≡ length t
  found_none t i e h =
      let z = untold (position_or_len has_it (drop i t)) (length (drop i t)) (sym (e ∙ ap (position has_it) (rest t i))) in
      omega (arith, z, length-drop i t, first_is (drop i t), with_le (drop i t))

  -- A block of n rows without is passed over.
  without : (n : ℕ) (t : Table) → n ≤ length t → list_any has_it (take n t) ≡ false → n ≤ first_with c v t
  without zero t h e = omega arith
  without (suc n) [] h e = absurd (omega arith)
  without (suc n) (r ∷ rs) h e = go (λ f. without n rs (omega arith) f) (has_it r) refl e
    where
      go : (list_any has_it (take n rs) ≡ false → n ≤ first_with c v rs) → (b : Bool) → has_it r ≡ b → (b || list_any has_it (take n rs)) ≡ false → suc n ≤ first_with c v (r ∷ rs)
      go later true f e = let z : ◌≡◌ {A = ℕ} 0 1 = cc in absurd (omega arith)
      go later false f e = omega (arith, miss r rs f, later e)

  pub block_past : (t : Table) (i n : ℕ) → i + n ≤ length t → false ≡ list_any has_it (take (i + n - i) (drop i t)) → i + n + next t i (i + n) ≡ i + next t i i
  block_past t i n h e =
      let y : i + n - i ≡ n = omega arith in
      let z : next t i (i + n) ≡ first_with c v (drop n (drop i t)) = ap (first_with c v) (sym (drop-drop n i t)) in
      let w : list_any has_it (take n (drop i t)) ≡ false = ap (λ (k : ℕ). list_any has_it (take k (drop i t))) (sym y) ∙ sym e in
      omega (arith, z, with_on n (drop i t) (without n (drop i t) (omega (arith, length-drop i t)) w))

-- ---- children

first_past : (d s : ℕ) (t : Table) → first_child_or d s (drop (first_with 1 s t) t) ≡ first_child_or d s t
unfolding first_with first_child_or same_list
first_past d s [] = refl
first_past d s (r ∷ rs) =
    by (eqb (num r 1) s) (λ e. ap (λ (n : ℕ). first_child_or d s (drop n (r ∷ rs))) (hit 1 s r rs e))
    (λ e. ap (λ (n : ℕ). first_child_or d s (drop n (r ∷ rs))) (miss 1 s r rs e) ∙ first_past d s rs ∙ sym (rw (other (eqb (num r 0) 1) e, first_child_or)))
  where
    other : (a : Bool) → eqb (num r 1) s ≡ false → (a && eqb (num r 1) s) ≡ false
    other true e = e
    other false e = refl

child_past : (p s : ℕ) (t : Table) → is_child_in p s (drop (first_with 2 s t) t) ≡ is_child_in p s t
unfolding first_with
child_past p s [] = refl
child_past p s (r ∷ rs) =
    by (eqb (num r 2) s) (λ e. ap (λ (n : ℕ). is_child_in p s (drop n (r ∷ rs))) (hit 2 s r rs e))
    (λ e.
    let z : eqb s (num r 2) ≡ false = ne_eqb s (num r 2) (λ q. eqb-false (num r 2) s e (sym q)) in
    ap (λ (n : ℕ). is_child_in p s (drop n (r ∷ rs))) (miss 2 s r rs e) ∙ child_past p s rs ∙ sym (child_cons p s r rs ∙ ap (λ (b : Bool). b || is_child_in p s rs) (other (same_list 1 p r) z)))
  where
    other : (a : Bool) → eqb s (num r 2) ≡ false → (a && eqb s (num r 2)) ≡ false
    other true e = e
    other false e = refl

module _ (t : Table) (f r : ℕ) where
  past : (c v : ℕ) → r ≡ f + first_with c v (drop f t) → drop r t ≡ drop (first_with c v (drop f t)) (drop f t)
  past c v e = sym (drop-drop (first_with c v (drop f t)) f t ∙ ap (λ (x : ℕ). drop x t) (sym e))

  pub first_next : (d s : ℕ) → r ≡ f + first_with 1 s (drop f t) → first_child_or d s (drop r t) ≡ first_child_or d s (drop f t)
  first_next d s e = ap (first_child_or d s) (past 1 s e) ∙ first_past d s (drop f t)

  pub child_next : (p s : ℕ) → r ≡ f + first_with 2 s (drop f t) → is_child_in p s (drop r t) ≡ is_child_in p s (drop f t)
  child_next p s e = ap (is_child_in p s) (past 2 s e) ∙ child_past p s (drop f t)

module _ (p s : ℕ) (t : Table) (i : ℕ) where
  pub child_this : i < length t → num (get_or t i []) 2 ≡ s → same_list 1 p (get_or t i []) ≡ true → true ≡ is_child_in p s (drop i t)
  child_this h e f =
      let r : Row = get_or t i [] in
      sym (ap (is_child_in p s) (drop-cons t i [] h) ∙ child_cons p s r (drop (suc i) t) ∙ ap (λ (b : Bool). (b && eqb s (num r 2)) || is_child_in p s (drop (suc i) t)) f ∙ ap (λ (b : Bool). b || is_child_in p s (drop (suc i) t)) (eq-eqb s (num r 2) (sym e)))

  pub child_later : i < length t → same_list 1 p (get_or t i []) ≡ false → is_child_in p s (drop (i + 1) t) ≡ is_child_in p s (drop i t)
  child_later h f =
      let r : Row = get_or t i [] in
      let z : i + 1 ≡ suc i = omega arith in
      ap (λ (j : ℕ). is_child_in p s (drop j t)) z ∙ sym (ap (is_child_in p s) (drop-cons t i [] h) ∙ child_cons p s r (drop (suc i) t) ∙ ap (λ (b : Bool). (b && eqb s (num r 2)) || is_child_in p s (drop (suc i) t)) f)

  pub child_no : length t ≤ i → false ≡ is_child_in p s (drop i t)
  unfolding is_child_in
  child_no h = sym (ap (is_child_in p s) (no_row t i h))

module _ (r : Row) (p : ℕ) where
  pub same_yes : num r 0 ≡ 1 → num r 1 ≡ p → same_list 1 p r ≡ true
  unfolding same_list
  same_yes a b = ap (λ (x : Bool). x && eqb (num r 1) p) (eq-eqb _ _ a) ∙ eq-eqb _ _ b

  pub same_not : num r 0 ≡ 1 → ¬ (num r 1 ≡ p) → same_list 1 p r ≡ false
  unfolding same_list
  same_not a b = ap (λ (x : Bool). x && eqb (num r 1) p) (eq-eqb _ _ a) ∙ ne_eqb _ _ b

  pub same_other : ¬ (num r 0 ≡ 1) → same_list 1 p r ≡ false
  unfolding same_list
  same_other a = ap (λ (x : Bool). x && eqb (num r 1) p) (ne_eqb _ _ a)

module _ (t : Table) (d s i : ℕ) (h : i < length t) where
  pub first_this : num (get_or t i []) 0 ≡ 1 → num (get_or t i []) 1 ≡ s → num (get_or t i []) 2 ≡ first_child_or d s (drop i t)
  unfolding same_list
  first_this e f = first_here t d s i h (ap (λ (b : Bool). b && eqb (num (get_or t i []) 1) s) (eq-eqb _ _ e) ∙ eq-eqb _ _ f)

  pub first_other : ¬ (num (get_or t i []) 0 ≡ 1) → first_child_or d s (drop (i + 1) t) ≡ first_child_or d s (drop i t)
  unfolding same_list
  first_other e = first_later t d s i h (ap (λ (b : Bool). b && eqb (num (get_or t i []) 1) s) (ne_eqb _ _ e))
