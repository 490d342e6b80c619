-- As many steps as there are regions are enough for the walk of else and elseif: each goes to a region of a larger number.
use Prim.Native.Nat.{ℕ, zero, suc, ◌+◌, ◌-◌, ◌≤◌, ◌<◌}
use mathlib.Core.Path.{◌≡◌, refl, sym, ◌∙◌, subst}
use mathlib.Core.Bool.{Bool, true, false}
use mathlib.Core.List.{List, [], ◌∷◌}
use lib.ListN.{length, get_or}
use lib.Dec.{eqb}
use native.Mathlib.Omega.{arith}
use Rattle.definition.specs.Rows.{Row, Table, free, num, columns_of, row_of, Numbers, table_of, choices}
use Rattle.definition.specs.Actions.{last_with, last_entry, no_if, else_walk}
use Rattle.definition.specs.Rules.{chosen, has_own_number}
use Rattle.kept.specs.Statements.{StepsEnough}
use Rattle.kept.proofs.StepCount.{step_count}
use Rattle.kept.proofs.Base.{eq_of, neq_of, test}
use Rattle.kept.proofs.Classes.{Fits, Nums, HasRow}
use Rattle.kept.proofs.Grow.{Absent, own_from}
use Rattle.kept.proofs.Tables.{RowOk}
use Rattle.kept.proofs.Sound.{at, Sound}
use Rattle.kept.proofs.ElseOut.{at_row, entry_region}
use Rattle.kept.proofs.Facts.{rules_from}

-- ---- how many rows have a number past r

-- 1 where v is past r, and 0 elsewhere.
abbrev over : ℕ → ℕ → ℕ
over r v = (v - r) - (v - suc r)

past : ℕ → Table → ℕ
past r [] = 0
past r (x ∷ xs) = over r (num x 0) + past r xs

past_length : (r : ℕ) (rs : Table) → past r rs ≤ length rs
unfolding past
past_length r [] = omega arith
past_length r (x ∷ xs) = omega (arith, past_length r xs)

past_mono : (r v : ℕ) (rs : Table) → r ≤ v → past v rs ≤ past r rs
unfolding past
past_mono r v [] h = omega arith
past_mono r v (x ∷ xs) h = omega (arith, past_mono r v xs h, h)

past_less : (r v : ℕ) (rs : Table) → r < v → ¬ (Absent rs v) → past v rs < past r rs
unfolding past
past_less r v [] h a = absurd (a tt)
past_less r v (x ∷ xs) h a =
    test (eqb (num x 0) v) (λ e. omega (arith, eq_of (num x 0) v e, past_mono r v xs (omega (arith, h)), h)) (λ e.
    omega (arith, past_less r v xs h (λ b. a (neq_of (num x 0) v e, b)), h))

-- ---- the last entry of a region is in it

last_with_lem : (P : ℕ → Type 0) (c v i a : ℕ) (rs : Table) → P a → ((j : ℕ) → num (get_or rs j []) c ≡ v → P (suc (i + j))) → P (last_with c v i a rs)
unfolding last_with
last_with_lem P c v i a [] p h = p
last_with_lem P c v i a (r ∷ rs) p h = go (eqb (num r c) v) refl (last_with_lem P c v (suc i) (suc i) rs) (last_with_lem P c v (suc i) a rs)
  where
    more : (j : ℕ) → num (get_or rs j []) c ≡ v → P (suc (suc i + j))
    more j e = subst P (omega arith) (h (suc j) e)

    go : (b : Bool) → eqb (num r c) v ≡ b → (P (suc i) → ((j : ℕ) → num (get_or rs j []) c ≡ v → P (suc (suc i + j))) → P (last_with c v (suc i) (suc i) rs))
        → (P a → ((j : ℕ) → num (get_or rs j []) c ≡ v → P (suc (suc i + j))) → P (last_with c v (suc i) a rs)) → P (last_with c v i a (r ∷ rs))
    go true e f g = rw (e, last_with) (f (subst P (omega arith) (h 0 (eq_of (num r c) v e))) more)
    go false e f g = rw (e, last_with) (g p more)

last_in : (n : Numbers) (r : ℕ) → num (row_of (table_of n 4) (last_entry n r)) 1 ≡ 1 → num (row_of (table_of n 4) (last_entry n r)) 0 ≡ r
unfolding last_entry row_of
last_in n r =
    let In : ℕ → Type 0 = λ e. num (row_of (table_of n 4) e) 1 ≡ 1 → num (row_of (table_of n 4) e) 0 ≡ r in
    last_with_lem In 0 r 0 0 (table_of n 4) (λ e. absurd (omega arith)) (λ j e. let z : suc j ≡ suc (0 + j) = omega arith in subst In z (λ f. e))

-- ---- an if's else region is past its own

else_above : (u : ℕ) (T : List Table) (i d : ℕ) (r : Row) → RowOk (at u T i d) 4 r → num r 1 ≡ 1 → ¬ (num r 4 ≡ 0) → HasRow T 3 (num r 4) × (num r 0 < num r 4)
unfolding Nums Fits columns_of chosen choices
else_above u T i d [] h e z = absurd h.nums
else_above u T i d (a ∷ []) h e z = absurd h.nums.1
else_above u T i d (a ∷ b ∷ []) h e z = absurd h.nums.1.1
else_above u T i d (a ∷ b ∷ c ∷ []) h e z = absurd h.nums.1.1.1
else_above u T i d (a ∷ b ∷ c ∷ x ∷ []) h e z = absurd h.nums.1.1.1.1
else_above u T i d (a ∷ b ∷ c ∷ x ∷ y ∷ vs) h e z =
    subst (λ (k : ℕ). Fits (at u T i d) (a ∷ b ∷ c ∷ x ∷ y ∷ vs) (get_or (get_or choices 1 []) k free) y) e h.nums.1.1.1.1.0 z

-- ---- the walk

-- It ends at once where the region does not end with an if.
walk_none : (f : ℕ) (n : Numbers) (r : ℕ) → eqb (num (row_of (table_of n 4) (last_entry n r)) 1) 1 ≡ false → else_walk f n r ≡ no_if
unfolding else_walk
walk_none zero n r e = refl
walk_none (suc f) n r e = rw (e, else_walk)

module _ (u : ℕ) (n : Numbers) (S : Sound u n.tables n.tables n.ids n.docs) where
  abbrev steps : ℕ
  steps = step_count n

  abbrev last_one : ℕ → Row
  last_one r = row_of (table_of n 4) (last_entry n r)

  ok_row : (r : ℕ) → num (last_one r) 1 ≡ 1 → RowOk (at u n.tables n.ids n.docs) 4 (last_one r)
  ok_row r k = at_row (RowOk (at u n.tables n.ids n.docs) 4) (table_of n 4) (last_entry n r) (S.rows 4) k

  -- One step: fewer regions are past the one that is met.
  fewer : (r : ℕ) → num (last_one r) 1 ≡ 1 → ¬ (num (last_one r) 4 ≡ 0) → past (num (last_one r) 4) (table_of n 3) < past r (table_of n 3)
  unfolding has_own_number
  fewer r k z =
      let x = else_above u n.tables n.ids n.docs (last_one r) (ok_row r k) k z in
      past_less r (num (last_one r) 4) (table_of n 3) (omega (arith, x.1, last_in n r k)) (own_from n.tables 3 (num (last_one r) 4) refl x.0).1

  -- One step more than there are regions past r is enough.
  walk_enough : (g f r : ℕ) → past r (table_of n 3) < f → f ≤ g → else_walk g n r ≡ else_walk f n r
  unfolding else_walk
  walk_enough g zero r h k = absurd (omega (arith, h))
  walk_enough zero (suc f) r h k = absurd (omega (arith, k))
  walk_enough (suc g) (suc f) r h k = go (eqb (num (last_one r) 1) 1) (eqb (num (last_one r) 4) 0) refl refl (walk_enough g f (num (last_one r) 4))
    where
      go : (p q : Bool) → eqb (num (last_one r) 1) 1 ≡ p → eqb (num (last_one r) 4) 0 ≡ q
          → (past (num (last_one r) 4) (table_of n 3) < f → f ≤ g → else_walk g n (num (last_one r) 4) ≡ else_walk f n (num (last_one r) 4)) → else_walk (suc g) n r ≡ else_walk (suc f) n r
      go false q a b ih = rw (a, else_walk)
      go true true a b ih = rw (a, else_walk, b, else_walk)
      go true false a b ih =
          let y : past (num (last_one r) 4) (table_of n 3) < past r (table_of n 3) = fewer r (eq_of (num (last_one r) 1) 1 a) (neq_of (num (last_one r) 4) 0 b) in
          rw (a, else_walk, b, else_walk) (ih (omega (arith, y, h)) (omega (arith, k)))

  -- A region that ends with an if exists.
  region_past : (r : ℕ) → num (last_one (suc r)) 1 ≡ 1 → past (suc r) (table_of n 3) < steps
  unfolding has_own_number
  region_past r k =
      let e : num (last_one (suc r)) 0 ≡ suc r = last_in n (suc r) k in
      let x : HasRow n.tables 3 (num (last_one (suc r)) 0) = entry_region u n.tables n.ids n.docs (last_one (suc r)) (ok_row (suc r) k) (omega (arith, e)) in
      let y : past (suc r) (table_of n 3) < past 0 (table_of n 3) = past_less 0 (suc r) (table_of n 3) (omega arith) (own_from n.tables 3 (suc r) refl (subst (HasRow n.tables 3) e x)).1 in
      omega (arith, y, past_length 0 (table_of n 3))

  enough_from : (r g : ℕ) → steps ≤ g → else_walk g n (suc r) ≡ else_walk steps n (suc r)
  enough_from r g k =
      test (eqb (num (last_one (suc r)) 1) 1) (λ e. walk_enough g steps (suc r) (region_past r (eq_of (num (last_one (suc r)) 1) 1 e)) k) (λ e.
      walk_none g n (suc r) e ∙ sym (walk_none steps n (suc r) e))

-- AS MANY STEPS AS THERE ARE REGIONS ARE ENOUGH.
pub steps_enough : StepsEnough
steps_enough L s r k rules = enough_from (length s.text) s.numbers (rules_from L s rules).1.sound r (length (table_of s.numbers 3) + k) (omega arith)
