-- A search by halves among rows whose numbers rise.
use mathlib.Core.Path.{◌≡◌, refl, sym, ◌∙◌}
use mathlib.Core.Bool.{Bool, true, false}
use mathlib.Core.List.{[], ◌∷◌}
use Prim.Native.Nat.{ℕ, zero, suc, ◌+◌, ◌*◌, ◌-◌, ◌≤◌, ◌<◌}
use native.Mathlib.Omega.{arith}
use lib.Dec.{eqb, leb, leb-zero, leb-suc-suc}
use lib.ListN.{length, get_or}
use borrow.Author.Tests.{leb-true, leb-false, eq-eqb, ne_eqb, eqb-true, eqb-false}
use Rattle.definition.specs.Rows.{Table, num}
use Rattle.definition.specs.Actions.{place_of_number}
use Rattle.columns.specs.Rising.{Rising, Reaches}

abbrev pub number_at : Table → ℕ → ℕ
number_at t j = num (get_or t j []) 0

-- ---- a number has a place where some row has it

abbrev bump : ℕ → ℕ
bump p = elim p [ zero ↦ 0 | suc q ↦ suc (suc q) ]

has_bump : (p : ℕ) → leb 1 (bump p) ≡ leb 1 p
has_bump zero = refl
has_bump (suc q) = leb-suc-suc 0 (suc q) ∙ leb-zero (suc q) ∙ sym (leb-zero q) ∙ sym (leb-suc-suc 0 q)

pub place_none : (t : Table) (n : ℕ) → ((j : ℕ) → j < length t → number_at t j ≡ n → ⊥) → place_of_number t n ≡ 0
unfolding place_of_number
place_none [] n f = refl
place_none (r ∷ rs) n f = rw (ne_eqb (num r 0) n (f 0 (omega arith)), place_of_number, place_none rs n (λ j h. f (suc j) (omega arith)), place_of_number)

pub place_some : (t : Table) (n j : ℕ) → j < length t → number_at t j ≡ n → leb 1 (place_of_number t n) ≡ true
unfolding place_of_number
place_some [] n j h e = let z : ⊥ = omega arith in absurd z
place_some (r ∷ rs) n zero h e = rw (eq-eqb (num r 0) n e, place_of_number)
place_some (r ∷ rs) n (suc j) h e = go (eqb (num r 0) n) refl (place_some rs n j (omega arith) e)
  where
    go : (b : Bool) → eqb (num r 0) n ≡ b → leb 1 (place_of_number rs n) ≡ true → leb 1 (place_of_number (r ∷ rs) n) ≡ true
    go true q i = rw (q, place_of_number)
    go false q i = rw (q, place_of_number) (has_bump (place_of_number rs n) ∙ i)

-- ---- a search by halves: a row with the number is one of `size` from `base` on

pub record Among (t : Table) (n base size : ℕ) : Type 0 where
  pub some : 1 ≤ size
  pub ends : base + size ≤ length t
  pub below : (j : ℕ) → j < base → number_at t j < n
  pub above : (j : ℕ) → base + size ≤ j → j < length t → n < number_at t j

-- What a step adds is at most the half.
pub step_le : (half n m r : ℕ) → Reaches n m r → half * r ≤ half
step_le half n m r f = go (leb m n) refl
  where
    go : (b : Bool) → leb m n ≡ b → half * r ≤ half
    go true q = let z : r ≡ 1 = f.0 (leb-true m n q) in rw z (omega arith)
    go false q = let z : r ≡ 0 = f.1 (leb-false m n q) in rw z (omega arith)

module _ (t : Table) (n : ℕ) where
  pub among_all : 1 ≤ length t → Among t n 0 (length t)
  among_all h = record { some = h; ends = omega arith; below = λ j h. let z : ⊥ = omega arith in absurd z; above = λ j h k. let z : ⊥ = omega arith in absurd z }

  pub among_none : length t ≡ 0 → false ≡ leb 1 (place_of_number t n)
  among_none e = rw (place_none t n (λ j k f. omega arith))

  module _ (up : Rising t) (base size : ℕ) (w : Among t n base size) where
    pub among_half : (half r : ℕ) → 1 ≤ half → half + half ≤ size → size ≤ half + half + 1 → Reaches n (number_at t (base + half)) r → Among t n (base + half * r) (size - half)
    among_half half r l m o f = go (leb (number_at t (base + half)) n) refl
      where
        go : (b : Bool) → leb (number_at t (base + half)) n ≡ b → Among t n (base + half * r) (size - half)
        go true q =
            let e : number_at t (base + half) ≤ n = leb-true (number_at t (base + half)) n q in
            let z : r ≡ 1 = f.0 e in
            let y : base + half * 1 ≡ base + half = omega arith in
            rw (z, y)
            record {
              some = omega arith;
              ends = omega (arith, w.ends);
              below = λ j h. omega (arith, up j (base + half) h (omega (arith, w.ends)));
              above = λ j h k. w.above j (omega arith) k;
            }
        go false q =
            let e : n < number_at t (base + half) = leb-false (number_at t (base + half)) n q in
            let z : r ≡ 0 = f.1 e in
            let y : base + half * 0 ≡ base = omega arith in
            rw (z, y)
            record {
              some = omega arith;
              ends = omega (arith, w.ends);
              below = w.below;
              above = λ j h k. past j h k;
            }
          where
            past : (j : ℕ) → base + (size - half) ≤ j → j < length t → n < number_at t j
            past j h k = side (eqb j (base + half)) refl
              where
                side : (b : Bool) → eqb j (base + half) ≡ b → n < number_at t j
                side true i = rw (eqb-true j (base + half) i) (leb-false (number_at t (base + half)) n q)
                side false i = let d : j ≡ base + half → ⊥ = eqb-false j (base + half) i in let g : base + half < j = omega (arith, d) in omega (arith, up (base + half) j g k, leb-false (number_at t (base + half)) n q)

    pub among_one : size ≤ 1 → eqb (number_at t base) n ≡ leb 1 (place_of_number t n)
    among_one h = go (eqb (number_at t base) n) refl
      where
        go : (b : Bool) → eqb (number_at t base) n ≡ b → eqb (number_at t base) n ≡ leb 1 (place_of_number t n)
        go true q = q ∙ sym (place_some t n base (omega (arith, w.ends, w.some)) (eqb-true _ _ q))
        go false q = rw (q, place_none t n none)
          where
            none : (j : ℕ) → j < length t → number_at t j ≡ n → ⊥
            none j k e = side (leb (suc j) base) refl
              where
                side : (b : Bool) → leb (suc j) base ≡ b → ⊥
                side true i = omega (arith, w.below j (leb-true (suc j) base i))
                side false i = other (eqb j base) refl
                  where
                    other : (b : Bool) → eqb j base ≡ b → ⊥
                    other true a = eqb-false (number_at t base) n q (rw (← eqb-true j base a) e)
                    other false a = let d : j ≡ base → ⊥ = eqb-false j base a in let y : base + size ≤ j = omega (arith, d, leb-false (suc j) base i) in omega (arith, w.above j y k)
