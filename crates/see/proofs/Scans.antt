-- What the scans of a table cite.
use Prim.Native.Nat.{ℕ, zero, suc, ◌+◌, ◌-◌, ◌<◌, ◌≤◌}
use mathlib.Core.Path.{◌≡◌, refl, sym, ap, ap₂, ◌∙◌}
use mathlib.Core.Bool.{Bool, true, false, ◌&&◌, ◌||◌}
use mathlib.Core.List.{[], ◌∷◌, ◌++◌}
use lib.ListN.{length, get_or, drop, length-append, get_or-append}
use lib.Seq.{drop-cons, get_or-append_seam}
use lib.Dec.{eqb}
use borrow.Author.Tests.{eq-eqb, ne_eqb}
use native.Mathlib.Omega.{arith}
use Rattle.std.proofs.Common.{◌≢◌, Option, Some, None, MatchOption}
use Rattle.definition.specs.Elements.{among}
use Rattle.definition.specs.Rows.{Row, Table, num, row_of, same_list, listed, values_of}
use Rattle.definition.specs.Actions.{last_with}
pub use Rattle.definition.proofs.Base.{test as by}
use Rattle.plan.specs.declared.Closing.{Closing}
use Rattle.plan.specs.declared.Walked.{Walked}
use Rattle.plan.specs.declared.Walked.TheVariants.{NoIf, Met}
use Rattle.plan.specs.Ids.{region_id}
use Rattle.plan.specs.Seen.{closed_at, first_child_or}
use Rattle.see.specs.Scans.{walk_over, is_child_in, IsLast}

-- ---- the last row with a number

module _ (c v : ℕ) where
  abbrev Misses : Table → Type 0
  Misses t = (k : ℕ) → k < length t → num (get_or t k []) c ≢ v

  later : (x : Row) (t : Table) → Misses (x ∷ t) → Misses t
  later x t m k h = m (suc k) (omega arith)

  none_after : (t : Table) (i a : ℕ) → Misses t → a ≡ last_with c v i a t
  unfolding last_with
  none_after [] i a m = refl
  none_after (x ∷ t) i a m = rw (ne_eqb (num x c) v (m 0 (omega arith)), last_with) (none_after t (suc i) a (later x t m))

  last_at : (t : Table) (i a j : ℕ) → j < length t → num (get_or t j []) c ≡ v → ((k : ℕ) → j < k → k < length t → num (get_or t k []) c ≢ v) → i + j + 1 ≡ last_with c v i a t
  unfolding last_with
  last_at [] i a j h e m = absurd (omega arith)
  last_at (x ∷ t) i a zero h e m = rw (eq-eqb (num x c) v e, last_with) (omega (arith, none_after t (suc i) (suc i) (λ k l. m (suc k) (omega arith) (omega arith))))
  last_at (x ∷ t) i a (suc j) h e m =
      let f : (a : ℕ) → suc i + j + 1 ≡ last_with c v (suc i) a t = λ a. last_at t (suc i) a j (omega arith) e (λ k l n. m (suc k) (omega arith) (omega arith)) in
      by (eqb (num x c) v) (λ q. rw (q, last_with) (omega (arith, f (suc i)))) (λ q. rw (q, last_with) (omega (arith, f a)))

pub last_told : (c v : ℕ) (t : Table) (o : Option ℕ) → IsLast c v t o → MatchOption o (0 ≡ last_with c v 0 0 t) (λ i. i + 1 ≡ last_with c v 0 0 t)
last_told c v t None m = none_after c v t 0 0 m
last_told c v t (Some i) m = omega (arith, last_at c v t 0 0 i m.0 m.1 m.2)

-- ---- forward

pub no_row : (t : Table) (i : ℕ) → length t ≤ i → drop i t ≡ []
no_row [] zero h = refl
no_row [] (suc i) h = refl
no_row (x ∷ t) zero h = absurd (omega arith)
no_row (x ∷ t) (suc i) h = no_row t i (omega arith)

pub first_here : (t : Table) (d s i : ℕ) → i < length t → same_list 1 s (get_or t i []) ≡ true → num (get_or t i []) 2 ≡ first_child_or d s (drop i t)
unfolding first_child_or
first_here t d s i h e = sym (ap (first_child_or d s) (drop-cons t i [] h) ∙ rw (e, first_child_or))

pub first_later : (t : Table) (d s i : ℕ) → i < length t → same_list 1 s (get_or t i []) ≡ false → first_child_or d s (drop (i + 1) t) ≡ first_child_or d s (drop i t)
unfolding first_child_or
first_later t d s i h e =
    let u : i + 1 ≡ suc i = omega arith in
    ap (λ (j : ℕ). first_child_or d s (drop j t)) u ∙ sym (ap (first_child_or d s) (drop-cons t i [] h) ∙ rw (e, first_child_or))

pub first_none : (t : Table) (d s i : ℕ) → length t ≤ i → d ≡ first_child_or d s (drop i t)
unfolding first_child_or
first_none t d s i h = sym (ap (first_child_or d s) (no_row t i h))

-- ---- children

pub child_cons : (p s : ℕ) (x : Row) (xs : Table) → is_child_in p s (x ∷ xs) ≡ (same_list 1 p x && eqb s (num x 2)) || is_child_in p s xs
unfolding is_child_in listed values_of among
child_cons p s x xs = go (same_list 1 p x) refl (eqb s (num x 2)) refl where
  go : (b : Bool) → same_list 1 p x ≡ b → (d : Bool) → eqb s (num x 2) ≡ d → is_child_in p s (x ∷ xs) ≡ (b && d) || is_child_in p s xs
  go true e true f = rw (e, listed) (rw (f, among))
  go true e false f = rw (e, listed) (rw (f, among))
  go false e d f = rw (e, listed)

-- ---- closing

pub close_none : (g : ℕ) (t : Table) (k c : ℕ) → c ≡ 0 → None ≡ closed_at g t k c
unfolding closed_at
close_none g t zero zero e = refl
close_none g t (suc k) zero e = refl
close_none g t k (suc c) e = absurd (omega arith)

pub close_all : (g : ℕ) (t : Table) (k c : ℕ) → ¬ (c ≡ 0) → k ≡ 0 → Some (record { current = region_id 0; kept = 0 }) ≡ closed_at g t k c
unfolding closed_at
close_all g t k zero h e = absurd (h refl)
close_all g t zero (suc c) h e = refl
close_all g t (suc k) (suc c) h e = absurd (omega arith)

-- What the j-th region, with row x, closes; w is what is closed of those around it.
abbrev met_at : ℕ → ℕ → Row → Option Closing → Option Closing
met_at g j x w = elim (eqb (num x 1) g) [ true ↦ Some (record { current = region_id (num x 0); kept = j }) | false ↦ w ]

-- Only the first j regions are looked at.
close_front : (g : ℕ) (t u : Table) (j c : ℕ) → ((k : ℕ) → k < j → get_or t k [] ≡ get_or u k []) → closed_at g t j c ≡ closed_at g u j c
unfolding closed_at
close_front g t u zero c e = refl
close_front g t u (suc j) zero e = refl
close_front g t u (suc j) (suc c) e =
    ap (λ (x : Row). met_at g j x (closed_at g t j (num x 0))) (e j (omega arith)) ∙ ap (met_at g j (get_or u j [])) (close_front g t u j (num (get_or u j []) 0) (λ k h. e k (omega arith)))

module _ (g : ℕ) (t u : Table) (r : Row) (c : ℕ) (h : ¬ (c ≡ 0)) (e : t ≡ u ++ r ∷ []) where
  close_step : closed_at g t (length t) c ≡ met_at g (length u) r (closed_at g u (length u) (num r 0))
  unfolding closed_at
  close_step = go c h
    where
      n : length t ≡ suc (length u)
      n = ap length e ∙ omega (arith, length-append u (r ∷ []))

      last : get_or t (length u) [] ≡ r
      last = ap (λ (x : Table). get_or x (length u) []) e ∙ get_or-append_seam u r [] []

      front : (k : ℕ) → k < length u → get_or t k [] ≡ get_or u k []
      front k l = ap (λ (x : Table). get_or x k []) e ∙ get_or-append u (r ∷ []) [] k l

      go : (c : ℕ) → ¬ (c ≡ 0) → closed_at g t (length t) c ≡ met_at g (length u) r (closed_at g u (length u) (num r 0))
      go zero h = absurd (h refl)
      go (suc c) h =
          ap (λ (k : ℕ). closed_at g t k (suc c)) n ∙ ap (λ (x : Row). met_at g (length u) x (closed_at g t (length u) (num x 0))) last ∙ ap (met_at g (length u) r) (close_front g t u (length u) (num r 0) front)

  pub close_here : num r 1 ≡ g → Some (record { current = region_id (num r 0); kept = length u }) ≡ closed_at g t (length t) c
  close_here f = sym (close_step ∙ rw (eq-eqb _ _ f, met_at))

  pub close_outer : ¬ (num r 1 ≡ g) → closed_at g u (length u) (num r 0) ≡ closed_at g t (length t) c
  close_outer f = sym (close_step ∙ rw (ne_eqb _ _ f, met_at))

-- ---- the else walk, with e the last entry of the region r, and x its row

module _ (t : Table) (f r e : ℕ) (x : Row) (s : 0 < f) (h : e ≡ last_with 0 r 0 0 t) (z : row_of t e ≡ x) where
  abbrev walked : ℕ → ℕ → Bool → Bool → ℕ → Walked
  walked a g p q n = elim p [ false ↦ NoIf | true ↦ elim q [ true ↦ Met a | false ↦ walk_over g t n ] ]

  abbrev whole : ℕ → Row → ℕ → Walked
  whole a y g = walked a g (eqb (num y 1) 1) (eqb (num y 4) 0) (num y 4)

  walk_step : walk_over f t r ≡ whole e x (f - 1)
  unfolding walk_over
  walk_step = go f s refl
    where
      go : (g : ℕ) → 0 < g → g ≡ f → walk_over g t r ≡ whole e x (f - 1)
      go zero s y = absurd (omega arith)
      go (suc g) s y = let w : g ≡ f - 1 = omega arith in ap (λ (a : ℕ). whole a (row_of t a) g) (sym h) ∙ ap (λ (y : Row). whole e y g) z ∙ ap (whole e x) w

  pub walk_other : ¬ (num x 1 ≡ 1) → NoIf ≡ walk_over f t r
  walk_other k = sym (walk_step ∙ ap (λ (p : Bool). walked e (f - 1) p (eqb (num x 4) 0) (num x 4)) (ne_eqb _ _ k))

  pub walk_met : num x 1 ≡ 1 → num x 4 ≡ 0 → Met e ≡ walk_over f t r
  walk_met k o = sym (walk_step ∙ ap₂ (λ (p q : Bool). walked e (f - 1) p q (num x 4)) (eq-eqb _ _ k) (eq-eqb _ _ o))

  pub walk_on : num x 1 ≡ 1 → ¬ (num x 4 ≡ 0) → walk_over (f - 1) t (num x 4) ≡ walk_over f t r
  walk_on k o = sym (walk_step ∙ ap₂ (λ (p q : Bool). walked e (f - 1) p q (num x 4)) (eq-eqb _ _ k) (ne_eqb _ _ o))

pub walk_out : (t : Table) (f r : ℕ) → f ≡ 0 → NoIf ≡ walk_over f t r
unfolding walk_over
walk_out t zero r e = refl
walk_out t (suc f) r e = absurd (omega arith)
