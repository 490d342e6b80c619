-- Laws of lists and rows that every handler uses.
use Prim.Native.Nat.{ℕ, zero, suc, ◌+◌, ◌≤◌, ◌<◌}
use mathlib.Core.Path.{◌≡◌, refl, ap, ◌∙◌, subst}
use mathlib.Core.Bool.{Bool, true, false}
use mathlib.Core.Option as Perhaps
use mathlib.Core.List.{[], ◌∷◌, ◌++◌, reverse, reverse_aux, reverse-reverse, reverse_aux-eq, reverse-append}
use lib.ListN.{length, get_or, set, take}
use lib.Dec.{eqb, eqb_refl, eqb→eq}
use lib.Seq.{take-suc, take-length, get_or-set_other, set_comm}
use native.Mathlib.Omega.{arith}
use Rattle.std.specs.Prelude.{Option, Some, None}
use Rattle.definition.proofs.Base.{is_true_lem, T_of}
use Rattle.definition.specs.Rows.{Row, Table, num, row_of, last_of, open_region}
use Rattle.definition.specs.Change.{alter_row, Closed, closed_by}
use Rattle.definition.specs.Actions.{place_of_number}
use Rattle.plan.specs.After.{put}
use Rattle.plan.specs.declared.Closing.{Closing}
use Rattle.plan.specs.Ids.{region_id}
use Rattle.plan.specs.Seen.{closed_at}

-- Native sums compute at literals only: what is drawn from the counters, as successors.
pub draw_id_lem : (i : ℕ) → i + 1 + 0 ≡ suc i
draw_id_lem i = omega arith

pub draw_doc_lem : (i : ℕ) → i + 0 + 1 ≡ suc i
draw_doc_lem i = omega arith

pub draw_one : (i : ℕ) → i + 1 ≡ suc i
draw_one i = omega arith

pub draw_zero : (i : ℕ) → i + 0 ≡ i
draw_zero i = omega arith

pub suc_not_zero : (i : ℕ) → eqb (suc i) 0 ≡ false
suc_not_zero i = go (eqb (suc i) 0) refl
  where
    go : (b : Bool) → eqb (suc i) 0 ≡ b → b ≡ false
    go true e = absurd (let z : suc i ≡ 0 = eqb→eq (suc i) 0 (T_of (eqb (suc i) 0) e) in omega arith)
    go false e = refl

-- ---- the last row

pub last_snoc : (d r : Row) (rs : Table) → last_of d (rs ++ r ∷ []) ≡ r
unfolding last_of
last_snoc d r [] = refl
last_snoc d r (x ∷ rs) = last_snoc x r rs

pub alter_last : (rs : Table) (r : Row) (f : Row → Row) → alter_row (suc (length rs)) f (rs ++ r ∷ []) ≡ rs ++ f r ∷ []
unfolding alter_row
alter_last [] r f = refl
alter_last (x ∷ rs) r f = ap (λ (z : Table). x ∷ z) (alter_last rs r f)

pub alter_alter : (i : ℕ) (f g : Row → Row) (rs : Table) → alter_row i f (alter_row i g rs) ≡ alter_row i (λ r. f (g r)) rs
unfolding alter_row
alter_alter zero f g rs = refl
alter_alter (suc i) f g [] = refl
alter_alter (suc zero) f g (r ∷ rs) = refl
alter_alter (suc (suc i)) f g (r ∷ rs) = ap (λ (z : Table). r ∷ z) (alter_alter (suc i) f g rs)

-- What a column holds of a row that was altered.
pub alter_keeps : (j i : ℕ) (f : Row → Row) (rs : Table) → ((r : Row) → num (f r) j ≡ num r j) → num (row_of (alter_row i f rs) i) j ≡ num (row_of rs i) j
unfolding alter_row row_of
alter_keeps j zero f rs h = refl
alter_keeps j (suc i) f [] h = refl
alter_keeps j (suc zero) f (r ∷ rs) h = h r
alter_keeps j (suc (suc i)) f (r ∷ rs) h = alter_keeps j (suc i) f rs h

pub alter_sets : (j v i : ℕ) (f : Row → Row) (rs : Table) → ((r : Row) → j < length r → num (f r) j ≡ v) → j < length (row_of rs i) → num (row_of (alter_row i f rs) i) j ≡ v
unfolding alter_row row_of
alter_sets j v zero f rs h e = absurd (omega arith)
alter_sets j v (suc i) f [] h e = absurd (omega arith)
alter_sets j v (suc zero) f (r ∷ rs) h e = h r e
alter_sets j v (suc (suc i)) f (r ∷ rs) h e = alter_sets j v (suc i) f rs h e

pub put_keeps : (x : ℕ) (v : Option ℕ) (j : ℕ) (r : Row) → ¬ (j ≡ x) → num (put x v r) j ≡ num r j
unfolding put
put_keeps x None j r h = refl
put_keeps x (Some v) j r h = get_or-set_other r x j v 0 h

-- The state's initial may be set before its doc id and its parent.
early : (q : Option ℕ) (v t : ℕ) (r : Row) → set (put 4 q (set r 2 v)) 3 t ≡ put 4 q (set (set r 3 t) 2 v)
unfolding put
early None v t r = set_comm r 2 3 v t (omega arith)
early (Some q) v t r = set_comm (set r 2 v) 4 3 q t (omega arith) ∙ ap (λ (z : Row). set z 4 q) (set_comm r 2 3 v t (omega arith))

pub initial_early : (q : Option ℕ) (v t : ℕ) → ◌≡◌ {A = Row → Row} (λ r. set (put 4 q (set r 2 v)) 3 t) (λ r. put 4 q (set (set r 3 t) 2 v))
initial_early q v t = λ j r. early q v t r j

-- The row with the next number is the last.
zero_of : (p : ℕ) → ◌≡◌ {A = ℕ} (elim p [ zero ↦ 0 | suc q ↦ suc (suc q) ]) 0 → p ≡ 0
zero_of zero e = refl
zero_of (suc p) e = absurd (omega arith)

place_of : (v : ℕ) (rs : Table) (r : Row) → place_of_number rs v ≡ 0 → eqb (num r 0) v ≡ true → place_of_number (rs ++ r ∷ []) v ≡ suc (length rs)
unfolding place_of_number
place_of v [] r h e = rw (e, place_of_number)
place_of v (x ∷ rs) r h e = at (eqb (num x 0) v) h (λ z. place_of v rs r z e)
  where
    at : (b : Bool) → ◌≡◌ {A = ℕ} (elim b [ true ↦ 1 | false ↦ elim (place_of_number rs v) [ zero ↦ 0 | suc p ↦ suc (suc p) ] ]) 0 → (place_of_number rs v ≡ 0 → place_of_number (rs ++ r ∷ []) v ≡ suc (length rs))
        → ◌≡◌ {A = ℕ} (elim b [ true ↦ 1 | false ↦ elim (place_of_number (rs ++ r ∷ []) v) [ zero ↦ 0 | suc p ↦ suc (suc p) ] ]) (suc (suc (length rs)))
    at true f ih = absurd (omega arith)
    at false f ih = rw (ih (zero_of (place_of_number rs v) f))

pub place_last : (v : ℕ) (rs : Table) (r : Row) → place_of_number rs v ≡ 0 → num r 0 ≡ v → place_of_number (rs ++ r ∷ []) v ≡ suc (length rs)
place_last v rs r h e = place_of v rs r h (ap (λ (z : ℕ). eqb z v) e ∙ is_true_lem (eqb v v) (eqb_refl v))

-- ---- open regions, innermost first and innermost last

pub back : (rs xs : Table) → reverse_aux (reverse rs) xs ≡ rs ++ xs
back rs xs = reverse_aux-eq (reverse rs) xs ∙ ap (λ (z : Table). z ++ xs) (reverse-reverse rs)

unfoldable pub regions_of : Table → Option Closing → Perhaps.Option Closed
regions_of rs None = Perhaps.none
regions_of rs (Some x) = Perhaps.some (record { current = x.current.0; regions = reverse (take x.kept rs) })

closed_to_lem : (g : ℕ) (rs : Table) (k c : ℕ) → k ≤ length rs → closed_by g (reverse (take k rs)) c ≡ regions_of rs (closed_at g rs k c)
unfolding closed_by closed_at regions_of
closed_to_lem g rs zero zero h = refl
closed_to_lem g rs zero (suc c) h = refl
closed_to_lem g rs (suc k) c h =
    let e : reverse (take (suc k) rs) ≡ get_or rs k [] ∷ reverse (take k rs) = ap reverse (take-suc rs k [] h) ∙ reverse-append (take k rs) (get_or rs k [] ∷ []) in
    rw e (go c (λ x. closed_to_lem g rs k x (omega arith)))
  where
    go : (c : ℕ) → ((x : ℕ) → closed_by g (reverse (take k rs)) x ≡ regions_of rs (closed_at g rs k x)) → closed_by g (get_or rs k [] ∷ reverse (take k rs)) c ≡ regions_of rs (closed_at g rs (suc k) c)
    go zero ih = refl
    go (suc i) ih = at (eqb (num (get_or rs k []) open_region.tag) g)
      where
        at : (b : Bool) → elim b [
          | true ↦ Perhaps.some (record { current = num (get_or rs k []) open_region.region; regions = reverse (take k rs) })
          | false ↦ closed_by g (reverse (take k rs)) (num (get_or rs k []) open_region.region)
        ] ≡ regions_of rs (elim b [ true ↦ Some (record { current = region_id (num (get_or rs k []) open_region.region); kept = k }) | false ↦ closed_at g rs k (num (get_or rs k []) open_region.region) ])
        at true = refl
        at false = ih (num (get_or rs k []) open_region.region)

pub closed_is : (g : ℕ) (rs : Table) (c : ℕ) → closed_by g (reverse rs) c ≡ regions_of rs (closed_at g rs (length rs) c)
closed_is g rs c = subst (λ (z : Table). closed_by g (reverse z) c ≡ regions_of rs (closed_at g rs (length rs) c)) (take-length rs) (closed_to_lem g rs (length rs) c (omega arith))
