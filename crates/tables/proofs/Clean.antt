-- THE LAWS OF TABLES WITHOUT TEXTS: on the rows in use the code's table is the plan's; what lies beyond stays.
use Prim.Native.Nat.{ℕ, zero, suc, ◌+◌, ◌-◌, ◌≤◌, ◌<◌}
use mathlib.Core.Path.{◌≡◌, refl, sym, ap, ap₂, ◌∙◌}
use mathlib.Core.List.{[], ◌∷◌, ◌++◌}
use native.Mathlib.Omega.{arith}
use lib.ListN.{length, set, take, drop}
use lib.Seq.{length-take-le, take-take, drop-append-add, drop-drop, take-append_seam}
use Rattle.std.specs.Prelude.{Option, Some, None}
use Rattle.definition.specs.Rows.{Row, Table}
use Rattle.definition.specs.Look.{Look}
use Rattle.definition.specs.Change.{without_last}
use Rattle.definition.specs.Reader.{over}
use Rattle.plan.specs.declared.MemberPlan.{MemberPlan}
use Rattle.plan.specs.declared.OpenPlan.{OpenPlan}
use Rattle.plan.specs.declared.RegionPlan.{RegionPlan}
use Rattle.plan.specs.declared.OpenRegionPlan.{OpenRegionPlan}
use Rattle.plan.specs.After.{added_if, region_row, regions_after, member_of, member_after, moved, opened_after, open_names_after, open_region_of, open_regions_after}
use Rattle.plan.specs.Decided.{one_there}
use Rattle.plan.proofs.Over.{over_start, over_add}
use Rattle.plan.proofs.Fifteen.{added_length}
use Rattle.tables.specs.declared.OpenedName.{OpenedName}
use Rattle.tables.specs.Whole.{added_in, both_in, regions_in, members_in, opens, opened_row, opened_in, open_names_in, open_regions_in}

pub added_over : {A : Type 0} (f : A → Row) (p : Option A) (n : ℕ) (u t : Table) → length u ≡ n → n + one_there p ≤ length t → added_in f p n (over u t) ≡ over (added_if f p u) t
unfolding added_in added_if one_there
added_over f None n u t e h = refl
added_over f (Some p) n u t e h = ap (λ (z : ℕ). set (over u t) z (f p)) (sym e) ∙ over_add u t (f p) (omega arith)

-- Up to two rows.
pub both_over : {A : Type 0} (f : A → Row) (p q : Option A) (n : ℕ) (u t : Table) → length u ≡ n → n + one_there p + one_there q ≤ length t
    → both_in f p q n (over u t) ≡ over (added_if f q (added_if f p u)) t
unfolding both_in
both_over f p q n u t e h =
    ap (added_in f q (n + one_there p)) (added_over f p n u t e (omega arith)) ∙ added_over f q (n + one_there p) (added_if f p u) t (added_length f p u ∙ ap (λ (z : ℕ). z + one_there p) e) h

pub regions_clean : (p : RegionPlan) (n : ℕ) (t : Table) → n + one_there p.one + one_there p.two ≤ length t → regions_in p n t ≡ over (regions_after p (take n t)) t
unfolding regions_in regions_after
regions_clean p n t h = ap (both_in region_row p.one p.two n) (sym (over_start n t (omega arith))) ∙ both_over region_row p.one p.two n (take n t) t (length-take-le n t (omega arith)) h

-- ---- members one by one

pub two_over : (p q : Option MemberPlan) (n : ℕ) (u t : Table) → length u ≡ n → n + one_there p + one_there q ≤ length t → members_in p q n (over u t) ≡ over (member_after q (member_after p u)) t
unfolding members_in member_after
two_over p q n u t e h = both_over member_of p q n u t e h

pub members_size : (p : Option MemberPlan) (u : Table) → length (member_after p u) ≡ length u + one_there p
unfolding member_after
members_size p u = added_length member_of p u

-- ---- what is open

without_take : (n : ℕ) (t : Table) → n ≤ length t → without_last (take n t) ≡ take (n - 1) t
unfolding without_last
without_take zero t h = refl
without_take (suc zero) [] h = refl
without_take (suc zero) (r ∷ t) h = refl
without_take (suc (suc n)) [] h = absurd (omega arith)
without_take (suc (suc n)) (r ∷ []) h = absurd (omega arith)
without_take (suc (suc n)) (r ∷ s ∷ t) h =
    let e : suc (suc n) - 1 ≡ suc (suc n - 1) = omega arith in
    ap (λ (z : Table). r ∷ z) (without_take (suc n) (s ∷ t) (omega arith)) ∙ ap (λ (i : ℕ). take i (r ∷ s ∷ t)) (sym e)

open_clean : (f : OpenedName → Row) (m n s : ℕ) (name r : Row) (t : Table) → f (record { length = s; row = name }) ≡ r → (m ≡ 0 → n < length t) → n ≤ length t
    → added_in f (opens m s name) n t ≡ over (moved m r (take n t)) t
unfolding added_in opens moved
open_clean f zero n s name r t g h b =
    let e : length (take n t) ≡ n = length-take-le n t b in
    let k : length (take n t) < length t = omega (arith, h refl) in
    ap (set t n) g ∙ ap₂ (λ (z : Table) (i : ℕ). set z i r) (sym (over_start n t b)) (sym e) ∙ over_add (take n t) t r k
open_clean f (suc zero) n s name r t g h b = sym (over_start n t b)
open_clean f (suc (suc m)) n s name r t g h b = sym (ap (λ (z : Table). over z t) (without_take n t b) ∙ over_start (n - 1) t (omega arith))

pub opened_clean : (m n : ℕ) (l : Look) (p : OpenPlan) (t : Table) → (m ≡ 0 → n < length t) → n ≤ length t
    → opened_in l.tag p (opens m l.name_length l.name) n t ≡ over (opened_after m l p (take n t)) t
unfolding opened_in opened_after opened_row
opened_clean m n l p t h b = open_clean _ m n l.name_length l.name _ t refl h b

pub names_clean : (m n : ℕ) (l : Look) (t : Table) → (m ≡ 0 → n < length t) → n ≤ length t → open_names_in (opens m l.name_length l.name) n t ≡ over (open_names_after m l (take n t)) t
unfolding open_names_in open_names_after
names_clean m n l t h b = open_clean _ m n l.name_length l.name _ t refl h b

pub open_regions_clean : (p : OpenRegionPlan) (n : ℕ) (t : Table) → p.kept ≤ n → n ≤ length t → p.kept + one_there p.one + one_there p.two ≤ length t → open_regions_in p t ≡ over (open_regions_after p (take n t)) t
unfolding open_regions_in open_regions_after
open_regions_clean p n t a b c =
    let k : ℕ = p.kept in
    ap (both_in open_region_of p.one p.two k) (sym (over_start k t (omega arith))) ∙ both_over open_region_of p.one p.two k (take k t) t (length-take-le k t (omega arith)) c
    ∙ ap (λ (z : Table). over (added_if open_region_of p.two (added_if open_region_of p.one z)) t) (sym (take-take k n t a))

-- ---- one table over another

drop_over : (u t : Table) (k : ℕ) → length u ≤ k → drop k (over u t) ≡ drop k t
unfolding over
drop_over u t k h =
    let e : k ≡ length u + (k - length u) = omega arith in
    let f : length u + (k - length u) ≡ k = omega arith in
    ap (λ (z : ℕ). drop z (u ++ drop (length u) t)) e ∙ drop-append-add u (drop (length u) t) (k - length u) ∙ drop-drop (k - length u) (length u) t ∙ ap (λ (z : ℕ). drop z t) f

pub over_take : (u t : Table) → take (length u) (over u t) ≡ u
unfolding over
over_take u t = take-append_seam u (drop (length u) t)

pub over_over : (v u t : Table) → length u ≤ length v → over v (over u t) ≡ over v t
unfolding over
over_over v u t h = ap (λ (z : Table). v ++ z) (drop_over u t (length v) h)
