-- The limits of the open tables: question 7 and the tags of open regions keep them.
use Prim.Native.Nat.{ℕ, zero, suc, ◌+◌, ◌≤◌, ◌<◌}
use mathlib.Core.Path.{◌≡◌, refl, sym, ap, ◌∙◌}
use mathlib.Core.Bool.{Bool, true, false, ◌&&◌, ◌||◌}
use mathlib.Core.List.{List, [], ◌∷◌, ◌++◌}
use lib.ListN.{length, get_or, drop, drop_of_length-le}
use lib.Dec.{eqb, leb}
use lib.Seq.{drop-cons}
use native.Mathlib.Omega.{arith}
use Rattle.definition.specs.declared.Limits.{Limits}
use Rattle.definition.specs.Rows.{Table, num}
use Rattle.definition.specs.Rules.{is_block, blocks_in, open_tags_fit, all_within, chart_limits, open_limits, table_limits}
use Rattle.kept.proofs.Base.{le_of, leb_of, eq_of, and_left, and_right, and_both, or_right, test}
use Rattle.kept.proofs.Regions.{blocks_more, blocks_block, tags_cons}

slack : ℕ → ℕ
slack g = elim (eqb g 24) [ true ↦ 1 | false ↦ 0 ]

slack_le : (g : ℕ) → slack g ≤ 1
unfolding slack
slack_le g = go (eqb g 24) refl
  where
    go : (b : Bool) → eqb g 24 ≡ b → slack g ≤ 1
    go true e = rw (e, slack) (omega arith)
    go false e = rw (e, slack) (omega arith)

slack_if : (g : ℕ) → eqb g 24 ≡ true → slack g ≡ 1
unfolding slack
slack_if g e = rw (e, slack)

-- Two open regions at most for each block.
regions_le : (g : ℕ) (rs : Table) → open_tags_fit g rs ≡ true → length rs ≤ blocks_in 1 rs + blocks_in 1 rs + slack g
regions_le g [] e = omega arith
regions_le g (r ∷ rs) e =
    let h : ℕ = num r 1 in
    let p = is_block h in
    let q = eqb h 13 && eqb g 24 in
    let f : ((p || q) && open_tags_fit h rs) ≡ true = sym (tags_cons g r rs) ∙ e in
    let ih : length rs ≤ blocks_in 1 rs + blocks_in 1 rs + slack h = regions_le h rs (and_right (p || q) (open_tags_fit h rs) f) in
    test p (λ k. omega (arith, ih, slack_le h, blocks_block 1 r rs k)) (λ k.
    let w : q ≡ true = or_right p q k (and_left (p || q) (open_tags_fit h rs) f) in
    let z : slack h ≡ 0 = ap slack (eq_of h 13 (and_left (eqb h 13) (eqb g 24) w)) ∙ thirteen in
    omega (arith, ih, z, slack_if g (and_right (eqb h 13) (eqb g 24) w), blocks_more 1 r rs))
  where
    thirteen : slack 13 ≡ 0
    thirteen = unfold slack in refl

pub open_regions_le : (rs : Table) → open_tags_fit 0 rs ≡ true → length rs ≤ blocks_in 1 rs + blocks_in 1 rs
unfolding slack
open_regions_le rs e = omega (arith, regions_le 0 rs e)

pub blocks_le : (c : ℕ) (rs : Table) → blocks_in c rs ≤ length rs
unfolding blocks_in
blocks_le c [] = omega arith
blocks_le c (r ∷ rs) = go (is_block (num r c)) refl (blocks_le c rs)
  where
    go : (b : Bool) → is_block (num r c) ≡ b → blocks_in c rs ≤ length rs → blocks_in c (r ∷ rs) ≤ suc (length rs)
    go true e ih = rw (e, blocks_in) (omega (arith, ih))
    go false e ih = rw (e, blocks_in) (omega (arith, ih))

pub within_cons : (m : ℕ) (ms : List ℕ) (t : Table) (ts : List Table) → all_within (m ∷ ms) (t ∷ ts) ≡ (leb (length t) m && all_within ms ts)
unfolding all_within
within_cons m ms t ts = go (leb (length t) m) refl
  where
    go : (b : Bool) → leb (length t) m ≡ b → all_within (m ∷ ms) (t ∷ ts) ≡ (b && all_within ms ts)
    go true e = rw (e, all_within)
    go false e = rw (e, all_within)

within_append : (ms ks : List ℕ) (ts : List Table) → all_within ms ts ≡ true → all_within ks (drop (length ms) ts) ≡ true → all_within (ms ++ ks) ts ≡ true
unfolding all_within
within_append [] ks ts e f = f
within_append (m ∷ ms) ks [] e f = refl
within_append (m ∷ ms) ks (t ∷ ts) e f =
    let h : (leb (length t) m && all_within ms ts) ≡ true = sym (within_cons m ms t ts) ∙ e in
    within_cons m (ms ++ ks) t ts ∙ and_both (leb (length t) m) (all_within (ms ++ ks) ts) (and_left (leb (length t) m) (all_within ms ts) h) (within_append ms ks ts (and_right (leb (length t) m) (all_within ms ts) h) f)

pub within_at : (ms : List ℕ) (ts : List Table) (k : ℕ) → all_within ms ts ≡ true → k < length ms → k < length ts → length (get_or ts k []) ≤ get_or ms k 0
within_at [] ts k e a b = absurd (omega arith)
within_at (m ∷ ms) [] k e a b = absurd (omega arith)
within_at (m ∷ ms) (t ∷ ts) zero e a b = le_of (length t) m (and_left (leb (length t) m) (all_within ms ts) (sym (within_cons m ms t ts) ∙ e))
within_at (m ∷ ms) (t ∷ ts) (suc k) e a b = within_at ms ts k (and_right (leb (length t) m) (all_within ms ts) (sym (within_cons m ms t ts) ∙ e)) (omega arith) (omega arith)

-- The open elements are within their limit.
pub opened_within : (L : Limits) (T : List Table) → length T ≡ 12 → all_within (table_limits L) T ≡ true → length (get_or T 9 []) ≤ L.opened
unfolding table_limits chart_limits open_limits
opened_within L T w e = within_at (table_limits L) T 9 e (omega arith) (omega (arith, w))

last_three : (T : List Table) → length T ≡ 12 → drop 9 T ≡ get_or T 9 [] ∷ get_or T 10 [] ∷ get_or T 11 [] ∷ []
last_three T w =
    drop-cons T 9 [] (omega (arith, w))
    ∙ ap (λ (x : List Table). get_or T 9 [] ∷ x) (drop-cons T 10 [] (omega (arith, w)) ∙ ap (λ (x : List Table). get_or T 10 [] ∷ x) (drop-cons T 11 [] (omega (arith, w)) ∙ ap (λ (x : List Table). get_or T 11 [] ∷ x) (drop_of_length-le T {i = 12} (omega (arith, w)))))

pub all_within_lem : (L : Limits) (T : List Table) → length T ≡ 12 → all_within (chart_limits L) T ≡ true → length (get_or T 9 []) ≤ L.opened → length (get_or T 10 []) ≤ L.opened
    → length (get_or T 11 []) ≤ L.opened + L.opened → all_within (table_limits L) T ≡ true
unfolding table_limits chart_limits open_limits all_within
all_within_lem L T w e a b c =
    within_append (chart_limits L) (open_limits L) T e
    (rw (last_three T w)
    (within_cons L.opened (L.opened ∷ (L.opened + L.opened) ∷ []) (get_or T 9 []) (get_or T 10 [] ∷ get_or T 11 [] ∷ [])
    ∙ and_both (leb (length (get_or T 9 [])) L.opened) (all_within (L.opened ∷ (L.opened + L.opened) ∷ []) (get_or T 10 [] ∷ get_or T 11 [] ∷ [])) (leb_of (length (get_or T 9 [])) L.opened a)
    (within_cons L.opened ((L.opened + L.opened) ∷ []) (get_or T 10 []) (get_or T 11 [] ∷ [])
    ∙ and_both (leb (length (get_or T 10 [])) L.opened) (all_within ((L.opened + L.opened) ∷ []) (get_or T 11 [] ∷ [])) (leb_of (length (get_or T 10 [])) L.opened b)
    (within_cons (L.opened + L.opened) [] (get_or T 11 []) []
    ∙ and_both (leb (length (get_or T 11 [])) (L.opened + L.opened)) true (leb_of (length (get_or T 11 [])) (L.opened + L.opened) c) refl))))
