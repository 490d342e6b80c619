-- Open regions: their tags, how many there are, and closing.
use Prim.Native.Nat.{ℕ, zero, suc, ◌+◌, ◌-◌, ◌≤◌}
use mathlib.Core.Path.{◌≡◌, refl, sym, ap, ◌∙◌}
use mathlib.Core.Bool.{Bool, true, false, ◌&&◌, ◌||◌}
use mathlib.Core.Option.{Option, none, some}
use mathlib.Core.List.{List, [], ◌∷◌, ◌++◌, reverse, reverse-cons}
use lib.Dec.{eqb}
use native.Mathlib.Omega.{arith}
use Rattle.definition.specs.Rows.{Row, Table, num}
use Rattle.definition.specs.Change.{Closed, closed_by}
use Rattle.definition.specs.Rules.{is_block, blocks_in, open_tags_fit}
use Rattle.definition.proofs.Base.{and_true}
use Rattle.kept.proofs.Base.{false_is_true, and_left, and_both, eq_of, All}

-- ---- tags

abbrev pub fits_on : ℕ → Row → Bool
fits_on g r = is_block (num r 1) || (eqb (num r 1) 13 && eqb g 24)

unfoldable last_tag : ℕ → Table → ℕ
last_tag g [] = g
last_tag g (r ∷ rs) = last_tag (num r 1) rs

pub tags_cons : (g : ℕ) (r : Row) (rs : Table) → open_tags_fit g (r ∷ rs) ≡ (fits_on g r && open_tags_fit (num r 1) rs)
unfolding open_tags_fit
tags_cons g r rs = go (fits_on g r) refl
  where
    go : (b : Bool) → fits_on g r ≡ b → open_tags_fit g (r ∷ rs) ≡ (b && open_tags_fit (num r 1) rs)
    go true e = rw (e, open_tags_fit)
    go false e = rw (e, open_tags_fit)

and_assoc : (p q r : Bool) → (p && (q && r)) ≡ ((p && q) && r)
and_assoc true q r = refl
and_assoc false q r = refl

tags_snoc : (g : ℕ) (rs : Table) (r : Row) → open_tags_fit g (rs ++ r ∷ []) ≡ (open_tags_fit g rs && fits_on (last_tag g rs) r)
unfolding last_tag open_tags_fit
tags_snoc g [] r = tags_cons g r [] ∙ and_true (fits_on g r)
tags_snoc g (x ∷ rs) r =
    tags_cons g x (rs ++ r ∷ []) ∙ ap (λ (b : Bool). fits_on g x && b) (tags_snoc (num x 1) rs r)
    ∙ and_assoc (fits_on g x) (open_tags_fit (num x 1) rs) (fits_on (last_tag (num x 1) rs) r)
    ∙ ap (λ (b : Bool). b && fits_on (last_tag (num x 1) rs) r) (sym (tags_cons g x rs))

last_snoc : (g : ℕ) (rs : Table) (r : Row) → last_tag g (rs ++ r ∷ []) ≡ num r 1
unfolding last_tag
last_snoc g [] r = refl
last_snoc g (x ∷ rs) r = last_snoc (num x 1) rs r

abbrev pub Tags : List Row → Type 0
Tags rs = open_tags_fit 0 (reverse rs) ≡ true

tags_at : (r : Row) (rs : List Row) → open_tags_fit 0 (reverse (r ∷ rs)) ≡ (open_tags_fit 0 (reverse rs) && fits_on (last_tag 0 (reverse rs)) r)
tags_at r rs = ap (open_tags_fit 0) (reverse-cons r rs) ∙ tags_snoc 0 (reverse rs) r

pub tags_rest : (r : Row) (rs : List Row) → Tags (r ∷ rs) → Tags rs
tags_rest r rs h = and_left (open_tags_fit 0 (reverse rs)) (fits_on (last_tag 0 (reverse rs)) r) (sym (tags_at r rs) ∙ h)

or_left : (p q : Bool) → p ≡ true → (p || q) ≡ true
or_left true q e = refl
or_left false q e = false_is_true e

pub tags_block : (r : Row) (rs : List Row) → is_block (num r 1) ≡ true → Tags rs → Tags (r ∷ rs)
tags_block r rs e h =
    tags_at r rs ∙ and_both (open_tags_fit 0 (reverse rs)) (fits_on (last_tag 0 (reverse rs)) r) h (or_left (is_block (num r 1)) (eqb (num r 1) 13 && eqb (last_tag 0 (reverse rs)) 24) e)

-- An elseif's region on an if's.
pub tags_elseif : (q r : Row) (rs : List Row) → num q 1 ≡ 13 → num r 1 ≡ 24 → Tags (r ∷ rs) → Tags (q ∷ r ∷ rs)
unfolding is_block
tags_elseif q r rs e f h =
    let z : last_tag 0 (reverse (r ∷ rs)) ≡ 24 = ap (last_tag 0) (reverse-cons r rs) ∙ last_snoc 0 (reverse rs) r ∙ f in
    tags_at q (r ∷ rs) ∙ and_both (open_tags_fit 0 (reverse (r ∷ rs))) (fits_on (last_tag 0 (reverse (r ∷ rs))) q) h (rw (e, z))

-- ---- how many

pub blocks_more : (c : ℕ) (r : Row) (rs : Table) → blocks_in c rs ≤ blocks_in c (r ∷ rs)
unfolding blocks_in
blocks_more c r rs = go (is_block (num r c)) refl
  where
    go : (b : Bool) → is_block (num r c) ≡ b → blocks_in c rs ≤ blocks_in c (r ∷ rs)
    go true e = rw (e, blocks_in) (omega arith)
    go false e = rw (e, blocks_in) (omega arith)

pub blocks_block : (c : ℕ) (r : Row) (rs : Table) → is_block (num r c) ≡ true → blocks_in c (r ∷ rs) ≡ suc (blocks_in c rs)
unfolding blocks_in
blocks_block c r rs e = rw (e, blocks_in)

pub blocks_not : (c : ℕ) (r : Row) (rs : Table) → is_block (num r c) ≡ false → blocks_in c (r ∷ rs) ≡ blocks_in c rs
unfolding blocks_in
blocks_not c r rs e = rw (e, blocks_in)

pub blocks_append : (c : ℕ) (rs us : Table) → blocks_in c (rs ++ us) ≡ blocks_in c rs + blocks_in c us
unfolding blocks_in
blocks_append c [] us = omega arith
blocks_append c (r ∷ rs) us = go (is_block (num r c)) refl (blocks_append c rs us)
  where
    go : (b : Bool) → is_block (num r c) ≡ b → blocks_in c (rs ++ us) ≡ blocks_in c rs + blocks_in c us → blocks_in c (r ∷ rs ++ us) ≡ blocks_in c (r ∷ rs) + blocks_in c us
    go true e ih = omega (arith, blocks_block c r (rs ++ us) e, blocks_block c r rs e, ih)
    go false e ih = omega (arith, blocks_not c r (rs ++ us) e, blocks_not c r rs e, ih)

pub blocks_reverse : (c : ℕ) (rs : Table) → blocks_in c (reverse rs) ≡ blocks_in c rs
blocks_reverse c [] = refl
blocks_reverse c (r ∷ rs) =
    ap (blocks_in c) (reverse-cons r rs)
    ∙ omega (arith, blocks_append c (reverse rs) (r ∷ []), blocks_append c (r ∷ []) rs, blocks_reverse c rs)

-- ---- closing

-- What goes on after a region is closed.
pub record After (P : Row → Type 0) (Q : ℕ → Type 0) (rs : List Row) (b : ℕ) (x : Closed) : Type 0 where
  pub current : Q x.current
  pub regions : All P x.regions
  pub tags : Tags x.regions
  pub blocks : blocks_in 1 x.regions ≤ b

abbrev pub OnSome {ℓ} : {A : Type ℓ} → (A → Type 0) → Option A → Type 0
OnSome P none = Unit {0}
OnSome P (some x) = P x

pub closed_by_lem : (P : Row → Type 0) (Q : ℕ → Type 0) → Q 0 → ((r : Row) → P r → Q (num r 0)) → (g : ℕ) (rs : List Row) (c : ℕ) → All P rs → Tags rs
    → OnSome (After P Q rs (blocks_in 1 rs)) (closed_by g rs c)
unfolding closed_by blocks_in
closed_by_lem P Q z h g [] zero a t = tt
closed_by_lem P Q z h g [] (suc c) a t = record { current = z; regions = tt; tags = t; blocks = omega arith }
closed_by_lem P Q z h g (r ∷ rs) zero a t = tt
closed_by_lem P Q z h g (r ∷ rs) (suc c) a t = go (eqb (num r 1) g) refl (closed_by_lem P Q z h g rs (num r 0) a.1 (tags_rest r rs t))
  where
    weaker : (o : Option Closed) → OnSome (After P Q rs (blocks_in 1 rs)) o → OnSome (After P Q (r ∷ rs) (blocks_in 1 (r ∷ rs))) o
    weaker none x = tt
    weaker (some y) x = record { current = x.current; regions = x.regions; tags = x.tags; blocks = omega (arith, x.blocks, blocks_more 1 r rs) }

    go : (b : Bool) → eqb (num r 1) g ≡ b → OnSome (After P Q rs (blocks_in 1 rs)) (closed_by g rs (num r 0)) → OnSome (After P Q (r ∷ rs) (blocks_in 1 (r ∷ rs))) (closed_by g (r ∷ rs) (suc c))
    go true e ih = rw (e, closed_by) (record { current = h r a.0; regions = a.1; tags = tags_rest r rs t; blocks = blocks_more 1 r rs })
    go false e ih = rw (e, closed_by) (weaker (closed_by g rs (num r 0)) ih)

-- Closing an if's or a foreach's region takes a block away, if there is one.
pub closed_fewer : (g : ℕ) → is_block g ≡ true → (rs : List Row) (c : ℕ) → OnSome (λ (x : Closed). blocks_in 1 x.regions ≤ blocks_in 1 rs - 1) (closed_by g rs c)
unfolding closed_by blocks_in
closed_fewer g k [] zero = tt
closed_fewer g k [] (suc c) = omega arith
closed_fewer g k (r ∷ rs) zero = tt
closed_fewer g k (r ∷ rs) (suc c) = go (eqb (num r 1) g) refl (closed_fewer g k rs (num r 0))
  where
    weaker : (o : Option Closed) → OnSome (λ (x : Closed). blocks_in 1 x.regions ≤ blocks_in 1 rs - 1) o → OnSome (λ (x : Closed). blocks_in 1 x.regions ≤ blocks_in 1 (r ∷ rs) - 1) o
    weaker none x = tt
    weaker (some y) x = omega (arith, x, blocks_more 1 r rs)

    go : (b : Bool) → eqb (num r 1) g ≡ b → OnSome (λ (x : Closed). blocks_in 1 x.regions ≤ blocks_in 1 rs - 1) (closed_by g rs (num r 0))
        → OnSome (λ (x : Closed). blocks_in 1 x.regions ≤ blocks_in 1 (r ∷ rs) - 1) (closed_by g (r ∷ rs) (suc c))
    go true e ih =
        let f : is_block (num r 1) ≡ true = ap is_block (eq_of (num r 1) g e) ∙ k in rw (e, closed_by) (omega (arith, blocks_block 1 r rs f))
    go false e ih = rw (e, closed_by) (weaker (closed_by g rs (num r 0)) ih)
