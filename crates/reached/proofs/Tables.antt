-- Lists and tables: what a written table or row still holds.
use Prim.Native.Nat.{ℕ, zero, suc, ◌+◌, ◌<◌}
use mathlib.Core.Path.{◌≡◌, refl, ap}
use mathlib.Core.Bool.{Bool, true, false, ◌&&◌, not, false≢true}
use mathlib.Core.List.{List, [], ◌∷◌, ◌++◌, reverse, reverse-cons}
use lib.ListN.{length, get_or, set}
use lib.Dec.{eqb}
use borrow.Author.Tests.{eqb-true, eq-eqb}
use native.Mathlib.Omega.{arith}
pub use Rattle.definition.proofs.Base.{and_left, and_right}
use Rattle.definition.specs.Elements.{among}
use Rattle.definition.specs.Rows.{Row, Table, num, last_of}
use Rattle.definition.specs.Change.{alter_row, without_last}
use Rattle.definition.specs.Actions.{last_with}
use Rattle.definition.proofs.Changes.{last_snoc, without_snoc}

-- ---- a set element

pub set_view {ℓ κ} : {A : Type ℓ} (P : A → Type κ) (xs : List A) (t k : ℕ) (x d : A) → (t ≡ k → P x) → P (get_or xs k d) → P (get_or (set xs t x) k d)
set_view P [] t k x d h p = p
set_view P (y ∷ ys) zero zero x d h p = h refl
set_view P (y ∷ ys) zero (suc k) x d h p = p
set_view P (y ∷ ys) (suc t) zero x d h p = p
set_view P (y ∷ ys) (suc t) (suc k) x d h p = set_view P ys t k x d (λ e. h (ap suc e)) p

-- ---- Booleans

pub not_both : (a : Bool) → a ≡ true → not a ≡ true → ⊥
not_both true e f = false≢true f
not_both false e f = false≢true e

-- ---- a number among others

unfoldable pub within : List ℕ → List ℕ → Bool
within [] ys = true
within (x ∷ xs) ys = among x ys && within xs ys

unfoldable pub apart : List ℕ → List ℕ → Bool
apart [] ys = true
apart (x ∷ xs) ys = not (among x ys) && apart xs ys

pub among_within : (xs ys : List ℕ) (n : ℕ) → within xs ys ≡ true → among n xs ≡ true → among n ys ≡ true
unfolding among within
among_within [] ys n w e = absurd (false≢true e)
among_within (x ∷ xs) ys n w e = go (eqb n x) refl (among_within xs ys n (and_right (among x ys) (within xs ys) w))
  where
    go : (b : Bool) → eqb n x ≡ b → (among n xs ≡ true → among n ys ≡ true) → among n ys ≡ true
    go true f ih = rw (eqb-true n x f) (and_left (among x ys) (within xs ys) w)
    go false f ih = ih (rw (f, among) at e)

pub among_apart : (xs ys : List ℕ) (n : ℕ) → apart xs ys ≡ true → among n xs ≡ true → among n ys ≡ true → ⊥
unfolding among apart
among_apart [] ys n w e h = absurd (false≢true e)
among_apart (x ∷ xs) ys n w e h = go (eqb n x) refl (among_apart xs ys n (and_right (not (among x ys)) (apart xs ys) w))
  where
    go : (b : Bool) → eqb n x ≡ b → (among n xs ≡ true → among n ys ≡ true → ⊥) → ⊥
    go true f ih = not_both (among x ys) (rw (eqb-true n x f) at h) (and_left (not (among x ys)) (apart xs ys) w)
    go false f ih = ih (rw (f, among) at e) h

pub among_not : (xs : List ℕ) (n m : ℕ) → not (among n xs) ≡ true → among m xs ≡ true → n ≡ m → ⊥
among_not xs n m e f q = not_both (among n xs) (rw q f) e

-- ---- the last of a list

-- The innermost first.
unfoldable pub top_of : Table → Row
top_of [] = []
top_of (r ∷ rs) = r

unfoldable pub rest_of : Table → Table
rest_of [] = []
rest_of (r ∷ rs) = rs

pub last_reverse : (os : Table) → last_of [] (reverse os) ≡ top_of os
unfolding last_of top_of
last_reverse [] = refl
last_reverse (r ∷ os) = rw reverse-cons (last_snoc [] (reverse os) r)

pub without_reverse : (os : Table) → without_last (reverse os) ≡ reverse (rest_of os)
unfolding without_last rest_of
without_reverse [] = refl
without_reverse (r ∷ os) = rw reverse-cons (without_snoc (reverse os) r)

-- ---- the last row with a value

last_next : Bool → ℕ → ℕ → ℕ
last_next true i a = suc i
last_next false i a = a

last_with-cons : (c v i a : ℕ) (r : Row) (rs : Table) → last_with c v i a (r ∷ rs) ≡ last_with c v (suc i) (last_next (eqb (num r c) v) i a) rs
unfolding last_with last_next
last_with-cons c v i a r rs = go (eqb (num r c) v)
  where
    go : (b : Bool) → elim b [ true ↦ last_with c v (suc i) (suc i) rs | false ↦ last_with c v (suc i) a rs ] ≡ last_with c v (suc i) (last_next b i a) rs
    go true = refl
    go false = refl

pub last_grows : (c v i a : ℕ) (rs : Table) (r : Row) → ¬ (last_with c v i a rs ≡ 0) → ¬ (last_with c v i a (rs ++ r ∷ []) ≡ 0)
unfolding last_with last_next
last_grows c v i a [] r h = rw (last_with-cons c v i a r []) (go (eqb (num r c) v))
  where
    go : (b : Bool) → ¬ (last_with c v (suc i) (last_next b i a) [] ≡ 0)
    go true = omega arith
    go false = h
last_grows c v i a (s ∷ rs) r h =
    rw (last_with-cons c v i a s (rs ++ r ∷ [])) (last_grows c v (suc i) (last_next (eqb (num s c) v) i a) rs r (rw (last_with-cons c v i a s rs) at h))

pub last_added : (c v i a : ℕ) (rs : Table) (r : Row) → num r c ≡ v → last_with c v i a (rs ++ r ∷ []) ≡ suc (i + length rs)
unfolding last_with last_next
last_added c v i a [] r h = rw (last_with-cons c v i a r [], eq-eqb (num r c) v h) (omega arith)
last_added c v i a (s ∷ rs) r h =
    rw (last_with-cons c v i a s (rs ++ r ∷ []), last_added c v (suc i) (last_next (eqb (num s c) v) i a) rs r h) (omega arith)

pub last_altered : (c v i a j : ℕ) (f : Row → Row) (rs : Table) → ((r : Row) → num (f r) c ≡ num r c) → last_with c v i a (alter_row j f rs) ≡ last_with c v i a rs
unfolding alter_row
last_altered c v i a zero f rs h = refl
last_altered c v i a (suc j) f [] h = refl
last_altered c v i a (suc zero) f (r ∷ rs) h = rw (last_with-cons c v i a (f r) rs, last_with-cons c v i a r rs, h r)
last_altered c v i a (suc (suc j)) f (r ∷ rs) h =
    rw (last_with-cons c v i a r (alter_row (suc j) f rs), last_with-cons c v i a r rs) (last_altered c v (suc i) (last_next (eqb (num r c) v) i a) (suc j) f rs h)

-- ---- altered and added rows

-- What f keeps of each row holds of the altered table's row.
pub altered_row : (P : Row → Type 0) (j : ℕ) (f : Row → Row) (rs : Table) (i : ℕ) → ((r : Row) → P r → P (f r)) → P (get_or rs i []) → P (get_or (alter_row j f rs) i [])
unfolding alter_row
altered_row P zero f rs i h p = p
altered_row P (suc j) f [] i h p = p
altered_row P (suc zero) f (r ∷ rs) zero h p = h r p
altered_row P (suc zero) f (r ∷ rs) (suc i) h p = p
altered_row P (suc (suc j)) f (r ∷ rs) zero h p = p
altered_row P (suc (suc j)) f (r ∷ rs) (suc i) h p = altered_row P (suc j) f rs i h p

pub altered_at : (P : Row → Type 0) (i : ℕ) (f : Row → Row) (rs : Table) → i < length rs → P (f (get_or rs i [])) → P (get_or (alter_row (suc i) f rs) i [])
unfolding alter_row
altered_at P i f [] h p = absurd (omega arith)
altered_at P zero f (r ∷ rs) h p = p
altered_at P (suc i) f (r ∷ rs) h p = altered_at P i f rs (omega arith) p

-- ---- all rows

unfoldable pub AllRows : (Row → Type 0) → Table → Type 0
AllRows P [] = Unit {0}
AllRows P (r ∷ rs) = P r × AllRows P rs

pub all_map : (P Q : Row → Type 0) (rs : Table) → ((r : Row) → P r → Q r) → AllRows P rs → AllRows Q rs
unfolding AllRows
all_map P Q [] h a = tt
all_map P Q (r ∷ rs) h a = (h r a.0, all_map P Q rs h a.1)

pub all_snoc : (P : Row → Type 0) (rs : Table) (r : Row) → AllRows P rs → P r → AllRows P (rs ++ r ∷ [])
unfolding AllRows
all_snoc P [] r a p = (p, tt)
all_snoc P (s ∷ rs) r a p = (a.0, all_snoc P rs r a.1 p)

pub all_altered : (P : Row → Type 0) (j : ℕ) (f : Row → Row) (rs : Table) → ((r : Row) → P r → P (f r)) → AllRows P rs → AllRows P (alter_row j f rs)
unfolding AllRows alter_row
all_altered P zero f rs h a = a
all_altered P (suc j) f [] h a = a
all_altered P (suc zero) f (r ∷ rs) h a = (h r a.0, a.1)
all_altered P (suc (suc j)) f (r ∷ rs) h a = (a.0, all_altered P (suc j) f rs h a.1)

pub all_at : (P : Row → Type 0) (rs : Table) (i : ℕ) → i < length rs → AllRows P rs → P (get_or rs i [])
unfolding AllRows
all_at P [] i h a = absurd (omega arith)
all_at P (r ∷ rs) zero h a = a.0
all_at P (r ∷ rs) (suc i) h a = all_at P rs i (omega arith) a.1
