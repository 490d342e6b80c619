-- Small facts that several proofs use.
use Prim.Native.Nat.{ℕ, zero, suc, ◌≤◌, ◌<◌}
use mathlib.Core.Path.{◌≡◌, refl, sym, ap, ap₂, ◌∙◌, subst}
use mathlib.Core.Bool.{Bool, true, false, ◌&&◌, ◌||◌, not, cond}
use mathlib.Core.Option.{Option, none, some}
use mathlib.Core.List.{List, [], ◌∷◌, ◌++◌}
use lib.ListN.{length, get_or, set}
use lib.Dec.{T, eqb, ltb, leb, leb→le}
use borrow.Author.Tests.{eqb-true, eq-eqb, ltb-true}
use native.Mathlib.Omega.{arith}
use Rattle.definition.specs.Text.{same, place_in}
use Rattle.definition.specs.Elements.{Role, name, names, masked, plain, number_in, key_names, key_of}
use Rattle.definition.specs.Shapes.{rank, same_role}

pub and_left : (p q : Bool) → (p && q) ≡ true → p ≡ true
and_left true q e = refl
and_left false q e = e

pub and_right : (p q : Bool) → (p && q) ≡ true → q ≡ true
and_right true q e = e
and_right false q e = let z : false ≡ true = e in cc

pub and_true : (p : Bool) → (p && true) ≡ p
and_true true = refl
and_true false = refl

pub and_no : (p : Bool) → (p && false) ≡ false
and_no true = refl
and_no false = refl

pub or_no : (p : Bool) → (p || false) ≡ p
or_no true = refl
or_no false = refl

pub elim_and : (p q : Bool) → elim p [ true ↦ q | false ↦ false ] ≡ p && q
elim_and true q = refl
elim_and false q = refl

pub bool_ext : (p q : Bool) → (p ≡ true → q ≡ true) → (q ≡ true → p ≡ true) → p ≡ q
bool_ext true true f g = refl
bool_ext true false f g = sym (f refl)
bool_ext false true f g = g refl
bool_ext false false f g = refl

pub true_is_false : {X : Type 0} → true ≡ false → X
true_is_false e = absurd (subst T e tt)

pub not_of : (p : Bool) → not p ≡ true → p ≡ false
not_of true e = true_is_false (sym e)
not_of false e = refl

pub or_right : (p q : Bool) → p ≡ false → (p || q) ≡ true → q ≡ true
or_right true q f e = true_is_false f
or_right false q f e = e

pub and_both : (p q : Bool) → p ≡ true → q ≡ true → (p && q) ≡ true
and_both true q e f = f
and_both false q e f = e

pub T_of : (c : Bool) → c ≡ true → T c
T_of true e = tt
T_of false e = true_is_false (sym e)

pub is_true_lem : (c : Bool) → T c → c ≡ true
is_true_lem true t = refl
is_true_lem false t = absurd t

-- A test: both answers, with what they say.
pub test : {X : Type 0} (c : Bool) → (c ≡ true → X) → (c ≡ false → X) → X
test true f g = f refl
test false f g = g refl

pub le_of : (a b : ℕ) → leb a b ≡ true → a ≤ b
le_of a b e = leb→le a b (T_of (leb a b) e)

pub none_is_some : {A X : Type 0} (a : A) → none ≡ some a → X
none_is_some a e = let y : ◌≡◌ {A = ℕ} 0 1 = cc in absurd (omega arith)

pub some_inj : {A : Type 0} (d a b : A) → some a ≡ some b → a ≡ b
some_inj {A} d a b e = ap (value d) e
  where
    value : A → Option A → A
    value d none = d
    value d (some x) = x

-- A definition's `elim` on a test, as `cond`, whose arguments `rw` can see.
pub elim_cond : {A : Type 0} (c : Bool) (x y : A) → elim c as (λ b. A) [ true ↦ x | false ↦ y ] ≡ cond c x y
elim_cond true x y = refl
elim_cond false x y = refl

-- ---- the test on bytes

pub same_refl : (a : List ℕ) → same a a ≡ true
unfolding same
same_refl [] = refl
same_refl (x ∷ xs) = rw (eq-eqb x x refl, same) (same_refl xs)

pub same_eq : (a b : List ℕ) → same a b ≡ true → a ≡ b
unfolding same
same_eq [] [] e = refl
same_eq [] (y ∷ ys) e = cc
same_eq (x ∷ xs) [] e = cc
same_eq (x ∷ xs) (y ∷ ys) e = go (eqb x y) refl (same_eq xs ys)
  where
    go : (c : Bool) → eqb x y ≡ c → (same xs ys ≡ true → xs ≡ ys) → x ∷ xs ≡ y ∷ ys
    go true q ih = ap₂ ◌∷◌ (eqb-true x y q) (ih (rw (q, same) at e))
    go false q ih = let z : false ≡ true = rw (q, same) at e in cc

pub same_length : (a b : List ℕ) → (length a ≡ length b → ⊥) → same a b ≡ false
unfolding same
same_length [] [] h = absurd (h refl)
same_length [] (y ∷ ys) h = refl
same_length (x ∷ xs) [] h = refl
same_length (x ∷ xs) (y ∷ ys) h = go (eqb x y) refl (same_length xs ys (λ e. h (ap suc e)))
  where
    go : (c : Bool) → eqb x y ≡ c → same xs ys ≡ false → same (x ∷ xs) (y ∷ ys) ≡ false
    go true q ih = rw (q, same) ih
    go false q ih = rw (q, same)

-- ---- roles

unrank : ℕ → Role
unrank n = get_or (name ∷ names ∷ masked ∷ []) n plain

unrank_rank : (r : Role) → unrank (rank r) ≡ r
unfolding unrank rank
unrank_rank name = refl
unrank_rank names = refl
unrank_rank masked = refl
unrank_rank plain = refl

pub role_eq : (r q : Role) → same_role r q ≡ true → r ≡ q
unfolding same_role
role_eq r q e = sym (unrank_rank r) ∙ ap unrank (eqb-true (rank r) (rank q) e) ∙ unrank_rank q

-- ---- lists

abbrev pub All {ℓ} : {A : Type ℓ} → (A → Type 0) → List A → Type 0
All P [] = Unit {0}
All P (x ∷ xs) = P x × All P xs

pub All-append {ℓ} : {A : Type ℓ} (P : A → Type 0) (xs ys : List A) → All P xs → All P ys → All P (xs ++ ys)
All-append P [] ys a b = b
All-append P (x ∷ xs) ys a b = (a.0, All-append P xs ys a.1 b)

pub All-get_or {ℓ} : {A : Type ℓ} (P : A → Type 0) (d : A) → P d → (xs : List A) → All P xs → (i : ℕ) → P (get_or xs i d)
All-get_or P d k [] a i = k
All-get_or P d k (x ∷ xs) a zero = a.0
All-get_or P d k (x ∷ xs) a (suc i) = All-get_or P d k xs a.1 i

-- A predicate that goes by the place in a list, and holds past its end too.
abbrev pub AllAt {ℓ} : {A : Type ℓ} → (ℕ → A → Type 0) → A → List A → Type 0
AllAt P d [] = (i : ℕ) → P i d
AllAt P d (x ∷ xs) = P 0 x × AllAt (λ i. P (suc i)) d xs

pub at_place {ℓ} : {A : Type ℓ} (P : ℕ → A → Type 0) (d : A) (xs : List A) → AllAt P d xs → (i : ℕ) → P i (get_or xs i d)
at_place P d [] a i = a i
at_place P d (x ∷ xs) a zero = a.0
at_place P d (x ∷ xs) a (suc i) = at_place (λ j. P (suc j)) d xs a.1 i

-- What stands at a place after a set: the new value, or what stood there.
pub get_d_set {ℓ} : {A : Type ℓ} (P : ℕ → A → Type 0) (xs : List A) (d : A) (k : ℕ) (x : A) → ((i : ℕ) → P i (get_or xs i d)) → P k x → (i : ℕ) → P i (get_or (set xs k x) i d)
get_d_set P [] d k x h p i = h i
get_d_set P (y ∷ ys) d zero x h p zero = p
get_d_set P (y ∷ ys) d zero x h p (suc i) = h (suc i)
get_d_set P (y ∷ ys) d (suc k) x h p zero = h zero
get_d_set P (y ∷ ys) d (suc k) x h p (suc i) = get_d_set (λ j. P (suc j)) ys d k x (λ j. h (suc j)) p i

-- ---- a name's place and its number

pub place_true : (ns : List (List ℕ)) (w : List ℕ) → place_in ns w < length ns → same (get_or ns (place_in ns w) []) w ≡ true
unfolding place_in
place_true [] w h = absurd (omega arith)
place_true (n ∷ ns) w h = go (same n w) refl (place_true ns w) h
  where
    go : (b : Bool) → same n w ≡ b → (place_in ns w < length ns → same (get_or ns (place_in ns w) []) w ≡ true) → ◌<◌ (elim b [ true ↦ 0 | false ↦ suc (place_in ns w) ]) (suc (length ns)) → same (get_or (n ∷ ns) (elim b [ true ↦ 0 | false ↦ suc (place_in ns w) ]) []) w ≡ true
    go true e ih h = e
    go false e ih h = ih (omega (arith, h))

pub number_small : (ns : List (List ℕ)) (w : List ℕ) → number_in ns w ≤ length ns
unfolding number_in
number_small ns w =
    test (ltb (place_in ns w) (length ns))
    (λ q. let z : number_in ns w ≡ suc (place_in ns w) = rw (q, number_in) in omega (arith, z, ltb-true (place_in ns w) (length ns) q))
    (λ q. let z : number_in ns w ≡ 0 = rw (q, number_in) in omega (arith, z))

pub key_small : (w : List ℕ) → key_of w ≤ 28
unfolding key_of key_names
key_small w = number_small key_names w
