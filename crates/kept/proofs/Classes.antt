-- The rules of a row as facts: its number columns and its text columns apart.
use Prim.Native.Nat.{ℕ, suc, ◌≤◌, ◌<◌}
use mathlib.Core.Path.{◌≡◌, refl}
use mathlib.Core.Bool.{Bool, true, false, ◌&&◌}
use mathlib.Core.List.{List, [], ◌∷◌}
use lib.ListN.{length, get_or}
use lib.Dec.{eqb, leb, ltb}
use Rattle.definition.specs.Rows.{Row, Table, Class, free, own, doc_id, above, mark, len, code, row, existing, text, by, choices, num, Numbers, table_of, Store}
use Rattle.definition.specs.Rules.{is_row, is_row_or_zero, is_inside, following, chosen, keeps, columns_keep}
use Rattle.kept.proofs.Base.{or_right, or_of, All, All-get_or, false_is_true, and_left, and_right, and_both, le_of, leb_of, neqb_of, neq_of}

-- All that the rules of a row look at.
pub record View : Type 0 where
  pub tables : List Table
  pub ids : ℕ
  pub docs : ℕ
  pub used : ℕ

abbrev pub numbers_of : List Table → Numbers
numbers_of T = record { tables = T; current = 0; ids = 0; docs = 0; names = 0; charge = 0 }

abbrev pub HasRow : List Table → ℕ → ℕ → Type 0
HasRow T t v = is_row (numbers_of T) t v ≡ true

abbrev pub OrZero : List Table → ℕ → ℕ → Type 0
OrZero T t v = ¬ (v ≡ 0) → HasRow T t v

abbrev pub view_of : Store → View
view_of s = record { tables = s.numbers.tables; ids = s.numbers.ids; docs = s.numbers.docs; used = length s.text }

-- What a number column of a class must show; X is what is asked besides.
unfoldable pub Fits : View → Row → Class → ℕ → Type 0
Fits W r free v = Unit {0}
Fits W r own v = (1 ≤ v) × (v ≤ W.ids)
Fits W r doc_id v = v ≤ W.docs
Fits W r above v = ¬ (v ≡ 0) → HasRow W.tables 3 v × (num r 0 < v)
Fits W r mark v = v ≤ suc (length (get_or W.tables 7 []))
Fits W r len v = Unit {0}
Fits W r (code a b) v = (leb a v && leb v b) ≡ true
Fits W r (row t) v = OrZero W.tables t v
Fits W r (existing t) v = HasRow W.tables t v
Fits W r (text q) v = Unit {0}
Fits W r (by c k) v = Unit {0}

unfoldable pub Nums : View → Row → List Class → Row → Type 0
unfolding Fits chosen
Nums W r [] [] = Unit {0}
Nums W r [] (v ∷ vs) = ⊥
Nums W r (c ∷ cs) [] = ⊥
Nums W r (c ∷ cs) (v ∷ vs) = Fits W r (chosen r c) v × Nums W r cs vs

unfoldable pub Laid : ℕ → Class → ℕ → Row → Type 0
unfolding is_inside following
Laid used (text q) v vs = is_inside used v (following vs) ≡ true
Laid used free v vs = Unit {0}
Laid used own v vs = Unit {0}
Laid used doc_id v vs = Unit {0}
Laid used above v vs = Unit {0}
Laid used mark v vs = Unit {0}
Laid used len v vs = Unit {0}
Laid used (code a b) v vs = Unit {0}
Laid used (row t) v vs = Unit {0}
Laid used (existing t) v vs = Unit {0}
Laid used (by c k) v vs = Unit {0}

unfoldable pub Texts : ℕ → List Class → Row → Type 0
unfolding Laid
Texts used [] [] = Unit {0}
Texts used [] (v ∷ vs) = ⊥
Texts used (c ∷ cs) [] = ⊥
Texts used (c ∷ cs) (v ∷ vs) = Laid used c v vs × Texts used cs vs

-- ---- from the test and back

pub or_zero_from : (n : Numbers) (t v : ℕ) → is_row_or_zero n t v ≡ true → OrZero n.tables t v
unfolding is_row_or_zero is_row
or_zero_from n t v e h = let f : eqb v 0 ≡ false = neqb_of v 0 h in rw (f, is_row_or_zero) at e

pub or_zero_to : (n : Numbers) (t v : ℕ) → OrZero n.tables t v → is_row_or_zero n t v ≡ true
unfolding is_row_or_zero is_row
or_zero_to n t v h = go (eqb v 0) refl
  where
    go : (b : Bool) → eqb v 0 ≡ b → is_row_or_zero n t v ≡ true
    go true e = rw (e, is_row_or_zero)
    go false e = rw (e, is_row_or_zero) (h (neq_of v 0 e))

pub fits_from : (s : Store) (r : Row) (c : Class) (v : ℕ) (vs : Row) → keeps s r c v vs ≡ true → Fits (view_of s) r c v
unfolding keeps Fits is_row
fits_from s r free v vs e = tt
fits_from s r own v vs e = (le_of 1 v (and_left (leb 1 v) (leb v s.numbers.ids) e), le_of v s.numbers.ids (and_right (leb 1 v) (leb v s.numbers.ids) e))
fits_from s r doc_id v vs e = le_of v s.numbers.docs e
fits_from s r above v vs e =
    λ h.
    let f : (is_row s.numbers 3 v && ltb (num r 0) v) ≡ true = or_right (eqb v 0) (is_row s.numbers 3 v && ltb (num r 0) v) (neqb_of v 0 h) e in (
      and_left (is_row s.numbers 3 v) (ltb (num r 0) v) f,
      le_of (suc (num r 0)) v (and_right (is_row s.numbers 3 v) (ltb (num r 0) v) f),
    )
fits_from s r mark v vs e = le_of v (suc (length (table_of s.numbers 7))) e
fits_from s r len v vs e = tt
fits_from s r (code a b) v vs e = e
fits_from s r (row t) v vs e = or_zero_from s.numbers t v e
fits_from s r (existing t) v vs e = e
fits_from s r (text q) v vs e = tt
fits_from s r (by c k) v vs e = tt

pub keeps_to : (s : Store) (r : Row) (c : Class) (v : ℕ) (vs : Row) → Fits (view_of s) r c v → Laid (length s.text) c v vs → keeps s r c v vs ≡ true
unfolding keeps Fits is_row Laid
keeps_to s r free v vs e h = refl
keeps_to s r own v vs e h = and_both (leb 1 v) (leb v s.numbers.ids) (leb_of 1 v e.0) (leb_of v s.numbers.ids e.1)
keeps_to s r doc_id v vs e h = leb_of v s.numbers.docs e
keeps_to s r above v vs e h =
    or_of (eqb v 0) (is_row s.numbers 3 v && ltb (num r 0) v) (λ f.
    let x = e (neq_of v 0 f) in and_both (is_row s.numbers 3 v) (ltb (num r 0) v) x.0 (leb_of (suc (num r 0)) v x.1))
keeps_to s r mark v vs e h = leb_of v (suc (length (table_of s.numbers 7))) e
keeps_to s r len v vs e h = refl
keeps_to s r (code a b) v vs e h = e
keeps_to s r (row t) v vs e h = or_zero_to s.numbers t v e
keeps_to s r (existing t) v vs e h = e
keeps_to s r (text q) v vs e h = h
keeps_to s r (by c k) v vs e h = refl

laid_from : (s : Store) (r : Row) (c : Class) (v : ℕ) (vs : Row) → keeps s r (chosen r c) v vs ≡ true → Laid (length s.text) c v vs
unfolding keeps Laid chosen
laid_from s r free v vs e = tt
laid_from s r own v vs e = tt
laid_from s r doc_id v vs e = tt
laid_from s r above v vs e = tt
laid_from s r mark v vs e = tt
laid_from s r len v vs e = tt
laid_from s r (code a b) v vs e = tt
laid_from s r (row t) v vs e = tt
laid_from s r (existing t) v vs e = tt
laid_from s r (text q) v vs e = e
laid_from s r (by c k) v vs e = tt

-- Texts are not chosen by a code.
laid_chosen : (used : ℕ) (r : Row) (c k v : ℕ) (vs : Row) → Laid used (get_or (get_or choices k []) (num r c) free) v vs
unfolding Laid choices
laid_chosen used r c k v vs =
    All-get_or (λ (x : Class). Laid used x v vs) free tt (get_or choices k [])
    (All-get_or (λ (cs : List Class). All (λ (x : Class). Laid used x v vs) cs) [] tt choices
    ((tt, (tt, (tt, (tt, (tt, (tt, (tt, (tt, (tt, tt))))))))), ((tt, (tt, (tt, (tt, (tt, (tt, (tt, (tt, (tt, tt))))))))), ((tt, (tt, (tt, (tt, tt)))), ((tt, (tt, (tt, (tt, (tt, (tt, (tt, (tt, (tt, (tt, tt)))))))))), ((tt, (tt, (tt, (tt, (tt, (tt, (tt, (tt, (tt, (tt, tt)))))))))), tt)))))
    k)
    (num r c)

laid_to : (used : ℕ) (r : Row) (c : Class) (v : ℕ) (vs : Row) → Laid used c v vs → Laid used (chosen r c) v vs
unfolding Laid chosen
laid_to used r free v vs e = tt
laid_to used r own v vs e = tt
laid_to used r doc_id v vs e = tt
laid_to used r above v vs e = tt
laid_to used r mark v vs e = tt
laid_to used r len v vs e = tt
laid_to used r (code a b) v vs e = tt
laid_to used r (row t) v vs e = tt
laid_to used r (existing t) v vs e = tt
laid_to used r (text q) v vs e = e
laid_to used r (by c k) v vs e = laid_chosen used r c k v vs

-- A ROW KEEPS ITS COLUMNS' CLASSES.
pub columns_from : (s : Store) (r : Row) (cs : List Class) (vs : Row) → columns_keep s r cs vs ≡ true → Nums (view_of s) r cs vs × Texts (length s.text) cs vs
unfolding columns_keep Nums Texts
columns_from s r [] [] e = (tt, tt)
columns_from s r [] (v ∷ vs) e = false_is_true e
columns_from s r (c ∷ cs) [] e = false_is_true e
columns_from s r (c ∷ cs) (v ∷ vs) e = go (keeps s r (chosen r c) v vs) refl (columns_from s r cs vs)
  where
    go : (b : Bool) → keeps s r (chosen r c) v vs ≡ b → (columns_keep s r cs vs ≡ true → Nums (view_of s) r cs vs × Texts (length s.text) cs vs)
        → Nums (view_of s) r (c ∷ cs) (v ∷ vs) × Texts (length s.text) (c ∷ cs) (v ∷ vs)
    go true f ih =
        let x = ih (rw (f, columns_keep) at e) in ((fits_from s r (chosen r c) v vs f, x.0), (laid_from s r c v vs f, x.1))
    go false f ih = let z : false ≡ true = rw (f, columns_keep) at e in false_is_true z

pub columns_to : (s : Store) (r : Row) (cs : List Class) (vs : Row) → Nums (view_of s) r cs vs → Texts (length s.text) cs vs → columns_keep s r cs vs ≡ true
unfolding columns_keep Nums Texts
columns_to s r [] [] a b = refl
columns_to s r [] (v ∷ vs) a b = absurd a
columns_to s r (c ∷ cs) [] a b = absurd a
columns_to s r (c ∷ cs) (v ∷ vs) a b =
    let f : keeps s r (chosen r c) v vs ≡ true = keeps_to s r (chosen r c) v vs a.0 (laid_to (length s.text) r c v vs b.0) in
    rw (f, columns_keep) (columns_to s r cs vs a.1 b.1)
