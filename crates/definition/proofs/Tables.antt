-- Columns of numbers, of texts and of their lengths are apart: a number that is put into a row changes no text.
use Prim.Native.Nat.{ℕ, zero, suc, ◌<◌}
use mathlib.Core.Path.{◌≡◌, refl, sym, ap, ◌∙◌}
use mathlib.Core.Bool.{Bool, true, false, ◌&&◌}
use mathlib.Core.Option.{some}
use mathlib.Core.List.{List, [], ◌∷◌}
use lib.ListN.{length, get_or, set, length-set}
use lib.Dec.{eqb}
use borrow.Author.Tests.{eqb-true, eq-eqb}
use native.Mathlib.Omega.{arith}
use Rattle.definition.specs.Elements.{Role}
use Rattle.definition.specs.Rows.{Row, schema, Class, free, own, doc_id, above, mark, len, code, row, existing, text, by, text_role, role_at, columns_of, num, Cell, cell_at, with_cell}
use Rattle.definition.specs.Change.{is_number}
use Rattle.definition.proofs.Base.{and_left, and_right, true_is_false, none_is_some}

-- ---- columns

-- A column is a number's, a text's or a text's length.
unfoldable pub sort : Class → ℕ
sort (text r) = 1
sort len = 2
sort free = 0
sort own = 0
sort doc_id = 0
sort above = 0
sort mark = 0
sort (code a b) = 0
sort (row t) = 0
sort (existing t) = 0
sort (by c k) = 0

pub sort_number : (c : Class) → is_number c ≡ true → sort c ≡ 0
unfolding is_number sort
sort_number (text r) e = true_is_false (sym e)
sort_number len e = true_is_false (sym e)
sort_number free e = refl
sort_number own e = refl
sort_number doc_id e = refl
sort_number above e = refl
sort_number mark e = refl
sort_number (code a b) e = refl
sort_number (row t) e = refl
sort_number (existing t) e = refl
sort_number (by c k) e = refl

pub sort_text : (c : Class) (q : Role) → text_role c ≡ some q → sort c ≡ 1
unfolding text_role sort
sort_text (text r) q e = refl
sort_text len q e = none_is_some q e
sort_text free q e = none_is_some q e
sort_text own q e = none_is_some q e
sort_text doc_id q e = none_is_some q e
sort_text above q e = none_is_some q e
sort_text mark q e = none_is_some q e
sort_text (code a b) q e = none_is_some q e
sort_text (row t) q e = none_is_some q e
sort_text (existing t) q e = none_is_some q e
sort_text (by c k) q e = none_is_some q e

-- In the schema a text's length follows it.
unfoldable paired : List Class → Bool
unfolding sort
paired [] = true
paired (c ∷ cs) = elim (eqb (sort c) 1) [ true ↦ eqb (sort (get_or cs 0 free)) 2 && paired cs | false ↦ paired cs ]

unfoldable all_paired : List (List Class) → Bool
unfolding paired
all_paired [] = true
all_paired (cs ∷ css) = paired cs && all_paired css

schema_paired : all_paired schema ≡ true
unfolding all_paired schema
schema_paired = refl

paired_at : (css : List (List Class)) → all_paired css ≡ true → (k : ℕ) → paired (get_or css k []) ≡ true
unfolding all_paired paired
paired_at [] e k = refl
paired_at (cs ∷ css) e zero = and_left (paired cs) (all_paired css) e
paired_at (cs ∷ css) e (suc k) = paired_at css (and_right (paired cs) (all_paired css) e) k

columns_paired : (k : ℕ) → paired (columns_of k) ≡ true
unfolding columns_of
columns_paired k = paired_at schema schema_paired k

len_follows : (cs : List Class) → paired cs ≡ true → (c : ℕ) → sort (get_or cs c free) ≡ 1 → sort (get_or cs (suc c) free) ≡ 2
unfolding paired sort
len_follows [] e c h = absurd (omega arith)
len_follows (a ∷ cs) e zero h =
    eqb-true (sort (get_or cs 0 free)) 2 (and_left (eqb (sort (get_or cs 0 free)) 2) (paired cs) (rw (eq-eqb (sort a) 1 h, paired) at e))
len_follows (a ∷ cs) e (suc c) h = go (eqb (sort a) 1) refl (λ f. len_follows cs f c h)
  where
    go : (b : Bool) → eqb (sort a) 1 ≡ b → (paired cs ≡ true → sort (get_or cs (suc c) free) ≡ 2) → sort (get_or cs (suc c) free) ≡ 2
    go true q ih = ih (and_right (eqb (sort (get_or cs 0 free)) 2) (paired cs) (rw (q, paired) at e))
    go false q ih = ih (rw (q, paired) at e)

-- A text column of a table, and its length's.
pub text_at_lem : (k c : ℕ) (q : Role) → role_at k c ≡ some q → sort (get_or (columns_of k) c free) ≡ 1
unfolding role_at
text_at_lem k c q e = sort_text (get_or (columns_of k) c free) q e

pub len_at : (k c : ℕ) (q : Role) → role_at k c ≡ some q → sort (get_or (columns_of k) (suc c) free) ≡ 2
len_at k c q e = len_follows (columns_of k) (columns_paired k) c (text_at_lem k c q e)

-- Columns of two sorts are two columns.
pub apart : (cs : List Class) (i j : ℕ) (m n : ℕ) → sort (get_or cs i free) ≡ m → sort (get_or cs j free) ≡ n → (m ≡ n → ⊥) → i ≡ j → ⊥
apart cs i j m n e f h q = h (sym e ∙ ap (λ (x : ℕ). sort (get_or cs x free)) q ∙ f)

-- ---- a set elsewhere, and here

pub num_other : (r : Row) (j c v : ℕ) → (j ≡ c → ⊥) → num (set r j v) c ≡ num r c
num_other [] j c v h = refl
num_other (x ∷ r) zero zero v h = absurd (h refl)
num_other (x ∷ r) zero (suc c) v h = refl
num_other (x ∷ r) (suc j) zero v h = refl
num_other (x ∷ r) (suc j) (suc c) v h = num_other r j c v (λ e. h (ap suc e))

pub num_here : (r : Row) (c v : ℕ) → c < length r → num (set r c v) c ≡ v
num_here [] c v h = absurd (omega arith)
num_here (x ∷ r) zero v h = refl
num_here (x ∷ r) (suc c) v h = num_here r c v (omega arith)

pub cell_other : (r : Row) (j c v : ℕ) → (j ≡ c → ⊥) → (j ≡ suc c → ⊥) → cell_at (set r j v) c ≡ cell_at r c
unfolding cell_at
cell_other r j c v h k = λ i. record { at = num_other r j c v h i; len = num_other r j (suc c) v k i }

pub cell_here : (r : Row) (c : ℕ) (x : Cell) → suc c < length r → cell_at (with_cell c x r) c ≡ x
unfolding cell_at with_cell
cell_here r c x h =
    let a : num (set (set r c x.at) (suc c) x.len) c ≡ x.at =
    num_other (set r c x.at) (suc c) c x.len (λ e. omega arith) ∙ num_here r c x.at (omega arith) in
    let b : num (set (set r c x.at) (suc c) x.len) (suc c) ≡ x.len =
    num_here (set r c x.at) (suc c) x.len (rw length-set h) in
    λ i. record { at = a i; len = b i }
