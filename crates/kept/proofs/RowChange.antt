-- Numbers put into a row and texts filled into it keep its rules.
use Prim.Native.Nat.{ℕ, zero, suc}
use mathlib.Core.Path.{◌≡◌, refl, sym, subst}
use mathlib.Core.Bool.{Bool, true, false, ◌&&◌, ◌||◌, not}
use mathlib.Core.List.{List, [], ◌∷◌}
use lib.ListN.{get_or, set}
use lib.Dec.{eqb}
use lib.Seq.{get_or-set_other}
use Rattle.definition.specs.Rows.{Row, Class, free, own, doc_id, above, mark, len, code, row, existing, text, by, choices, num}
use Rattle.definition.specs.Change.{Put, is_number, put_one, put_all}
use Rattle.definition.specs.Rules.{following, chosen}
use Rattle.definition.proofs.Base.{not_of}
use Rattle.kept.proofs.Base.{false_is_true, and_left, and_right, neq_of}
use Rattle.kept.proofs.Classes.{View, Fits, Nums, Laid}

-- ---- number columns

-- No class goes by the column c.
unfoldable pub steady_in : ℕ → Class → Bool
steady_in c (by d k) = not (eqb d c) && not (eqb 0 c)
steady_in c above = not (eqb 0 c)
steady_in c free = true
steady_in c own = true
steady_in c doc_id = true
steady_in c mark = true
steady_in c len = true
steady_in c (code a b) = true
steady_in c (row t) = true
steady_in c (existing t) = true
steady_in c (text q) = true

unfoldable pub steady : ℕ → List Class → Bool
unfolding steady_in
steady c [] = true
steady c (x ∷ xs) = steady_in c x && steady c xs

kept_num : (r : Row) (c d w : ℕ) → not (eqb d c) ≡ true → num (set r c w) d ≡ num r d
kept_num r c d w e = get_or-set_other r c d w 0 (neq_of d c (not_of (eqb d c) e))

fits_same : (W : View) (r u : Row) → num u 0 ≡ num r 0 → (x : Class) (v : ℕ) → Fits W r x v → Fits W u x v
unfolding Fits
fits_same W r u e free v h = tt
fits_same W r u e own v h = h
fits_same W r u e doc_id v h = h
fits_same W r u e above v h = λ z. ((h z).0, rw e (h z).1)
fits_same W r u e mark v h = h
fits_same W r u e len v h = tt
fits_same W r u e (code a b) v h = h
fits_same W r u e (row t) v h = h
fits_same W r u e (existing t) v h = h
fits_same W r u e (text q) v h = tt
fits_same W r u e (by c k) v h = tt

fits_steady : (W : View) (r : Row) (c w : ℕ) (x : Class) (v : ℕ) → steady_in c x ≡ true → Fits W r (chosen r x) v → Fits W (set r c w) (chosen (set r c w) x) v
unfolding steady_in chosen Fits
fits_steady W r c w (by d k) v e h =
    let p : not (eqb d c) ≡ true = and_left (not (eqb d c)) (not (eqb 0 c)) e in
    let q : not (eqb 0 c) ≡ true = and_right (not (eqb d c)) (not (eqb 0 c)) e in
    let g : Fits W (set r c w) (get_or (get_or choices k []) (num r d) free) v = fits_same W r (set r c w) (kept_num r c 0 w q) (get_or (get_or choices k []) (num r d) free) v h in
    subst (λ (i : ℕ). Fits W (set r c w) (get_or (get_or choices k []) i free) v) (sym (kept_num r c d w p)) g
fits_steady W r c w above v e h = λ z. ((h z).0, rw (kept_num r c 0 w e) (h z).1)
fits_steady W r c w free v e h = tt
fits_steady W r c w own v e h = h
fits_steady W r c w doc_id v e h = h
fits_steady W r c w mark v e h = h
fits_steady W r c w len v e h = tt
fits_steady W r c w (code a b) v e h = h
fits_steady W r c w (row t) v e h = h
fits_steady W r c w (existing t) v e h = h
fits_steady W r c w (text q) v e h = tt

nums_row : (W : View) (r : Row) (c w : ℕ) (cs : List Class) (vs : Row) → steady c cs ≡ true → Nums W r cs vs → Nums W (set r c w) cs vs
unfolding Nums steady
nums_row W r c w [] [] e h = tt
nums_row W r c w [] (v ∷ vs) e h = h
nums_row W r c w (x ∷ xs) [] e h = h
nums_row W r c w (x ∷ xs) (v ∷ vs) e h =
    (fits_steady W r c w x v (and_left (steady_in c x) (steady c xs) e) h.0, nums_row W r c w xs vs (and_right (steady_in c x) (steady c xs) e) h.1)

nums_at : (W : View) (r : Row) (cs : List Class) (vs : Row) (c v : ℕ) → Nums W r cs vs → Fits W r (chosen r (get_or cs c free)) v → Nums W r cs (set vs c v)
unfolding Nums
nums_at W r [] [] c v h f = tt
nums_at W r [] (u ∷ vs) c v h f = absurd h
nums_at W r (x ∷ xs) [] c v h f = h
nums_at W r (x ∷ xs) (u ∷ vs) zero v h f = (f, h.1)
nums_at W r (x ∷ xs) (u ∷ vs) (suc c) v h f = (h.0, nums_at W r xs vs c v h.1 f)

pub nums_set : (W : View) (cs : List Class) (r : Row) (c v : ℕ) → steady c cs ≡ true → Nums W r cs r → Fits W (set r c v) (chosen (set r c v) (get_or cs c free)) v → Nums W (set r c v) cs (set r c v)
nums_set W cs r c v e h f = nums_at W (set r c v) cs r c v (nums_row W r c v cs r e h) f

-- Each put fits in the row as it is after it.
unfoldable pub PutsFit : View → List Class → Row → List Put → Type 0
unfolding Fits chosen
PutsFit W cs r [] = Unit {0}
PutsFit W cs r (p ∷ ps) =
    Fits W (set r p.column p.to) (chosen (set r p.column p.to) (get_or cs p.column free)) p.to × PutsFit W cs (set r p.column p.to) ps

unfoldable pub puts : List Class → List Put → Bool
unfolding steady is_number
puts cs [] = true
puts cs (p ∷ ps) = steady p.column cs && (is_number (get_or cs p.column free) && puts cs ps)

pub nums_puts : (W : View) (cs : List Class) (r : Row) (ps : List Put) → puts cs ps ≡ true → Nums W r cs r → PutsFit W cs r ps → Nums W (put_all cs ps r) cs (put_all cs ps r)
unfolding PutsFit puts put_all put_one
nums_puts W cs r [] e h f = h
nums_puts W cs r (p ∷ ps) e h f =
    let q = is_number (get_or cs p.column free) in
    let e₁ : steady p.column cs ≡ true = and_left (steady p.column cs) (q && puts cs ps) e in
    let e₂ : (q && puts cs ps) ≡ true = and_right (steady p.column cs) (q && puts cs ps) e in
    let e₃ : q ≡ true = and_left q (puts cs ps) e₂ in
    let w : put_one cs p r ≡ set r p.column p.to = rw (e₃, put_one) in
    rw w (nums_puts W cs (set r p.column p.to) ps (and_right q (puts cs ps) e₂) (nums_set W cs r p.column p.to e₁ h f.0) f.1)

-- ---- text columns

unfoldable pub is_texty : Class → Bool
is_texty (text q) = true
is_texty free = false
is_texty own = false
is_texty doc_id = false
is_texty above = false
is_texty mark = false
is_texty len = false
is_texty (code a b) = false
is_texty (row t) = false
is_texty (existing t) = false
is_texty (by c k) = false

unfoldable pub is_len : Class → Bool
is_len len = true
is_len (text q) = false
is_len free = false
is_len own = false
is_len doc_id = false
is_len above = false
is_len mark = false
is_len (code a b) = false
is_len (row t) = false
is_len (existing t) = false
is_len (by c k) = false

unfoldable pub len_first : List Class → Bool
unfolding is_len
len_first [] = false
len_first (x ∷ xs) = is_len x

-- Each text is followed by its length.
unfoldable pub paired : List Class → Bool
unfolding is_texty len_first
paired [] = true
paired (x ∷ xs) = (not (is_texty x) || len_first xs) && paired xs

pub laid_number : (u : ℕ) (x : Class) (v : ℕ) (vs : Row) → is_number x ≡ true → Laid u x v vs
unfolding Laid is_number
laid_number u (text q) v vs e = false_is_true e
laid_number u free v vs e = tt
laid_number u own v vs e = tt
laid_number u doc_id v vs e = tt
laid_number u above v vs e = tt
laid_number u mark v vs e = tt
laid_number u len v vs e = tt
laid_number u (code a b) v vs e = tt
laid_number u (row t) v vs e = tt
laid_number u (existing t) v vs e = tt
laid_number u (by c k) v vs e = tt

-- A text's own length stays where another column changes.
pub laid_other : (u : ℕ) (x : Class) (w : ℕ) (vs ws : Row) → (is_texty x ≡ true → following ws ≡ following vs) → Laid u x w vs → Laid u x w ws
unfolding Laid is_texty
laid_other u (text q) w vs ws e h = rw (e refl) h
laid_other u free w vs ws e h = tt
laid_other u own w vs ws e h = tt
laid_other u doc_id w vs ws e h = tt
laid_other u above w vs ws e h = tt
laid_other u mark w vs ws e h = tt
laid_other u len w vs ws e h = tt
laid_other u (code a b) w vs ws e h = tt
laid_other u (row t) w vs ws e h = tt
laid_other u (existing t) w vs ws e h = tt
laid_other u (by c k) w vs ws e h = tt

pub len_number : (x : Class) → is_len x ≡ true → is_number x ≡ true → ⊥
unfolding is_len is_number
len_number len e f = false_is_true f
len_number (text q) e f = false_is_true e
len_number free e f = false_is_true e
len_number own e f = false_is_true e
len_number doc_id e f = false_is_true e
len_number above e f = false_is_true e
len_number mark e f = false_is_true e
len_number (code a b) e f = false_is_true e
len_number (row t) e f = false_is_true e
len_number (existing t) e f = false_is_true e
len_number (by c k) e f = false_is_true e

pub len_text : (x : Class) → is_len x ≡ true → is_texty x ≡ true → ⊥
unfolding is_len is_texty
len_text len e f = false_is_true f
len_text (text q) e f = false_is_true e
len_text free e f = false_is_true e
len_text own e f = false_is_true e
len_text doc_id e f = false_is_true e
len_text above e f = false_is_true e
len_text mark e f = false_is_true e
len_text (code a b) e f = false_is_true e
len_text (row t) e f = false_is_true e
len_text (existing t) e f = false_is_true e
len_text (by c k) e f = false_is_true e

pub len_after : (x : Class) (xs : List Class) → paired (x ∷ xs) ≡ true → is_texty x ≡ true → len_first xs ≡ true
unfolding paired
len_after x xs e f = let g : (not (is_texty x) || len_first xs) ≡ true = and_left (not (is_texty x) || len_first xs) (paired xs) e in rw f at g

pub paired_rest : (x : Class) (xs : List Class) → paired (x ∷ xs) ≡ true → paired xs ≡ true
unfolding paired
paired_rest x xs e = and_right (not (is_texty x) || len_first xs) (paired xs) e
