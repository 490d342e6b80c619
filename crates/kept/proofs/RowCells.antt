-- A cell set in a row, and a number put beside it.
use Prim.Native.Nat.{ℕ, zero, suc}
use mathlib.Core.Path.{◌≡◌, refl}
use mathlib.Core.Bool.{Bool, true, false}
use mathlib.Core.List.{List, [], ◌∷◌}
use lib.ListN.{get_or, set}
use Rattle.definition.specs.Rows.{Row, Class, free, own, doc_id, above, mark, len, code, row, existing, text, by, num, Cell, cell_at}
use Rattle.definition.specs.Change.{Put, is_number, put_one, put_all}
use Rattle.definition.specs.Rules.{is_inside, following}
use Rattle.kept.proofs.Base.{false_is_true}
use Rattle.kept.proofs.Classes.{Laid, Texts}
use Rattle.kept.proofs.RowChange.{is_texty, is_len, len_first, paired, laid_number, laid_other, len_number, len_text, len_after, paired_rest}

following_set : (vs : Row) (c v : ℕ) → following (set vs (suc c) v) ≡ following vs
unfolding following
following_set [] c v = refl
following_set (w ∷ vs) c v = refl

-- A number put leaves the texts as they are.
number_follows : (cs : List Class) (vs : Row) (c v : ℕ) → is_number (get_or cs c free) ≡ true → len_first cs ≡ true → following (set vs c v) ≡ following vs
unfolding len_first
number_follows [] vs c v e f = false_is_true f
number_follows (x ∷ xs) vs zero v e f = absurd (len_number x f e)
number_follows (x ∷ xs) vs (suc c) v e f = following_set vs c v

pub texts_number : (u : ℕ) (cs : List Class) (vs : Row) (c v : ℕ) → paired cs ≡ true → is_number (get_or cs c free) ≡ true → Texts u cs vs → Texts u cs (set vs c v)
unfolding Texts
texts_number u [] [] c v p e h = tt
texts_number u [] (w ∷ vs) c v p e h = absurd h
texts_number u (x ∷ xs) [] c v p e h = h
texts_number u (x ∷ xs) (w ∷ vs) zero v p e h = (laid_number u x v vs e, h.1)
texts_number u (x ∷ xs) (w ∷ vs) (suc c) v p e h =
    (laid_other u x w vs (set vs c v) (λ t. number_follows xs vs c v e (len_after x xs p t)) h.0, texts_number u xs vs c v (paired_rest x xs p) e h.1)

texts_put : (u : ℕ) (cs : List Class) (r : Row) (q : Put) → paired cs ≡ true → Texts u cs r → Texts u cs (put_one cs q r)
unfolding put_one
texts_put u cs r q p h = go (is_number (get_or cs q.column free)) refl
  where
    go : (b : Bool) → is_number (get_or cs q.column free) ≡ b → Texts u cs (put_one cs q r)
    go true e = rw (e, put_one) (texts_number u cs r q.column q.to p e h)
    go false e = rw (e, put_one) h

pub texts_puts : (u : ℕ) (cs : List Class) (r : Row) (ps : List Put) → paired cs ≡ true → Texts u cs r → Texts u cs (put_all cs ps r)
unfolding put_all
texts_puts u cs r [] p h = h
texts_puts u cs r (q ∷ ps) p h = texts_puts u cs (put_one cs q r) ps p (texts_put u cs r q p h)

-- ---- a cell

abbrev pub CellIn : ℕ → Cell → Type 0
CellIn u c = is_inside u c.at c.len ≡ true

texty_follows : (cs : List Class) (vs : Row) (c a b : ℕ) → is_texty (get_or cs c free) ≡ true → len_first cs ≡ true → following (set (set vs c a) (suc c) b) ≡ following vs
unfolding len_first following
texty_follows [] vs c a b e f = false_is_true f
texty_follows (x ∷ xs) vs zero a b e f = absurd (len_text x f e)
texty_follows (x ∷ xs) [] (suc c) a b e f = refl
texty_follows (x ∷ xs) (w ∷ vs) (suc c) a b e f = refl

len_laid : (u : ℕ) (x : Class) (v : ℕ) (vs : Row) → is_len x ≡ true → Laid u x v vs
unfolding Laid is_len
len_laid u len v vs e = tt
len_laid u (text q) v vs e = false_is_true e
len_laid u free v vs e = tt
len_laid u own v vs e = tt
len_laid u doc_id v vs e = tt
len_laid u above v vs e = tt
len_laid u mark v vs e = tt
len_laid u (code a b) v vs e = tt
len_laid u (row t) v vs e = tt
len_laid u (existing t) v vs e = tt
len_laid u (by c k) v vs e = tt

texty_laid : (u : ℕ) (x : Class) (v : ℕ) (vs : Row) → is_inside u v (following vs) ≡ true → Laid u x v vs
unfolding Laid
texty_laid u (text q) v vs e = e
texty_laid u len v vs e = tt
texty_laid u free v vs e = tt
texty_laid u own v vs e = tt
texty_laid u doc_id v vs e = tt
texty_laid u above v vs e = tt
texty_laid u mark v vs e = tt
texty_laid u (code a b) v vs e = tt
texty_laid u (row t) v vs e = tt
texty_laid u (existing t) v vs e = tt
texty_laid u (by c k) v vs e = tt

laid_texty : (u : ℕ) (x : Class) (v : ℕ) (vs : Row) → is_texty x ≡ true → Laid u x v vs → is_inside u v (following vs) ≡ true
unfolding Laid is_texty
laid_texty u (text q) v vs e h = h
laid_texty u len v vs e h = false_is_true e
laid_texty u free v vs e h = false_is_true e
laid_texty u own v vs e h = false_is_true e
laid_texty u doc_id v vs e h = false_is_true e
laid_texty u above v vs e h = false_is_true e
laid_texty u mark v vs e h = false_is_true e
laid_texty u (code a b) v vs e h = false_is_true e
laid_texty u (row t) v vs e h = false_is_true e
laid_texty u (existing t) v vs e h = false_is_true e
laid_texty u (by c k) v vs e h = false_is_true e

-- A cell set in a text's two columns.
cell_head : (u : ℕ) (x : Class) (xs : List Class) (w : ℕ) (vs : Row) (a b : ℕ) → len_first xs ≡ true → is_inside u a b ≡ true → Texts u xs vs → Texts u (x ∷ xs) (set (set (w ∷ vs) 0 a) 1 b)
unfolding Texts len_first following
cell_head u x [] w vs a b e i h = false_is_true e
cell_head u x (y ∷ ys) w [] a b e i h = absurd h
cell_head u x (y ∷ ys) w (z ∷ vs) a b e i h = (texty_laid u x a (b ∷ vs) i, (len_laid u y b vs e, h.1))

pub texts_cell : (u : ℕ) (cs : List Class) (vs : Row) (c a b : ℕ) → paired cs ≡ true → is_texty (get_or cs c free) ≡ true → is_inside u a b ≡ true → Texts u cs vs → Texts u cs (set (set vs c a) (suc c) b)
unfolding Texts is_texty
texts_cell u [] [] c a b p e i h = tt
texts_cell u [] (w ∷ vs) c a b p e i h = absurd h
texts_cell u (x ∷ xs) [] c a b p e i h = absurd h
texts_cell u (x ∷ xs) (w ∷ vs) zero a b p e i h = cell_head u x xs w vs a b (len_after x xs p e) i h.1
texts_cell u (x ∷ xs) (w ∷ vs) (suc c) a b p e i h =
    (laid_other u x w vs (set (set vs c a) (suc c) b) (λ t. texty_follows xs vs c a b e (len_after x xs p t)) h.0, texts_cell u xs vs c a b (paired_rest x xs p) e i h.1)

following_num : (vs : Row) → following vs ≡ num vs 0
unfolding following
following_num [] = refl
following_num (v ∷ vs) = refl

-- What a text's columns hold.
pub texts_old : (u : ℕ) (cs : List Class) (vs : Row) (c : ℕ) → is_texty (get_or cs c free) ≡ true → Texts u cs vs → CellIn u (cell_at vs c)
unfolding Texts is_texty cell_at
texts_old u [] vs c e h = false_is_true e
texts_old u (x ∷ xs) [] c e h = absurd h
texts_old u (x ∷ xs) (w ∷ vs) zero e h = rw (← following_num vs) (laid_texty u x w vs e h.0)
texts_old u (x ∷ xs) (w ∷ vs) (suc c) e h = texts_old u xs vs c e h.1
