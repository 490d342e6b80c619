-- A row added to a table, a row altered, numbers drawn: all rules of the tables are kept.
use Prim.Native.Nat.{ℕ, zero, suc, ◌<◌}
use mathlib.Core.Path.{◌≡◌, refl, ap, ◌∙◌}
use mathlib.Core.Bool.{Bool, true, false, ◌&&◌, not}
use mathlib.Core.List.{List, [], ◌∷◌, ◌++◌}
use lib.ListN.{length, get_or, set, replicate}
use lib.Dec.{eqb}
use lib.Seq.{get_or-set_other}
use native.Mathlib.Omega.{arith}
use Rattle.definition.specs.Rows.{Row, Table, Class, free, own, doc_id, above, mark, len, code, row, existing, text, by, num, columns_of, blank, row_of, Cell, cell_at, with_cell}
use Rattle.definition.specs.Shapes.{Filling}
use Rattle.definition.specs.Look.{Look, name_cells}
use Rattle.definition.specs.Change.{Put, is_number, put_one, put_all, filled_by, cell_of, alter_row}
use Rattle.definition.specs.Rules.{following, is_inside}
use Rattle.definition.proofs.Base.{not_of}
use Rattle.kept.proofs.Base.{and_left, and_right, neq_of, All, All-map}
use Rattle.kept.proofs.Classes.{View, Nums, Laid, Texts}
use Rattle.kept.proofs.Grow.{Absent, Grows, nums_grow, texts_grow}
use Rattle.kept.proofs.RowChange.{paired}
use Rattle.kept.proofs.RowCells.{texts_puts}
use Rattle.kept.proofs.RowTexts.{LookIn, fills, texts_fill}

pub record RowOk (W : View) (t : ℕ) (r : Row) : Type 0 where
  pub nums : Nums W r (columns_of t) r
  pub texts : Texts W.used (columns_of t) r

pub row_ok_grow : (W U : View) → Grows W U → (t : ℕ) (r : Row) → RowOk W t r → RowOk U t r
row_ok_grow W U g t r h = record { nums = nums_grow W U g r (columns_of t) r h.nums; texts = texts_grow W.used U.used (columns_of t) r g.used h.texts }

pub rows_ok_grow : (W U : View) → Grows W U → (t : ℕ) (rs : Table) → All (RowOk W t) rs → All (RowOk U t) rs
rows_ok_grow W U g t rs a = All-map (RowOk W t) (RowOk U t) (row_ok_grow W U g t) rs a

-- ---- a new row's texts

blank_follows : (n : ℕ) → following (replicate n 0) ≡ 0
unfolding following
blank_follows zero = refl
blank_follows (suc n) = refl

blank_laid : (u : ℕ) (x : Class) (n : ℕ) → Laid u x 0 (replicate n 0)
unfolding Laid is_inside
blank_laid u (text q) n = rw (blank_follows n)
blank_laid u free n = tt
blank_laid u own n = tt
blank_laid u doc_id n = tt
blank_laid u above n = tt
blank_laid u mark n = tt
blank_laid u len n = tt
blank_laid u (code a b) n = tt
blank_laid u (row t) n = tt
blank_laid u (existing t) n = tt
blank_laid u (by c k) n = tt

blank_texts : (u : ℕ) (cs : List Class) → Texts u cs (replicate (length cs) 0)
unfolding Texts
blank_texts u [] = tt
blank_texts u (c ∷ cs) = (blank_laid u c (length cs), blank_texts u cs)

abbrev pub new_row : ℕ → List Filling → List Put → Look → ℕ → Row
new_row k fs ps l i = put_all (columns_of k) ps (filled_by l i fs (blank k))

pub new_texts : (u k : ℕ) (fs : List Filling) (ps : List Put) (l : Look) (i : ℕ) → LookIn u l → (fills (columns_of k) fs && paired (columns_of k)) ≡ true → Texts u (columns_of k) (new_row k fs ps l i)
unfolding blank
new_texts u k fs ps l i h e =
    let p : paired (columns_of k) ≡ true = and_right (fills (columns_of k) fs) (paired (columns_of k)) e in
    texts_puts u (columns_of k) (filled_by l i fs (blank k)) ps p
    (texts_fill u l i (columns_of k) fs (blank k) h p (and_left (fills (columns_of k) fs) (paired (columns_of k)) e) (blank_texts u (columns_of k)))

-- ---- columns that a change spares

unfoldable pub spares_puts : ℕ → List Put → Bool
spares_puts c [] = true
spares_puts c (p ∷ ps) = not (eqb c p.column) && spares_puts c ps

unfoldable pub spares_fills : ℕ → List Filling → Bool
spares_fills c [] = true
spares_fills c (f ∷ fs) = (not (eqb c f.column) && not (eqb c (suc f.column))) && spares_fills c fs

pub num_set : (r : Row) (d c v : ℕ) → not (eqb c d) ≡ true → num (set r d v) c ≡ num r c
num_set r d c v e = get_or-set_other r d c v 0 (neq_of c d (not_of (eqb c d) e))

num_put : (cs : List Class) (p : Put) (r : Row) (c : ℕ) → not (eqb c p.column) ≡ true → num (put_one cs p r) c ≡ num r c
unfolding put_one
num_put cs p r c e = go (is_number (get_or cs p.column free)) refl
  where
    go : (b : Bool) → is_number (get_or cs p.column free) ≡ b → num (put_one cs p r) c ≡ num r c
    go true f = rw (f, put_one) (num_set r p.column c p.to e)
    go false f = rw (f, put_one)

num_puts : (cs : List Class) (ps : List Put) (r : Row) (c : ℕ) → spares_puts c ps ≡ true → num (put_all cs ps r) c ≡ num r c
unfolding put_all spares_puts
num_puts cs [] r c e = refl
num_puts cs (p ∷ ps) r c e =
    num_puts cs ps (put_one cs p r) c (and_right (not (eqb c p.column)) (spares_puts c ps) e)
    ∙ num_put cs p r c (and_left (not (eqb c p.column)) (spares_puts c ps) e)

num_fills : (l : Look) (i : ℕ) (fs : List Filling) (r : Row) (c : ℕ) → spares_fills c fs ≡ true → num (filled_by l i fs r) c ≡ num r c
unfolding filled_by spares_fills with_cell
num_fills l i [] r c e = refl
num_fills l i (f ∷ fs) r c e =
    let a = not (eqb c f.column) in
    let b = not (eqb c (suc f.column)) in
    let x : Cell = cell_of l i (cell_at r f.column) f.source in
    let ab : (a && b) ≡ true = and_left (a && b) (spares_fills c fs) e in
    num_fills l i fs (with_cell f.column x r) c (and_right (a && b) (spares_fills c fs) e)
    ∙ (num_set (set r f.column x.at) (suc f.column) c x.len (and_right a b ab) ∙ num_set r f.column c x.at (and_left a b ab))

unfoldable pub spares : ℕ → List Filling → List Put → Bool
unfolding spares_puts spares_fills
spares c fs ps = spares_fills c fs && spares_puts c ps

pub num_spared : (k : ℕ) (fs : List Filling) (ps : List Put) (l : Look) (r : Row) (c : ℕ) → spares c fs ps ≡ true → num (put_all (columns_of k) ps (filled_by l 0 fs r)) c ≡ num r c
unfolding spares
num_spared k fs ps l r c e =
    num_puts (columns_of k) ps (filled_by l 0 fs r) c (and_right (spares_fills c fs) (spares_puts c ps) e)
    ∙ num_fills l 0 fs r c (and_left (spares_fills c fs) (spares_puts c ps) e)

-- ---- numbers of transitions and regions

unfoldable pub Rises : ℕ → Table → Type 0
Rises low [] = Unit {0}
Rises low (r ∷ rs) = (low < num r 0) × Rises (num r 0) rs

pub record NumbersOk (T : List Table) : Type 0 where
  pub transitions : Rises 0 (get_or T 2 [])
  pub regions : Rises 0 (get_or T 3 [])
  pub apart : All (λ (r : Row). Absent (get_or T 3 []) (num r 0)) (get_or T 2 [])

pub rises_append : (low v : ℕ) (rs : Table) (r : Row) → Rises low rs → low < v → All (λ (x : Row). num x 0 < v) rs → num r 0 ≡ v → Rises low (rs ++ r ∷ [])
unfolding Rises
rises_append low v [] r h k a e = (omega arith, tt)
rises_append low v (x ∷ rs) r h k a e = (h.0, rises_append (num x 0) v rs r h.1 a.0 a.1 e)

pub rises_alter : (low i : ℕ) (f : Row → Row) (rs : Table) → ((r : Row) → num (f r) 0 ≡ num r 0) → Rises low rs → Rises low (alter_row i f rs)
unfolding Rises alter_row
rises_alter low zero f rs e h = h
rises_alter low (suc i) f [] e h = h
rises_alter low (suc zero) f (r ∷ rs) e h = (omega (arith, e r, h.0), rw (e r) h.1)
rises_alter low (suc (suc i)) f (r ∷ rs) e h = (h.0, rises_alter (num r 0) (suc i) f rs e h.1)

pub all_alter : (P : Row → Type 0) (i : ℕ) (f : Row → Row) (rs : Table) → All P rs → ((r : Row) → row_of rs i ≡ r → P r → P (f r)) → All P (alter_row i f rs)
unfolding alter_row row_of
all_alter P zero f rs a h = a
all_alter P (suc i) f [] a h = tt
all_alter P (suc zero) f (r ∷ rs) a h = (h r refl a.0, a.1)
all_alter P (suc (suc i)) f (r ∷ rs) a h = (a.0, all_alter P (suc i) f rs a.1 h)

pub below_absent : (v : ℕ) (rs : Table) → All (λ (x : Row). num x 0 < v) rs → Absent rs v
below_absent v [] a = tt
below_absent v (r ∷ rs) a = (λ e. omega (arith, a.0), below_absent v rs a.1)

-- ---- names

pub names_alter : (i : ℕ) (f : Row → Row) (rs : Table) → ((r : Row) → cell_at (f r) 0 ≡ cell_at r 0) → name_cells (alter_row i f rs) ≡ name_cells rs
unfolding alter_row name_cells
names_alter zero f rs e = refl
names_alter (suc i) f [] e = refl
names_alter (suc zero) f (r ∷ rs) e = ap (λ (c : Cell). c ∷ name_cells rs) (e r)
names_alter (suc (suc i)) f (r ∷ rs) e = ap (λ (cs : List Cell). cell_at r 0 ∷ cs) (names_alter (suc i) f rs e)
