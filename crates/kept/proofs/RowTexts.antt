-- Texts filled into a row, and a row's numbers under them.
use Prim.Native.Nat.{ℕ, suc, ◌+◌, ◌≤◌}
use mathlib.Core.Path.{◌≡◌, refl}
use mathlib.Core.Bool.{Bool, true, false, ◌&&◌}
use mathlib.Core.Option.{Option, none, some}
use mathlib.Core.List.{List, [], ◌∷◌}
use lib.ListN.{get_or, set}
use lib.Dec.{eqb}
use native.Mathlib.Omega.{arith}
use Rattle.definition.specs.Elements.{key}
use Rattle.definition.specs.Rows.{Row, Class, free, own, doc_id, above, mark, len, code, row, existing, text, by, Cell, no_cell, cell_at, with_cell}
use Rattle.definition.specs.Shapes.{Source, absent, trimmed, content, quoted, value, filled, given, word, Filling}
use Rattle.definition.specs.Look.{Field, Look}
use Rattle.definition.specs.Change.{filled_by, cell_of, field_in, field_cell, if_filled, if_given, trimmed_cell, field_words}
use Rattle.definition.specs.Rules.{is_inside, chosen}
use Rattle.kept.proofs.Base.{false_is_true, and_left, and_right, leb_of, All, All-get_or}
use Rattle.kept.proofs.Classes.{View, Fits, Nums, Texts}
use Rattle.kept.proofs.RowCells.{CellIn, texts_cell, texts_old}
use Rattle.kept.proofs.RowChange.{steady, nums_set, is_texty, is_len, paired}

-- ---- sources

pub record FieldIn (u : ℕ) (f : Field) : Type 0 where
  pub cell : CellIn u f.cell
  pub words : All (CellIn u) f.words

pub record LookIn (u : ℕ) (l : Look) : Type 0 where
  pub fields : All (FieldIn u) l.fields
  pub base : l.base ≤ u

abbrev OptionIn : ℕ → Option Field → Type 0
OptionIn u none = Unit {0}
OptionIn u (some f) = FieldIn u f

field_in_lem : (u : ℕ) (fs : List Field) (k : ℕ) → All (FieldIn u) fs → OptionIn u (field_in fs k)
unfolding field_in
field_in_lem u [] k a = tt
field_in_lem u (f ∷ fs) k a = go (eqb f.key k) refl (field_in_lem u fs k a.1)
  where
    go : (b : Bool) → eqb f.key k ≡ b → OptionIn u (field_in fs k) → OptionIn u (field_in (f ∷ fs) k)
    go true e ih = rw (e, field_in) a.0
    go false e ih = rw (e, field_in) ih

no_cell_lem : (u : ℕ) → CellIn u no_cell
unfolding no_cell is_inside
no_cell_lem u = refl

field_cell_lem : (u : ℕ) (o : Option Field) → OptionIn u o → CellIn u (field_cell o)
unfolding field_cell
field_cell_lem u none h = no_cell_lem u
field_cell_lem u (some f) h = h.cell

if_filled_lem : (u : ℕ) (c : Cell) → CellIn u c → CellIn u (if_filled c)
unfolding if_filled
if_filled_lem u c h = go (eqb c.len 0) refl
  where
    go : (b : Bool) → eqb c.len 0 ≡ b → CellIn u (if_filled c)
    go true e = rw (e, if_filled) (no_cell_lem u)
    go false e = rw (e, if_filled) h

if_given_lem : (u : ℕ) (old : Cell) (o : Option Field) → CellIn u old → OptionIn u o → CellIn u (if_given old o)
unfolding if_given
if_given_lem u old none h a = h
if_given_lem u old (some f) h a = a.cell

trimmed_cell_lem : (u : ℕ) (d : Cell) (o : Option Field) → CellIn u d → OptionIn u o → CellIn u (trimmed_cell d o)
unfolding trimmed_cell
trimmed_cell_lem u d none h a = h
trimmed_cell_lem u d (some f) h a = All-get_or (CellIn u) no_cell (no_cell_lem u) f.words a.words 0

word_cell : (u : ℕ) (i : ℕ) (o : Option Field) → OptionIn u o → CellIn u (get_or (field_words o) i no_cell)
unfolding field_words
word_cell u i none a = no_cell_lem u
word_cell u i (some f) a = All-get_or (CellIn u) no_cell (no_cell_lem u) f.words a.words i

content_cell : (u b : ℕ) → b ≤ u → CellIn u (record { at = suc b; len = 0 })
unfolding is_inside
content_cell u b h = leb_of (b + 0) u (omega arith)

pub cell_in : (u : ℕ) (l : Look) (i : ℕ) (old : Cell) (s : Source) → LookIn u l → CellIn u old → CellIn u (cell_of l i old s)
unfolding cell_of
cell_in u l i old absent h a = no_cell_lem u
cell_in u l i old trimmed h a = trimmed_cell_lem u no_cell (field_in l.fields key.text) (no_cell_lem u) (field_in_lem u l.fields key.text h.fields)
cell_in u l i old content h a =
    trimmed_cell_lem u (record { at = suc l.base; len = 0 }) (field_in l.fields key.text) (content_cell u l.base h.base) (field_in_lem u l.fields key.text h.fields)
cell_in u l i old quoted h a = field_cell_lem u (field_in l.fields key.quoted) (field_in_lem u l.fields key.quoted h.fields)
cell_in u l i old (value k) h a = field_cell_lem u (field_in l.fields k) (field_in_lem u l.fields k h.fields)
cell_in u l i old (filled k) h a = if_filled_lem u (field_cell (field_in l.fields k)) (field_cell_lem u (field_in l.fields k) (field_in_lem u l.fields k h.fields))
cell_in u l i old (given k) h a = if_given_lem u old (field_in l.fields k) a (field_in_lem u l.fields k h.fields)
cell_in u l i old (word k) h a = word_cell u i (field_in l.fields k) (field_in_lem u l.fields k h.fields)

-- ---- fillings

unfoldable pub fills : List Class → List Filling → Bool
unfolding is_texty is_len steady
fills cs [] = true
fills cs (f ∷ fs) =
    (is_texty (get_or cs f.column free) && is_len (get_or cs (suc f.column) free)) && ((steady f.column cs && steady (suc f.column) cs) && fills cs fs)

pub texts_fill : (u : ℕ) (l : Look) (i : ℕ) (cs : List Class) (fs : List Filling) (r : Row) → LookIn u l → paired cs ≡ true → fills cs fs ≡ true → Texts u cs r → Texts u cs (filled_by l i fs r)
unfolding fills filled_by with_cell
texts_fill u l i cs [] r h p e t = t
texts_fill u l i cs (f ∷ fs) r h p e t =
    let a = is_texty (get_or cs f.column free) in
    let b = is_len (get_or cs (suc f.column) free) in
    let s = steady f.column cs && steady (suc f.column) cs in
    let e₁ : a ≡ true = and_left a b (and_left (a && b) (s && fills cs fs) e) in
    let x : Cell = cell_of l i (cell_at r f.column) f.source in
    texts_fill u l i cs fs (with_cell f.column x r) h p (and_right s (fills cs fs) (and_right (a && b) (s && fills cs fs) e))
    (texts_cell u cs r f.column x.at x.len p e₁ (cell_in u l i (cell_at r f.column) f.source h (texts_old u cs r f.column e₁ t)) t)

fits_texty : (W : View) (r : Row) (x : Class) (v : ℕ) → is_texty x ≡ true → Fits W r (chosen r x) v
unfolding Fits is_texty chosen
fits_texty W r (text q) v e = tt
fits_texty W r len v e = false_is_true e
fits_texty W r free v e = false_is_true e
fits_texty W r own v e = false_is_true e
fits_texty W r doc_id v e = false_is_true e
fits_texty W r above v e = false_is_true e
fits_texty W r mark v e = false_is_true e
fits_texty W r (code a b) v e = false_is_true e
fits_texty W r (row t) v e = false_is_true e
fits_texty W r (existing t) v e = false_is_true e
fits_texty W r (by c k) v e = false_is_true e

fits_len : (W : View) (r : Row) (x : Class) (v : ℕ) → is_len x ≡ true → Fits W r (chosen r x) v
unfolding Fits is_len chosen
fits_len W r len v e = tt
fits_len W r (text q) v e = false_is_true e
fits_len W r free v e = false_is_true e
fits_len W r own v e = false_is_true e
fits_len W r doc_id v e = false_is_true e
fits_len W r above v e = false_is_true e
fits_len W r mark v e = false_is_true e
fits_len W r (code a b) v e = false_is_true e
fits_len W r (row t) v e = false_is_true e
fits_len W r (existing t) v e = false_is_true e
fits_len W r (by c k) v e = false_is_true e

pub nums_fill : (W : View) (l : Look) (i : ℕ) (cs : List Class) (fs : List Filling) (r : Row) → fills cs fs ≡ true → Nums W r cs r → Nums W (filled_by l i fs r) cs (filled_by l i fs r)
unfolding fills filled_by with_cell
nums_fill W l i cs [] r e h = h
nums_fill W l i cs (f ∷ fs) r e h =
    let c = f.column in
    let a = is_texty (get_or cs c free) in
    let b = is_len (get_or cs (suc c) free) in
    let s = steady c cs in
    let s' = steady (suc c) cs in
    let e₀ : (a && b) ≡ true = and_left (a && b) ((s && s') && fills cs fs) e in
    let e₁ : ((s && s') && fills cs fs) ≡ true = and_right (a && b) ((s && s') && fills cs fs) e in
    let e₂ : (s && s') ≡ true = and_left (s && s') (fills cs fs) e₁ in
    let x : Cell = cell_of l i (cell_at r c) f.source in
    let r₁ : Row = set r c x.at in
    let h₁ : Nums W r₁ cs r₁ = nums_set W cs r c x.at (and_left s s' e₂) h (fits_texty W r₁ (get_or cs c free) x.at (and_left a b e₀)) in
    let r₂ : Row = set r₁ (suc c) x.len in
    let h₂ : Nums W r₂ cs r₂ = nums_set W cs r₁ (suc c) x.len (and_right s s' e₂) h₁ (fits_len W r₂ (get_or cs (suc c) free) x.len (and_right a b e₀)) in
    nums_fill W l i cs fs r₂ (and_right (s && s') (fills cs fs) e₁) h₂
