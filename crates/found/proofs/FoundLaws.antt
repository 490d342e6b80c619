-- Searches of rows.
use Prim.Native.Nat.{ℕ, zero, suc, ◌+◌, ◌-◌, ◌≤◌, ◌<◌}
use mathlib.Core.Path.{◌≡◌, refl, sym, ap, ◌∙◌}
use mathlib.Core.Bool.{Bool, true, false}
use mathlib.Core.List.{List, [], ◌∷◌}
use native.Mathlib.Omega.{arith}
use lib.ListN.{length, get_or, take, length-take}
use lib.Dec.{ltb}
use borrow.Author.Tests.{eq-eqb, ne_eqb, ltb-false}
use Rattle.std.proofs.Common.{Some, None, slice_get, position, cond, not}
use Rattle.std.specs.List.{position_or_len, prefix_len}
use Rattle.std.proofs.lemmas.List.Folds.{length-prefix_len}
use Rattle.words.proofs.Laws.{by}
use Rattle.definition.specs.Text.{same, bytes_at}
use Rattle.definition.specs.Rows.{Row, Table, text_at, cell_at, num}
use Rattle.definition.specs.Look.{find_datum, is_named, is_innermost, open_name}
use Rattle.plain.specs.Plain.{Parsed}
use Rattle.plain.specs.Keyed.{value_in}
use Rattle.found.specs.Found.{is_datum, found_in}

-- ---- one row

module _ (t : List ℕ) (r : Row) (s : ℕ) (w : List ℕ) where
  pub datum_here : num r 0 ≡ s → (b : Bool) → b ≡ same (text_at t (record { at = get_or r 1 0; len = get_or r 2 0 })) w → b ≡ is_datum t r s w
  unfolding is_datum cell_at
  datum_here e b h = h ∙ sym (rw (eq-eqb (num r 0) s e))

  pub datum_not : (num r 0 ≡ s → ⊥) → false ≡ is_datum t r s w
  unfolding is_datum
  datum_not e = rw (ne_eqb (num r 0) s e)

  module _ (rs : Table) where
    datum_hit : is_datum t r s w ≡ true → find_datum t (r ∷ rs) s w ≡ 1
    unfolding is_datum find_datum
    datum_hit e = rw (e, find_datum)

    datum_miss : is_datum t r s w ≡ false → find_datum t (r ∷ rs) s w ≡ suc (find_datum t rs s w)
    unfolding is_datum find_datum
    datum_miss e = rw (e, find_datum)

-- ---- all rows

module _ (t : List ℕ) (s : ℕ) (w : List ℕ) where
  abbrev this : Row → Bool
  this r = is_datum t r s w

  find_is : (rows : Table) → find_datum t rows s w ≡ suc (position_or_len this rows)
  unfolding find_datum
  find_is [] = refl
  find_is (r ∷ rows) = by (this r) (λ q. datum_hit t r s w rows q ∙ rw q) (λ q. datum_miss t r s w rows q ∙ rw q (ap suc (find_is rows) ∙ omega arith))

  pub datum_some : (rows : Table) (i : ℕ) → position this rows ≡ Some i → find_datum t rows s w ≡ i + 1
  datum_some rows i e = omega (arith, find_is rows, told (position_or_len this rows) (length rows) i e)
    where
      told : (n m j : ℕ) → cond (ltb n m) (Some n) None ≡ Some j → n ≡ j
      told n m j e = by (ltb n m) (λ f. let z : Some n ≡ Some j = rw f at e in cc) (λ f. let z : None ≡ Some j = rw f at e in cc)

  pub datum_none : (rows : Table) → position this rows ≡ None → find_datum t rows s w ≡ length rows + 1
  datum_none rows e = omega (arith, find_is rows, untold (position_or_len this rows) (length rows) e, length-prefix_len (λ (r : Row). not (this r)) rows, length-take (prefix_len (λ (r : Row). not (this r)) rows) rows)
    where
      untold : (n m : ℕ) → cond (ltb n m) (Some n) None ≡ None → m ≤ n
      untold n m e = by (ltb n m) (λ f. let z : Some n ≡ None = rw f at e in cc) (λ f. ltb-false n m f)

module _ (t : List ℕ) (rows : Table) (s : ℕ) (v : Parsed) where
  pub found_data : v.tag ≡ 9 → (w : List ℕ) → w ≡ value_in 1 v.values → (r : ℕ) → r ≡ find_datum t rows s w → r ≡ found_in t rows s v
  unfolding found_in
  found_data h w ew r er = er ∙ ap (find_datum t rows s) ew ∙ sym (rw (eq-eqb v.tag 9 h, found_in))

  pub found_other : (v.tag ≡ 9 → ⊥) → 0 ≡ found_in t rows s v
  unfolding found_in
  found_other h = rw (ne_eqb v.tag 9 h, found_in)

-- ---- the innermost

pub got : (rows : Table) (i : ℕ) (r : Row) → i < length rows → r ≡ get_or rows i [] → slice_get rows i ≡ Some r
got [] i r h e = absurd (omega arith)
got (x ∷ rows) zero r h e = ap Some (sym e)
got (x ∷ rows) (suc i) r h e = got rows i r (omega arith) e

pub lacking : (rows : Table) (i : ℕ) → length rows ≤ i → slice_get rows i ≡ None
lacking [] i h = refl
lacking (x ∷ rows) zero h = absurd (omega arith)
lacking (x ∷ rows) (suc i) h = lacking rows i (omega arith)

pub inner_none : (xs ns : Table) (g : ℕ) (w : List ℕ) → slice_get xs (length xs - 1) ≡ None → false ≡ is_innermost xs ns g w
unfolding is_innermost
inner_none [] ns g w e = refl
inner_none (x ∷ []) ns g w e = cc
inner_none (x ∷ y ∷ xs) [] g w e = refl
inner_none (x ∷ y ∷ xs) (n ∷ ns) g w e = let z : suc (suc (length xs)) - 1 ≡ suc (suc (length xs) - 1) = omega arith in inner_none (y ∷ xs) ns g w (rw z at e)

pub inner_short : (xs ns : Table) (g : ℕ) (w : List ℕ) → slice_get ns (length xs - 1) ≡ None → false ≡ is_innermost xs ns g w
unfolding is_innermost
inner_short [] ns g w e = refl
inner_short (x ∷ xs) [] g w e = refl
inner_short (x ∷ []) (n ∷ ns) g w e = cc
inner_short (x ∷ y ∷ xs) (n ∷ ns) g w e = let z : suc (suc (length xs)) - 1 ≡ suc (suc (length xs) - 1) = omega arith in inner_short (y ∷ xs) ns g w (rw z at e)

last_named : (xs ns : Table) (x n : Row) (g : ℕ) (w : List ℕ) → slice_get xs (length xs - 1) ≡ Some x → slice_get ns (length xs - 1) ≡ Some n → is_innermost xs ns g w ≡ is_named x n g w
unfolding is_innermost
last_named [] ns x n g w e f = cc
last_named (y ∷ xs) [] x n g w e f = cc
last_named (y ∷ []) (m ∷ ns) x n g w e f =
    let a : y ≡ x = cc in
    let b : m ≡ n = cc in
    rw (a, b)
last_named (y ∷ z ∷ xs) (m ∷ ns) x n g w e f =
    let k : suc (suc (length xs)) - 1 ≡ suc (suc (length xs) - 1) = omega arith in
    last_named (z ∷ xs) ns x n g w (rw k at e) (rw k at f)

module _ (xs ns : Table) (w : List ℕ) (x n : Row) (ex : slice_get xs (length xs - 1) ≡ Some x) (en : slice_get ns (length xs - 1) ≡ Some n) where
  named : (g : ℕ) → is_innermost xs ns g w ≡ is_named x n g w
  named g = last_named xs ns x n g w ex en

  pub inner_other : (g : ℕ) → (num x 0 ≡ g → ⊥) → false ≡ is_innermost xs ns g w
  inner_other g f = sym (named g ∙ go g f)
    where
      go : (g : ℕ) → (num x 0 ≡ g → ⊥) → is_named x n g w ≡ false
      go zero f = unfold is_named in rw (ne_eqb (num x 0) 0 f)
      go (suc g) f = unfold is_named in ne_eqb (num x 0) (suc g) f

  pub inner_tag : (g : ℕ) → num x 0 ≡ g → (g ≡ 0 → ⊥) → true ≡ is_innermost xs ns g w
  inner_tag g e f = sym (named g ∙ go g e f)
    where
      go : (g : ℕ) → num x 0 ≡ g → (g ≡ 0 → ⊥) → is_named x n g w ≡ true
      go zero e f = absurd (f refl)
      go (suc g) e f = unfold is_named in eq-eqb (num x 0) (suc g) e

  pub inner_name : (g : ℕ) → num x 0 ≡ g → g ≡ 0 → (b : Bool) → b ≡ same (bytes_at n (record { off = 0; len = num x 3 })) w → b ≡ is_innermost xs ns g w
  unfolding is_named open_name bytes_at
  inner_name g e f b eb =
      let z : is_named x n 0 w ≡ same (take (num x 3) n) w = rw (eq-eqb (num x 0) 0 (e ∙ f)) in
      eb ∙ sym (named g ∙ ap (λ (m : ℕ). is_named x n m w) f ∙ z)
