-- A row whose sources fit their columns is related in both stores, whatever shapes, places and numbers a handler asks for.
use Prim.Native.Nat.{ℕ, zero, suc, ◌≤◌, ◌<◌}
use mathlib.Core.Path.{◌≡◌, refl, sym, ap, ◌∙◌, subst, subst₂}
use mathlib.Core.Bool.{Bool, true, false}
use mathlib.Core.Option.{Option, none, some}
use mathlib.Core.List.{List, [], ◌∷◌}
use lib.ListN.{length, get_or, set, replicate, length-set, length-replicate}
use lib.Dec.{eqb}
use borrow.Author.Tests.{eqb-true, eq-eqb}
use native.Mathlib.Omega.{arith}
use Rattle.definition.specs.Text.{bytes_at}
use Rattle.definition.specs.Elements.{key, Role, plain, role_of}
use Rattle.definition.specs.Rows.{Row, Table, Class, free, text_role, columns_of, num, blank, Cell, no_cell, cell_at, with_cell, text_from, text_at, role_at}
use Rattle.definition.specs.Shapes.{Source, absent, trimmed, content, quoted, value, filled, given, word, Filling, Shape, shape_at, shapes_in, Shaped, shapes_by_element, no_shape, source_fits, filling_fits, texts_fit, shapes_fit, all_fit, same_role}
use Rattle.definition.specs.Look.{Field, Look}
use Rattle.definition.specs.Change.{Put, Which, numbers, shape, Edit, add, alter, field_in, field_cell, if_filled, if_given, trimmed_cell, field_words, cell_of, filled_by, is_number, put_one, put_all, shape_of, alter_row, on_table, edited, edited_by}
use Rattle.definition.proofs.Base.{and_left, and_right, true_is_false, some_inj, role_eq, All, All-append, All-get_or, get_d_set}
use Rattle.definition.proofs.Roles.{quoted_plain}
use Rattle.definition.proofs.SchemaFits.{sources_fit}
use Rattle.renaming.proofs.Words.{Total}
use Rattle.renaming.proofs.Names.{Held, held_none}
use Rattle.renaming.proofs.Fields.{FieldHeld}
use Rattle.definition.proofs.Tables.{sort, sort_number, text_at_lem, len_at, apart, cell_other, cell_here}

-- ---- what the computed test says of each element, shape and filling

shapes_fit_lem : (g : ℕ) (hs : List Shape) → shapes_fit g hs ≡ true → (i : ℕ) → texts_fit g (columns_of (get_or hs i no_shape).into) (get_or hs i no_shape).texts ≡ true
unfolding shapes_fit no_shape texts_fit
shapes_fit_lem g [] h i = refl
shapes_fit_lem g (s ∷ hs) h zero = and_left (texts_fit g (columns_of s.into) s.texts) (shapes_fit g hs) h
shapes_fit_lem g (s ∷ hs) h (suc i) = shapes_fit_lem g hs (and_right (texts_fit g (columns_of s.into) s.texts) (shapes_fit g hs) h) i

element_fits : (ss : List Shaped) → all_fit ss ≡ true → (g : ℕ) → shapes_fit g (shapes_in ss g) ≡ true
unfolding all_fit shapes_in shapes_fit
element_fits [] h g = refl
element_fits (s ∷ ss) h g = go (eqb s.element g) refl (element_fits ss (and_right (shapes_fit s.element s.shapes) (all_fit ss) h) g)
  where
    go : (c : Bool) → eqb s.element g ≡ c → shapes_fit g (shapes_in ss g) ≡ true → shapes_fit g (shapes_in (s ∷ ss) g) ≡ true
    go true e ih =
        rw (e, shapes_in)
        (subst (λ (x : ℕ). shapes_fit x s.shapes ≡ true) (eqb-true s.element g e) (and_left (shapes_fit s.element s.shapes) (all_fit ss) h))
    go false e ih = rw (e, shapes_in) ih

shape_fits_lem : (g : ℕ) (w : Which) → texts_fit g (columns_of (shape_of g w).into) (shape_of g w).texts ≡ true
unfolding shape_of shape_at texts_fit
shape_fits_lem g (numbers t) = refl
shape_fits_lem g (shape i) = shapes_fit_lem g (shapes_in shapes_by_element g) (element_fits shapes_by_element sources_fit g) i

-- A filling's column is a text's, and its source has that text's role.
filling_role : (g : ℕ) (c : Class) (s : Source) → filling_fits g c s ≡ true → (q : Role) × (text_role c ≡ some q) × (source_fits g q s ≡ true)
unfolding filling_fits text_role
filling_role g c s e = go (text_role c) refl
  where
    go : (o : Option Role) → text_role c ≡ o → (q : Role) × (text_role c ≡ some q) × (source_fits g q s ≡ true)
    go (some q) f = (q, f, rw (f, filling_fits) at e)
    go none f = true_is_false (sym (rw (f, filling_fits) at e))

role_at_lem : (k c : ℕ) (q : Role) → text_role (get_or (columns_of k) c free) ≡ some q → role_at k c ≡ some q
unfolding role_at
role_at_lem k c q e = e

-- ---- a row of zeros

pub zero_num : (n c : ℕ) → num (replicate n 0) c ≡ 0
zero_num zero c = refl
zero_num (suc n) zero = refl
zero_num (suc n) (suc c) = zero_num n c

pub zero_cell : (n c : ℕ) → cell_at (replicate n 0) c ≡ no_cell
unfolding cell_at no_cell
zero_cell n c = λ i. record { at = zero_num n c i; len = zero_num n (suc c) i }

-- A class other than the default stands inside the list.
in_range : (cs : List Class) (c : ℕ) (m : ℕ) → sort (get_or cs c free) ≡ suc m → c < length cs
unfolding sort
in_range [] c m e = absurd (omega arith)
in_range (x ∷ cs) zero m e = omega arith
in_range (x ∷ cs) (suc c) m e = omega (arith, in_range cs c m e)

pub blank_length : (k : ℕ) → length (blank k) ≡ length (columns_of k)
unfolding blank
blank_length k = length-replicate (length (columns_of k)) 0

module _ (ρ : List ℕ → List ℕ) (R : Total ρ) (t u : List ℕ) (size : length u ≡ length t) where
  -- Every text column of a row is there and holds related texts.
  abbrev pub RowOk : ℕ → Row → Type 0
  RowOk k r = (c : ℕ) (q : Role) → role_at k c ≡ some q → (suc c < length r) × Held ρ R t u q (cell_at r c)

  abbrev pub TablesOk : List Table → Type 0
  TablesOk ts = (k : ℕ) → All (RowOk k) (get_or ts k [])

  as_role : (r q : Role) (c : Cell) → r ≡ q → Held ρ R t u q c → Held ρ R t u r c
  as_role r q c h k = subst (λ (p : Role). Held ρ R t u p c) (sym h) k

  pub blank_ok : (k : ℕ) → RowOk k (blank k)
  unfolding blank
  blank_ok k c q e = (
    subst (λ (n : ℕ). suc c < n) (sym (blank_length k)) (in_range (columns_of k) (suc c) 1 (len_at k c q e)),
    subst (Held ρ R t u q) (sym (zero_cell (length (columns_of k)) c)) (held_none ρ R t u q),
  )

  -- ---- numbers

  put_one_lem : (k : ℕ) (p : Put) (r : Row) → RowOk k r → RowOk k (put_one (columns_of k) p r)
  unfolding put_one
  put_one_lem k p r h = go (is_number (get_or (columns_of k) p.column free)) refl
    where
      go : (b : Bool) → is_number (get_or (columns_of k) p.column free) ≡ b → RowOk k (put_one (columns_of k) p r)
      go true e =
          rw (e, put_one) (λ c q f.
          let z : sort (get_or (columns_of k) p.column free) ≡ 0 = sort_number (get_or (columns_of k) p.column free) e in (
            rw (length-set r p.column p.to) (h c q f).0,
            subst (Held ρ R t u q)
                (sym (cell_other r p.column c p.to
                (apart (columns_of k) p.column c 0 1 z (text_at_lem k c q f) (λ x. omega arith))
                (apart (columns_of k) p.column (suc c) 0 2 z (len_at k c q f) (λ x. omega arith))))
                (h c q f).1,
          ))
      go false e = rw (e, put_one) h

  put_all_lem : (k : ℕ) (ps : List Put) (r : Row) → RowOk k r → RowOk k (put_all (columns_of k) ps r)
  unfolding put_all
  put_all_lem k [] r h = h
  put_all_lem k (p ∷ ps) r h = put_all_lem k ps (put_one (columns_of k) p r) (put_one_lem k p r h)

  -- ---- texts

  pub with_cell_lem : (k j : ℕ) (p : Role) → role_at k j ≡ some p → (x : Cell) → Held ρ R t u p x → (r : Row) → RowOk k r → RowOk k (with_cell j x r)
  unfolding with_cell
  with_cell_lem k j p e x hx r h c q f =
      let room : suc c < length (with_cell j x r) = rw (length-set (set r j x.at) (suc j) x.len, length-set r j x.at) (h c q f).0 in
      (room, go (eqb c j) refl)
    where
      here : c ≡ j → Held ρ R t u q (cell_at (with_cell j x r) c)
      here s =
          let qp : q ≡ p = some_inj plain q p (sym f ∙ ap (role_at k) s ∙ e) in
          subst₂ (Held ρ R t u) (sym qp) (sym (cell_here r j x (h j p e).0) ∙ ap (cell_at (with_cell j x r)) (sym s)) hx

      there : (c ≡ j → ⊥) → Held ρ R t u q (cell_at (with_cell j x r) c)
      there n =
          subst (Held ρ R t u q)
          (sym (cell_other (set r j x.at) (suc j) c x.len
          (apart (columns_of k) (suc j) c 2 1 (len_at k j p e) (text_at_lem k c q f) (λ z. omega arith))
          (λ s. n (omega arith))
          ∙ cell_other r j c x.at (λ s. n (sym s))
          (apart (columns_of k) j (suc c) 1 2 (text_at_lem k j p e) (len_at k c q f) (λ z. omega arith))))
          (h c q f).1

      go : (b : Bool) → eqb c j ≡ b → Held ρ R t u q (cell_at (with_cell j x r) c)
      go true s = here (eqb-true c j s)
      go false s = there (λ z. true_is_false (sym (eq-eqb c j z) ∙ s))

  -- ---- sources

  module _ (g : ℕ) (l : Look) (a : All (FieldHeld ρ R t u size g) l.fields) (b : l.base ≤ length t) where
    -- A field that is found has the key asked for, and its places hold its texts.
    abbrev Found : ℕ → Option Field → Type 0
    Found k none = Unit {0}
    Found k (some f) = (f.key ≡ k) × FieldHeld ρ R t u size g f

    found_in_lem : (fs : List Field) → All (FieldHeld ρ R t u size g) fs → (k : ℕ) → Found k (field_in fs k)
    unfolding field_in
    found_in_lem [] h k = tt
    found_in_lem (f ∷ fs) h k = go (eqb f.key k) refl (found_in_lem fs h.1 k)
      where
        go : (c : Bool) → eqb f.key k ≡ c → Found k (field_in fs k) → Found k (field_in (f ∷ fs) k)
        go true e ih = rw (e, field_in) (eqb-true f.key k e, h.0)
        go false e ih = rw (e, field_in) ih

    found : (k : ℕ) → Found k (field_in l.fields k)
    found k = found_in_lem l.fields a k

    of_key : (k : ℕ) (f : Field) → f.key ≡ k → FieldHeld ρ R t u size g f → Held ρ R t u (role_of g k) f.cell
    of_key k f e h = subst (λ (j : ℕ). Held ρ R t u (role_of g j) f.cell) e h.cell

    field_cell_lem : (k : ℕ) (o : Option Field) → Found k o → Held ρ R t u (role_of g k) (field_cell o)
    unfolding field_cell
    field_cell_lem k none h = held_none ρ R t u (role_of g k)
    field_cell_lem k (some f) h = of_key k f h.0 h.1

    given_cell : (k : ℕ) (old : Cell) (o : Option Field) → Found k o → Held ρ R t u (role_of g k) old → Held ρ R t u (role_of g k) (if_given old o)
    unfolding if_given
    given_cell k old none h d = d
    given_cell k old (some f) h d = of_key k f h.0 h.1

    filled_cell : (q : Role) (c : Cell) → Held ρ R t u q c → Held ρ R t u q (if_filled c)
    unfolding if_filled
    filled_cell q c h = go (eqb c.len 0) refl
      where
        go : (x : Bool) → eqb c.len 0 ≡ x → Held ρ R t u q (if_filled c)
        go true e = rw (e, if_filled) (held_none ρ R t u q)
        go false e = rw (e, if_filled) h

    trimmed_cell_lem : (k : ℕ) (d : Cell) (o : Option Field) → Found k o → Held ρ R t u plain d → Held ρ R t u plain (trimmed_cell d o)
    unfolding trimmed_cell
    trimmed_cell_lem k d none h e = e
    trimmed_cell_lem k d (some f) h e = All-get_or (Held ρ R t u plain) no_cell (held_none ρ R t u plain) f.words h.1.words 0

    word_cell : (k i : ℕ) (o : Option Field) → Found k o → Held ρ R t u plain (get_or (field_words o) i no_cell)
    unfolding field_words
    word_cell k i none h = held_none ρ R t u plain
    word_cell k i (some f) h = All-get_or (Held ρ R t u plain) no_cell (held_none ρ R t u plain) f.words h.1.words i

    -- A present text of no bytes.
    empty_cell : Held ρ R t u plain (record { at = suc l.base; len = 0 })
    unfolding text_at text_from bytes_at
    empty_cell = record { inside = omega arith; moved = refl }

    -- A SOURCE THAT FITS GIVES A CELL OF THE COLUMN'S ROLE
    cell_of_lem : (i : ℕ) (q : Role) (old : Cell) (s : Source) → source_fits g q s ≡ true → Held ρ R t u q old → Held ρ R t u q (cell_of l i old s)
    unfolding source_fits cell_of
    cell_of_lem i q old absent e h = held_none ρ R t u q
    cell_of_lem i q old trimmed e h = as_role q plain _ (role_eq q plain e) (trimmed_cell_lem key.text no_cell (field_in l.fields key.text) (found key.text) (held_none ρ R t u plain))
    cell_of_lem i q old content e h = as_role q plain _ (role_eq q plain e) (trimmed_cell_lem key.text _ (field_in l.fields key.text) (found key.text) empty_cell)
    cell_of_lem i q old quoted e h =
        as_role q (role_of g key.quoted) _ (role_eq q plain e ∙ sym (quoted_plain g)) (field_cell_lem key.quoted (field_in l.fields key.quoted) (found key.quoted))
    cell_of_lem i q old (value k) e h = as_role q (role_of g k) _ (role_eq q (role_of g k) e) (field_cell_lem k (field_in l.fields k) (found k))
    cell_of_lem i q old (filled k) e h =
        as_role q (role_of g k) _ (role_eq q (role_of g k) e) (filled_cell (role_of g k) (field_cell (field_in l.fields k)) (field_cell_lem k (field_in l.fields k) (found k)))
    cell_of_lem i q old (given k) e h =
        let z : q ≡ role_of g k = role_eq q (role_of g k) e in
        as_role q (role_of g k) _ z (given_cell k old (field_in l.fields k) (found k) (as_role (role_of g k) q old (sym z) h))
    cell_of_lem i q old (word k) e h =
        as_role q plain _ (role_eq q plain (and_left (same_role q plain) (same_role q (role_of g k)) e)) (word_cell k i (field_in l.fields k) (found k))

    filled_by_lem : (k i : ℕ) (fs : List Filling) → texts_fit g (columns_of k) fs ≡ true → (r : Row) → RowOk k r → RowOk k (filled_by l i fs r)
    unfolding filled_by texts_fit
    filled_by_lem k i [] e r h = h
    filled_by_lem k i (f ∷ fs) e r h =
        let c : Class = get_or (columns_of k) f.column free in
        let z : (q : Role) × (text_role c ≡ some q) × (source_fits g q f.source ≡ true) =
        filling_role g c f.source (and_left (filling_fits g c f.source) (texts_fit g (columns_of k) fs) e) in
        let ra : role_at k f.column ≡ some z.0 = role_at_lem k f.column z.0 z.1 in
        let x : Cell = cell_of l i (cell_at r f.column) f.source in
        filled_by_lem k i fs (and_right (filling_fits g c f.source) (texts_fit g (columns_of k) fs) e) (with_cell f.column x r)
        (with_cell_lem k f.column z.0 ra x (cell_of_lem i z.0 (cell_at r f.column) f.source z.2 (h f.column z.0 ra).1) r h)

    -- ---- edits to tables

    alter_ok : (k n : ℕ) (f : Row → Row) → ((r : Row) → RowOk k r → RowOk k (f r)) → (rs : Table) → All (RowOk k) rs → All (RowOk k) (alter_row n f rs)
    unfolding alter_row
    alter_ok k zero f F rs h = h
    alter_ok k (suc n) f F [] h = tt
    alter_ok k (suc zero) f F (r ∷ rs) h = (F r h.0, h.1)
    alter_ok k (suc (suc n)) f F (r ∷ rs) h = (h.0, alter_ok k (suc n) f F rs h.1)

    edited_ok : (e : Edit) → l.tag ≡ g → (ts : List Table) → TablesOk ts → TablesOk (edited l e ts)
    unfolding edited on_table
    edited_ok (add w i ps) s ts h =
        let k : ℕ = (shape_of l.tag w).into in
        let fs : List Filling = (shape_of l.tag w).texts in
        let fit : texts_fit g (columns_of k) fs ≡ true = subst (λ (x : ℕ). texts_fit x (columns_of k) fs ≡ true) s (shape_fits_lem l.tag w) in
        get_d_set (λ j rs. All (RowOk j) rs) ts [] k _ h
        (All-append (RowOk k) (get_or ts k []) _ (h k) (put_all_lem k ps (filled_by l i fs (blank k)) (filled_by_lem k i fs fit (blank k) (blank_ok k)), tt))
    edited_ok (alter w n ps) s ts h =
        let k : ℕ = (shape_of l.tag w).into in
        let fs : List Filling = (shape_of l.tag w).texts in
        let fit : texts_fit g (columns_of k) fs ≡ true = subst (λ (x : ℕ). texts_fit x (columns_of k) fs ≡ true) s (shape_fits_lem l.tag w) in
        get_d_set (λ j rs. All (RowOk j) rs) ts [] k _ h
        (alter_ok k n _ (λ r f. put_all_lem k ps (filled_by l 0 fs r) (filled_by_lem k 0 fs fit r f)) (get_or ts k []) (h k))

    -- NEW ROWS ARE RELATED, whatever a handler asks for
    pub edits_ok : (es : List Edit) → l.tag ≡ g → (ts : List Table) → TablesOk ts → TablesOk (edited_by l es ts)
    unfolding edited_by
    edits_ok [] s ts h = h
    edits_ok (e ∷ es) s ts h = edits_ok es s (edited l e ts) (edited_ok e s ts h)
