-- What every safe edit keeps of the tables: guarded columns, lengths, the open elements.
use Prim.Native.Nat.{ℕ, zero, suc}
use mathlib.Core.Path.{◌≡◌, refl, sym, ◌∙◌, subst}
use mathlib.Core.Bool.{Bool, true, false, ◌&&◌, ◌||◌, not, false≢true}
use mathlib.Core.List.{List, [], ◌∷◌, ◌++◌}
use lib.ListN.{length, get_or, set, length-set}
use lib.Dec.{eqb, ltb}
use native.Mathlib.Omega.{arith}
use Rattle.definition.specs.Elements.{among}
use Rattle.definition.specs.Rows.{Row, Table, Class, num, blank, columns_of, cell_at, with_cell, free}
use Rattle.definition.specs.Shapes.{Filling, Shape, Shaped, shape_at, shapes_in, shapes_by_element, no_shape}
use Rattle.definition.specs.Look.{Look}
use Rattle.definition.specs.Change.{Put, Edit, add, alter, cell_of, filled_by, put_one, put_all, is_number, shape_of, alter_row, on_table, edited, edited_by}
use Rattle.definition.proofs.Changes.{cell_length}
use Rattle.definition.proofs.Base.{and_both}
use Rattle.reached.proofs.Tables.{set_view, and_left, and_right, among_not}

-- ---- safe edits

-- The columns that no edit may clear, by table; those of entries and invokes no edit may change at all.
unfoldable pub guarded : ℕ → List ℕ
guarded t = get_or ((0 ∷ []) ∷ (8 ∷ []) ∷ [] ∷ [] ∷ (0 ∷ 1 ∷ []) ∷ (0 ∷ []) ∷ []) t []

unfoldable pub some? : ℕ → Bool
some? zero = false
some? (suc n) = true

unfoldable pub safe_put : ℕ → Put → Bool
unfolding among guarded some?
safe_put t p = not (among p.column (guarded t)) || (ltb t 2 && some? p.to)

unfoldable pub safe_puts : ℕ → List Put → Bool
unfolding safe_put
safe_puts t [] = true
safe_puts t (p ∷ ps) = safe_put t p && safe_puts t ps

unfoldable pub safe_texts : ℕ → List Filling → Bool
unfolding among guarded
safe_texts t [] = true
safe_texts t (f ∷ fs) = not (among f.column (guarded t)) && not (among (suc f.column) (guarded t)) && safe_texts t fs

unfoldable pub safe_shape : Shape → Bool
unfolding safe_texts among
safe_shape h = not (among h.into (9 ∷ 10 ∷ 11 ∷ [])) && safe_texts h.into h.texts

unfoldable pub safe_edit : ℕ → Edit → Bool
unfolding safe_shape safe_puts shape_of
safe_edit g (add w i ps) = safe_shape (shape_of g w)
safe_edit g (alter w i ps) = safe_shape (shape_of g w) && safe_puts (shape_of g w).into ps

unfoldable pub safe_edits : ℕ → List Edit → Bool
unfolding safe_edit
safe_edits g [] = true
safe_edits g (e ∷ es) = safe_edit g e && safe_edits g es

-- ---- every shape is safe

safe_shapes : List Shape → Bool
unfolding safe_shape
safe_shapes [] = true
safe_shapes (h ∷ hs) = safe_shape h && safe_shapes hs

all_safe : List Shaped → Bool
unfolding safe_shapes
all_safe [] = true
all_safe (s ∷ ss) = safe_shapes s.shapes && all_safe ss

all_safe_lem : all_safe shapes_by_element ≡ true
unfolding all_safe safe_shapes safe_shape shapes_by_element
all_safe_lem = refl

safe_at : (hs : List Shape) (i : ℕ) → safe_shapes hs ≡ true → safe_shape (get_or hs i no_shape) ≡ true
unfolding safe_shapes safe_shape no_shape
safe_at [] i e = refl
safe_at (h ∷ hs) zero e = and_left (safe_shape h) (safe_shapes hs) e
safe_at (h ∷ hs) (suc i) e = safe_at hs i (and_right (safe_shape h) (safe_shapes hs) e)

safe_in : (ss : List Shaped) (g : ℕ) → all_safe ss ≡ true → safe_shapes (shapes_in ss g) ≡ true
unfolding all_safe safe_shapes shapes_in
safe_in [] g e = refl
safe_in (s ∷ ss) g e = go (eqb s.element g) (safe_in ss g (and_right (safe_shapes s.shapes) (all_safe ss) e))
  where
    go : (b : Bool) → safe_shapes (shapes_in ss g) ≡ true → safe_shapes (elim b [ true ↦ s.shapes | false ↦ shapes_in ss g ]) ≡ true
    go true ih = and_left (safe_shapes s.shapes) (all_safe ss) e
    go false ih = ih

pub shapes_safe : (g i : ℕ) → safe_shape (shape_at g i) ≡ true
unfolding shape_at
shapes_safe g i = safe_at (shapes_in shapes_by_element g) i (safe_in shapes_by_element g all_safe_lem)

-- ---- what an edit keeps of a row

pub record Kept (k : ℕ) (F : Row → Row) : Type 1 where
  pub long : (r : Row) → length (F r) ≡ length r
  pub held : (c : ℕ) → among c (guarded k) ≡ true → (Q : ℕ → Type 0) → ((x : ℕ) → ltb k 2 ≡ true → ¬ (x ≡ 0) → Q x) → (r : Row) → Q (num r c) → Q (num (F r) c)

pub put_length : (cs : List Class) (ps : List Put) (r : Row) → length (put_all cs ps r) ≡ length r
unfolding put_all put_one
put_length cs [] r = refl
put_length cs (p ∷ ps) r = put_length cs ps (put_one cs p r) ∙ go (is_number (get_or cs p.column free))
  where
    go : (b : Bool) → length {A = ℕ} (elim b [ true ↦ set r p.column p.to | false ↦ r ]) ≡ length r
    go true = length-set r p.column p.to
    go false = refl

pub fill_length : (l : Look) (i : ℕ) (fs : List Filling) (r : Row) → length (filled_by l i fs r) ≡ length r
unfolding filled_by
fill_length l i [] r = refl
fill_length l i (f ∷ fs) r =
    fill_length l i fs (with_cell f.column (cell_of l i (cell_at r f.column) f.source) r) ∙ cell_length f.column (cell_of l i (cell_at r f.column) f.source) r

or_right : (a b : Bool) → a ≡ false → a || b ≡ true → b ≡ true
or_right true b e f = absurd (false≢true (sym e))
or_right false b e f = f

some_not_zero : (x : ℕ) → some? x ≡ true → ¬ (x ≡ 0)
unfolding some?
some_not_zero zero e = absurd (false≢true e)
some_not_zero (suc x) e = omega arith

is_not : (b : Bool) → b ≡ true → not b ≡ false
is_not true e = refl
is_not false e = sym e

module _ (k c : ℕ) (m : among c (guarded k) ≡ true) (Q : ℕ → Type 0) (h : (x : ℕ) → ltb k 2 ≡ true → ¬ (x ≡ 0) → Q x) where
  put_one_lem : (p : Put) → safe_put k p ≡ true → p.column ≡ c → Q p.to
  unfolding safe_put
  put_one_lem p s e =
      let u : among p.column (guarded k) ≡ true = rw e m in
      let v : ltb k 2 && some? p.to ≡ true = or_right (not (among p.column (guarded k))) (ltb k 2 && some? p.to) (is_not (among p.column (guarded k)) u) s in
      h p.to (and_left (ltb k 2) (some? p.to) v) (some_not_zero p.to (and_right (ltb k 2) (some? p.to) v))

  put_held : (cs : List Class) (ps : List Put) → safe_puts k ps ≡ true → (r : Row) → Q (num r c) → Q (num (put_all cs ps r) c)
  unfolding put_all put_one safe_puts
  put_held cs [] s r q = q
  put_held cs (p ∷ ps) s r q = put_held cs ps (and_right (safe_put k p) (safe_puts k ps) s) (put_one cs p r) (go (is_number (get_or cs p.column free)))
    where
      go : (b : Bool) → Q (num (elim b [ true ↦ set r p.column p.to | false ↦ r ]) c)
      go true = set_view Q r p.column c p.to 0 (put_one_lem p (and_left (safe_put k p) (safe_puts k ps) s)) q
      go false = q

  fill_held : (l : Look) (i : ℕ) (fs : List Filling) → safe_texts k fs ≡ true → (r : Row) → Q (num r c) → Q (num (filled_by l i fs r) c)
  unfolding filled_by with_cell safe_texts
  fill_held l i [] s r q = q
  fill_held l i (f ∷ fs) s r q =
      let b₁ : Bool = not (among f.column (guarded k)) in
      let b₂ : Bool = not (among (suc f.column) (guarded k)) in
      fill_held l i fs (and_right (b₁ && b₂) (safe_texts k fs) s) _ (
      set_view Q (set r f.column _) (suc f.column) c _ 0 (λ e. absurd (among_not (guarded k) (suc f.column) c (and_right b₁ b₂ (and_left (b₁ && b₂) (safe_texts k fs) s)) m e)) (
      set_view Q r f.column c _ 0 (λ e. absurd (among_not (guarded k) f.column c (and_left b₁ b₂ (and_left (b₁ && b₂) (safe_texts k fs) s)) m e)) q))

pub kept_row : (k : ℕ) (l : Look) (i : ℕ) (cs : List Class) (ps : List Put) (fs : List Filling) → safe_texts k fs ≡ true → safe_puts k ps ≡ true → Kept k (λ r. put_all cs ps (filled_by l i fs r))
kept_row k l i cs ps fs s u =
    record {
      long = λ r. put_length cs ps (filled_by l i fs r) ∙ fill_length l i fs r;
      held = λ c m Q h r q. put_held k c m Q h cs ps u (filled_by l i fs r) (fill_held k c m Q h l i fs s r q);
    }

-- ---- what an edit keeps of a table

pub record Stable (k : ℕ) (P : Table → Type 0) : Type 1 where
  pub added : (rs : Table) (r : Row) → length r ≡ length (blank k) → P rs → P (rs ++ r ∷ [])
  pub altered : (j : ℕ) (F : Row → Row) → Kept k F → (rs : Table) → P rs → P (alter_row j F rs)

module _ (k : ℕ) (P : Table → Type 0) (S : Stable k P) (l : Look) where
  pub edit_stable : (e : Edit) (ts : List Table) → safe_edit l.tag e ≡ true → P (get_or ts k []) → P (get_or (edited l e ts) k [])
  unfolding edited on_table safe_edit safe_shape
  edit_stable (add w i ps) ts s p =
      let h : Shape = shape_of l.tag w in
      set_view P ts h.into k _ [] (λ e. subst (λ (t : ℕ). P (get_or ts t [] ++ put_all (columns_of t) ps (filled_by l i h.texts (blank t)) ∷ [])) (sym e) (
      S.added _ _ (put_length (columns_of k) ps (filled_by l i h.texts (blank k)) ∙ fill_length l i h.texts (blank k)) p)) p
  edit_stable (alter w n ps) ts s p =
      let h : Shape = shape_of l.tag w in
      let s₁ : safe_shape h ≡ true = and_left (safe_shape h) (safe_puts h.into ps) s in
      set_view P ts h.into k _ [] (λ e. subst (λ (t : ℕ). P (alter_row n (λ r. put_all (columns_of h.into) ps (filled_by l 0 h.texts r)) (get_or ts t []))) (sym e) (
      S.altered n _ (
      subst (λ (t : ℕ). Kept t (λ r. put_all (columns_of h.into) ps (filled_by l 0 h.texts r))) e (
      kept_row h.into l 0 (columns_of h.into) ps h.texts (and_right (not (among h.into (9 ∷ 10 ∷ 11 ∷ []))) (safe_texts h.into h.texts) s₁) (
      and_right (safe_shape h) (safe_puts h.into ps) s))) (get_or ts k []) p)) p

  pub edits_stable : (es : List Edit) (ts : List Table) → safe_edits l.tag es ≡ true → P (get_or ts k []) → P (get_or (edited_by l es ts) k [])
  unfolding edited_by safe_edits
  edits_stable [] ts s p = p
  edits_stable (e ∷ es) ts s p =
      edits_stable es (edited l e ts) (and_right (safe_edit l.tag e) (safe_edits l.tag es) s) (edit_stable e ts (and_left (safe_edit l.tag e) (safe_edits l.tag es) s) p)

-- ---- the open elements stay, and so does the number of tables

edit_open : (k : ℕ) → among k (9 ∷ 10 ∷ 11 ∷ []) ≡ true → (l : Look) (e : Edit) (ts : List Table) → safe_edit l.tag e ≡ true → get_or (edited l e ts) k [] ≡ get_or ts k []
unfolding edited on_table safe_edit safe_shape
edit_open k m l (add w i ps) ts s =
    let h : Shape = shape_of l.tag w in
    set_view (λ (x : Table). x ≡ get_or ts k []) ts h.into k _ [] (λ e. absurd (
    among_not (9 ∷ 10 ∷ 11 ∷ []) h.into k (and_left (not (among h.into (9 ∷ 10 ∷ 11 ∷ []))) (safe_texts h.into h.texts) s) m e)) refl
edit_open k m l (alter w n ps) ts s =
    let h : Shape = shape_of l.tag w in
    let s₁ : safe_shape h ≡ true = and_left (safe_shape h) (safe_puts h.into ps) s in
    set_view (λ (x : Table). x ≡ get_or ts k []) ts h.into k _ [] (λ e. absurd (
    among_not (9 ∷ 10 ∷ 11 ∷ []) h.into k (and_left (not (among h.into (9 ∷ 10 ∷ 11 ∷ []))) (safe_texts h.into h.texts) s₁) m e)) refl

pub edits_open : (k : ℕ) → among k (9 ∷ 10 ∷ 11 ∷ []) ≡ true → (l : Look) (es : List Edit) (ts : List Table) → safe_edits l.tag es ≡ true → get_or (edited_by l es ts) k [] ≡ get_or ts k []
unfolding edited_by safe_edits
edits_open k m l [] ts s = refl
edits_open k m l (e ∷ es) ts s =
    edits_open k m l es (edited l e ts) (and_right (safe_edit l.tag e) (safe_edits l.tag es) s) ∙ edit_open k m l e ts (and_left (safe_edit l.tag e) (safe_edits l.tag es) s)

edit_size : (l : Look) (e : Edit) (ts : List Table) → length (edited l e ts) ≡ length ts
unfolding edited on_table
edit_size l (add w i ps) ts = length-set ts (shape_of l.tag w).into _
edit_size l (alter w n ps) ts = length-set ts (shape_of l.tag w).into _

pub edits_size : (l : Look) (es : List Edit) (ts : List Table) → length (edited_by l es ts) ≡ length ts
unfolding edited_by
edits_size l [] ts = refl
edits_size l (e ∷ es) ts = edits_size l es (edited l e ts) ∙ edit_size l e ts

-- ---- lists of edits

pub safe_append : (g : ℕ) (es fs : List Edit) → safe_edits g es ≡ true → safe_edits g fs ≡ true → safe_edits g (es ++ fs) ≡ true
unfolding safe_edits
safe_append g [] fs s t = t
safe_append g (e ∷ es) fs s t = and_both (safe_edit g e) (safe_edits g (es ++ fs)) (and_left (safe_edit g e) (safe_edits g es) s) (safe_append g es fs (and_right (safe_edit g e) (safe_edits g es) s) t)
