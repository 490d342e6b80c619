-- THE LAW OF TEXTS: the table that code makes from an event's loads is the look's.
use Prim.Native.Nat.{ℕ, zero, suc, ◌+◌, ◌≤◌, ◌<◌}
use mathlib.Core.Path.{◌≡◌, refl, sym, ap, ap₂, ◌∙◌}
use mathlib.Core.Bool.{true, false}
use mathlib.Core.List.{List, [], ◌∷◌, ◌++◌}
use mathlib.Core.Option as Option
use native.Mathlib.Omega.{arith}
use lib.Dec.{eqb, ltb}
use lib.ListN.{length, get_or, set, drop, replicate, drop_of_length-le, length-set, length-append}
use lib.Seq.{drop-cons, get_or-set_same, get_or-set_other}
use borrow.Author.Tests.{ne_eqb, eqb-true, eqb-false, ltb-true, ltb-false}
use Rattle.definition.specs.Rows.{Cell, no_cell, cell_at, with_cell}
use Rattle.definition.specs.Elements.{role_of}
use Rattle.definition.specs.Look.{Load, Field, payload, field_by, fields_from}
use Rattle.definition.specs.Change.{field_in, field_cell, if_given, trimmed_cell}
use Rattle.words.proofs.Laws.{by}
use Rattle.fill.specs.Fill.{cell, cell_on, texts_of, cell_by}
use Rattle.fill.proofs.ShapeLaw.{Placed}
use Rattle.texts.specs.Texts.{text_put, texts_in, closed}
use Rattle.texts.proofs.Laws.{put_none, put_there, put_new, put_length, cell_length}

pub texts_append : (o : ℕ) (is js : List Load) (t : List ℕ) → texts_in o (is ++ js) t ≡ texts_in (o + length (payload is)) js (texts_in o is t)
unfolding texts_in payload
texts_append o [] js t = let e : o ≡ o + 0 = omega arith in ap (λ (n : ℕ). texts_in n js t) e
texts_append o (i ∷ is) js t =
    let e : o + length i.bytes + length (payload is) ≡ o + length (i.bytes ++ payload is) = omega (arith, length-append i.bytes (payload is)) in
    texts_append (o + length i.bytes) is js _ ∙ ap (λ (n : ℕ). texts_in n js (texts_in (o + length i.bytes) is (text_put i.key (cell (suc o) (length i.bytes)) t))) e

-- ---- cells of a table

cell_same : (c : ℕ) (x : Cell) (t : List ℕ) → suc c < length t → cell_at (with_cell c x t) c ≡ x
unfolding cell_at with_cell cell
cell_same c x t h =
    let l : c < length t = omega arith in
    let n : c ≡ suc c → ⊥ = λ z. omega arith in
    let m : suc c < length (set t c x.at) = omega (arith, length-set t c x.at) in
    ap₂ cell (get_or-set_other (set t c x.at) (suc c) c x.len 0 n ∙ get_or-set_same t c x.at 0 l) (get_or-set_same (set t c x.at) (suc c) x.len 0 m)

cell_other : (c k : ℕ) (x : Cell) (t : List ℕ) → (c ≡ k → ⊥) → cell_at (with_cell (c + c) x t) (k + k) ≡ cell_at t (k + k)
unfolding cell_at with_cell cell
cell_other c k x t h =
    let s : List ℕ = set t (c + c) x.at in
    let a : k + k ≡ suc (c + c) → ⊥ = λ z. omega arith in
    let b : k + k ≡ c + c → ⊥ = λ z. h (omega arith) in
    let d : suc (k + k) ≡ suc (c + c) → ⊥ = λ z. h (omega arith) in
    let e : suc (k + k) ≡ c + c → ⊥ = λ z. omega arith in
    ap₂ cell (get_or-set_other s (suc (c + c)) (k + k) x.len 0 a ∙ get_or-set_other t (c + c) (k + k) x.at 0 b)
    (get_or-set_other s (suc (c + c)) (suc (k + k)) x.len 0 d ∙ get_or-set_other t (c + c) (suc (k + k)) x.at 0 e)

put_other : (c k : ℕ) (x : Cell) (t : List ℕ) → (c ≡ k → ⊥) → cell_at (text_put c x t) (k + k) ≡ cell_at t (k + k)
put_other c k x t h =
    by (ltb c 32)
    (λ p.
    by (eqb (get_or t (c + c) 0) 0) (λ q. ap (λ (z : List ℕ). cell_at z (k + k)) (sym (put_new c x t (ltb-true c 32 p) (eqb-true (get_or t (c + c) 0) 0 q))) ∙ cell_other c k x t h)
    (λ q. ap (λ (z : List ℕ). cell_at z (k + k)) (sym (put_there c x t (ltb-true c 32 p) (eqb-false (get_or t (c + c) 0) 0 q)))))
    (λ p. ap (λ (z : List ℕ). cell_at z (k + k)) (sym (put_none c x t (ltb-false c 32 p))))

-- The first of a key among loads; d without one.
first_or : Cell → ℕ → ℕ → List Load → Cell
first_or d k o [] = d
first_or d k o (i ∷ is) = elim (eqb i.key k) [ true ↦ cell (suc o) (length i.bytes) | false ↦ first_or d k (o + length i.bytes) is ]

first_here : (d : Cell) (k o : ℕ) (i : Load) (is : List Load) → eqb i.key k ≡ true → first_or d k o (i ∷ is) ≡ cell (suc o) (length i.bytes)
unfolding first_or
first_here d k o i is e = rw (e, first_or)

first_past : (d : Cell) (k o : ℕ) (i : Load) (is : List Load) → eqb i.key k ≡ false → first_or d k o (i ∷ is) ≡ first_or d k (o + length i.bytes) is
unfolding first_or
first_past d k o i is e = rw (e, first_or)

module _ (k : ℕ) (small : k < 32) where
  stays : (o : ℕ) (is : List Load) (t : List ℕ) → length t ≡ 64 → (get_or t (k + k) 0 ≡ 0 → ⊥) → cell_at (texts_in o is t) (k + k) ≡ cell_at t (k + k)
  unfolding texts_in cell_at
  stays o [] t s h = refl
  stays o (i ∷ is) t s h =
      let x : Cell = cell (suc o) (length i.bytes) in
      let same-cell : cell_at (text_put i.key x t) (k + k) ≡ cell_at t (k + k) =
      by (eqb i.key k)
      (λ q.
      let e : i.key ≡ k = eqb-true i.key k q in
      let f : get_or t (i.key + i.key) 0 ≡ 0 → ⊥ = λ z. h (ap (λ (n : ℕ). get_or t (n + n) 0) (sym e) ∙ z) in
      ap (λ (z : List ℕ). cell_at z (k + k)) (sym (put_there i.key x t (omega arith) f)))
      (λ q. put_other i.key k x t (eqb-false i.key k q)) in
      stays (o + length i.bytes) is (text_put i.key x t) (put_length i.key x t ∙ s) (λ z. h (sym (ap (λ (y : Cell). y.at) same-cell) ∙ z)) ∙ same-cell

  comes : (o : ℕ) (is : List Load) (t : List ℕ) → length t ≡ 64 → get_or t (k + k) 0 ≡ 0 → cell_at (texts_in o is t) (k + k) ≡ first_or (cell_at t (k + k)) k o is
  unfolding texts_in first_or cell_at cell
  comes o [] t s h = refl
  comes o (i ∷ is) t s h =
      let x : Cell = cell (suc o) (length i.bytes) in
      let r : List ℕ = text_put i.key x t in
      by (eqb i.key k)
      (λ q.
      let e : i.key ≡ k = eqb-true i.key k q in
      let f : get_or t (i.key + i.key) 0 ≡ 0 = ap (λ (n : ℕ). get_or t (n + n) 0) e ∙ h in
      let l : suc (k + k) < length t = omega (arith, s) in
      let z : cell_at r (k + k) ≡ x =
      ap (λ (y : List ℕ). cell_at y (k + k)) (sym (put_new i.key x t (omega arith) f)) ∙ ap (λ (n : ℕ). cell_at (with_cell (n + n) x t) (k + k)) e ∙ cell_same (k + k) x t l in
      stays (o + length i.bytes) is r (put_length i.key x t ∙ s) (λ y. nonzero (sym (ap (λ (w : Cell). w.at) z) ∙ y)) ∙ z ∙ sym (first_here (cell_at t (k + k)) k o i is q))
      (λ q.
      let z : cell_at r (k + k) ≡ cell_at t (k + k) = put_other i.key k x t (eqb-false i.key k q) in
      comes (o + length i.bytes) is r (put_length i.key x t ∙ s) (ap (λ (w : Cell). w.at) z ∙ h)
      ∙ ap (λ (w : Cell). first_or w k (o + length i.bytes) is) z
      ∙ sym (first_past (cell_at t (k + k)) k o i is q))
    where
      nonzero : (cell (suc o) (length i.bytes)).at ≡ 0 → ⊥
      nonzero y = omega (arith, y)

-- ---- fields

pub field_here : (i : Field) (is : List Field) (k : ℕ) → eqb i.key k ≡ true → field_in (i ∷ is) k ≡ Option.some i
unfolding field_in
field_here i is k e = rw (e, field_in)

pub field_past : (i : Field) (is : List Field) (k : ℕ) → eqb i.key k ≡ false → field_in (i ∷ is) k ≡ field_in is k
unfolding field_in
field_past i is k e = rw (e, field_in)

first_field : (g k o : ℕ) (is : List Load) → first_or no_cell k o is ≡ field_cell (field_in (fields_from g o is) k)
unfolding first_or fields_from field_by field_cell field_in cell
first_field g k o [] = refl
first_field g k o (i ∷ is) =
    by (eqb i.key k)
    (λ q. first_here no_cell k o i is q ∙ sym (ap field_cell (field_here (field_by (role_of g i.key) g o i) (fields_from g (o + length i.bytes) is) k q)))
    (λ q.
    first_past no_cell k o i is q ∙ first_field g k (o + length i.bytes) is
    ∙ sym (ap field_cell (field_past (field_by (role_of g i.key) g o i) (fields_from g (o + length i.bytes) is) k q)))

given_new : (old : Cell) (a n : ℕ) → (a ≡ 0 → ⊥) → cell_by 2 old (cell a n) ≡ cell a n
unfolding cell_by cell
given_new old a n h = rw (ne_eqb a 0 h, cell_by)

pub fields_placed : (g o : ℕ) (is : List Load) → Placed (fields_from g o is)
unfolding Placed fields_from field_by field_in field_cell if_given cell_by no_cell cell
fields_placed g o [] k old = refl
fields_placed g o (i ∷ is) k old =
    let f : Field = field_by (role_of g i.key) g o i in
    let fs : List Field = fields_from g (o + length i.bytes) is in
    by (eqb i.key k)
    (λ q.
    ap (λ (x : Option.Option Field). cell_by 2 old (field_cell x)) (field_here f fs k q) ∙ given_new old (suc o) (length i.bytes) (λ z. omega arith) ∙ sym (ap (if_given old) (field_here f fs k q)))
    (λ q. ap (λ (x : Option.Option Field). cell_by 2 old (field_cell x)) (field_past f fs k q) ∙ fields_placed g (o + length i.bytes) is k old ∙ sym (ap (if_given old) (field_past f fs k q)))

-- ---- the table, cell by cell

cells_from : (ℕ → Cell) → ℕ → ℕ → List ℕ
cells_from f k zero = []
cells_from f k (suc n) = cell_on (f k) (cells_from f (suc k) n)

cells_same : (f h : ℕ → Cell) (k n : ℕ) → ((j : ℕ) → j < k + n → f j ≡ h j) → cells_from f k n ≡ cells_from h k n
unfolding cells_from
cells_same f h k zero e = refl
cells_same f h k (suc n) e =
    ap₂ cell_on (e k (omega arith)) (cells_same f h (suc k) n (λ j l. e j (omega arith)))

spread : (t : List ℕ) (k n : ℕ) → k + k + (n + n) ≡ length t → cells_from (λ (j : ℕ). cell_at t (j + j)) k n ≡ drop (k + k) t
unfolding cells_from cell_on cell_at
spread t k zero e = let m : length t ≤ k + k = omega arith in sym (drop_of_length-le t m)
spread t k (suc n) e =
    let a : k + k < length t = omega arith in
    let b : suc (k + k) < length t = omega arith in
    let c : suc (suc (k + k)) ≡ suc k + suc k = omega arith in
    sym (
    drop-cons t (k + k) 0 a ∙ ap (λ (x : List ℕ). get_or t (k + k) 0 ∷ x) (drop-cons t (suc (k + k)) 0 b)
    ∙ ap (λ (x : List ℕ). get_or t (k + k) 0 ∷ get_or t (suc (k + k)) 0 ∷ x) (ap (λ (j : ℕ). drop j t) c ∙ sym (spread t (suc k) n (omega arith))))

upd : ℕ → Cell → (ℕ → Cell) → ℕ → Cell
upd j x f k = elim (eqb j k) [ true ↦ x | false ↦ f k ]

Holds : List ℕ → (ℕ → Cell) → Type 0
Holds t f = (k : ℕ) → k < 32 → cell_at t (k + k) ≡ f k

holds_upd : (t : List ℕ) (f : ℕ → Cell) (j : ℕ) (x : Cell) → length t ≡ 64 → j < 32 → Holds t f → Holds (with_cell (j + j) x t) (upd j x f)
unfolding Holds upd
holds_upd t f j x s l h k b =
    by (eqb j k)
    (λ q.
    let e : j ≡ k = eqb-true j k q in
    let m : suc (j + j) < length t = omega (arith, s) in
    ap (λ (n : ℕ). cell_at (with_cell (j + j) x t) (n + n)) (sym e) ∙ cell_same (j + j) x t m ∙ sym (rw (q, upd)))
    (λ q. cell_other j k x t (eqb-false j k q) ∙ h k b ∙ sym (rw (q, upd)))

module _ (g b : ℕ) (is : List Load) where
  abbrev fs : List Field
  fs = fields_from g b is

  abbrev t₀ : List ℕ
  t₀ = texts_in b is (replicate 64 0)

  texts_length : (o : ℕ) (js : List Load) (t : List ℕ) → length (texts_in o js t) ≡ length t
  unfolding texts_in
  texts_length o [] t = refl
  texts_length o (j ∷ js) t = texts_length (o + length j.bytes) js _ ∙ put_length j.key (cell (suc o) (length j.bytes)) t

  zero_at : (j : ℕ) → ◌≡◌ {A = ℕ} (get_or (replicate 64 0) j 0) 0
  zero_at j = zeros 64 j
    where
      zeros : (n j : ℕ) → ◌≡◌ {A = ℕ} (get_or (replicate n 0) j 0) 0
      zeros zero j = refl
      zeros (suc n) zero = refl
      zeros (suc n) (suc j) = zeros n j

  held : Holds t₀ (λ (k : ℕ). field_cell (field_in fs k))
  unfolding Holds cell_at no_cell cell
  held k l =
      comes k l b is (replicate 64 0) refl (zero_at (k + k))
      ∙ ap (λ (x : Cell). first_or x k b is) (ap₂ cell (zero_at (k + k)) (zero_at (suc (k + k))))
      ∙ first_field g k b is

  pub texts_law : closed (trimmed_cell no_cell (field_in fs 29)) (field_cell (field_in fs 30)) (trimmed_cell (cell (suc b) 0) (field_in fs 29)) t₀ ≡ texts_of b fs
  unfolding closed Holds texts_of cells_from upd cell_on
  texts_law =
      let F : ℕ → Cell = λ (k : ℕ). field_cell (field_in fs k) in
      let x : Cell = trimmed_cell no_cell (field_in fs 29) in
      let y : Cell = field_cell (field_in fs 30) in
      let z : Cell = trimmed_cell (cell (suc b) 0) (field_in fs 29) in
      let s₀ : length t₀ ≡ 64 = texts_length b is (replicate 64 0) in
      let s₁ : length (with_cell 0 no_cell t₀) ≡ 64 = cell_length 0 no_cell t₀ ∙ s₀ in
      let s₂ : length (with_cell 58 x (with_cell 0 no_cell t₀)) ≡ 64 = cell_length 58 x (with_cell 0 no_cell t₀) ∙ s₁ in
      let s₃ : length (with_cell 60 y (with_cell 58 x (with_cell 0 no_cell t₀))) ≡ 64 = cell_length 60 y (with_cell 58 x (with_cell 0 no_cell t₀)) ∙ s₂ in
      let s₄ : length (with_cell 62 z (with_cell 60 y (with_cell 58 x (with_cell 0 no_cell t₀)))) ≡ 64 = cell_length 62 z (with_cell 60 y (with_cell 58 x (with_cell 0 no_cell t₀))) ∙ s₃ in
      let h : Holds (with_cell 62 z (with_cell 60 y (with_cell 58 x (with_cell 0 no_cell t₀)))) (upd 31 z (upd 30 y (upd 29 x (upd 0 no_cell F)))) =
      holds_upd (with_cell 60 y (with_cell 58 x (with_cell 0 no_cell t₀))) (upd 30 y (upd 29 x (upd 0 no_cell F))) 31 z s₃ (omega arith) (
      holds_upd (with_cell 58 x (with_cell 0 no_cell t₀)) (upd 29 x (upd 0 no_cell F)) 30 y s₂ (omega arith) (
      holds_upd (with_cell 0 no_cell t₀) (upd 0 no_cell F) 29 x s₁ (omega arith) (holds_upd t₀ F 0 no_cell s₀ (omega arith) held))) in
      sym (spread (with_cell 62 z (with_cell 60 y (with_cell 58 x (with_cell 0 no_cell t₀)))) 0 32 (sym s₄)) ∙ cells_same _ (upd 31 z (upd 30 y (upd 29 x (upd 0 no_cell F)))) 0 32 h
