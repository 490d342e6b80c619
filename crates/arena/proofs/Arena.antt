-- The texts of an event as they lie in the arena: a key's cell leads to its value.
use Prim.Native.Nat.{ℕ, suc, ◌+◌, ◌-◌, ◌≤◌}
use mathlib.Core.Path.{◌≡◌, refl, sym, ap, ap₂, ◌∙◌, subst}
use mathlib.Core.Bool.{Bool, true, false}
use mathlib.Core.List.{List, [], ◌∷◌, ◌++◌, append-nil, append_assoc}
use native.Mathlib.Omega.{arith}
use lib.Dec.{eqb}
use lib.ListN.{length, take, drop, length-append}
use lib.Seq.{take-append_seam}
use Rattle.definition.specs.Text.{bytes_at, words_by, state_words_at}
use Rattle.definition.specs.Rows.{Cell, no_cell, text_at, text_from}
use Rattle.definition.specs.Look.{Load, has_load, payload, field_by, fields_from}
use Rattle.definition.specs.Change.{field_in, field_cell}
use Rattle.words.proofs.Laws.{by}
use Rattle.plain.specs.Keyed.{value_in, offset_in}
use Rattle.plain.proofs.ValueLaws.{value_here, value_past, offset_here, offset_past, has_past}
use Rattle.heard.proofs.FieldLaw.{field_is, field_some, field_no}
use Rattle.plain.proofs.ValueLaws.{value_none}
use Rattle.fill.specs.Fill.{cell}
use Rattle.wordlists.specs.Words.{list_cells}
use Rattle.targets.specs.Enter.{names_at}
use Rattle.wordlists.specs.Words.{cells_at}
use Rattle.targets.specs.Names.{pieces_at, own_piece, InText}

payload_at : (k : ℕ) (is : List Load) (x : List ℕ) → has_load k is ≡ true → take (length (value_in k is)) (drop (offset_in k is) (payload is ++ x)) ≡ value_in k is
unfolding payload has_load
payload_at k [] x h = truth h
  where
    truth : ◌≡◌ {A = Bool} false true → take (length (value_in k [])) (drop (offset_in k []) (payload [] ++ x)) ≡ value_in k []
    truth z = absurd (subst (λ (b : Bool). elim b as (λ c. Type 0) [ true ↦ ⊥ | false ↦ Unit {0} ]) z tt)
payload_at k (i ∷ is) x h =
    let a : (i.bytes ++ payload is) ++ x ≡ i.bytes ++ (payload is ++ x) = append_assoc i.bytes (payload is) x in
    by (eqb i.key k)
    (λ q.
    ap₂ (λ (v : List ℕ) (o : ℕ). take (length v) (drop o ((i.bytes ++ payload is) ++ x))) (value_here k i is q) (offset_here k i is q)
    ∙ ap (take (length i.bytes)) a ∙ take-append_seam i.bytes (payload is ++ x) ∙ sym (value_here k i is q))
    (λ q.
    ap₂ (λ (v : List ℕ) (o : ℕ). take (length v) (drop o ((i.bytes ++ payload is) ++ x))) (value_past k i is q) (offset_past k i is q)
    ∙ ap (λ (z : List ℕ). take (length (value_in k is)) (drop (length i.bytes + offset_in k is) z)) a
    ∙ ap (take (length (value_in k is))) (drop_plus i.bytes (payload is ++ x) (offset_in k is))
    ∙ payload_at k is x (sym (has_past k i is q) ∙ h) ∙ sym (value_past k i is q))
  where
    drop_plus : (w y : List ℕ) (o : ℕ) → drop (length w + o) (w ++ y) ≡ drop o y
    drop_plus [] y o = let z : 0 + o ≡ o = omega arith in ap (λ (n : ℕ). drop n y) z
    drop_plus (b ∷ w) y o = let z : suc (length w) + o ≡ suc (length w + o) = omega arith in ap (λ (n : ℕ). drop n (b ∷ (w ++ y))) z ∙ drop_plus w y o

offset_fits : (k : ℕ) (is : List Load) → has_load k is ≡ true → offset_in k is + length (value_in k is) ≤ length (payload is)
unfolding payload has_load
offset_fits k [] h = absurd (subst (λ (b : Bool). elim b as (λ c. Type 0) [ true ↦ ⊥ | false ↦ Unit {0} ]) h tt)
offset_fits k (i ∷ is) h =
    by (eqb i.key k) (λ q. omega (arith, offset_here k i is q, ap length (value_here k i is q), length-append i.bytes (payload is)))
    (λ q. omega (arith, offset_past k i is q, ap length (value_past k i is q), offset_fits k is (sym (has_past k i is q) ∙ h), length-append i.bytes (payload is)))

-- t₀ is the text before the event, g its element, is its loads.
module _ (g : ℕ) (t₀ : List ℕ) (is : List Load) (k : ℕ) where
  abbrev o : ℕ
  o = length t₀

  abbrev text : List ℕ
  text = t₀ ++ payload is

  abbrev c : Cell
  c = field_cell (field_in (fields_from g o is) k)

  cell_there : has_load k is ≡ true → c ≡ cell (suc (o + offset_in k is)) (length (value_in k is))
  unfolding field_cell field_by cell
  cell_there h = ap field_cell (field_is g k o is ∙ field_some g k o is h)

  cell_absent : has_load k is ≡ false → c ≡ no_cell
  unfolding field_cell
  cell_absent h = ap field_cell (field_is g k o is ∙ field_no g k o is h)

  drop_text : (n : ℕ) → drop (o + n) text ≡ drop n (payload is)
  drop_text n = past t₀ n
    where
      past : (w : List ℕ) (n : ℕ) → drop (length w + n) (w ++ payload is) ≡ drop n (payload is)
      past [] n = let z : 0 + n ≡ n = omega arith in ap (λ (m : ℕ). drop m (payload is)) z
      past (b ∷ w) n = let z : suc (length w) + n ≡ suc (length w + n) = omega arith in ap (λ (m : ℕ). drop m (b ∷ (w ++ payload is))) z ∙ past w n

  bytes_there : has_load k is ≡ true → bytes_at text (record { off = o + offset_in k is; len = length (value_in k is) }) ≡ value_in k is
  unfolding bytes_at
  bytes_there h =
      ap (take (length (value_in k is))) (drop_text (offset_in k is) ∙ ap (drop (offset_in k is)) (sym (append-nil (payload is)))) ∙ payload_at k is [] h

  -- A KEY'S CELL LEADS TO ITS VALUE.
  pub text_there : text_at text c ≡ value_in k is
  unfolding text_at text_from no_cell cell
  text_there =
      by (has_load k is) (λ h. ap (text_at text) (cell_there h) ∙ bytes_there h)
      (λ h. ap (text_at text) (cell_absent h) ∙ sym (value_none k is h))

  pub cell_inside : InText text c
  unfolding cell no_cell
  cell_inside a z =
      by (has_load k is)
      (λ h.
      let x : c.at ≡ suc (o + offset_in k is) = ap (λ (w : Cell). w.at) (cell_there h) in
      let y : c.len ≡ length (value_in k is) = ap (λ (w : Cell). w.len) (cell_there h) in
      omega (arith, z, x, y, offset_fits k is h, length-append t₀ (payload is)))
      (λ h. let x : c.at ≡ 0 = ap (λ (w : Cell). w.at) (cell_absent h) in absurd (omega (arith, z, x)))

  -- ---- words and names there

  pub cells_there : (e : Bool) → cells_at e text c ≡ list_cells e (o + offset_in k is) (value_in k is)
  unfolding cells_at cell no_cell
  cells_there e =
      by (has_load k is)
      (λ h. ap (cells_at e text) (cell_there h) ∙ ap (list_cells e (o + offset_in k is)) (sym (ap (text_at text) (cell_there h)) ∙ text_there))
      (λ h. ap (cells_at e text) (cell_absent h) ∙ sym (ap (list_cells e (o + offset_in k is)) (value_none k is h) ∙ none_of))
    where
      none_of : list_cells e (o + offset_in k is) [] ≡ []
      none_of = unfold list_cells words_by in refl

  pub pieces_there : pieces_at text c ≡ state_words_at (o + offset_in k is) (value_in k is)
  unfolding pieces_at cell no_cell names_at
  pieces_there =
      by (has_load k is)
      (λ h. ap (pieces_at text) (cell_there h) ∙ ap (state_words_at (o + offset_in k is)) (bytes_there h))
      (λ h. ap (pieces_at text) (cell_absent h) ∙ sym (ap (state_words_at (o + offset_in k is)) (value_none k is h) ∙ none_at))
    where
      none_at : state_words_at (o + offset_in k is) [] ≡ []
      none_at = unfold state_words_at in refl

  pub own_there : has_load k is ≡ true → own_piece text c ≡ record { off = o + offset_in k is; word = value_in k is }
  unfolding own_piece cell
  own_there h =
      let a : c.at - 1 ≡ o + offset_in k is = ap (λ (x : Cell). x.at - 1) (cell_there h) ∙ omega arith in
      λ j. record { off = a j; word = text_there j }

  pub own_inside : has_load k is ≡ true → (1 ≤ c.at) × (c.at + c.len ≤ suc (length text))
  unfolding cell
  own_inside h =
      let a : c.at ≡ suc (o + offset_in k is) = ap (λ (x : Cell). x.at) (cell_there h) in
      (omega (arith, a), let b : o + offset_in k is + c.len ≤ length text = cell_inside (o + offset_in k is) a in omega (arith, a, b))
