-- Numbers that fit, and all of it.
use Prim.Native.Nat.{ℕ, suc, ◌-◌, ◌≤◌, ◌<◌}
use mathlib.Core.Path.{◌≡◌, refl, sym, ap, ap₂, ◌∙◌}
use mathlib.Core.Bool.{Bool}
use mathlib.Core.List.{List, [], ◌∷◌}
use native.Mathlib.Omega.{arith}
use lib.Dec.{eqb}
use lib.ListN.{length, get_or}
use Rattle.definition.specs.declared.Position.{Position}
use Rattle.definition.specs.Text.{Piece}
use Rattle.definition.specs.Rows.{Row, Table, Cell, num, last_of}
use Rattle.definition.specs.Look.{find_datum, name_cells, is_innermost}
use Rattle.definition.specs.Reader.{first_no}
use Rattle.definition.proofs.Finds.{find_le, cells_length, datum_le}
use Rattle.words.proofs.Laws.{by}
use Rattle.names.specs.declared.Names.{Names}
use Rattle.names.specs.Names.{first_of, counted, brought_in, names_in}
use Rattle.plain.specs.declared.Plain.{Plain}
use Rattle.plain.specs.Plain.{slot_bytes, Parsed, parsed_in}
use Rattle.plain.specs.Keyed.{value_in}
use Rattle.plan.specs.declared.Heard.{Heard}
use Rattle.std.specs.Prelude.{Some, None, slice_get, Result, Ok, Err, MatchResult}
use Rattle.definition.specs.declared.codes.Refusal.{Refusal}
use Rattle.definition.specs.Codes.{tag_number, refusal_number, outcome}
use Rattle.heard.specs.Heard.{heard_in}
use Rattle.asked.specs.Asked.{asked_in, questions_by}
use Rattle.found.specs.Found.{found_in}
use Rattle.payload.specs.Payload.{made_in, charge_in}
use Rattle.look.specs.Looked.{looked_in}

first_le : (t : List ℕ) (cs : List Cell) (ps : List Piece) → first_of t cs ps ≤ suc (length cs)
unfolding first_of
first_le t cs [] = omega arith
first_le t cs (p ∷ ps) = omega (arith, find_le t cs p.word)

brought_le : (t : List ℕ) (cs : List Cell) (n : ℕ) (v : Parsed) → (names_in t cs n v).own ≤ suc (length cs)
unfolding names_in counted
brought_le t cs n v = first_le t cs (brought_in n v)

pub own_small : (t : List ℕ) (rows : Table) (n : ℕ) (v : Parsed) → length rows ≤ 256 → (r : Names) → r ≡ names_in t (name_cells rows) n v → r.own < 4294967296
own_small t rows n v h r e = omega (arith, h, brought_le t (name_cells rows) n v, ap (λ (x : Names). x.own) e, cells_length rows)

pub found_small : (t : List ℕ) (rows : Table) (s : ℕ) (v : Parsed) → length rows ≤ 256 → (r : ℕ) → r ≡ found_in t rows s v → r < 4294967296
unfolding found_in
found_small t rows s v h r e =
    by (eqb v.tag 9)
    (λ q. let z : found_in t rows s v ≡ find_datum t rows s (value_in 1 v.values) = rw (q, found_in) in omega (arith, h, e, z, datum_le t rows s (value_in 1 v.values)))
    (λ q. let z : found_in t rows s v ≡ 0 = rw (q, found_in) in omega (arith, e, z))

-- ---- the innermost open element

no_last : (x : Row) (xs : Table) → slice_get (x ∷ xs) (suc (length xs) - 1) ≡ None → ⊥
no_last x [] e = cc
no_last x (y ∷ xs) e = let z : suc (suc (length xs)) - 1 ≡ suc (suc (length xs) - 1) = omega arith in no_last y xs (rw z at e)

pub last_none : (xs : Table) → slice_get xs (length xs - 1) ≡ None → (c : ℕ) → 0 ≡ num (last_of [] xs) c
unfolding last_of
last_none [] e c = refl
last_none (x ∷ xs) e c = absurd (no_last x xs e)

last_row : (d : Row) (xs : Table) (r : Row) → slice_get xs (length xs - 1) ≡ Some r → r ≡ last_of d xs
unfolding last_of
last_row d [] r e = cc
last_row d (x ∷ []) r e = cc
last_row d (x ∷ y ∷ xs) r e = let z : suc (suc (length xs)) - 1 ≡ suc (suc (length xs) - 1) = omega arith in last_row x (y ∷ xs) r (rw z at e)

pub last_some : (xs : Table) (r : Row) → slice_get xs (length xs - 1) ≡ Some r → (c : ℕ) → get_or r c 0 ≡ num (last_of [] xs) c
last_some xs r e c = ap (λ (x : Row). get_or x c 0) (last_row [] xs r e)

-- ---- all of it

outcome_is : (r : Result (Unit {0}) Refusal) (n : ℕ) → MatchResult r (λ u. n ≡ 0) (λ k. refusal_number k ≡ n) → outcome r ≡ n
outcome_is (Ok u) n e = sym e
outcome_is (Err k) n e = e

module _ (cs ss ds xs ns : Table) (t : List ℕ) (p : Position) (src : List ℕ) (pl : Plain) where
  abbrev v : Parsed
  v = parsed_in src pl

  pub looked_is : (n : Names) → n ≡ names_in t (name_cells ss) p.names v → (s : ℕ) → s ≡ num (last_of [] xs) 1 → (f : ℕ) → f ≡ found_in t ds s v → (h : Heard) → h ≡ heard_in n.own f v
      → (w : List ℕ) → w ≡ slot_bytes src pl.name → (inner : Bool) → inner ≡ is_innermost xs ns (tag_number pl.tag) w
      → (parent : ℕ) → parent ≡ num (last_of [] xs) 0 → (root : ℕ) → root ≡ num (get_or cs 0 []) 0
      → (asked : Result (Unit {0}) Refusal) → MatchResult asked (λ u. first_no (questions_by h (asked_in v) inner p.opened parent root) ≡ 0) (λ r. refusal_number r ≡ first_no (questions_by h (asked_in v) inner p.opened parent root)) → (made : Bool) → made ≡ made_in v → (c : ℕ) → c ≡ charge_in v p.names
      → record { no = outcome asked; heard = h; refs = n.refs; new = n.new; made = made; charge = c } ≡ looked_in cs ss ds xs ns t p v
  unfolding looked_in parsed_in
  looked_is n en s es f ef h eh w ew inner ei parent ep root er asked eo made em c ec =
      let H : h ≡ heard_in (names_in t (name_cells ss) p.names v).own (found_in t ds (num (last_of [] xs) 1) v) v = eh ∙ ap₂ (λ (x : Names) (y : ℕ). heard_in x.own y v) en (ef ∙ ap (λ (x : ℕ). found_in t ds x v) es) in
      let I : inner ≡ is_innermost xs ns (tag_number pl.tag) (slot_bytes src pl.name) = ei ∙ ap (is_innermost xs ns (tag_number pl.tag)) ew in
      λ i.
      record {
        no = (outcome_is asked _ eo ∙ (λ j. first_no (questions_by (H j) (asked_in v) (I j) p.opened (ep j) (er j)))) i;
        heard = H i;
        refs = (en i).refs;
        new = (en i).new;
        made = em i;
        charge = ec i;
      }
