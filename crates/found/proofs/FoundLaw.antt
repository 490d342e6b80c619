-- THE LAWS: the data found and the innermost name are those of the definition's look.
use Prim.Native.Nat.{ℕ, suc}
use mathlib.Core.Path.{◌≡◌, refl, sym, ap, ap₂, ◌∙◌}
use mathlib.Core.Bool.{Bool, true, false, ◌&&◌}
use mathlib.Core.List.{List, [], ◌∷◌, ◌++◌}
use lib.Dec.{eqb}
use borrow.Author.Tests.{eqb-true}
use Rattle.definition.specs.Text.{same}
use Rattle.definition.specs.Elements.{tag_of, names_state, among}
use Rattle.definition.specs.Event.{Event}
use Rattle.definition.specs.Rows.{Table, cell_at, num, table_of, Store, current_state}
use Rattle.definition.specs.Look.{Load, id_in, loads_of, payload, find_datum, look, is_innermost, value_loads}
use Rattle.definition.proofs.Base.{All}
use Rattle.words.proofs.Laws.{by}
use Rattle.names.proofs.NewLaw.{cell_grow}
use Rattle.names.specs.Names.{Inside}
use Rattle.plain.specs.Plain.{parsed_of}
use Rattle.plain.specs.Keyed.{value_in}
use Rattle.plain.proofs.LoadLaw.{id, own_value}
use Rattle.found.specs.Found.{ids, found_in}

id_value : (is : List Load) → id_in is ≡ value_in 1 is
unfolding id_in value_in
id_value [] = refl
id_value (i ∷ is) = by (eqb i.key 1) (λ q. rw (q, id_in, value_in)) (λ q. rw (q, id_in, value_in) (id_value is))

found_grow : (t x : List ℕ) (rs : Table) (s : ℕ) (w : List ℕ) → All (Inside t) (ids rs) → find_datum (t ++ x) rs s w ≡ find_datum t rs s w
unfolding find_datum ids
found_grow t x [] s w a = refl
found_grow t x (r ∷ rs) s w a =
    ap₂ (λ (c : List ℕ) (n : ℕ). elim (eqb (num r 0) s && same c w) as (λ b. ℕ) [ true ↦ 1 | false ↦ suc n ]) (cell_grow t x (cell_at r 1) a.0) (found_grow t x rs s w a.1)

module _ (s : Store) (e : Event) (inside : All (Inside s.text) (ids (table_of s.numbers 6))) where
  abbrev g : ℕ
  g = tag_of e.name

  pub found_law : found_in s.text (table_of s.numbers 6) (current_state s.numbers) (parsed_of e) ≡ (look s e).found
  unfolding found_in parsed_of look
  found_law = go (eqb g 9) refl
    where
      go : (b : Bool) → eqb g 9 ≡ b → ◌≡◌ {A = ℕ} (elim b as (λ c. ℕ) [ true ↦ find_datum s.text (table_of s.numbers 6) (current_state s.numbers) (value_in 1 (value_loads e.attributes)) | false ↦ 0 ])
          (elim b as (λ c. ℕ) [ true ↦ find_datum (s.text ++ payload (loads_of g s.numbers.names e)) (table_of s.numbers 6) (current_state s.numbers) (id_in (loads_of g s.numbers.names e)) | false ↦ 0 ])
      go true q =
          unfold names_state among in
          let h : names_state g ≡ false = ap names_state (eqb-true g 9 q) in
          let z : id_in (loads_of g s.numbers.names e) ≡ value_in 1 (value_loads e.attributes) = id_value (loads_of g s.numbers.names e) ∙ own_value g s.numbers.names e 1 (id h) in
          sym (ap (find_datum (s.text ++ payload (loads_of g s.numbers.names e)) (table_of s.numbers 6) (current_state s.numbers)) z
          ∙ found_grow s.text (payload (loads_of g s.numbers.names e)) (table_of s.numbers 6) (current_state s.numbers) (value_in 1 (value_loads e.attributes)) inside)
      go false q = refl

pub innermost_law : (s : Store) (e : Event) → is_innermost (table_of s.numbers 9) (table_of s.numbers 10) (parsed_of e).tag (parsed_of e).name ≡ (look s e).innermost
unfolding parsed_of look
innermost_law s e = refl
