-- Stage 1 gives the same numbers for an event and its partner, in two stores that are related.
use Prim.Native.Nat.{ℕ, suc, ◌+◌, ◌≤◌}
use mathlib.Core.Path.{◌≡◌, refl, sym, ap, ap₂, ◌∙◌, subst}
use mathlib.Core.Bool.{Bool, true, false, ◌&&◌, cond}
use mathlib.Core.Option.{some}
use mathlib.Core.List.{List, [], ◌∷◌, ◌++◌, map, append-nil}
use lib.ListN.{length, get_or, drop, length-append}
use lib.Dec.{eqb}
use lib.Seq.{drop-append_seam}
use borrow.Author.Tests.{eqb-true}
use native.Mathlib.Omega.{arith}
use Rattle.definition.specs.Text.{same}
use Rattle.definition.specs.Elements.{tag, key, Role, name, plain, role_of, is_masked, is_name, is_names, names_state, among, tag_of, key_of}
use Rattle.definition.specs.Event.{Attribute, Event}
use Rattle.definition.specs.Rows.{Row, Table, table, state, datum, schema, text_role, columns_of, num, Cell, cell_at, text_at, Numbers, table_of, current_state, role_at}
use Rattle.definition.specs.Look.{Load, value_loads, is_generated, payload, fields_from, name_cells, resolve, names_brought, id_in, find_datum, loads_of, values_length, event_charge, look, one_if, is_innermost, kept_name, name_row}
use Rattle.renaming.specs.Renaming.{Moved}
use Rattle.definition.proofs.Base.{All, elim_cond}
use Rattle.renaming.proofs.Words.{Total, rename_piece}
use Rattle.renaming.proofs.Names.{Held, held_grow, resolve-ρ}
use Rattle.renaming.proofs.Loads.{moved_length, AttributesRel, EventRel, LoadsRel, loads-ρ, generated-ρ}
use Rattle.renaming.proofs.Fields.{payload_length, fields-ρ, brought-ρ, brought_both, FieldHeld, fields_held}
use Rattle.renaming.proofs.Edits.{RowOk, TablesOk}

state_name_role : role_at table.states state.name ≡ some name
unfolding role_at text_role columns_of schema
state_name_role = refl

datum_id_role : role_at table.datums datum.id ≡ some plain
unfolding role_at text_role columns_of schema
datum_id_role = refl

data_id_plain : role_of tag.datum key.id ≡ plain
unfolding role_of is_masked is_name is_names names_state among
data_id_plain = refl

module _ (ρ : List ℕ → List ℕ) (R : Total ρ) where
  -- ---- the texts grow

  rows_grow : (t u x y : List ℕ) (size : length u ≡ length t) (size₂ : length (u ++ y) ≡ length (t ++ x)) (k : ℕ) (rs : Table)
      → All (RowOk ρ R t u size k) rs → All (RowOk ρ R (t ++ x) (u ++ y) size₂ k) rs
  rows_grow t u x y size size₂ k [] a = tt
  rows_grow t u x y size size₂ k (r ∷ rs) a = (
    (λ c q e. ((a.0 c q e).0, held_grow ρ R t u x y size q (cell_at r c) (a.0 c q e).1)),
    rows_grow t u x y size size₂ k rs a.1,
  )

  pub tables_grow : (t u x y : List ℕ) (size : length u ≡ length t) (size₂ : length (u ++ y) ≡ length (t ++ x)) (ts : List Table)
      → TablesOk ρ R t u size ts → TablesOk ρ R (t ++ x) (u ++ y) size₂ ts
  tables_grow t u x y size size₂ ts h k = rows_grow t u x y size size₂ k (get_or ts k []) (h k)

  -- ---- names and data ids of the rows

  pub names_held : (t u : List ℕ) (size : length u ≡ length t) (rs : Table) → All (RowOk ρ R t u size table.states) rs → All (Held ρ R t u name) (name_cells rs)
  unfolding name_cells
  names_held t u size [] a = tt
  names_held t u size (r ∷ rs) a = ((a.0 state.name name state_name_role).1, names_held t u size rs a.1)

  find_cond : (t : List ℕ) (r : Row) (rs : Table) (s : ℕ) (w : List ℕ)
      → find_datum t (r ∷ rs) s w ≡ cond (eqb (num r datum.state) s && same (text_at t (cell_at r datum.id)) w) 1 (suc (find_datum t rs s w))
  unfolding find_datum
  find_cond t r rs s w = elim_cond (eqb (num r datum.state) s && same (text_at t (cell_at r datum.id)) w) 1 (suc (find_datum t rs s w))

  find_same : (t u : List ℕ) (size : length u ≡ length t) (rs : Table) → All (RowOk ρ R t u size table.datums) rs → (s : ℕ) (w : List ℕ)
      → find_datum u rs s w ≡ find_datum t rs s w
  unfolding find_datum
  find_same t u size [] a s w = refl
  find_same t u size (r ∷ rs) a s w =
      find_cond u r rs s w
      ∙ ap₂ (λ (x : List ℕ) (n : ℕ). cond (eqb (num r datum.state) s && same x w) 1 (suc n)) (a.0 datum.id plain datum_id_role).1.moved (find_same t u size rs a.1 s w)
      ∙ sym (find_cond t r rs s w)

  id_same : (g : ℕ) → role_of g key.id ≡ plain → {is js : List Load} → LoadsRel ρ R g is js → id_in js ≡ id_in is
  unfolding id_in
  id_same g p LoadsRel.stop = refl
  id_same g p (LoadsRel.more {i = i} {j = j} {is = is} {js = js} h m) = go (eqb i.key key.id) refl (id_same g p m)
    where
      go : (c : Bool) → eqb i.key key.id ≡ c → id_in js ≡ id_in is → id_in (j ∷ js) ≡ id_in (i ∷ is)
      go true e ih =
          rw (h.key, e, id_in)
          (subst (λ (q : Role). Moved ρ q i.bytes j.bytes) (ap (role_of g) (eqb-true i.key key.id e) ∙ p) h.bytes)
      go false e ih = rw (h.key, e, id_in) ih

  -- ---- lengths

  values_length_lem : (g : ℕ) {as₁ bs : List Attribute} → AttributesRel ρ R g as₁ bs → values_length bs ≡ values_length as₁
  unfolding values_length
  values_length_lem g AttributesRel.stop = refl
  values_length_lem g (AttributesRel.more {a = a} {b = b} h m) =
      ap₂ ◌+◌ (moved_length ρ R (role_of g (key_of a.key)) a.value b.value h.value) (values_length_lem g m)

  charge_same : (e f : Event) → EventRel ρ R e f → (n : ℕ) → event_charge (tag_of f.name) n f ≡ event_charge (tag_of e.name) n e
  unfolding event_charge
  charge_same e f h n =
      rw (h.name, h.kind, h.text, generated-ρ ρ R e.kind (tag_of e.name) h.attributes, values_length_lem (tag_of e.name) h.attributes)

  -- ---- an event and its partner, in stores with the same numbers

  module _ (n : Numbers) (t u : List ℕ) (size : length u ≡ length t) (ok : TablesOk ρ R t u size n.tables) (e f : Event) (h : EventRel ρ R e f) where
    abbrev g : ℕ
    g = tag_of e.name

    abbrev is : List Load
    is = loads_of g n.names e

    abbrev js : List Load
    js = loads_of (tag_of f.name) n.names f

    abbrev t₂ : List ℕ
    t₂ = t ++ payload is

    abbrev u₂ : List ℕ
    u₂ = u ++ payload js

    m : LoadsRel ρ R g is js
    m = loads-ρ ρ R e f h n.names

    pub size₂ : length u₂ ≡ length t₂
    size₂ = omega (arith, length-append u (payload js), length-append t (payload is), payload_length ρ R g m)

    pub ok₂ : TablesOk ρ R t₂ u₂ size₂ n.tables
    ok₂ = tables_grow t u (payload is) (payload js) size size₂ n.tables ok

    there : drop (length t) t₂ ≡ payload is ++ []
    there = drop-append_seam t (payload is) ∙ sym (append-nil (payload is))

    there₂ : drop (length t) u₂ ≡ payload js ++ []
    there₂ = ap (λ (k : ℕ). drop k u₂) (sym size) ∙ drop-append_seam u (payload js) ∙ sym (append-nil (payload js))

    room : length t ≤ length t₂
    room = omega (arith, length-append t (payload is))

    pub held : All (FieldHeld ρ R t₂ u₂ size₂ g) (fields_from g (length t) is)
    held = fields_held ρ R t₂ u₂ size₂ g (length t) m [] [] room there there₂

    abbrev cells : List Cell
    cells = name_cells (table_of n table.states)

    resolved : (resolve u₂ cells (map (rename_piece ρ) (names_brought g (length t) is)) ≡ resolve t₂ cells (names_brought g (length t) is))
        × All (Held ρ R t₂ u₂ name) (resolve t₂ cells (names_brought g (length t) is)).known
    resolved =
        resolve-ρ ρ R t₂ u₂ cells (names_brought g (length t) is) (names_held t₂ u₂ size₂ (table_of n table.states) (ok₂ table.states))
        (brought_both ρ R t₂ u₂ size₂ g (length t) m [] [] room there there₂)

    pub known_held : All (Held ρ R t₂ u₂ name) (resolve t₂ cells (names_brought g (length t) is)).known
    known_held = resolved.1

    fields_same : fields_from (tag_of f.name) (length u) js ≡ fields_from g (length t) is
    fields_same = ap₂ (λ (x o : ℕ). fields_from x o js) (ap tag_of h.name) size ∙ fields-ρ ρ R g (length t) m

    resolved_same : resolve u₂ cells (names_brought (tag_of f.name) (length u) js) ≡ resolve t₂ cells (names_brought g (length t) is)
    resolved_same =
        ap₂ (λ (x o : ℕ). resolve u₂ cells (names_brought x o js)) (ap tag_of h.name) size
        ∙ ap (resolve u₂ cells) (brought-ρ ρ R g (length t) m) ∙ resolved.0

    generated_same : is_generated f.kind (tag_of f.name) (value_loads f.attributes) ≡ is_generated e.kind g (value_loads e.attributes)
    generated_same = rw (h.kind, h.name) (generated-ρ ρ R e.kind g h.attributes)

    abbrev found_in : List ℕ → ℕ → List Load → ℕ
    found_in v x ks = elim (eqb x tag.datum) as (λ b. ℕ) [ true ↦ find_datum v (table_of n table.datums) (current_state n) (id_in ks) | false ↦ 0 ]

    found_cond : (v : List ℕ) (x : ℕ) (ks : List Load) → found_in v x ks ≡ cond (eqb x tag.datum) (find_datum v (table_of n table.datums) (current_state n) (id_in ks)) 0
    found_cond v x ks = elim_cond (eqb x tag.datum) (find_datum v (table_of n table.datums) (current_state n) (id_in ks)) 0

    data_same : eqb g tag.datum ≡ true
        → find_datum u₂ (table_of n table.datums) (current_state n) (id_in js) ≡ find_datum t₂ (table_of n table.datums) (current_state n) (id_in is)
    data_same q =
        let p : role_of g key.id ≡ plain = ap (λ (x : ℕ). role_of x key.id) (eqb-true g tag.datum q) ∙ data_id_plain in
        ap (find_datum u₂ (table_of n table.datums) (current_state n)) (id_same g p m)
        ∙ find_same t₂ u₂ size₂ (table_of n table.datums) (ok₂ table.datums) (current_state n) (id_in is)

    cond_same : (c : Bool) (x y : ℕ) → (c ≡ true → x ≡ y) → cond c x 0 ≡ cond c y 0
    cond_same true x y k = k refl
    cond_same false x y k = refl

    found_same : found_in u₂ (tag_of f.name) js ≡ found_in t₂ g is
    found_same =
        ap (λ (x : ℕ). found_in u₂ x js) (ap tag_of h.name) ∙ found_cond u₂ g js ∙ cond_same (eqb g tag.datum) _ _ data_same ∙ sym (found_cond t₂ g is)

    -- STAGE 1 SEES THE SAME NUMBERS
    pub look_same : look (record { numbers = n; text = u }) f ≡ look (record { numbers = n; text = t }) e
    unfolding look
    look_same = λ i.
        record {
          kind = h.kind i;
          tag = tag_of (h.name i);
          fields = fields_same i;
          refs = (resolved_same i).refs;
          known = (resolved_same i).known;
          generated = one_if (generated_same i);
          charge = charge_same e f h n.names i;
          base = size i;
          found = found_same i;
          innermost = is_innermost (table_of n table.opened) (table_of n table.open_names) (tag_of (h.name i)) (h.name i);
          name = name_row (kept_name (tag_of (h.name i)) (h.name i));
          name_length = length (kept_name (tag_of (h.name i)) (h.name i));
        }
