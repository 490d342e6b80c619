-- THE SCHEMA of what elements store: for each element the shapes of the rows that it makes or rewrites, with a source for each text column. Handlers name
-- shapes and never a text; one computed test shows that every source fits its column's class.
use Rattle.std.specs.Prelude.{ℕ, Bool, true, false, ◌&&◌, List, [], ◌∷◌, get_or, eqb}
use Rattle.std.proofs.Math.Option.{none, some}
use Rattle.definition.specs.Elements.{tag, key, Role, name, names, masked, plain, role_of}
use Rattle.definition.specs.Rows.{table, chart, state, transition, entry, invoke, datum, parameter, member, Class, free, text_role, columns_of}

-- Where a text column's text comes from.
--   absent    none
--   value     a key's value; absent without it
--   filled    a key's value if it has a byte; else absent
--   given     a key's value; without it the column stays as it was
--   word      one of the words of a key's value
--   trimmed   the event's trimmed text; absent without one
--   content   the event's trimmed text; without one a present text of no bytes
--   quoted    an assign's text in quotes; absent without one
pub data Source : Type 0 where
  absent trimmed content quoted : Source
  value filled given word : ℕ → Source

pub record Filling : Type 0 where
  pub column : ℕ
  pub source : Source

infix 90 ◌⇐◌
abbrev pub ◌⇐◌ : ℕ → Source → Filling
c ⇐ s = record { column = c; source = s }

-- A row that an element makes or rewrites. Text columns that are not named stay as they were; in a new row they are absent.
pub record Shape : Type 0 where
  pub into : ℕ
  pub texts : List Filling

abbrev pub shape : ℕ → List Filling → Shape
shape t fs = record { into = t; texts = fs }

pub record Shaped : Type 0 where
  pub element : ℕ
  pub shapes : List Shape

abbrev pub shaped : ℕ → List Shape → Shaped
shaped g hs = record { element = g; shapes = hs }

-- A value in the Rust's Data or Option: absent and empty are two things. In a String of the Rust they are one: `filled`.
abbrev of_send : List Filling
of_send =
    entry.event ⇐ value key.event
    ∷ entry.eventexpr ⇐ value key.eventexpr
    ∷ entry.target ⇐ value key.target
    ∷ entry.targetexpr ⇐ value key.targetexpr
    ∷ entry.type ⇐ value key.type
    ∷ entry.typeexpr ⇐ value key.typeexpr
    ∷ entry.id ⇐ filled key.id
    ∷ entry.idlocation ⇐ filled key.idlocation
    ∷ entry.delayexpr ⇐ value key.delayexpr
    ∷ []

abbrev of_invoke : List Filling
of_invoke =
    invoke.type ⇐ value key.type
    ∷ invoke.typeexpr ⇐ value key.typeexpr
    ∷ invoke.src ⇐ value key.src
    ∷ invoke.srcexpr ⇐ value key.srcexpr
    ∷ invoke.id ⇐ filled key.id
    ∷ invoke.idlocation ⇐ filled key.idlocation
    ∷ []

abbrev of_chart : List Filling
of_chart = chart.name ⇐ given key.name ∷ chart.datamodel ⇐ given key.datamodel ∷ chart.version ⇐ given key.version ∷ []

-- An element's first shape is 0, its second 1, and so on.
unfoldable pub shapes_by_element : List Shaped
shapes_by_element =
    shaped tag.scxml (shape table.chart of_chart ∷ [])
    ∷ shaped tag.transition (shape table.transitions (transition.cond ⇐ value key.cond ∷ []) ∷ shape table.members (member.word ⇐ word key.event ∷ []) ∷ [])
    ∷ shaped tag.donedata (shape table.states (state.text ⇐ absent ∷ state.expr ⇐ absent ∷ []) ∷ [])
    ∷ shaped tag.datum (
    shape table.datums (datum.id ⇐ value key.id ∷ datum.expr ⇐ value key.expr ∷ datum.text ⇐ absent ∷ [])
    ∷ shape table.datums (datum.id ⇐ value key.id ∷ datum.expr ⇐ absent ∷ datum.text ⇐ content ∷ [])
    ∷ [])
    ∷ shaped tag.invoke (shape table.invokes of_invoke ∷ shape table.members (member.word ⇐ word key.namelist ∷ []) ∷ [])
    ∷ shaped tag.send (shape table.entries of_send ∷ shape table.members (member.word ⇐ word key.namelist ∷ []) ∷ [])
    ∷ shaped tag.content (
    shape table.entries (entry.text ⇐ trimmed ∷ entry.expr ⇐ value key.expr ∷ [])
    ∷ shape table.invokes (invoke.text ⇐ trimmed ∷ invoke.expr ⇐ value key.expr ∷ [])
    ∷ shape table.states (state.text ⇐ trimmed ∷ state.expr ⇐ value key.expr ∷ [])
    ∷ [])
    ∷ shaped tag.param (
    shape table.parameters (
    parameter.name ⇐ value key.name ∷ parameter.expr ⇐ filled key.expr ∷ parameter.location ⇐ filled key.location ∷ [])
    ∷ [])
    ∷ shaped tag.if (shape table.entries (entry.cond ⇐ value key.cond ∷ []) ∷ [])
    ∷ shaped tag.elseif (shape table.entries (entry.cond ⇐ value key.cond ∷ []) ∷ [])
    ∷ shaped tag.foreach (
    shape table.entries (entry.array ⇐ value key.array ∷ entry.item ⇐ value key.item ∷ entry.index ⇐ filled key.index ∷ [])
    ∷ [])
    ∷ shaped tag.script (shape table.entries (entry.text ⇐ content ∷ []) ∷ [])
    ∷ shaped tag.log (shape table.entries (entry.label ⇐ filled key.label ∷ entry.expr ⇐ value key.expr ∷ []) ∷ [])
    ∷ shaped tag.raise (shape table.entries (entry.event ⇐ value key.event ∷ []) ∷ [])
    ∷ shaped tag.cancel (shape table.entries (entry.sendid ⇐ filled key.sendid ∷ entry.sendidexpr ⇐ value key.sendidexpr ∷ []) ∷ [])
    ∷ shaped tag.assign (
    shape table.entries (entry.location ⇐ value key.location ∷ entry.expr ⇐ value key.expr ∷ [])
    ∷ shape table.entries (entry.location ⇐ value key.location ∷ entry.text ⇐ quoted ∷ [])
    ∷ [])
    ∷ []

unfoldable pub shapes_in : List Shaped → ℕ → List Shape
shapes_in [] g = []
shapes_in (s ∷ ss) g = elim (eqb s.element g) [ true ↦ s.shapes | false ↦ shapes_in ss g ]

-- A number that is no shape's writes nothing: there is no such table.
unfoldable pub no_shape : Shape
no_shape = shape 99 []

unfoldable pub shape_at : ℕ → ℕ → Shape
unfolding shapes_in shapes_by_element no_shape
shape_at g i = get_or (shapes_in shapes_by_element g) i no_shape

-- ---- the test: every source has the role of its column's class

unfoldable pub rank : Role → ℕ
rank name = 0
rank names = 1
rank masked = 2
rank plain = 3

unfoldable pub same_role : Role → Role → Bool
unfolding rank
same_role r q = eqb (rank r) (rank q)

unfoldable pub source_fits : ℕ → Role → Source → Bool
unfolding same_role role_of
source_fits g r absent = true
source_fits g r trimmed = same_role r plain
source_fits g r content = same_role r plain
source_fits g r quoted = same_role r plain
source_fits g r (value k) = same_role r (role_of g k)
source_fits g r (filled k) = same_role r (role_of g k)
source_fits g r (given k) = same_role r (role_of g k)
source_fits g r (word k) = same_role r plain && same_role r (role_of g k)

-- A filling is for a text column, and its source has that column's role.
unfoldable pub filling_fits : ℕ → Class → Source → Bool
unfolding text_role source_fits
filling_fits g c s = elim (text_role c) [ some r ↦ source_fits g r s | none ↦ false ]

unfoldable pub texts_fit : ℕ → List Class → List Filling → Bool
unfolding filling_fits
texts_fit g cs [] = true
texts_fit g cs (f ∷ fs) = filling_fits g (get_or cs f.column free) f.source && texts_fit g cs fs

unfoldable pub shapes_fit : ℕ → List Shape → Bool
unfolding texts_fit columns_of
shapes_fit g [] = true
shapes_fit g (h ∷ hs) = texts_fit g (columns_of h.into) h.texts && shapes_fit g hs

unfoldable pub all_fit : List Shaped → Bool
unfolding shapes_fit
all_fit [] = true
all_fit (s ∷ ss) = shapes_fit s.element s.shapes && all_fit ss
