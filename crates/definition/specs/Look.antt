-- Stage 1: the only part that looks at text. It gives numbers: what stands where, words and codes of plain values, the rows of state names.
use Rattle.std.specs.Prelude.{ℕ, zero, suc, ◌+◌, ◌-◌, Bool, true, false, ◌&&◌, ◌||◌, not, List, [], ◌∷◌, ◌++◌, map, length, take, replicate, eqb, ltb}
use Rattle.std.proofs.Math.Option.{Option, none, some}
use Rattle.definition.specs.Text.{same, place_in, lowered, is_true, Span, Piece, event_words, state_words, state_words_at, wildcard, trim, quoted, generated_name}
use Rattle.definition.specs.Elements.{tag, key, Role, name, names, masked, plain, role_of, names_state, key_of, tag_of, codings, words_taken}
use Rattle.definition.specs.Event.{Attribute, Event, kind}
use Rattle.definition.specs.Rows.{Row, Table, table, state, datum, opened, num, Cell, cell_at, text_at, Numbers, table_of, Store, current_state}

-- ---- an event's payload: what an accepted event adds to the text

-- A value with its key's number; or the text, or a generated name.
pub record Load : Type 0 where
  pub key : ℕ
  pub bytes : List ℕ

unfoldable pub value_loads : List Attribute → List Load
unfolding key_of
value_loads [] = []
value_loads (a ∷ ats) = record { key = key_of a.key; bytes = a.value } ∷ value_loads ats

-- An assign's text stands in its quoted form.
unfoldable pub text_loads : ℕ → Option (List ℕ) → List Load
unfolding quoted
text_loads g none = []
text_loads g (some v) =
    elim (eqb g tag.assign) [
      | true ↦ record { key = key.quoted; bytes = quoted v } ∷ []
      | false ↦ record { key = key.text; bytes = v } ∷ []
    ]

unfoldable pub has_load : ℕ → List Load → Bool
has_load k [] = false
has_load k (i ∷ is) = elim (eqb i.key k) [ true ↦ true | false ↦ has_load k is ]

-- "Without `id` the name is `__id` and a count from 1."
unfoldable pub is_generated : ℕ → ℕ → List Load → Bool
unfolding names_state has_load
is_generated k g is = not (eqb k kind.ends) && names_state g && not (has_load key.id is)

unfoldable pub name_loads : Bool → ℕ → List Load
unfolding generated_name
name_loads false n = []
name_loads true n = record { key = key.id; bytes = generated_name n } ∷ []

unfoldable pub payload : List Load → List ℕ
payload [] = []
payload (i ∷ is) = i.bytes ++ payload is

-- THE TEXT CHARGE of an event: "the lengths of all values, texts (assign: twice and two more) and generated names." Here the text's part of it.
unfoldable pub text_charge : ℕ → Option (List ℕ) → ℕ
text_charge g none = 0
text_charge g (some v) = elim (eqb g tag.assign) [ true ↦ length v + length v + 2 | false ↦ length v ]

-- ---- what is read of a value

-- The value of one key, and where it lies. words: of a plain value that is a list of words, or of a text its one trimmed part.
pub record Field : Type 0 where
  pub key : ℕ
  pub cell : Cell
  pub code : ℕ
  pub words : List Cell

unfoldable pub span_of : Piece → Span
span_of p = record { off = p.off; len = length p.word }

unfoldable pub is_namelist : ℕ → ℕ → Bool
is_namelist g k = (eqb g tag.send || eqb g tag.invoke) && eqb k key.namelist

unfoldable pub is_events : ℕ → ℕ → Bool
is_events g k = eqb g tag.transition && eqb k key.event

-- "Event words split and contents trim at bytes 9 to 13 and 32; targets, `initial` and namelists split at 9, 10, 12, 13, 32 only."
unfoldable pub word_spans : ℕ → ℕ → List ℕ → List Span
unfolding is_events is_namelist event_words state_words span_of trim
word_spans g k v =
    elim (is_events g k) [
      | true ↦ map span_of (event_words v)
      | false ↦ elim (is_namelist g k) [ true ↦ map span_of (state_words v) | false ↦ elim (eqb k key.text) [ true ↦ trim v ∷ [] | false ↦ [] ] ]
    ]

unfoldable pub one_if : Bool → ℕ
one_if true = 1
one_if false = 0

unfoldable pub code_of : ℕ → ℕ → List ℕ → ℕ
unfolding is_events wildcard event_words is_true one_if place_in words_taken codings lowered
code_of g k v =
    elim (is_events g k) [
      | true ↦ one_if (wildcard (event_words v))
      | false ↦ elim (eqb k key.autoforward) [ true ↦ one_if (is_true v) | false ↦ place_in (words_taken codings g k) (lowered v) ]
    ]

unfoldable pub shift : ℕ → Span → Cell
shift o sp = record { at = suc (o + sp.off); len = sp.len }

-- Of a name or a masked text only place and length are read here.
unfoldable pub words_by_role : Role → ℕ → ℕ → ℕ → List ℕ → List Cell
unfolding shift word_spans
words_by_role name g o k v = []
words_by_role names g o k v = []
words_by_role masked g o k v = []
words_by_role plain g o k v = map (shift o) (word_spans g k v)

unfoldable pub code_by_role : Role → ℕ → ℕ → List ℕ → ℕ
unfolding code_of
code_by_role name g k v = 0
code_by_role names g k v = 0
code_by_role masked g k v = 0
code_by_role plain g k v = code_of g k v

unfoldable pub field_by : Role → ℕ → ℕ → Load → Field
unfolding code_by_role words_by_role
field_by r g o i =
    record {
      key = i.key;
      cell = record { at = suc o; len = length i.bytes };
      code = code_by_role r g i.key i.bytes;
      words = words_by_role r g o i.key i.bytes;
    }

-- The payload begins at o.
unfoldable pub fields_from : ℕ → ℕ → List Load → List Field
unfolding field_by role_of
fields_from g o [] = []
fields_from g o (i ∷ is) = field_by (role_of g i.key) g o i ∷ fields_from g (o + length i.bytes) is

-- ---- state names

-- The names that a value brings, by its role, with their places in the text.
unfoldable pub own_name : Role → ℕ → List ℕ → List Piece
own_name name o v = record { off = o; word = v } ∷ []
own_name names o v = []
own_name masked o v = []
own_name plain o v = []

unfoldable pub word_names : Role → ℕ → List ℕ → List Piece
unfolding state_words_at
word_names name o v = []
word_names names o v = state_words_at o v
word_names masked o v = []
word_names plain o v = []

unfoldable pub names_from : (Role → ℕ → List ℕ → List Piece) → ℕ → ℕ → List Load → List Piece
unfolding role_of
names_from f g o [] = []
names_from f g o (i ∷ is) = f (role_of g i.key) o i.bytes ++ names_from f g (o + length i.bytes) is

-- The element's own name stands first, then the words of `initial` or `target`, in order.
unfoldable pub names_brought : ℕ → ℕ → List Load → List Piece
unfolding names_from own_name word_names
names_brought g o is = names_from own_name g o is ++ names_from word_names g o is

-- The place of the state with this name, from 0; the number of states if there is none.
unfoldable pub find_name : List ℕ → List Cell → List ℕ → ℕ
unfolding same text_at
find_name t [] w = 0
find_name t (c ∷ cs) w = elim (same (text_at t c) w) [ true ↦ 0 | false ↦ suc (find_name t cs w) ]

unfoldable pub piece_cell : Piece → Cell
piece_cell p = record { at = suc p.off; len = length p.word }

-- "A name already known gives the same state": the cell joins the names only if it is new.
unfoldable pub enter : List Cell → ℕ → Cell → List Cell
enter cs k c = elim (ltb k (length cs)) [ true ↦ cs | false ↦ cs ++ c ∷ [] ]

pub record Resolved : Type 0 where
  pub refs : List ℕ
  pub known : List Cell

-- The states' numbers, from 1, for names in order.
unfoldable pub resolve : List ℕ → List Cell → List Piece → Resolved
unfolding find_name enter piece_cell
resolve t cs [] = record { refs = []; known = cs }
resolve t cs (p ∷ ps) =
    let k : ℕ = find_name t cs p.word in
    let r : Resolved = resolve t (enter cs k (piece_cell p)) ps in
    record { refs = suc k ∷ r.refs; known = r.known }

unfoldable pub name_cells : Table → List Cell
unfolding cell_at
name_cells [] = []
name_cells (r ∷ rs) = cell_at r state.name ∷ name_cells rs

-- ---- data by id

unfoldable pub id_in : List Load → List ℕ
id_in [] = []
id_in (i ∷ is) = elim (eqb i.key key.id) [ true ↦ i.bytes | false ↦ id_in is ]

-- "`data` repeated in a state replaces the value in its row": the row's number from 1; the next one if there is none. Other elements' ids are not looked up.
unfoldable pub find_datum : List ℕ → Table → ℕ → List ℕ → ℕ
unfolding same text_at cell_at
find_datum t [] s w = 1
find_datum t (r ∷ rs) s w = elim (eqb (num r datum.state) s && same (text_at t (cell_at r datum.id)) w) [ true ↦ 1 | false ↦ suc (find_datum t rs s w) ]

-- ---- the innermost open name

-- A name as the open elements keep it: a known one by its tag alone.
unfoldable pub kept_name : ℕ → List ℕ → List ℕ
kept_name zero w = w
kept_name (suc g) w = []

unfoldable pub name_row : List ℕ → Row
name_row w = w ++ replicate (64 - length w) 0

-- The name of an open element whose tag is unknown.
unfoldable pub open_name : Row → Row → List ℕ
open_name x n = take (num x opened.length) n

unfoldable pub is_named : Row → Row → ℕ → List ℕ → Bool
unfolding same open_name
is_named x n zero w = eqb (num x opened.tag) 0 && same (open_name x n) w
is_named x n (suc g) w = eqb (num x opened.tag) (suc g)

unfoldable pub is_innermost : Table → Table → ℕ → List ℕ → Bool
unfolding is_named
is_innermost [] ns g w = false
is_innermost (x ∷ xs) [] g w = false
is_innermost (x ∷ []) (n ∷ ns) g w = is_named x n g w
is_innermost (x ∷ y ∷ xs) (n ∷ ns) g w = is_innermost (y ∷ xs) ns g w

-- ---- all of it

pub record Look : Type 0 where
  pub kind : ℕ
  pub tag : ℕ
  pub fields : List Field
  pub refs : List ℕ
  pub known : List Cell
  pub generated : ℕ
  pub charge : ℕ
  pub base : ℕ
  pub found : ℕ
  pub innermost : Bool
  pub name : Row
  pub name_length : ℕ

unfoldable pub loads_of : ℕ → ℕ → Event → List Load
unfolding value_loads text_loads name_loads is_generated
loads_of g n e =
    let vs : List Load = value_loads e.attributes in
    vs ++ text_loads g e.text ++ name_loads (is_generated e.kind g vs) (suc n)

unfoldable pub values_length : List Attribute → ℕ
values_length [] = 0
values_length (a ∷ ats) = length a.value + values_length ats

unfoldable pub event_charge : ℕ → ℕ → Event → ℕ
unfolding values_length text_charge payload name_loads is_generated value_loads
event_charge g n e =
    values_length e.attributes + text_charge g e.text + length (payload (name_loads (is_generated e.kind g (value_loads e.attributes)) (suc n)))

-- The text as it would be after the event.
unfoldable pub text_after : Store → Event → List ℕ
unfolding payload loads_of tag_of
text_after s e = s.text ++ payload (loads_of (tag_of e.name) s.numbers.names e)

unfoldable pub look : Store → Event → Look
unfolding tag_of loads_of fields_from resolve name_cells names_brought one_if is_generated value_loads event_charge find_datum id_in current_state is_innermost kept_name name_row payload
look s e =
    let g : ℕ = tag_of e.name in
    let n : Numbers = s.numbers in
    let is : List Load = loads_of g n.names e in
    let t : List ℕ = s.text ++ payload is in
    let o : ℕ = length s.text in
    let r : Resolved = resolve t (name_cells (table_of n table.states)) (names_brought g o is) in
    record {
      kind = e.kind;
      tag = g;
      fields = fields_from g o is;
      refs = r.refs;
      known = r.known;
      generated = one_if (is_generated e.kind g (value_loads e.attributes));
      charge = event_charge g n.names e;
      base = o;
      found = elim (eqb g tag.datum) [ true ↦ find_datum t (table_of n table.datums) (current_state n) (id_in is) | false ↦ 0 ];
      innermost = is_innermost (table_of n table.opened) (table_of n table.open_names) g e.name;
      name = name_row (kept_name g e.name);
      name_length = length (kept_name g e.name);
    }
