-- Document 01, 'Chart rules and limits': question 2. "Do the rows keep the chart rules, do the open rows name existing rows, and do the reading position's
-- counters and text charge cover all rows and text stored, and keep the limits?"
use Rattle.std.specs.Prelude.{ℕ, zero, suc, ◌+◌, Bool, true, false, ◌&&◌, ◌||◌, not, List, [], ◌∷◌, ◌++◌, length, get_or, eqb, leb, ltb}
use Rattle.definition.specs.declared.Limits.{Limits}
use Rattle.definition.specs.Elements.{tag, tag_of, among}
use Rattle.definition.specs.Rows.{Row, Table, table, choices, entry, opened, open_region, Class, free, own, doc_id, above, mark, len, code, row, existing, text, by, schema, num, Cell, text_at, Numbers, table_of, Store}
use Rattle.definition.specs.Look.{find_name, name_cells, open_name}
use Rattle.definition.specs.Actions.{place_of_number}

-- ---- rows that exist

-- Transitions and regions have numbers of their own; other rows are numbered by creation from 1.
unfoldable pub has_own_number : ℕ → Bool
unfolding among
has_own_number t = among t (table.transitions ∷ table.regions ∷ [])

unfoldable pub is_row : Numbers → ℕ → ℕ → Bool
unfolding has_own_number place_of_number
is_row n t i =
    elim (has_own_number t) [
      | true ↦ not (eqb i 0) && leb 1 (place_of_number (table_of n t) i)
      | false ↦ leb 1 i && leb i (length (table_of n t))
    ]

unfoldable pub is_row_or_zero : Numbers → ℕ → ℕ → Bool
unfolding is_row
is_row_or_zero n t i = eqb i 0 || is_row n t i

-- ---- a column's value keeps its class

-- 0 0 is absent; any other text lies inside the text stored.
unfoldable pub is_inside : ℕ → ℕ → ℕ → Bool
is_inside used zero k = eqb k 0
is_inside used (suc i) k = leb (i + k) used

unfoldable pub following : Row → ℕ
following [] = 0
following (v ∷ vs) = v

unfoldable pub chosen : Row → Class → Class
unfolding choices
chosen r (by c k) = get_or (get_or choices k []) (num r c) free
chosen r free = free
chosen r own = own
chosen r doc_id = doc_id
chosen r above = above
chosen r mark = mark
chosen r len = len
chosen r (code a b) = code a b
chosen r (row t) = row t
chosen r (existing t) = existing t
chosen r (text q) = text q

-- v is the column's value in the row r, vs what follows it there.
unfoldable pub keeps : Store → Row → Class → ℕ → Row → Bool
unfolding is_row is_row_or_zero is_inside following
keeps s r free v vs = true
keeps s r own v vs = leb 1 v && leb v s.numbers.ids
keeps s r doc_id v vs = leb v s.numbers.docs
keeps s r above v vs = eqb v 0 || (is_row s.numbers table.regions v && ltb (num r entry.region) v)
keeps s r mark v vs = leb v (suc (length (table_of s.numbers table.parameters)))
keeps s r len v vs = true
keeps s r (code a b) v vs = leb a v && leb v b
keeps s r (row t) v vs = is_row_or_zero s.numbers t v
keeps s r (existing t) v vs = is_row s.numbers t v
keeps s r (text q) v vs = is_inside (length s.text) v (following vs)
keeps s r (by c k) v vs = true

unfoldable pub columns_keep : Store → Row → List Class → Row → Bool
unfolding keeps chosen
columns_keep s r [] [] = true
columns_keep s r [] (v ∷ vs) = false
columns_keep s r (c ∷ cs) [] = false
columns_keep s r (c ∷ cs) (v ∷ vs) = elim (keeps s r (chosen r c) v vs) [ true ↦ columns_keep s r cs vs | false ↦ false ]

unfoldable pub rows_keep : Store → List Class → Table → Bool
unfolding columns_keep
rows_keep s cs [] = true
rows_keep s cs (r ∷ rs) = elim (columns_keep s r cs r) [ true ↦ rows_keep s cs rs | false ↦ false ]

unfoldable pub tables_keep : Store → List (List Class) → List Table → Bool
unfolding rows_keep
tables_keep s [] [] = true
tables_keep s [] (t ∷ ts) = false
tables_keep s (cs ∷ css) [] = false
tables_keep s (cs ∷ css) (t ∷ ts) = elim (rows_keep s cs t) [ true ↦ tables_keep s css ts | false ↦ false ]

-- ---- "Names are distinct; state i's name leads to i."

-- i is the number of states before these.
unfoldable pub names_lead : List ℕ → List Cell → ℕ → List Cell → Bool
unfolding find_name text_at
names_lead t all i [] = true
names_lead t all i (c ∷ cs) = elim (eqb (find_name t all (text_at t c)) i) [ true ↦ names_lead t all (suc i) cs | false ↦ false ]

unfoldable pub names_distinct : Store → Bool
unfolding names_lead name_cells
names_distinct s = let cs : List Cell = name_cells (table_of s.numbers table.states) in names_lead s.text cs 0 cs

-- ---- numbers of transitions and regions

-- They rise along a table.
unfoldable pub rises : ℕ → Table → Bool
rises low [] = true
rises low (r ∷ rs) = elim (ltb low (num r 0)) [ true ↦ rises (num r 0) rs | false ↦ false ]

unfoldable pub none_in : Table → Table → Bool
unfolding place_of_number
none_in us [] = true
none_in us (r ∷ rs) = elim (eqb (place_of_number us (num r 0)) 0) [ true ↦ none_in us rs | false ↦ false ]

-- No number is both a transition's and a region's.
unfoldable pub numbers_fit : Numbers → Bool
unfolding rises none_in
numbers_fit n =
    rises 0 (table_of n table.transitions) && rises 0 (table_of n table.regions) && none_in (table_of n table.regions) (table_of n table.transitions)

-- ---- open elements

unfoldable pub unknown_fits : Limits → Row → Row → Bool
unfolding open_name tag_of
unknown_fits L x n =
    leb 1 (num x opened.length) && leb (num x opened.length) L.name && eqb (tag_of (open_name x n)) 0

-- An open unknown name has 1 to 64 bytes and is no known name.
unfoldable pub open_names_fit : Limits → Table → Table → Bool
unfolding unknown_fits
open_names_fit L [] [] = true
open_names_fit L [] (n ∷ ns) = false
open_names_fit L (x ∷ xs) [] = false
open_names_fit L (x ∷ xs) (n ∷ ns) = elim (not (eqb (num x opened.tag) 0) || unknown_fits L x n) [ true ↦ open_names_fit L xs ns | false ↦ false ]

unfoldable pub is_block : ℕ → Bool
unfolding among
is_block g = among g (tag.if ∷ tag.foreach ∷ [])

-- How many rows have if or foreach in a column.
unfoldable pub blocks_in : ℕ → Table → ℕ
unfolding is_block
blocks_in c [] = 0
blocks_in c (r ∷ rs) = elim (is_block (num r c)) [ true ↦ suc (blocks_in c rs) | false ↦ blocks_in c rs ]

-- An open region is an if's or a foreach's, or an elseif's directly above an if's; g is the tag below.
unfoldable pub open_tags_fit : ℕ → Table → Bool
unfolding is_block
open_tags_fit g [] = true
open_tags_fit g (r ∷ rs) =
    let h : ℕ = num r open_region.tag in
    elim (is_block h || (eqb h tag.elseif && eqb g tag.if)) [ true ↦ open_tags_fit h rs | false ↦ false ]

unfoldable pub open_regions_fit : Numbers → Bool
unfolding open_tags_fit blocks_in
open_regions_fit n =
    open_tags_fit 0 (table_of n table.open_regions)
    && leb (blocks_in open_region.tag (table_of n table.open_regions)) (blocks_in opened.tag (table_of n table.opened))

-- ---- limits

-- The limit of each table's rows; the chart has one row.
unfoldable pub chart_limits : Limits → List ℕ
chart_limits L = 1 ∷ L.states ∷ L.transitions ∷ L.regions ∷ L.entries ∷ L.invokes ∷ L.datums ∷ L.parameters ∷ L.members ∷ []

-- Question 7 keeps the open elements; two open regions for each are enough.
unfoldable pub open_limits : Limits → List ℕ
open_limits L = L.opened ∷ L.opened ∷ (L.opened + L.opened) ∷ []

unfoldable pub table_limits : Limits → List ℕ
unfolding chart_limits open_limits
table_limits L = chart_limits L ++ open_limits L

unfoldable pub all_within : List ℕ → List Table → Bool
all_within [] ts = true
all_within (m ∷ ms) [] = true
all_within (m ∷ ms) (t ∷ ts) = elim (leb (length t) m) [ true ↦ all_within ms ts | false ↦ false ]

-- "65,535 numbers drawn from each counter (doc ids and generated names too)"; "text charge, at most 65,535".
unfoldable pub counters_within : Limits → Numbers → Bool
counters_within L n = leb n.ids L.drawn && leb n.docs L.drawn && leb n.names L.drawn && leb n.charge L.charge

-- "Would the chart stay within the limits?" Question 15 asks this of the chart after the event.
unfoldable pub within_limits : Limits → Numbers → Bool
unfolding all_within chart_limits counters_within
within_limits L n = all_within (chart_limits L) n.tables && counters_within L n

-- ---- the rules, one list

unfoldable pub keeps_rules : Limits → Store → Bool
unfolding all_within table_limits counters_within tables_keep schema names_distinct numbers_fit open_names_fit open_regions_fit is_row_or_zero
keeps_rules L s =
    let n : Numbers = s.numbers in
    elim (all_within (table_limits L) n.tables && counters_within L n && leb (length s.text) n.charge) [
      | false ↦ false
      | true ↦
          tables_keep s schema n.tables && names_distinct s && numbers_fit n && open_names_fit L (table_of n table.opened) (table_of n table.open_names) && open_regions_fit n
          && is_row_or_zero n table.regions n.current
    ]
