-- A chart as a list of numbers, row by row and list by list, in the order of the judge's dump (tests/rufsm/README.md); for comparison with the Rust.
use Prim.Native.Nat.{ℕ, zero, suc}
use Rattle.std.specs.Prelude.{Bool, ◌&&◌, length, ltb}
use Rattle.std.proofs.Math.Bool.{true, false}
use mathlib.Core.List.{List, [], ◌∷◌, ◌++◌, map}
use Rattle.std.proofs.Math.ListN.{get_or}
use Rattle.std.proofs.Math.Dec.{eqb, leb}
use Rattle.definition.specs.Elements.{element_names}
use Rattle.definition.specs.Rows.{
  Row,
  Table,
  table,
  entry_kind,
  owner_kind,
  list,
  chart,
  state,
  transition,
  region,
  entry,
  invoke,
  datum,
  parameter,
  member,
  opened,
  open_region,
  num,
  Cell,
  cell_at,
  text_at,
  table_of,
  Store,
  listed,
  values_of,
}
use Rattle.definition.specs.declared.Position.{Position}
use Rattle.definition.specs.Look.{open_name}
use Rattle.definition.specs.Reader.{position_of}

-- A mark before each row, so that rows of two kinds are never taken for one another.
abbrev mark : record {
  state : ℕ;
  invoke : ℕ;
  datum : ℕ;
  param : ℕ;
  transition : ℕ;
  region : ℕ;
  entry : ℕ;
  position : ℕ;
  opens : ℕ;
  assigns : ℕ;
}
mark =
    record {
      state = 9001;
      invoke = 9002;
      datum = 9003;
      param = 9004;
      transition = 9005;
      region = 9006;
      entry = 9007;
      position = 9008;
      opens = 9009;
      assigns = 9010;
    }

unfoldable pub with_length : List ℕ → List ℕ
with_length v = length v ∷ v

unfoldable pub concat : List (List ℕ) → List ℕ
concat [] = []
concat (x ∷ xs) = x ++ concat xs

unfoldable pub word_list : List (List ℕ) → List ℕ
unfolding concat with_length
word_list ws = length ws ∷ concat (map with_length ws)

-- 0 is absent.
unfoldable pub cell_text : List ℕ → Cell → List ℕ
unfolding text_at with_length
cell_text t c = elim (eqb c.at 0) [ true ↦ 0 ∷ [] | false ↦ 1 ∷ with_length (text_at t c) ]

module _ (s : Store) where
  unfoldable pub rows_of : ℕ → Table
  rows_of k = table_of s.numbers k

  unfoldable pub txt : Row → ℕ → List ℕ
  unfolding cell_text cell_at
  txt r c = cell_text s.text (cell_at r c)

  unfoldable pub txts : Row → List ℕ → List ℕ
  unfolding txt
  txts r [] = []
  txts r (c ∷ cs) = txt r c ++ txts r cs

  unfoldable pub nums : Row → List ℕ → List ℕ
  nums r [] = []
  nums r (c ∷ cs) = num r c ∷ nums r cs

  unfoldable pub numbers_in : ℕ → ℕ → List ℕ
  unfolding with_length values_of listed rows_of
  numbers_in l o = with_length (values_of (listed l o (rows_of table.members)))

  unfoldable pub member_text : Row → List ℕ
  unfolding text_at cell_at
  member_text m = text_at s.text (cell_at m member.word)

  unfoldable pub words_in : ℕ → ℕ → List ℕ
  unfolding word_list member_text listed rows_of
  words_in l o = word_list (map member_text (listed l o (rows_of table.members)))

  -- ---- parameters, of one owner from the number low on

  unfoldable pub param_row : Row → List ℕ
  unfolding txts
  param_row r = mark.param ∷ txts r (parameter.name ∷ parameter.expr ∷ parameter.location ∷ [])

  unfoldable pub params_from : ℕ → ℕ → ℕ → ℕ → Table → List ℕ
  unfolding param_row
  params_from k o low i [] = []
  params_from k o low i (r ∷ rs) =
      elim (eqb (num r parameter.kind) k && eqb (num r parameter.owner) o && leb low i) [
        | true ↦ param_row r ++ params_from k o low (suc i) rs
        | false ↦ params_from k o low (suc i) rs
      ]

  unfoldable pub params : ℕ → ℕ → ℕ → List ℕ
  unfolding params_from rows_of
  params k o low = params_from k o low 1 (rows_of table.parameters)

  unfoldable pub state_name : ℕ → List ℕ
  unfolding txt rows_of
  state_name zero = 1 ∷ 0 ∷ []
  state_name (suc i) = txt (get_or (rows_of table.states) i []) state.name

  -- ---- states

  -- Without a donedata there is no content and no parameter either.
  unfoldable pub donedata : ℕ → Row → List ℕ
  unfolding txts params
  donedata i r =
      elim (num r state.donedata) [ zero ↦ 0 | suc m ↦ 1 ] ∷ num r state.has_content ∷ txts r (state.text ∷ state.expr ∷ [])
      ++ params owner_kind.donedata i (num r state.donedata)

  unfoldable pub invoke_row : ℕ → ℕ → Row → List ℕ
  unfolding nums txts params words_in state_name
  invoke_row k i r =
      (mark.invoke ∷ k ∷ txts r (invoke.type ∷ invoke.typeexpr ∷ invoke.src ∷ invoke.srcexpr ∷ invoke.id ∷ invoke.idlocation ∷ []))
      ++ state_name (num r invoke.state) ++ nums r (invoke.autoforward ∷ invoke.finalize ∷ []) ++ words_in list.invoke_names i
      ++ (num r invoke.has_content ∷ txts r (invoke.text ∷ invoke.expr ∷ [])) ++ params owner_kind.invoke i 0

  -- k counts the state's invokes, i all.
  unfoldable pub invokes_of : ℕ → ℕ → ℕ → Table → List ℕ
  unfolding invoke_row
  invokes_of o k i [] = []
  invokes_of o k i (r ∷ rs) =
      elim (eqb (num r invoke.state) o) [ true ↦ invoke_row k i r ++ invokes_of o (suc k) (suc i) rs | false ↦ invokes_of o k (suc i) rs ]

  unfoldable pub before : List ℕ → List ℕ → Bool
  before [] ys = true
  before (x ∷ xs) [] = false
  before (x ∷ xs) (y ∷ ys) = elim (ltb x y) [ true ↦ true | false ↦ elim (ltb y x) [ true ↦ false | false ↦ before xs ys ] ]

  unfoldable pub id_of : Row → List ℕ
  unfolding text_at cell_at
  id_of r = text_at s.text (cell_at r datum.id)

  -- The Rust keeps data in a map: sorted by id.
  unfoldable pub sorted : Row → List Row → List Row
  unfolding before id_of
  sorted r [] = r ∷ []
  sorted r (q ∷ qs) = elim (before (id_of r) (id_of q)) [ true ↦ r ∷ q ∷ qs | false ↦ q ∷ sorted r qs ]

  unfoldable pub datums_of : ℕ → Table → List Row
  unfolding sorted
  datums_of o [] = []
  datums_of o (r ∷ rs) = elim (eqb (num r datum.state) o) [ true ↦ sorted r (datums_of o rs) | false ↦ datums_of o rs ]

  -- A value is in one of two columns; the other is absent.
  unfoldable pub datum_row : Row → List ℕ
  unfolding txts
  datum_row r = mark.datum ∷ txts r (datum.id ∷ datum.expr ∷ datum.text ∷ [])

  unfoldable pub state_row : ℕ → Row → List ℕ
  unfolding txt nums numbers_in donedata invokes_of datums_of datum_row concat rows_of
  state_row i r =
      (mark.state ∷ i ∷ txt r state.name)
      ++ nums r (state.doc ∷ state.initial ∷ state.parent ∷ state.parallel ∷ state.final ∷ state.history ∷ []) ++ numbers_in list.children i
      ++ numbers_in list.history i ++ numbers_in list.onentry i ++ numbers_in list.onexit i ++ numbers_in list.transitions i ++ donedata i r
      ++ invokes_of i 1 1 (rows_of table.invokes) ++ concat (map datum_row (datums_of i (rows_of table.datums)))

  unfoldable pub states_from : ℕ → Table → List ℕ
  unfolding state_row
  states_from i [] = []
  states_from i (r ∷ rs) = state_row i r ++ states_from (suc i) rs

  -- ---- transitions and regions

  unfoldable pub transition_row : Row → List ℕ
  unfolding nums txt numbers_in words_in
  transition_row r =
      (mark.transition ∷ nums r (transition.number ∷ transition.doc ∷ transition.source ∷ transition.type ∷ transition.wildcard ∷ []))
      ++ txt r transition.cond ++ (num r transition.content ∷ numbers_in list.targets (num r transition.number))
      ++ words_in list.events (num r transition.number)

  unfoldable pub send_row : ℕ → Row → List ℕ
  unfolding txts state_name words_in params
  send_row i r =
      txts r (
      entry.event ∷ entry.eventexpr ∷ entry.target ∷ entry.targetexpr ∷ entry.type ∷ entry.typeexpr ∷ entry.id ∷ entry.idlocation ∷ entry.delayexpr ∷ [])
      ++ state_name (num r entry.state) ++ words_in list.send_names i ++ (num r entry.has_content ∷ txts r (entry.text ∷ entry.expr ∷ []))
      ++ params owner_kind.send i 0

  -- An assign's value, in one of two columns; which one, `assign_columns` shows.
  unfoldable pub either_text : Row → ℕ → ℕ → List ℕ
  unfolding txt
  either_text r c d = elim (eqb (num r c) 0) [ true ↦ txt r d | false ↦ txt r c ]

  unfoldable pub entry_row : ℕ → Row → List ℕ
  unfolding txts nums send_row either_text
  entry_row i r =
      get_or (
      []
      ∷ (txts r (entry.cond ∷ []) ++ nums r (entry.content ∷ entry.else ∷ []))
      ∷ txts r (entry.text ∷ [])
      ∷ txts r (entry.label ∷ entry.expr ∷ [])
      ∷ (txts r (entry.array ∷ entry.item ∷ entry.index ∷ []) ++ nums r (entry.content ∷ []))
      ∷ send_row i r
      ∷ txts r (entry.event ∷ [])
      ∷ txts r (entry.sendid ∷ entry.sendidexpr ∷ [])
      ∷ (txts r (entry.location ∷ []) ++ either_text r entry.expr entry.text)
      ∷ []) (num r entry.kind) []

  unfoldable pub entries_of : ℕ → ℕ → Table → List ℕ
  unfolding entry_row
  entries_of g i [] = []
  entries_of g i (r ∷ rs) =
      elim (eqb (num r entry.region) g) [
        | true ↦ (mark.entry ∷ num r entry.kind ∷ entry_row i r) ++ entries_of g (suc i) rs
        | false ↦ entries_of g (suc i) rs
      ]

  unfoldable pub region_row : Row → List ℕ
  unfolding entries_of rows_of
  region_row r = mark.region ∷ num r region.number ∷ entries_of (num r region.number) 1 (rows_of table.entries)

  -- ---- the reading position

  unfoldable pub tag_name : Row → Row → List ℕ
  unfolding element_names open_name
  tag_name x n = elim (num x opened.tag) [ zero ↦ open_name x n | suc g ↦ get_or element_names g [] ]

  unfoldable pub open_rows : Table → Table → List ℕ
  unfolding tag_name nums with_length
  open_rows [] ns = []
  open_rows (x ∷ xs) [] = []
  open_rows (x ∷ xs) (n ∷ ns) = (mark.opens ∷ with_length (tag_name x n)) ++ nums x (opened.state ∷ opened.transition ∷ []) ++ open_rows xs ns

  unfoldable pub column_of : ℕ → Table → List ℕ
  column_of c [] = []
  column_of c (r ∷ rs) = num r c ∷ column_of c rs

  unfoldable pub open_tags : Table → List (List ℕ)
  unfolding element_names
  open_tags [] = []
  open_tags (r ∷ rs) = elim (num r open_region.tag) [ zero ↦ [] | suc g ↦ get_or element_names g [] ] ∷ open_tags rs

  -- How many rows of each table are in use, the current region, what is drawn from the counters, and the text charge, as the position that is given back
  -- has them. How much text is in use the papers leave free.
  unfoldable pub counted : List ℕ
  unfolding position_of
  counted =
      let p : Position = position_of s in
      p.opened ∷ p.states ∷ p.transitions ∷ p.regions ∷ p.entries ∷ p.invokes ∷ p.datums ∷ p.parameters ∷ p.members ∷ p.open_regions ∷ p.current.0
      ∷ p.ids ∷ p.docs ∷ p.names ∷ p.charge ∷ []

  unfoldable pub position : List ℕ
  unfolding counted open_rows rows_of with_length column_of word_list open_tags
  position =
      (mark.position ∷ counted) ++ open_rows (rows_of table.opened) (rows_of table.open_names)
      ++ with_length (column_of open_region.region (rows_of table.open_regions)) ++ word_list (open_tags (rows_of table.open_regions))

  -- ---- what the judge's dump does not show

  unfoldable pub presence : Row → ℕ → ℕ
  presence r c = elim (num r c) [ zero ↦ 0 | suc i ↦ 1 ]

  -- The assigns in order of creation: whether the column of expr and that of the text are present.
  unfoldable pub assign_columns : Table → List ℕ
  unfolding presence
  assign_columns [] = []
  assign_columns (r ∷ rs) =
      elim (eqb (num r entry.kind) entry_kind.assign) [
        | true ↦ presence r entry.expr ∷ presence r entry.text ∷ assign_columns rs
        | false ↦ assign_columns rs
      ]

  -- ---- the whole

  unfoldable pub dump : List ℕ
  unfolding nums txts rows_of states_from transition_row region_row concat position assign_columns
  dump =
      let r : Row = get_or (rows_of table.chart) 0 [] in
      nums r (chart.root ∷ chart.script ∷ chart.binding ∷ []) ++ txts r (chart.name ∷ chart.datamodel ∷ chart.version ∷ [])
      ++ states_from 1 (rows_of table.states) ++ concat (map transition_row (rows_of table.transitions))
      ++ concat (map region_row (rows_of table.regions)) ++ position ++ mark.assigns ∷ assign_columns (rows_of table.entries)
