-- A made-up store that keeps every rule, with a row of each kind and a member of each list, and junk beyond its rows and its text. Limits are small, so that
-- its slices are.
use Rattle.std.specs.Prelude.{ℕ, suc, List, [], ◌∷◌, ◌++◌, map, replicate}
use Rattle.definition.specs.Text.{str}
use Rattle.definition.specs.Elements.{tag}
use Rattle.definition.specs.Rows.{
  Row,
  Table,
  table,
  entry_kind,
  owner_kind,
  list,
  chart,
  state,
  transition,
  region,
  entry,
  invoke,
  datum,
  parameter,
  member,
  opened,
  open_region,
  blank,
}
use Rattle.definition.specs.Change.{Put, ◌≔◌}
use Rattle.cases.specs.Made.{Made, made}

-- A text column's two numbers: the text begins at i, from 1, and has n bytes.
abbrev pub lies : ℕ → ℕ → ℕ → List Put
lies c i n = c ≔ i ∷ suc c ≔ n ∷ []

-- a b c d e f g h i j k l
abbrev text : List ℕ
text = str "abcdefghijkl"

abbrev pub chart_row : Row
chart_row = made table.chart ((chart.root ≔ 1 ∷ chart.script ≔ 5 ∷ chart.binding ≔ 1 ∷ []) ++ lies chart.name 1 2)

-- State 2 has a second donedata: the parameter 1 has left, the parameter 2 is its own.
abbrev pub states : Table
states =
    made table.states (lies state.name 1 1 ++ state.doc ≔ 1 ∷ state.initial ≔ 1 ∷ [])
    ∷ made table.states (
    lies state.name 2 1 ++ (state.doc ≔ 2 ∷ state.parent ≔ 1 ∷ state.final ≔ 1 ∷ state.donedata ≔ 2 ∷ state.has_content ≔ 1 ∷ []) ++ lies state.text 3 1)
    ∷ []

abbrev pub transitions : Table
transitions =
    made table.transitions (
    (transition.number ≔ 1 ∷ transition.doc ≔ 3 ∷ transition.source ≔ 1 ∷ transition.type ≔ 1 ∷ transition.content ≔ 2 ∷ []) ++ lies transition.cond 4 1)
    ∷ made table.transitions (transition.number ≔ 6 ∷ transition.source ≔ 2 ∷ transition.wildcard ≔ 1 ∷ [])
    ∷ []

abbrev pub regions : Table
regions = map (λ (i : ℕ). made table.regions (region.number ≔ i ∷ [])) (2 ∷ 3 ∷ 4 ∷ 5 ∷ 7 ∷ [])

-- The last entry of region 3 is a send; regions 5 and 7 have none.
abbrev pub entries : Table
entries =
    made table.entries (
    (entry.region ≔ 2 ∷ entry.kind ≔ entry_kind.if ∷ entry.content ≔ 3 ∷ entry.else ≔ 4 ∷ []) ++ lies entry.cond 5 1)
    ∷ made table.entries (
    (entry.region ≔ 3 ∷ entry.kind ≔ entry_kind.send ∷ entry.state ≔ 2 ∷ entry.has_content ≔ 1 ∷ []) ++ lies entry.event 6 2 ++ lies entry.text 8 0)
    ∷ made table.entries ((entry.region ≔ 4 ∷ entry.kind ≔ entry_kind.foreach ∷ entry.content ≔ 5 ∷ []) ++ lies entry.array 7 1 ++ lies entry.item 8 1)
    ∷ made table.entries ((entry.region ≔ 4 ∷ entry.kind ≔ entry_kind.log ∷ []) ++ lies entry.expr 8 1)
    ∷ []

abbrev pub invokes : Table
invokes =
    made table.invokes ((invoke.state ≔ 1 ∷ invoke.autoforward ≔ 1 ∷ invoke.finalize ≔ 5 ∷ invoke.has_content ≔ 1 ∷ []) ++ lies invoke.src 9 1) ∷ []

abbrev pub datums : Table
datums = made table.datums ((datum.state ≔ 1 ∷ []) ++ lies datum.id 9 1 ++ lies datum.expr 10 1) ∷ []

abbrev pub parameters : Table
parameters =
    made table.parameters ((parameter.kind ≔ owner_kind.donedata ∷ parameter.owner ≔ 2 ∷ []) ++ lies parameter.name 10 1)
    ∷ made table.parameters ((parameter.kind ≔ owner_kind.donedata ∷ parameter.owner ≔ 2 ∷ []) ++ lies parameter.name 11 1)
    ∷ made table.parameters ((parameter.kind ≔ owner_kind.send ∷ parameter.owner ≔ 2 ∷ []) ++ lies parameter.name 11 1 ++ lies parameter.expr 12 1)
    ∷ made table.parameters ((parameter.kind ≔ owner_kind.invoke ∷ parameter.owner ≔ 1 ∷ []) ++ lies parameter.name 12 1)
    ∷ []

abbrev numbered : ℕ → ℕ → ℕ → Row
numbered l o v = made table.members (member.list ≔ l ∷ member.owner ≔ o ∷ member.value ≔ v ∷ [])

abbrev worded : ℕ → ℕ → ℕ → ℕ → Row
worded l o i n = made table.members ((member.list ≔ l ∷ member.owner ≔ o ∷ []) ++ lies member.word i n)

-- One of each list, in the order of their numbers.
abbrev pub members : Table
members =
    numbered list.children 1 2
    ∷ numbered list.history 1 2
    ∷ numbered list.onentry 1 2
    ∷ numbered list.onexit 2 3
    ∷ numbered list.transitions 1 1
    ∷ numbered list.targets 1 2
    ∷ worded list.events 1 11 1
    ∷ worded list.send_names 2 12 1
    ∷ worded list.invoke_names 1 12 1
    ∷ []

abbrev element : ℕ → ℕ → ℕ → ℕ → Row
element g s t n = made table.opened (opened.tag ≔ g ∷ opened.state ≔ s ∷ opened.transition ≔ t ∷ opened.length ≔ n ∷ [])

-- an unknown element q, onentry, if
abbrev open_elements : Table
open_elements = element 0 1 0 1 ∷ element tag.onentry 1 0 0 ∷ element tag.if 1 1 0 ∷ []

abbrev open_names : Table
open_names = (113 ∷ replicate 63 7) ∷ replicate 2 (replicate 64 0)

abbrev open_regions : Table
open_regions =
    made table.open_regions (open_region.region ≔ 2 ∷ open_region.tag ≔ tag.if ∷ [])
    ∷ made table.open_regions (open_region.region ≔ 3 ∷ open_region.tag ≔ tag.elseif ∷ [])
    ∷ []

abbrev junk : ℕ → Table
junk k = replicate k (9 ∷ 9 ∷ 9 ∷ 9 ∷ [])

-- limits: name, value, text; open elements; states, transitions, regions, entries, invokes, data, parameters, members; drawn; charge.
-- position: 3 open elements, 2 states, 2 transitions, 5 regions, 4 entries, an invoke, a row of data, 4 parameters, 9 members, 2 open regions; current region 4;
-- drawn 7 ids, 4 doc ids, 2 names; 12 bytes used, 14 charged.
unfoldable pub good : Made
unfolding made str
good =
    record {
      limits = 64 ∷ 1024 ∷ 4096 ∷ 5 ∷ 4 ∷ 4 ∷ 8 ∷ 6 ∷ 2 ∷ 2 ∷ 5 ∷ 14 ∷ 65535 ∷ 40 ∷ [];
      tables =
          (chart_row ∷ [])
          ∷ (states ++ junk 2)
          ∷ (transitions ++ junk 2)
          ∷ (regions ++ junk 3)
          ∷ (entries ++ junk 2)
          ∷ (invokes ++ junk 1)
          ∷ (datums ++ junk 1)
          ∷ (parameters ++ junk 1)
          ∷ (members ++ junk 5)
          ∷ (open_elements ++ junk 2)
          ∷ (open_names ++ junk 2)
          ∷ (open_regions ++ junk 8)
          ∷ [];
      text = text ++ replicate 28 200;
      position = 3 ∷ 2 ∷ 2 ∷ 5 ∷ 4 ∷ 1 ∷ 1 ∷ 4 ∷ 9 ∷ 2 ∷ 4 ∷ 7 ∷ 4 ∷ 2 ∷ 12 ∷ 14 ∷ [];
    }

-- "The empty chart", in slices of zeros of the good store's lengths.
abbrev pub zeros : Made
zeros =
    record {
      limits = good.limits;
      tables =
          replicate 1 (blank 0)
          ∷ replicate 4 (blank 1)
          ∷ replicate 4 (blank 2)
          ∷ replicate 8 (blank 3)
          ∷ replicate 6 (blank 4)
          ∷ replicate 2 (blank 5)
          ∷ replicate 2 (blank 6)
          ∷ replicate 5 (blank 7)
          ∷ replicate 14 (blank 8)
          ∷ replicate 5 (blank 9)
          ∷ replicate 5 (blank 10)
          ∷ replicate 10 (blank 11)
          ∷ [];
      text = replicate 40 0;
      position = replicate 16 0;
    }
