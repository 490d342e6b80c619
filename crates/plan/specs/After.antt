-- What a plan makes of each table: one function a table, and the law of `apply` for each.
use Rattle.std.specs.Prelude.{ℕ, zero, suc, Bool, true, false, Option, Some, None, List, [], ◌∷◌, ◌++◌, set, take, drop, replicate}
use Rattle.definition.specs.Rows.{Row, Table, table, list, chart, state, transition, entry, invoke, Numbers, table_of}
use Rattle.definition.specs.Shapes.{shape_at}
use Rattle.definition.specs.Look.{Look}
use Rattle.definition.specs.Change.{filled_by, alter_row, without_last, open_region_row}
use Rattle.definition.specs.Reader.{Verdict, accept, reject}
use Rattle.definition.specs.Codes.{tag_number, entry_number, owner_number, list_number}
use Rattle.definition.specs.declared.RegionId.{RegionId}
use Rattle.plan.specs.declared.ChartPlan.{ChartPlan}
use Rattle.plan.specs.declared.StatePlan.{StatePlan}
use Rattle.plan.specs.declared.Shape.{Shape}
use Rattle.plan.specs.declared.Shape.TheVariants as S
use Rattle.plan.specs.declared.NewTransition.{NewTransition}
use Rattle.plan.specs.declared.TransitionChange.{TransitionChange}
use Rattle.plan.specs.declared.TransitionPlan.{TransitionPlan}
use Rattle.plan.specs.declared.RegionPlan.{RegionPlan}
use Rattle.plan.specs.declared.NewEntry.{NewEntry}
use Rattle.plan.specs.declared.EntryChange.{EntryChange}
use Rattle.plan.specs.declared.EntryPlan.{EntryPlan}
use Rattle.plan.specs.declared.NewInvoke.{NewInvoke}
use Rattle.plan.specs.declared.InvokeChange.{InvokeChange}
use Rattle.plan.specs.declared.InvokePlan.{InvokePlan}
use Rattle.plan.specs.declared.NewDatum.{NewDatum}
use Rattle.plan.specs.declared.DatumChange.{DatumChange}
use Rattle.plan.specs.declared.DatumPlan.{DatumPlan}
use Rattle.plan.specs.declared.ParameterPlan.{ParameterPlan}
use Rattle.plan.specs.declared.MemberPlan.{MemberPlan}
use Rattle.plan.specs.declared.TargetPlan.{TargetPlan}
use Rattle.plan.specs.declared.MembersPlan.{MembersPlan}
use Rattle.plan.specs.declared.OpenPlan.{OpenPlan}
use Rattle.plan.specs.declared.OpenRegion.{OpenRegion}
use Rattle.plan.specs.declared.OpenRegionPlan.{OpenRegionPlan}
use Rattle.plan.specs.declared.Plan.{Plan}
use Rattle.plan.specs.Ids.{shape_number}
use Rattle.plan.specs.Plan.{Planned, planned, refused}

-- ---- rows

-- A column's new value; none keeps it.
unfoldable pub put : ℕ → Option ℕ → Row → Row
put c None r = r
put c (Some v) r = set r c v

-- The texts of one of the element's shapes.
unfoldable pub shaped : Look → Shape → Row → Row
unfolding filled_by shape_at
shaped l h r = filled_by l 0 (shape_at l.tag (shape_number h)).texts r

unfoldable pub shaped_if : Look → Option Shape → Row → Row
unfolding shaped
shaped_if l None r = r
shaped_if l (Some h) r = shaped l h r

-- What is added is a row more.
unfoldable pub added_if : {A : Type 0} → (A → Row) → Option A → Table → Table
added_if f None rs = rs
added_if f (Some p) rs = rs ++ f p ∷ []

-- What is altered is one row, at a place.
unfoldable pub altered_if : {A : Type 0} → (A → ℕ) → (A → Row → Row) → Option A → Table → Table
unfolding alter_row
altered_if at f None rs = rs
altered_if at f (Some p) rs = alter_row (at p) (f p) rs

-- ---- chart

unfoldable pub rooted : Look → Option ℕ → Row → Row
unfolding shaped
rooted l None r = r
rooted l (Some s) r = set (shaped l S.First r) chart.root s

unfoldable pub chart_columns_after : Look → ChartPlan → Row → Row
unfolding put rooted
chart_columns_after l p r = put chart.script p.script (rooted l p.root (put chart.binding p.binding r))

unfoldable pub chart_after : Look → Option ChartPlan → Table → Table
unfolding altered_if chart_columns_after
chart_after l p rs = altered_if (λ p. 1) (chart_columns_after l) p rs

-- ---- states

unfoldable pub state_columns_after : StatePlan → Row → Row
unfolding put
state_columns_after p r =
    put state.has_content p.filled (put state.donedata p.donedata (put state.history p.history (put state.final p.ends (
    put state.parallel p.parallel (put state.parent p.parent (put state.doc p.doc (put state.initial p.initial r)))))))

unfoldable pub state_after : Look → StatePlan → Row → Row
unfolding state_columns_after shaped_if
state_after l p r = state_columns_after p (shaped_if l p.texts r)

unfoldable pub states_after : Look → Option StatePlan → Table → Table
unfolding altered_if state_after
states_after l p rs = altered_if (λ p. p.at.0) (state_after l) p rs

-- ---- transitions and regions

unfoldable pub transition_row : Look → NewTransition → Row
unfolding shaped_if
transition_row l p = shaped_if l p.texts (p.number.0 ∷ p.doc ∷ p.source.0 ∷ p.mode ∷ p.wildcard ∷ p.content.0 ∷ 0 ∷ 0 ∷ [])

unfoldable pub transition_after : TransitionChange → Row → Row
transition_after p r = set r transition.content p.content.0

unfoldable pub transitions_after : Look → TransitionPlan → Table → Table
unfolding altered_if added_if transition_row transition_after
transitions_after l p rs = altered_if (λ p. p.at) transition_after p.altered (added_if (transition_row l) p.added rs)

unfoldable pub region_row : RegionId → Row
region_row i = i.0 ∷ 0 ∷ 0 ∷ 0 ∷ 0 ∷ 0 ∷ 0 ∷ 0 ∷ []

unfoldable pub regions_after : RegionPlan → Table → Table
unfolding added_if region_row
regions_after p rs = added_if region_row p.two (added_if region_row p.one rs)

-- ---- entries and invokes

unfoldable pub entry_row : Look → NewEntry → Row
unfolding shaped
entry_row l p = shaped l p.shape (p.region.0 ∷ entry_number p.kind ∷ p.state.0 ∷ p.content.0 ∷ replicate 44 0)

-- With a content record, as shape k says.
unfoldable pub recorded : Look → Shape → ℕ → Bool → Row → Row
unfolding shaped
recorded l k c false r = r
recorded l k c true r = set (shaped l k r) c 1

unfoldable pub entry_after : Look → EntryChange → Row → Row
unfolding recorded put
entry_after l p r = recorded l S.First entry.has_content p.filled (put entry.else p.other r)

unfoldable pub entries_after : Look → EntryPlan → Table → Table
unfolding altered_if added_if entry_row entry_after
entries_after l p rs = altered_if (λ p. p.at) (entry_after l) p.altered (added_if (entry_row l) p.added rs)

unfoldable pub invoke_row : Look → NewInvoke → Row
unfolding shaped
invoke_row l p = shaped l S.First (p.state.0 ∷ p.autoforward ∷ replicate 22 0)

unfoldable pub invoke_after : Look → InvokeChange → Row → Row
unfolding recorded put
invoke_after l p r = recorded l S.Second invoke.has_content p.filled (put invoke.finalize p.finalize r)

unfoldable pub invokes_after : Look → InvokePlan → Table → Table
unfolding altered_if added_if invoke_row invoke_after
invokes_after l p rs = altered_if (λ p. p.at) (invoke_after l) p.altered (added_if (invoke_row l) p.added rs)

-- ---- data and parameters

unfoldable pub datum_row : Look → NewDatum → Row
unfolding shaped
datum_row l p = shaped l p.shape (p.state.0 ∷ replicate 7 0)

unfoldable pub datum_after : Look → DatumChange → Row → Row
unfolding shaped
datum_after l p r = shaped l p.shape r

unfoldable pub datums_after : Look → DatumPlan → Table → Table
unfolding altered_if added_if datum_row datum_after
datums_after l p rs = altered_if (λ p. p.at) (datum_after l) p.altered (added_if (datum_row l) p.added rs)

unfoldable pub parameter_row : Look → ParameterPlan → Row
unfolding shaped
parameter_row l p = shaped l S.First (owner_number p.kind ∷ p.owner ∷ replicate 6 0)

unfoldable pub parameters_after : Look → Option ParameterPlan → Table → Table
unfolding added_if parameter_row
parameters_after l p rs = added_if (parameter_row l) p rs

-- ---- members

unfoldable pub member_row : ℕ → ℕ → ℕ → Row
member_row l o v = l ∷ o ∷ v ∷ 0 ∷ 0 ∷ 0 ∷ 0 ∷ 0 ∷ []

unfoldable pub member_rows : ℕ → ℕ → List ℕ → Table
unfolding member_row
member_rows l o [] = []
member_rows l o (v ∷ vs) = member_row l o v ∷ member_rows l o vs

-- The word i of the shape 1.
unfoldable pub word_row : Look → ℕ → ℕ → ℕ → Row
unfolding filled_by shape_at
word_row l k o i = filled_by l i (shape_at l.tag 1).texts (k ∷ o ∷ 0 ∷ 0 ∷ 0 ∷ 0 ∷ 0 ∷ 0 ∷ [])

unfoldable pub word_rows : Look → ℕ → ℕ → ℕ → ℕ → Table
unfolding word_row
word_rows l k o i zero = []
word_rows l k o i (suc n) = word_row l k o i ∷ word_rows l k o (suc i) n

unfoldable pub targets_after : Look → Option TargetPlan → Table → Table
unfolding member_rows
targets_after l None rs = rs
targets_after l (Some p) rs = rs ++ member_rows list.targets p.owner (drop p.skip l.refs)

unfoldable pub words_after : Look → Option MemberPlan → Table → Table
unfolding word_rows
words_after l None rs = rs
words_after l (Some p) rs = rs ++ word_rows l (list_number p.list) p.owner 0 p.value

unfoldable pub member_of : MemberPlan → Row
unfolding member_row
member_of p = member_row (list_number p.list) p.owner p.value

unfoldable pub member_after : Option MemberPlan → Table → Table
unfolding added_if member_of
member_after p rs = added_if member_of p rs

unfoldable pub members_after : Look → MembersPlan → Table → Table
unfolding member_after targets_after words_after
members_after l p rs = member_after p.two (member_after p.one (targets_after l p.targets (words_after l p.words rs)))

-- ---- open elements and regions

-- What becomes of the open elements. 0: one more is open; 1: they stay; 2: the innermost is closed.
unfoldable pub moved : ℕ → Row → Table → Table
unfolding without_last
moved zero r rs = rs ++ r ∷ []
moved (suc zero) r rs = rs
moved (suc (suc k)) r rs = without_last rs

-- By the event's kind: open, empty or whole, end.
unfoldable pub move_of : ℕ → ℕ
move_of zero = 0
move_of (suc zero) = 1
move_of (suc (suc zero)) = 1
move_of (suc (suc (suc k))) = 2

unfoldable pub opened_after : ℕ → Look → OpenPlan → Table → Table
unfolding moved
opened_after m l p rs = moved m (l.tag ∷ p.state.0 ∷ p.transition.0 ∷ l.name_length ∷ 0 ∷ 0 ∷ 0 ∷ 0 ∷ []) rs

unfoldable pub open_names_after : ℕ → Look → Table → Table
unfolding moved
open_names_after m l rs = moved m l.name rs

unfoldable pub open_region_of : OpenRegion → Row
unfolding open_region_row
open_region_of p = open_region_row p.region.0 (tag_number p.tag)

unfoldable pub open_regions_after : OpenRegionPlan → Table → Table
unfolding added_if open_region_of
open_regions_after p rs = added_if open_region_of p.two (added_if open_region_of p.one (take p.kept rs))

-- ---- all of it

unfoldable pub applied : ℕ → Look → Plan → Numbers → Numbers
unfolding chart_after states_after transitions_after regions_after entries_after invokes_after datums_after parameters_after members_after opened_after open_names_after open_regions_after
applied m l p n =
    record {
      tables =
          chart_after l p.chart (table_of n table.chart)
          ∷ states_after l p.states (table_of n table.states)
          ∷ transitions_after l p.transitions (table_of n table.transitions)
          ∷ regions_after p.regions (table_of n table.regions)
          ∷ entries_after l p.entries (table_of n table.entries)
          ∷ invokes_after l p.invokes (table_of n table.invokes)
          ∷ datums_after l p.datums (table_of n table.datums)
          ∷ parameters_after l p.parameters (table_of n table.parameters)
          ∷ members_after l p.members (table_of n table.members)
          ∷ opened_after m l p.opened (table_of n table.opened)
          ∷ open_names_after m l (table_of n table.open_names)
          ∷ open_regions_after p.pending (table_of n table.open_regions)
          ∷ [];
      current = p.counters.current.0;
      ids = p.counters.ids;
      docs = p.counters.docs;
      names = n.names;
      charge = n.charge;
    }

unfoldable pub verdict_of : ℕ → Look → Numbers → Planned → Verdict
unfolding applied
verdict_of m l n (planned p) = accept (applied m l p n)
verdict_of m l n (refused k) = reject k
