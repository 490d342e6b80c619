-- A plan on a whole lent table, n rows of which are in use; t are the event's texts, g its element.
use Rattle.std.specs.Prelude.{ℕ, Bool, true, false, Option, Some, None, List, [], ◌∷◌, set, replicate}
use Rattle.definition.specs.Rows.{Row, Table, chart, entry, invoke}
use Rattle.definition.specs.Codes.{entry_number, owner_number}
use Rattle.plan.specs.declared.ChartPlan.{ChartPlan}
use Rattle.plan.specs.declared.StatePlan.{StatePlan}
use Rattle.plan.specs.declared.Shape.{Shape}
use Rattle.plan.specs.declared.Shape.TheVariants as S
use Rattle.plan.specs.declared.NewTransition.{NewTransition}
use Rattle.plan.specs.declared.TransitionPlan.{TransitionPlan}
use Rattle.plan.specs.declared.NewEntry.{NewEntry}
use Rattle.plan.specs.declared.EntryChange.{EntryChange}
use Rattle.plan.specs.declared.EntryPlan.{EntryPlan}
use Rattle.plan.specs.declared.NewInvoke.{NewInvoke}
use Rattle.plan.specs.declared.InvokeChange.{InvokeChange}
use Rattle.plan.specs.declared.InvokePlan.{InvokePlan}
use Rattle.plan.specs.declared.NewDatum.{NewDatum}
use Rattle.plan.specs.declared.DatumChange.{DatumChange}
use Rattle.plan.specs.declared.DatumPlan.{DatumPlan}
use Rattle.plan.specs.declared.ParameterPlan.{ParameterPlan}
use Rattle.plan.specs.Ids.{shape_number}
use Rattle.plan.specs.After.{put, altered_if, state_columns_after, transition_after}
use Rattle.tables.specs.Whole.{added_in}
use Rattle.fill.specs.Fill.{shaped_by}

-- ---- rows

-- The texts of one of the element's shapes.
unfoldable pub texts_by : List ℕ → ℕ → Shape → Row → Row
unfolding shaped_by
texts_by t g h r = shaped_by t g (shape_number h) r

unfoldable pub shaped_if_by : List ℕ → ℕ → Option Shape → Row → Row
unfolding texts_by
shaped_if_by t g None r = r
shaped_if_by t g (Some h) r = texts_by t g h r

unfoldable pub recorded_by : List ℕ → ℕ → Shape → ℕ → Bool → Row → Row
unfolding texts_by
recorded_by t g k c false r = r
recorded_by t g k c true r = set (texts_by t g k r) c 1

unfoldable pub rooted_by : List ℕ → ℕ → Option ℕ → Row → Row
unfolding texts_by
rooted_by t g None r = r
rooted_by t g (Some s) r = set (texts_by t g S.First r) chart.root s

unfoldable pub chart_row : List ℕ → ℕ → ChartPlan → Row → Row
unfolding put rooted_by
chart_row t g p r = put chart.script p.script (rooted_by t g p.root (put chart.binding p.binding r))

unfoldable pub state_row_by : List ℕ → ℕ → StatePlan → Row → Row
unfolding state_columns_after shaped_if_by
state_row_by t g p r = state_columns_after p (shaped_if_by t g p.texts r)

unfoldable pub new_transition : List ℕ → ℕ → NewTransition → Row
unfolding shaped_if_by
new_transition t g p = shaped_if_by t g p.texts (p.number.0 ∷ p.doc ∷ p.source.0 ∷ p.mode ∷ p.wildcard ∷ p.content.0 ∷ 0 ∷ 0 ∷ [])

unfoldable pub new_entry : List ℕ → ℕ → NewEntry → Row
unfolding texts_by
new_entry t g p = texts_by t g p.shape (p.region.0 ∷ entry_number p.kind ∷ p.state.0 ∷ p.content.0 ∷ replicate 44 0)

unfoldable pub old_entry : List ℕ → ℕ → EntryChange → Row → Row
unfolding recorded_by put
old_entry t g p r = recorded_by t g S.First entry.has_content p.filled (put entry.else p.other r)

unfoldable pub new_invoke : List ℕ → ℕ → NewInvoke → Row
unfolding texts_by
new_invoke t g p = texts_by t g S.First (p.state.0 ∷ p.autoforward ∷ replicate 22 0)

unfoldable pub old_invoke : List ℕ → ℕ → InvokeChange → Row → Row
unfolding recorded_by put
old_invoke t g p r = recorded_by t g S.Second invoke.has_content p.filled (put invoke.finalize p.finalize r)

unfoldable pub new_datum : List ℕ → ℕ → NewDatum → Row
unfolding texts_by
new_datum t g p = texts_by t g p.shape (p.state.0 ∷ replicate 7 0)

unfoldable pub old_datum : List ℕ → ℕ → DatumChange → Row → Row
unfolding texts_by
old_datum t g p r = texts_by t g p.shape r

unfoldable pub new_parameter : List ℕ → ℕ → ParameterPlan → Row
unfolding texts_by
new_parameter t g p = texts_by t g S.First (owner_number p.kind ∷ p.owner ∷ replicate 6 0)

-- ---- tables

unfoldable pub transitions_in : List ℕ → ℕ → TransitionPlan → ℕ → Table → Table
unfolding altered_if added_in new_transition transition_after
transitions_in t g p n rs = altered_if (λ p. p.at) transition_after p.altered (added_in (new_transition t g) p.added n rs)

unfoldable pub entries_in : List ℕ → ℕ → EntryPlan → ℕ → Table → Table
unfolding altered_if added_in new_entry old_entry
entries_in t g p n rs = altered_if (λ p. p.at) (old_entry t g) p.altered (added_in (new_entry t g) p.added n rs)

unfoldable pub invokes_in : List ℕ → ℕ → InvokePlan → ℕ → Table → Table
unfolding altered_if added_in new_invoke old_invoke
invokes_in t g p n rs = altered_if (λ p. p.at) (old_invoke t g) p.altered (added_in (new_invoke t g) p.added n rs)

unfoldable pub datums_in : List ℕ → ℕ → DatumPlan → ℕ → Table → Table
unfolding altered_if added_in new_datum old_datum
datums_in t g p n rs = altered_if (λ p. p.at) (old_datum t g) p.altered (added_in (new_datum t g) p.added n rs)

unfoldable pub parameters_in : List ℕ → ℕ → Option ParameterPlan → ℕ → Table → Table
unfolding added_in new_parameter
parameters_in t g p n rs = added_in (new_parameter t g) p n rs

unfoldable pub states_in : List ℕ → ℕ → Option StatePlan → Table → Table
unfolding altered_if state_row_by
states_in t g p rs = altered_if (λ p. p.at.0) (state_row_by t g) p rs

unfoldable pub chart_in : List ℕ → ℕ → Option ChartPlan → Table → Table
unfolding altered_if chart_row
chart_in t g p rs = altered_if (λ p. 1) (chart_row t g) p rs
