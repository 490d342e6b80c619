-- The plan of each element: of its start, of its end, and of both as one event. From what is seen of the store, and what is heard of the look.
use Rattle.std.specs.Prelude.{ℕ, zero, suc, Bool, true, false, Option, Some, None, ◌||◌, List, [], ◌∷◌, get_or, eqb}
use Rattle.definition.specs.Elements.{tag}
use Rattle.definition.specs.Rows.{internal, Numbers}
use Rattle.definition.specs.Look.{Look}
use Rattle.definition.specs.Change.{◌▷◌}
use Rattle.definition.specs.Codes.{entry_number}
use Rattle.definition.specs.declared.codes.Tag.TheVariants as T
use Rattle.definition.specs.declared.codes.Tag.{Tag}
use Rattle.definition.specs.declared.codes.EntryKind.{EntryKind}
use Rattle.definition.specs.declared.codes.EntryKind.TheVariants as E
use Rattle.definition.specs.declared.codes.OwnerKind.{OwnerKind}
use Rattle.definition.specs.declared.codes.OwnerKind.TheVariants as O
use Rattle.definition.specs.declared.codes.ListKind.{ListKind}
use Rattle.definition.specs.declared.codes.ListKind.TheVariants as L
use Rattle.plan.specs.declared.Shape.{Shape}
use Rattle.plan.specs.declared.Shape.TheVariants as S
use Rattle.plan.specs.declared.ChartPlan.{ChartPlan}
use Rattle.plan.specs.declared.StatePlan.{StatePlan}
use Rattle.plan.specs.declared.TransitionPlan.{TransitionPlan}
use Rattle.plan.specs.declared.RegionPlan.{RegionPlan}
use Rattle.plan.specs.declared.EntryPlan.{EntryPlan}
use Rattle.plan.specs.declared.InvokePlan.{InvokePlan}
use Rattle.plan.specs.declared.MemberPlan.{MemberPlan}
use Rattle.plan.specs.declared.MembersPlan.{MembersPlan}
use Rattle.plan.specs.declared.OpenPlan.{OpenPlan}
use Rattle.plan.specs.declared.OpenRegionPlan.{OpenRegionPlan}
use Rattle.plan.specs.declared.Plan.{Plan}
use Rattle.plan.specs.declared.Declared.{Declared}
use Rattle.plan.specs.declared.Closing.{Closing}
use Rattle.plan.specs.declared.Walked.{Walked}
use Rattle.plan.specs.declared.Walked.TheVariants as W
use Rattle.plan.specs.declared.Seen.{Seen}
use Rattle.plan.specs.declared.Heard.{Heard}
use Rattle.plan.specs.Ids.{state_id, transition_id, region_id}
use Rattle.plan.specs.Plan.{Planned, planned, refused, idle, inside, keeping, counting, member, no_transition, on_chart, on_state, on_transition, on_region, on_entry, on_invoke, on_datum, on_parameter, on_members, on_open_regions, on_counters}
use Rattle.plan.specs.Heard.{heard}
use Rattle.plan.specs.Seen.{child_member, seen}

-- ---- tests

unfoldable pub unless_zero_p : ℕ → Planned → Planned
unless_zero_p zero p = refused 2
unless_zero_p (suc i) p = p

unfoldable pub unless_initial_p : Seen → Planned → Planned
unless_initial_p v p = elim (eqb v.initial.0 0) [ true ↦ p | false ↦ refused 13 ]

-- Where no region is current it is an internal error.
unfoldable pub closed_p : Option Closing → (Closing → Planned) → Planned
closed_p None p = refused 2
closed_p (Some x) p = p x

abbrev pub closing_p : Seen → (Closing → Planned) → Planned
closing_p v p = closed_p v.closed p

-- ---- short forms

unfoldable pub idle_in : OpenPlan → Seen → Plan
idle_in o v = idle o (keeping v.regions) (counting v.current.0 v.ids v.docs)

-- A start that changes neither the state nor the transition.
unfoldable pub begun : Seen → Plan
unfolding idle_in
begun v = idle_in (inside v.state.0 v.transition.0) v

unfoldable pub ended : Closing → Seen → Plan
unfolding idle_in
ended x v = idle_in (inside 0 0) v ▷ on_open_regions (keeping x.kept) ▷ on_counters (counting x.current.0 v.ids v.docs)

unfoldable pub only_nest_p : Seen → Planned
unfolding begun
only_nest_p v = planned (begun v)

abbrev pub new_entry : Shape → EntryKind → ℕ → ℕ → ℕ → EntryPlan
new_entry h k r s c = record { added = Some (record { kind = k; region = region_id r; state = state_id s; content = region_id c; shape = h }); altered = None }

-- The entry at e gets the else region r.
abbrev pub else_to : ℕ → ℕ → EntryPlan
else_to e r = record { added = None; altered = Some (record { at = e; other = Some r; filled = false }) }

-- The entry at e is filled by a content.
abbrev pub entry_filled : ℕ → EntryPlan
entry_filled e = record { added = None; altered = Some (record { at = e; other = None; filled = true }) }

-- The invoke at i gets the finalize r, or is filled by a content.
abbrev pub finalize_to : ℕ → ℕ → InvokePlan
finalize_to i r = record { added = None; altered = Some (record { at = i; finalize = Some r; filled = false }) }

abbrev pub invoke_filled : ℕ → InvokePlan
invoke_filled i = record { added = None; altered = Some (record { at = i; finalize = None; filled = true }) }

abbrev pub one_region : ℕ → RegionPlan
one_region r = record { one = Some (region_id r); two = None }

abbrev pub one_member : ListKind → ℕ → ℕ → MembersPlan
one_member l o v = record { words = None; targets = None; one = Some (member l o v); two = None }

abbrev pub some_words : ListKind → ℕ → ℕ → MembersPlan
some_words l o v = record { words = Some (member l o v); targets = None; one = None; two = None }

abbrev pub one_more : ℕ → ℕ → Tag → OpenRegionPlan
one_more k r g = record { kept = k; one = Some (record { region = region_id r; tag = g }); two = None }

-- A region is drawn, without stack: it is the current one, and no other is open.
unfoldable pub fresh_p : Seen → Plan → Plan
fresh_p v p = p ▷ on_region (one_region (suc v.ids)) ▷ on_open_regions (keeping 0) ▷ on_counters (counting (suc v.ids) (suc v.ids) v.docs)

-- ---- entries

unfoldable pub entry_p : Shape → EntryKind → Seen → Planned
unfolding unless_zero_p begun
entry_p h k v = unless_zero_p v.current.0 (planned (begun v ▷ on_entry (new_entry h k v.current.0 0 0)))

unfoldable pub log_p : Seen → Heard → Planned
unfolding entry_p only_nest_p
log_p v q = elim q.expr [ true ↦ entry_p S.First E.Log v | false ↦ only_nest_p v ]

unfoldable pub assign_p : Seen → Heard → Planned
unfolding entry_p
assign_p v q = elim q.whole [ true ↦ entry_p S.Second E.Assign v | false ↦ entry_p S.First E.Assign v ]

unfoldable pub root_script_p : Seen → Planned
unfolding begun
root_script_p v =
    let r : ℕ = suc v.ids in
    planned (
    begun v ▷ on_chart (Some (record { binding = None; root = None; script = Some r })) ▷ on_region (one_region r) ▷ on_entry (new_entry S.First E.Script r 0 0) ▷ on_open_regions (keeping 0)
    ▷ on_counters (counting 0 r v.docs))

unfoldable pub script_p : Seen → Planned
unfolding root_script_p entry_p
script_p v = elim (eqb v.parent tag.scxml) [ true ↦ root_script_p v | false ↦ entry_p S.First E.Script v ]

unfoldable pub send_p : Seen → Heard → Planned
unfolding unless_zero_p begun
send_p v q =
    unless_zero_p v.state.0 (
    unless_zero_p v.current.0 (
    planned (
    begun v ▷ on_entry (new_entry S.First E.Send v.current.0 v.state.0 0)
    ▷ on_members (some_words L.SendNames (suc v.entries) q.names))))

-- if and foreach: "entry, then its region."
unfoldable pub block_plan : EntryKind → Seen → Plan
unfolding begun
block_plan k v = begun v ▷ on_entry (new_entry S.First k v.current.0 0 (suc v.ids)) ▷ on_region (one_region (suc v.ids))

unfoldable pub block_p : Tag → EntryKind → Seen → Planned
unfolding unless_zero_p block_plan
block_p g k v =
    let r : ℕ = suc v.ids in
    unless_zero_p v.current.0 (
    planned (block_plan k v ▷ on_open_regions (one_more v.regions v.current.0 g) ▷ on_counters (counting r r v.docs)))

unfoldable pub both_block_p : EntryKind → Seen → Planned
unfolding unless_zero_p block_plan
both_block_p k v = unless_zero_p v.current.0 (planned (block_plan k v ▷ on_counters (counting v.current.0 (suc v.ids) v.docs)))

unfoldable pub end_block_p : Seen → Planned
unfolding closed_p ended
end_block_p v = closing_p v (λ x. planned (ended x v))

-- ---- else and elseif

unfoldable pub walked_p : Walked → (ℕ → Plan) → Planned
walked_p W.NoIf f = refused 14
walked_p W.Nowhere f = planned (f 0)
walked_p (W.Met e) f = planned (f e)

unfoldable pub else_plan : Closing → Seen → ℕ → Plan
unfolding begun
else_plan x v e =
    let r : ℕ = suc v.ids in
    begun v ▷ on_region (one_region r) ▷ on_entry (else_to e r) ▷ on_open_regions (one_more x.kept x.current.0 T.If) ▷ on_counters (counting r r v.docs)

unfoldable pub else_p : Seen → Planned
unfolding closed_p walked_p else_plan
else_p v = closing_p v (λ x. walked_p v.walk (else_plan x v))

unfoldable pub else_if_plan : Closing → Seen → ℕ → Plan
unfolding begun
else_if_plan x v e =
    let r : ℕ = suc v.ids in
    begun v ▷ on_region (record { one = Some (region_id r); two = Some (region_id (suc r)) })
    ▷ on_entry (
    record {
      added = Some (record { kind = E.If; region = region_id r; state = state_id 0; content = region_id (suc r); shape = S.First });
      altered = Some (record { at = e; other = Some r; filled = false });
    })
    ▷ on_open_regions (record { kept = x.kept; one = Some (record { region = x.current; tag = T.If }); two = Some (record { region = region_id r; tag = T.Elseif }) }) ▷ on_counters (counting (suc r) (suc r) v.docs)

unfoldable pub else_if_p : Seen → Planned
unfolding closed_p walked_p else_if_plan
else_if_p v = closing_p v (λ x. walked_p v.walk (else_if_plan x v))

-- ---- onentry, onexit, finalize

unfoldable pub region_p : Seen → Planned
unfolding begun fresh_p
region_p v = planned (begun v ▷ fresh_p v)

unfoldable pub end_listed_p : ListKind → Seen → Planned
unfolding closed_p unless_zero_p ended
end_listed_p l v = closing_p v (λ x. unless_zero_p v.state.0 (planned (ended x v ▷ on_members (one_member l v.state.0 v.current.0))))

-- Start and end as one: the region is drawn and none is current.
unfoldable pub passing : Seen → Plan
unfolding begun
passing v = begun v ▷ on_region (one_region (suc v.ids)) ▷ on_open_regions (keeping 0) ▷ on_counters (counting 0 (suc v.ids) v.docs)

unfoldable pub both_listed_p : ListKind → Seen → Planned
unfolding unless_zero_p passing
both_listed_p l v = unless_zero_p v.state.0 (planned (passing v ▷ on_members (one_member l v.state.0 (suc v.ids))))

unfoldable pub end_finalize_p : Seen → Planned
unfolding closed_p unless_zero_p ended
end_finalize_p v =
    let i : ℕ = v.invoke in
    closing_p v (λ x. unless_zero_p v.state.0 (unless_zero_p i (planned (ended x v ▷ on_invoke (finalize_to i v.current.0)))))

unfoldable pub both_finalize_p : Seen → Planned
unfolding unless_zero_p passing
both_finalize_p v =
    let i : ℕ = v.invoke in
    unless_zero_p v.state.0 (
    unless_zero_p i (planned (passing v ▷ on_invoke (finalize_to i (suc v.ids)))))

-- ---- transitions

abbrev pub state_to : ℕ → Option Shape → Option ℕ → Option ℕ → StatePlan
state_to s h d x = record { at = state_id s; texts = h; initial = None; doc = None; parent = None; parallel = None; ends = None; history = None; donedata = d; filled = x }

abbrev pub initial_to : ℕ → ℕ → StatePlan
initial_to s t = record { at = state_id s; texts = None; initial = Some t; doc = None; parent = None; parallel = None; ends = None; history = None; donedata = None; filled = None }

-- A transition with these texts and this type.
abbrev pub new_transition : ℕ → ℕ → ℕ → ℕ → ℕ → ℕ → Option Shape → TransitionPlan
new_transition t d s m w r h =
    record { added = Some (record { number = transition_id t; doc = d; source = state_id s; mode = m; wildcard = w; content = region_id r; texts = h }); altered = None }

-- Inside `initial` it is the state's initial; else it joins the state's transitions. r is its content, 0 until it ends.
unfoldable pub transition_plan : Bool → ℕ → Seen → Heard → Plan
unfolding idle_in
transition_plan in_initial r v q =
    let t : ℕ = suc v.ids in
    let s : ℕ = v.state.0 in
    idle_in (inside s t) v
    ▷ on_transition (new_transition t (suc v.docs) s q.mode q.wildcard r (Some S.First))
    ▷ on_region (one_region (suc t))
    ▷ on_state (elim in_initial [ true ↦ Some (initial_to s t) | false ↦ None ])
    ▷ on_members (
    record {
      words = Some (member L.Events t q.events);
      targets = Some (record { owner = t; skip = 0 });
      one = elim in_initial [ true ↦ None | false ↦ Some (member L.Transitions s t) ];
      two = None;
    })
    ▷ on_open_regions (keeping 0)

unfoldable pub open_transition : Bool → Seen → Heard → Plan
unfolding transition_plan
open_transition b v q = let r : ℕ = suc (suc v.ids) in transition_plan b 0 v q ▷ on_counters (counting r r (suc v.docs))

-- Start and end as one: its region is its content, and no region is current.
unfoldable pub whole_transition : Bool → Seen → Heard → Plan
unfolding transition_plan
whole_transition b v q = let r : ℕ = suc (suc v.ids) in transition_plan b r v q ▷ on_counters (counting 0 r (suc v.docs))

unfoldable pub transition_by : (Bool → Plan) → Seen → Planned
unfolding unless_zero_p unless_initial_p
transition_by f v = unless_zero_p v.state.0 (elim (eqb v.parent tag.initial) [ true ↦ unless_initial_p v (planned (f true)) | false ↦ planned (f false) ])

unfoldable pub start_transition_p : Seen → Heard → Planned
unfolding transition_by open_transition
start_transition_p v q = transition_by (λ b. open_transition b v q) v

unfoldable pub both_transition_p : Seen → Heard → Planned
unfolding transition_by whole_transition
both_transition_p v q = transition_by (λ b. whole_transition b v q) v

abbrev pub content_to : ℕ → ℕ → TransitionPlan
content_to i r = record { added = None; altered = Some (record { at = i; content = region_id r }) }

unfoldable pub end_transition_p : Seen → Planned
unfolding closed_p unless_zero_p ended
end_transition_p v =
    closing_p v (λ x. unless_zero_p v.transition.0 (planned (ended x v ▷ on_transition (content_to v.place v.current.0))))

-- ---- initial, donedata, data, invoke

unfoldable pub initial_p : Seen → Planned
unfolding unless_zero_p unless_initial_p only_nest_p
initial_p v = unless_zero_p v.state.0 (unless_initial_p v (only_nest_p v))

unfoldable pub donedata_p : Seen → Planned
unfolding unless_zero_p begun
donedata_p v = unless_zero_p v.state.0 (planned (begun v ▷ on_state (Some (state_to v.state.0 (Some S.First) (Some (suc v.parameters)) (Some 0)))))

-- With expr, or with the trimmed text, which may be empty.
unfoldable pub value_of : Heard → Shape
value_of q = elim q.expr [ true ↦ S.First | false ↦ S.Second ]

unfoldable pub data_p : Seen → Heard → Planned
unfolding unless_zero_p begun value_of
data_p v q =
    unless_zero_p v.state.0 (
    elim (eqb q.found (suc v.datums)) [
      | true ↦ planned (begun v ▷ on_datum (record { added = Some (record { state = v.state; shape = value_of q }); altered = None }))
      | false ↦ planned (begun v ▷ on_datum (record { added = None; altered = Some (record { at = q.found; shape = value_of q }) }))
    ])

unfoldable pub invoke_p : Seen → Heard → Planned
unfolding unless_zero_p begun
invoke_p v q =
    unless_zero_p v.state.0 (
    planned (
    begun v ▷ on_invoke (record { added = Some (record { state = v.state; autoforward = q.forward }); altered = None })
    ▷ on_members (some_words L.InvokeNames (suc v.invokes) q.names)))

-- ---- param and content

unfoldable pub by_parent_p : ℕ → Planned → Planned → Planned → Planned
by_parent_p p send invoke donedata = elim (eqb p tag.send) [ true ↦ send | false ↦ elim (eqb p tag.invoke) [ true ↦ invoke | false ↦ donedata ] ]

unfoldable pub of_last_send_p : Seen → Planned → Planned
of_last_send_p v p = elim (eqb v.kind (entry_number E.Send)) [ true ↦ p | false ↦ refused 2 ]

unfoldable pub of_last_invoke_p : Seen → Planned → Planned
unfolding unless_zero_p
of_last_invoke_p v p = unless_zero_p v.state.0 (unless_zero_p v.invoke p)

unfoldable pub of_donedata_p : Seen → Planned → Planned
unfolding unless_zero_p
of_donedata_p v p = unless_zero_p v.state.0 (unless_zero_p v.donedata p)

unfoldable pub parameter_p : OwnerKind → ℕ → Seen → Planned
unfolding begun
parameter_p k o v = planned (begun v ▷ on_parameter (Some (record { kind = k; owner = o })))

unfoldable pub param_p : Seen → Planned
unfolding by_parent_p unless_zero_p of_last_send_p of_last_invoke_p of_donedata_p parameter_p
param_p v =
    by_parent_p v.parent (unless_zero_p v.current.0 (of_last_send_p v (parameter_p O.Send v.entry v)))
    (of_last_invoke_p v (parameter_p O.Invoke v.invoke v)) (of_donedata_p v (parameter_p O.Donedata v.state.0 v))

unfoldable pub send_content_p : Seen → Heard → Planned
unfolding only_nest_p begun
send_content_p v q =
    elim (q.expr || q.whole) [
      | true ↦ planned (begun v ▷ on_entry (entry_filled v.entry))
      | false ↦ only_nest_p v
    ]

unfoldable pub content_of_send_p : Seen → Heard → Planned
unfolding only_nest_p of_last_send_p send_content_p
content_of_send_p v q = elim (eqb v.current.0 0) [ true ↦ only_nest_p v | false ↦ of_last_send_p v (send_content_p v q) ]

unfoldable pub content_p : Seen → Heard → Planned
unfolding by_parent_p content_of_send_p of_last_invoke_p of_donedata_p begun
content_p v q =
    by_parent_p v.parent (content_of_send_p v q)
    (of_last_invoke_p v (planned (begun v ▷ on_invoke (invoke_filled v.invoke))))
    (of_donedata_p v (planned (begun v ▷ on_state (Some (state_to v.state.0 (Some S.Third) None (Some 1))))))

-- ---- states

unfoldable pub parent_to : ℕ → Option ℕ
parent_to zero = None
parent_to (suc p) = Some (suc p)

-- x is the state as it is declared: its parent, whether it is parallel, final or a history, and what it joins.
unfoldable pub declared_row : ℕ → Option ℕ → ℕ → Declared → StatePlan
declared_row s i d x =
    record { at = state_id s; texts = None; initial = i; doc = Some d; parent = x.parent; parallel = x.parallel; ends = x.ends; history = x.history; donedata = None; filled = None }

-- With an `initial` attribute or without: "state, then its `initial` transition (internal, doc id, targets made as needed), then the state's doc id."
unfoldable pub initial_row : Bool → ℕ → Seen → TransitionPlan
initial_row b s v =
    elim b [
      | true ↦ new_transition (suc v.ids) (suc v.docs) s internal 0 0 None
      | false ↦ no_transition
    ]

unfoldable pub docs_after : Bool → ℕ → ℕ
docs_after b d = elim b [ true ↦ suc (suc d) | false ↦ suc d ]

unfoldable pub ids_after : Bool → ℕ → ℕ
ids_after b i = elim b [ true ↦ suc i | false ↦ i ]

unfoldable pub initial_if : Bool → ℕ → Option ℕ
initial_if b i = elim b [ true ↦ Some (suc i) | false ↦ None ]

unfoldable pub declared_members : Bool → Option MemberPlan → Seen → MembersPlan
declared_members b x v = record { words = None; targets = elim b [ true ↦ Some (record { owner = suc v.ids; skip = 1 }) | false ↦ None ]; one = x; two = None }

unfoldable pub declared_plan : Bool → Declared → Seen → Heard → Plan
unfolding idle_in declared_row initial_row docs_after ids_after initial_if declared_members
declared_plan b x v q =
    let s : ℕ = q.own.0 in
    idle_in (inside s v.transition.0) v
    ▷ on_state (Some (declared_row s (initial_if b v.ids) (docs_after b v.docs) x))
    ▷ on_transition (initial_row b s v)
    ▷ on_members (declared_members b x.joins v)
    ▷ on_counters (counting v.current.0 (ids_after b v.ids) (docs_after b v.docs))

unfoldable pub as_child : Option ℕ → Option ℕ → Seen → Heard → Declared
unfolding parent_to child_member
as_child par fin v q =
    let p : ℕ = v.state.0 in
    record { parent = parent_to p; parallel = par; ends = fin; history = None; joins = child_member v.joined p q.own.0 }

unfoldable pub state_p : Seen → Heard → Planned
unfolding declared_plan as_child
state_p v q = planned (declared_plan q.initial (as_child None None v q) v q)

unfoldable pub parallel_p : Seen → Heard → Planned
unfolding declared_plan as_child
parallel_p v q = planned (declared_plan q.initial (as_child (Some 1) None v q) v q)

unfoldable pub final_p : Seen → Heard → Planned
unfolding declared_plan as_child
final_p v q = planned (declared_plan q.initial (as_child None (Some 1) v q) v q)

unfoldable pub history_member : ℕ → ℕ → Option MemberPlan
history_member zero s = None
history_member (suc p) s = Some (member L.History (suc p) s)

unfoldable pub history_p : Seen → Heard → Planned
unfolding declared_plan history_member
history_p v q =
    planned (
    declared_plan q.initial (
    record {
      parent = Some v.state.0;
      parallel = None;
      ends = None;
      history = Some q.history;
      joins = history_member v.state.0 q.own.0;
    }) v q)

unfoldable pub binding_to : Heard → Option ℕ
binding_to q = elim q.binds [ true ↦ Some q.binding | false ↦ None ]

-- The chart's row as scxml begins it.
abbrev pub chart_of : Heard → ChartPlan
chart_of q = record { binding = binding_to q; root = Some q.own.0; script = None }

unfoldable pub not_child : Declared
not_child = record { parent = None; parallel = None; ends = None; history = None; joins = None }

unfoldable pub scxml_plan : Seen → Heard → Plan
unfolding declared_plan not_child binding_to
scxml_plan v q = declared_plan q.initial not_child v q ▷ on_chart (Some (chart_of q))

unfoldable pub scxml_p : Seen → Heard → Planned
unfolding scxml_plan
scxml_p v q = planned (scxml_plan v q)

-- ---- the default initial

abbrev pub default_row : ℕ → ℕ → TransitionPlan
default_row t s = new_transition t 0 s 0 0 0 None

unfoldable pub default_to : ℕ → ℕ → Seen → Plan
unfolding idle_in
default_to s zero v = idle_in (inside 0 0) v
default_to s (suc f) v =
    let t : ℕ = suc v.ids in
    idle_in (inside 0 0) v ▷ on_transition (default_row t s) ▷ on_state (Some (initial_to s t)) ▷ on_members (one_member L.Targets t (suc f)) ▷ on_counters (counting v.current.0 t v.docs)

-- s has the initial z and the first child f.
unfoldable pub default_p : ℕ → ℕ → ℕ → Seen → Planned
unfolding unless_zero_p default_to idle_in
default_p s z f v = unless_zero_p s (elim (eqb z 0) [ true ↦ planned (default_to s f v) | false ↦ planned (idle_in (inside 0 0) v) ])

unfoldable pub end_state_p : Seen → Planned
unfolding default_p
end_state_p v = default_p v.state.0 v.initial.0 v.first.0 v

unfoldable pub end_scxml_p : Seen → Planned
unfolding default_p
end_scxml_p v = default_p v.root.0 v.begins.0 v.child.0 v

-- ---- an empty state or scxml

-- f is the first child as it would be, 0 if there is none.
unfoldable pub defaulted : ℕ → Declared → Seen → Heard → Plan
unfolding declared_plan declared_row
defaulted zero x v q = declared_plan false x v q
defaulted (suc f) x v q =
    let t : ℕ = suc v.ids in
    declared_plan false x v q ▷ on_transition (default_row t q.own.0) ▷ on_state (Some (declared_row q.own.0 (Some t) (suc v.docs) x))
    ▷ on_members (record { words = None; targets = None; one = x.joins; two = Some (member L.Targets t (suc f)) }) ▷ on_counters (counting v.current.0 t (suc v.docs))

unfoldable pub both_declared : Option ChartPlan → Bool → Declared → Seen → Heard → Planned
unfolding unless_zero_p declared_plan defaulted
both_declared ch b x v q =
    unless_zero_p q.own.0 (
    elim b [
      | true ↦ planned (declared_plan true x v q ▷ on_chart ch)
      | false ↦ elim (eqb v.own.0 0) [ true ↦ planned (defaulted v.eldest.0 x v q ▷ on_chart ch) | false ↦ planned (declared_plan false x v q ▷ on_chart ch) ]
    ])

unfoldable pub both_state_p : Seen → Heard → Planned
unfolding both_declared as_child
both_state_p v q = both_declared None q.initial (as_child None None v q) v q

unfoldable pub both_scxml_p : Seen → Heard → Planned
unfolding both_declared not_child binding_to
both_scxml_p v q = both_declared (Some (chart_of q)) q.initial not_child v q

-- ---- by the element's number

unfoldable pub plain_p : (Seen → Planned) → Seen → Heard → Planned
plain_p f v q = f v

unfoldable pub starts_p : List (Seen → Heard → Planned)
unfolding plain_p only_nest_p scxml_p state_p parallel_p final_p history_p initial_p invoke_p data_p donedata_p region_p else_p else_if_p param_p content_p start_transition_p send_p entry_p log_p assign_p block_p script_p
starts_p =
    plain_p only_nest_p
    ∷ scxml_p
    ∷ state_p
    ∷ parallel_p
    ∷ plain_p only_nest_p
    ∷ final_p
    ∷ history_p
    ∷ plain_p initial_p
    ∷ invoke_p
    ∷ data_p
    ∷ plain_p donedata_p
    ∷ plain_p region_p
    ∷ plain_p else_p
    ∷ plain_p else_if_p
    ∷ plain_p param_p
    ∷ content_p
    ∷ start_transition_p
    ∷ plain_p region_p
    ∷ plain_p region_p
    ∷ send_p
    ∷ plain_p (entry_p S.First E.Raise)
    ∷ plain_p (entry_p S.First E.Cancel)
    ∷ log_p
    ∷ assign_p
    ∷ plain_p (block_p T.If E.If)
    ∷ plain_p (block_p T.Foreach E.Foreach)
    ∷ plain_p script_p
    ∷ []

-- Start and end as one: eight elements do something at their end.
unfoldable pub boths_p : List (Seen → Heard → Planned)
unfolding starts_p both_scxml_p both_state_p both_finalize_p both_transition_p both_listed_p both_block_p
boths_p =
    plain_p only_nest_p
    ∷ both_scxml_p
    ∷ both_state_p
    ∷ parallel_p
    ∷ plain_p only_nest_p
    ∷ final_p
    ∷ history_p
    ∷ plain_p initial_p
    ∷ invoke_p
    ∷ data_p
    ∷ plain_p donedata_p
    ∷ plain_p both_finalize_p
    ∷ plain_p else_p
    ∷ plain_p else_if_p
    ∷ plain_p param_p
    ∷ content_p
    ∷ both_transition_p
    ∷ plain_p (both_listed_p L.Onentry)
    ∷ plain_p (both_listed_p L.Onexit)
    ∷ send_p
    ∷ plain_p (entry_p S.First E.Raise)
    ∷ plain_p (entry_p S.First E.Cancel)
    ∷ log_p
    ∷ assign_p
    ∷ plain_p (both_block_p E.If)
    ∷ plain_p (both_block_p E.Foreach)
    ∷ plain_p script_p
    ∷ []

unfoldable pub rest_p : Seen → Planned
unfolding idle_in
rest_p v = planned (idle_in (inside 0 0) v)

unfoldable pub ends_p : List (Seen → Planned)
unfolding rest_p end_scxml_p end_state_p end_finalize_p end_transition_p end_listed_p end_block_p
ends_p =
    rest_p
    ∷ end_scxml_p
    ∷ end_state_p
    ∷ rest_p
    ∷ rest_p
    ∷ rest_p
    ∷ rest_p
    ∷ rest_p
    ∷ rest_p
    ∷ rest_p
    ∷ rest_p
    ∷ end_finalize_p
    ∷ rest_p
    ∷ rest_p
    ∷ rest_p
    ∷ rest_p
    ∷ end_transition_p
    ∷ end_listed_p L.Onentry
    ∷ end_listed_p L.Onexit
    ∷ rest_p
    ∷ rest_p
    ∷ rest_p
    ∷ rest_p
    ∷ rest_p
    ∷ end_block_p
    ∷ end_block_p
    ∷ []

unfoldable pub start_p : ℕ → Seen → Heard → Planned
unfolding starts_p only_nest_p plain_p
start_p g = get_or starts_p g (plain_p only_nest_p)

unfoldable pub both_p : ℕ → Seen → Heard → Planned
unfolding boths_p only_nest_p plain_p
both_p g = get_or boths_p g (plain_p only_nest_p)

unfoldable pub end_p : ℕ → Seen → Planned
unfolding ends_p rest_p
end_p g = get_or ends_p g rest_p

-- THE PLAN of an event, by its kind and its element.
unfoldable pub plan_by : ℕ → ℕ → Seen → Heard → Planned
unfolding start_p both_p end_p
plan_by zero g v q = start_p g v q
plan_by (suc zero) g v q = both_p g v q
plan_by (suc (suc zero)) g v q = both_p g v q
plan_by (suc (suc (suc k))) g v q = end_p g v

unfoldable pub plan_of : Numbers → Look → Planned
unfolding plan_by seen heard
plan_of n l = plan_by l.kind l.tag (seen n l) (heard l)
