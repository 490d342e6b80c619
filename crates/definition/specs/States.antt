-- Document 01, module 5: States. The handlers of scxml, state, parallel, final, history, initial, donedata and data.
use Rattle.std.specs.Prelude.{ℕ, zero, suc, Bool, true, false, List, [], ◌∷◌, length, get_or, eqb}
use Rattle.definition.specs.Elements.{key, among}
use Rattle.definition.specs.Rows.{table, list, chart, state, transition, datum, num, row_of, internal, shallow, Numbers, table_of, listed, values_of, current_state, root}
use Rattle.definition.specs.Look.{Look}
use Rattle.definition.specs.Change.{◌≔◌, numbers, shape, Change, Outcome, done, refuse, ◌▷◌, nothing, adding, altering, next_id, next_doc, draw_id, draw_doc, in_state, add_member, add_members, unless_zero, has, code_for}

-- The state that the element names, and the states that its `initial` words name.
unfoldable pub own_state : Look → ℕ
own_state l = get_or l.refs 0 0

unfoldable pub other_states : List ℕ → List ℕ
other_states [] = []
other_states (i ∷ is) = is

-- "Its `initial` transition (internal, doc id, targets made as needed)."
unfoldable pub initial_transition : Look → Change → Change
unfolding adding altering draw_id draw_doc next_id next_doc add_members own_state other_states has
initial_transition l c =
    elim (has l key.initial) [
      | false ↦ c
      | true ↦
          c ▷ draw_id ▷ draw_doc
          ▷ adding (numbers table.transitions) (
          transition.number ≔ next_id c ∷ transition.doc ≔ next_doc c ∷ transition.source ≔ own_state l ∷ transition.type ≔ internal ∷ [])
          ▷ add_members list.targets (next_id c) (other_states l.refs) ▷ altering (numbers table.states) (own_state l) (state.initial ≔ next_id c ∷ [])
    ]

unfoldable pub own_doc : Look → Change → Change
unfolding altering draw_doc next_doc own_state
own_doc l c = c ▷ draw_doc ▷ altering (numbers table.states) (own_state l) (state.doc ≔ next_doc c ∷ [])

unfoldable pub is_child : Numbers → ℕ → ℕ → Bool
unfolding among values_of listed
is_child n p s = among s (values_of (listed list.children p (table_of n table.members)))

-- A state joins its parent's children, once.
unfoldable pub child_of : Numbers → ℕ → Look → Change → Change
unfolding altering add_member own_state is_child
child_of n zero l c = c
child_of n (suc p) l c =
    let c₁ : Change = c ▷ altering (numbers table.states) (own_state l) (state.parent ≔ suc p ∷ []) in
    elim (is_child n (suc p) (own_state l)) [ true ↦ c₁ | false ↦ c₁ ▷ add_member list.children (suc p) (own_state l) ]

-- "Order: state, then its `initial` transition (internal, doc id, targets made as needed), then the state's doc id." The state's row is there already; its element is open in it.
unfoldable pub declared : Numbers → ℕ → Look → Change
unfolding nothing initial_transition own_doc child_of in_state own_state
declared n parent l = nothing n ▷ initial_transition l ▷ own_doc l ▷ child_of n parent l ▷ in_state (own_state l)

unfoldable pub start_state : Numbers → Look → Outcome
unfolding declared current_state
start_state n l = done (declared n (current_state n) l)

unfoldable pub start_parallel : Numbers → Look → Outcome
unfolding declared altering current_state own_state
start_parallel n l = done (declared n (current_state n) l ▷ altering (numbers table.states) (own_state l) (state.parallel ≔ 1 ∷ []))

unfoldable pub start_final : Numbers → Look → Outcome
unfolding declared altering current_state own_state
start_final n l = done (declared n (current_state n) l ▷ altering (numbers table.states) (own_state l) (state.final ≔ 1 ∷ []))

-- "History states join `history`, not `states`." Outside every state there is no list to join.
unfoldable pub in_history : ℕ → Look → Change → Change
unfolding add_member own_state
in_history zero l c = c
in_history (suc p) l c = c ▷ add_member list.history (suc p) (own_state l)

unfoldable pub start_history : Numbers → Look → Outcome
unfolding declared in_history altering current_state code_for own_state
start_history n l =
    done (
    declared n 0 l ▷ in_history (current_state n) l
    ▷ altering (numbers table.states) (own_state l) (state.parent ≔ current_state n ∷ state.history ≔ code_for l key.type shallow ∷ []))

-- The chart's own row: name, datamodel and version are the shape's; a binding only where one is given.
unfoldable pub binding : Look → Change → Change
unfolding has code_for altering
binding l c =
    elim (has l key.binding) [ true ↦ c ▷ altering (numbers table.chart) 1 (chart.binding ≔ code_for l key.binding 0 ∷ []) | false ↦ c ]

unfoldable pub start_scxml : Numbers → Look → Outcome
unfolding declared binding altering own_state
start_scxml n l = done (declared n 0 l ▷ binding l ▷ altering (shape 0) 1 (chart.root ≔ own_state l ∷ []))

-- ---- the default initial

unfoldable pub first_of : List ℕ → ℕ
first_of [] = 0
first_of (i ∷ is) = i

unfoldable pub initial_of : Numbers → ℕ → ℕ
unfolding row_of
initial_of n s = num (row_of (table_of n table.states) s) state.initial

unfoldable pub default_transition : ℕ → ℕ → Change → Change
unfolding adding altering draw_id next_id add_member
default_transition s zero c = c
default_transition s (suc i) c =
    c ▷ draw_id ▷ adding (numbers table.transitions) (transition.number ≔ next_id c ∷ transition.source ≔ s ∷ [])
    ▷ add_member list.targets (next_id c) (suc i) ▷ altering (numbers table.states) s (state.initial ≔ next_id c ∷ [])

-- "An ending state or scxml with initial 0 and a first child gets an external transition to it with doc id 0; parallel doesn't."
unfoldable pub default_initial : Numbers → ℕ → Outcome
unfolding nothing default_transition initial_of first_of values_of listed unless_zero
default_initial n s =
    unless_zero s (
    elim (eqb (initial_of n s) 0) [
      | true ↦ done (nothing n ▷ default_transition s (first_of (values_of (listed list.children s (table_of n table.members)))))
      | false ↦ done (nothing n)
    ])

unfoldable pub end_state : Numbers → Outcome
unfolding default_initial current_state
end_state n = default_initial n (current_state n)

unfoldable pub end_scxml : Numbers → Outcome
unfolding default_initial root
end_scxml n = default_initial n (root n)

-- ---- initial, donedata, data

-- "For `initial`, and a transition in it: is the state's initial 0? 13"
unfoldable pub unless_initial : Numbers → Outcome → Outcome
unfolding initial_of current_state
unless_initial n o = elim (eqb (initial_of n (current_state n)) 0) [ true ↦ o | false ↦ refuse 13 ]

unfoldable pub start_initial : Numbers → Look → Outcome
unfolding unless_zero current_state unless_initial nothing
start_initial n l = unless_zero (current_state n) (unless_initial n (done (nothing n)))

-- "A second donedata in a final begins empty; the parameters of the first leave the chart (reading one gives 16) but keep their numbers and
-- still count": those below the mark.
unfoldable pub start_donedata : Numbers → Look → Outcome
unfolding unless_zero current_state nothing altering
start_donedata n l =
    unless_zero (current_state n) (
    done (
    nothing n
    ▷ altering (shape 0) (current_state n) (state.donedata ≔ suc (length (table_of n table.parameters)) ∷ state.has_content ≔ 0 ∷ [])))

-- With expr, or with the trimmed text, which may be empty.
unfoldable pub value_shape : Look → ℕ
unfolding has
value_shape l = elim (has l key.expr) [ true ↦ 0 | false ↦ 1 ]

-- "`data` repeated in a state replaces the value in its row and takes no new row."
unfoldable pub start_data : Numbers → Look → Outcome
unfolding unless_zero current_state nothing adding altering value_shape
start_data n l =
    unless_zero (current_state n) (
    elim (eqb l.found (suc (length (table_of n table.datums)))) [
      | true ↦ done (nothing n ▷ adding (shape (value_shape l)) (datum.state ≔ current_state n ∷ []))
      | false ↦ done (nothing n ▷ altering (shape (value_shape l)) l.found [])
    ])
