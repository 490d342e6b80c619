-- Document 01, module 6: Actions. The handlers of transitions, regions, their entries, invoke and param and content.
use Rattle.std.specs.Prelude.{ℕ, zero, suc, Bool, true, false, ◌||◌, List, [], ◌∷◌, length, eqb}
use Rattle.definition.specs.Elements.{tag, key}
use Rattle.definition.specs.Event.{kind}
use Rattle.definition.specs.Rows.{Row, Table, table, list, entry_kind, owner_kind, chart, state, transition, entry, invoke, parameter, num, row_of, Numbers, table_of, current_state, current_transition, parent_tag}
use Rattle.definition.specs.Look.{Look}
use Rattle.definition.specs.Change.{◌≔◌, Put, numbers, shape, Change, Outcome, done, refuse, ◌▷◌, nothing, adding, altering, next_id, next_doc, draw_id, draw_doc, in_transition, add_member, add_members, add_words, fresh_region, nested_region, closing, unless_zero, has, code_for, words_of}
use Rattle.definition.specs.States.{unless_initial}

-- ---- transitions

-- The place of the row with this number of its own, from 1; 0 if there is none. Transitions and regions have it in their first column.
unfoldable pub place_of_number : Table → ℕ → ℕ
place_of_number [] i = 0
place_of_number (r ∷ rs) i =
    elim (eqb (num r 0) i) [
      | true ↦ 1
      | false ↦ elim (place_of_number rs i) [ zero ↦ 0 | suc p ↦ suc (suc p) ]
    ]

-- Type words: external, internal, and the empty word, which is external.
unfoldable pub type_of : ℕ → ℕ
type_of c = elim (eqb c 1) [ true ↦ 1 | false ↦ 0 ]

unfoldable pub join_state : Bool → ℕ → ℕ → Change → Change
unfolding altering add_member
join_state true s t c = c ▷ altering (numbers table.states) s (state.initial ≔ t ∷ [])
join_state false s t c = c ▷ add_member list.transitions s t

-- "Transition: transition number, doc id, region number, targets." The region is new, and nothing outside it goes on.
unfoldable pub new_transition : Numbers → Bool → Look → Change → Change
unfolding adding draw_id draw_doc next_id next_doc fresh_region add_members add_words join_state in_transition current_state type_of code_for words_of
new_transition n in_initial l c =
    c ▷ draw_id ▷ draw_doc ▷ fresh_region
    ▷ adding (shape 0) (
    transition.number ≔ next_id c ∷ transition.doc ≔ next_doc c ∷ transition.source ≔ current_state n ∷ transition.type ≔ type_of (code_for l key.type 0)
    ∷ transition.wildcard ≔ code_for l key.event 0 ∷ [])
    ▷ add_words (shape 1) list.events (next_id c) (length (words_of l key.event)) ▷ add_members list.targets (next_id c) l.refs
    ▷ join_state in_initial (current_state n) (next_id c) ▷ in_transition (next_id c)

unfoldable pub start_transition : Numbers → Look → Outcome
unfolding unless_zero unless_initial current_state parent_tag nothing new_transition
start_transition n l =
    unless_zero (current_state n) (
    elim (eqb (parent_tag n) tag.initial) [
      | true ↦ unless_initial n (done (nothing n ▷ new_transition n true l))
      | false ↦ done (nothing n ▷ new_transition n false l)
    ])

-- The end of an element whose region was opened without stack: `next` is told the region that was current.
unfoldable pub ending : ℕ → Numbers → (ℕ → Change → Outcome) → Outcome
unfolding closing nothing
ending g n next = closing g (nothing n) (next n.current)

unfoldable pub end_transition : Numbers → Outcome
unfolding ending unless_zero altering place_of_number current_transition
end_transition n =
    ending tag.transition n (λ r c.
    unless_zero (current_transition n) (
    done (
    c
    ▷ altering (numbers table.transitions) (place_of_number (table_of n table.transitions) (current_transition n)) (transition.content ≔ r ∷ []))))

-- ---- onentry, onexit, finalize

unfoldable pub start_region : Numbers → Look → Outcome
unfolding nothing fresh_region
start_region n l = done (nothing n ▷ fresh_region)

unfoldable pub end_listed : ℕ → ℕ → Numbers → Outcome
unfolding ending unless_zero add_member current_state
end_listed g l n = ending g n (λ r c. unless_zero (current_state n) (done (c ▷ add_member l (current_state n) r)))

-- The number of the last invoke of a state, from 1; 0 if it has none. i counts the rows that were passed, a is the last found.
unfoldable pub last_with : ℕ → ℕ → ℕ → ℕ → Table → ℕ
last_with column v i a [] = a
last_with column v i a (r ∷ rs) = elim (eqb (num r column) v) [ true ↦ last_with column v (suc i) (suc i) rs | false ↦ last_with column v (suc i) a rs ]

unfoldable pub last_invoke : Numbers → ℕ → ℕ
unfolding last_with
last_invoke n s = last_with invoke.state s 0 0 (table_of n table.invokes)

-- The last entry of a region.
unfoldable pub last_entry : Numbers → ℕ → ℕ
unfolding last_with
last_entry n r = last_with entry.region r 0 0 (table_of n table.entries)

unfoldable pub end_finalize : Numbers → Outcome
unfolding ending unless_zero altering last_invoke current_state
end_finalize n =
    ending tag.finalize n (λ r c.
    unless_zero (current_state n) (
    unless_zero (last_invoke n (current_state n)) (
    done (c ▷ altering (numbers table.invokes) (last_invoke n (current_state n)) (invoke.finalize ≔ r ∷ [])))))

-- ---- entries

-- An entry joins the current region; where there is none it is an internal error.
unfoldable pub new_entry : ℕ → ℕ → List Put → Change → Change
unfolding adding
new_entry h k ps c = c ▷ adding (shape h) (entry.region ≔ c.current ∷ entry.kind ≔ k ∷ ps)

unfoldable pub entry_of : ℕ → ℕ → Numbers → Look → Outcome
unfolding unless_zero nothing new_entry
entry_of h k n l = unless_zero n.current (done (nothing n ▷ new_entry h k []))

-- "Log without expr adds nothing."
unfoldable pub start_log : Numbers → Look → Outcome
unfolding entry_of has nothing
start_log n l = elim (has l key.expr) [ true ↦ entry_of 0 entry_kind.log n l | false ↦ done (nothing n) ]

-- An assign's text, where there is one, is its value.
unfoldable pub start_assign : Numbers → Look → Outcome
unfolding entry_of
start_assign n l = elim (eqb l.kind kind.whole) [ true ↦ entry_of 1 entry_kind.assign n l | false ↦ entry_of 0 entry_kind.assign n l ]

-- The root's script has a region of its own; the chart keeps its number.
unfoldable pub root_script : Numbers → Look → Outcome
unfolding nothing fresh_region new_entry closing altering
root_script n l =
    let c : Change = nothing n ▷ fresh_region ▷ new_entry 0 entry_kind.script [] in
    closing tag.script c (λ d. done (d ▷ altering (numbers table.chart) 1 (chart.script ≔ c.current ∷ [])))

unfoldable pub start_script : Numbers → Look → Outcome
unfolding root_script entry_of parent_tag
start_script n l = elim (eqb (parent_tag n) tag.scxml) [ true ↦ root_script n l | false ↦ entry_of 0 entry_kind.script n l ]

unfoldable pub start_send : Numbers → Look → Outcome
unfolding unless_zero nothing new_entry add_words current_state words_of
start_send n l =
    unless_zero (current_state n) (
    unless_zero n.current (
    done (
    nothing n ▷ new_entry 0 entry_kind.send (entry.state ≔ current_state n ∷ [])
    ▷ add_words (shape 1) list.send_names (suc (length (table_of n table.entries))) (length (words_of l key.namelist)))))

-- "if, foreach: entry, then its region."
unfoldable pub block : ℕ → ℕ → Numbers → Look → Outcome
unfolding unless_zero nothing new_entry next_id nested_region
block g k n l =
    unless_zero n.current (done (nothing n ▷ new_entry 0 k (entry.content ≔ next_id (nothing n) ∷ []) ▷ nested_region g))

unfoldable pub end_block : ℕ → Numbers → Outcome
unfolding ending
end_block g n = ending g n (λ r c. done c)

-- ---- else and elseif

pub data Walk : Type 0 where
  meets : ℕ → Walk
  nowhere no_if : Walk

-- "else or elseif closes to the outer region and walks from its last entry through else numbers to the first if without one." Else numbers rise, so as many
-- steps as there are regions are enough.
unfoldable pub else_walk : ℕ → Numbers → ℕ → Walk
unfolding last_entry row_of
else_walk zero n r = no_if
else_walk (suc fuel) n r =
    let e : Row = row_of (table_of n table.entries) (last_entry n r) in
    elim (eqb (num e entry.kind) entry_kind.if) [
      | false ↦ no_if
      | true ↦ elim (eqb (num e entry.else) 0) [ true ↦ meets (last_entry n r) | false ↦ else_walk fuel n (num e entry.else) ]
    ]

-- In region 0 the walk does not start.
unfoldable pub walk_from : Numbers → ℕ → Walk
unfolding else_walk
walk_from n zero = nowhere
walk_from n (suc r) = else_walk (length (table_of n table.regions)) n (suc r)

unfoldable pub walked : Walk → ℕ → Change → Outcome
unfolding altering
walked (meets e) r c = done (c ▷ altering (numbers table.entries) e (entry.else ≔ r ∷ []))
walked nowhere r c = done c
walked no_if r c = refuse 14

-- c has the outer region current; d is what the branch adds, its else region first.
unfoldable pub branch : Numbers → Change → Change → Outcome
unfolding walked walk_from next_id
branch n c d = walked (walk_from n c.current) (next_id c) d

unfoldable pub start_else : Numbers → Look → Outcome
unfolding closing nothing branch nested_region
start_else n l = closing tag.if (nothing n) (λ c. branch n c (c ▷ nested_region tag.if))

-- "elseif: the else region, then the content region." The else region holds one if.
unfoldable pub else_if_branch : Change → Change
unfolding new_entry nested_region next_id
else_if_branch c =
    let d : Change = c ▷ nested_region tag.if in
    d ▷ new_entry 0 entry_kind.if (entry.content ≔ next_id d ∷ []) ▷ nested_region tag.elseif

unfoldable pub start_else_if : Numbers → Look → Outcome
unfolding closing nothing branch else_if_branch
start_else_if n l = closing tag.if (nothing n) (λ c. branch n c (else_if_branch c))

-- ---- invoke

-- "Absent autoforward is false."
unfoldable pub start_invoke : Numbers → Look → Outcome
unfolding unless_zero nothing adding add_words current_state code_for words_of
start_invoke n l =
    unless_zero (current_state n) (
    done (
    nothing n ▷ adding (shape 0) (invoke.state ≔ current_state n ∷ invoke.autoforward ≔ code_for l key.autoforward 0 ∷ [])
    ▷ add_words (shape 1) list.invoke_names (suc (length (table_of n table.invokes))) (length (words_of l key.namelist))))

-- ---- param and content: by the parent, which is send, invoke or donedata

unfoldable pub by_parent : ℕ → Outcome → Outcome → Outcome → Outcome
by_parent p send invoke donedata = elim (eqb p tag.send) [ true ↦ send | false ↦ elim (eqb p tag.invoke) [ true ↦ invoke | false ↦ donedata ] ]

unfoldable pub new_parameter : ℕ → ℕ → Numbers → Outcome
unfolding nothing adding
new_parameter k o n = done (nothing n ▷ adding (shape 0) (parameter.kind ≔ k ∷ parameter.owner ≔ o ∷ []))

-- The region's last entry must be a send.
unfoldable pub of_last_send : Numbers → Outcome → Outcome
unfolding row_of last_entry
of_last_send n o =
    elim (eqb (num (row_of (table_of n table.entries) (last_entry n n.current)) entry.kind) entry_kind.send) [ true ↦ o | false ↦ refuse 2 ]

unfoldable pub of_last_invoke : Numbers → Outcome → Outcome
unfolding unless_zero current_state last_invoke
of_last_invoke n o = unless_zero (current_state n) (unless_zero (last_invoke n (current_state n)) o)

unfoldable pub of_donedata : Numbers → Outcome → Outcome
unfolding unless_zero current_state row_of
of_donedata n o = unless_zero (current_state n) (unless_zero (num (row_of (table_of n table.states) (current_state n)) state.donedata) o)

unfoldable pub start_param : Numbers → Look → Outcome
unfolding by_parent parent_tag unless_zero of_last_send of_last_invoke of_donedata new_parameter last_entry last_invoke current_state
start_param n l =
    by_parent (parent_tag n) (unless_zero n.current (of_last_send n (new_parameter owner_kind.send (last_entry n n.current) n)))
    (of_last_invoke n (new_parameter owner_kind.invoke (last_invoke n (current_state n)) n)) (of_donedata n (new_parameter owner_kind.donedata (current_state n) n))

-- "Empty-element content without expr: donedata and invoke get a record, send doesn't."
unfoldable pub send_content : Numbers → Look → Outcome
unfolding has nothing altering last_entry
send_content n l =
    elim (has l key.expr || eqb l.kind kind.whole) [
      | true ↦ done (nothing n ▷ altering (shape 0) (last_entry n n.current) (entry.has_content ≔ 1 ∷ []))
      | false ↦ done (nothing n)
    ]

-- In region 0 the Rust finds no entry and goes on.
unfoldable pub content_of_send : Numbers → Look → Outcome
unfolding nothing of_last_send send_content
content_of_send n l = elim (eqb n.current 0) [ true ↦ done (nothing n) | false ↦ of_last_send n (send_content n l) ]

unfoldable pub start_content : Numbers → Look → Outcome
unfolding by_parent parent_tag content_of_send of_last_invoke of_donedata nothing altering last_invoke current_state
start_content n l =
    by_parent (parent_tag n) (content_of_send n l)
    (of_last_invoke n (done (nothing n ▷ altering (shape 1) (last_invoke n (current_state n)) (invoke.has_content ≔ 1 ∷ []))))
    (of_donedata n (done (nothing n ▷ altering (shape 2) (current_state n) (state.has_content ≔ 1 ∷ []))))
