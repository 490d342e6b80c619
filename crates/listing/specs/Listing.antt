-- Document 01, 'Charts at the edges': what the program `chartlist` prints.
use Rattle.std.specs.Prelude.{ℕ, suc, true, false, List, [], ◌∷◌, ◌++◌, length, get_or, eqb}
use Rattle.definition.specs.Text.{str, decimal}
use Rattle.definition.specs.Rows.{Row, Table, num, chart, state, transition, list, internal, cell_at, text_at}
use Rattle.printing.specs.Lines.{escaped, spaced, line, numbers_of}

unfoldable pub name_of : List ℕ → Row → List ℕ
name_of text r = text_at text (cell_at r state.name)

-- "Number, name, parent, initial, doc id, children."
unfoldable pub state_lines : List ℕ → Table → ℕ → Row → List ℕ
state_lines text members n r =
    line (str "state=") (decimal n) ++ line (str "name=") (escaped (name_of text r)) ++ line (str "parent=") (decimal (num r state.parent))
    ++ line (str "initial=") (decimal (num r state.initial))
    ++ line (str "doc=") (decimal (num r state.doc))
    ++ line (str "children=") (spaced (numbers_of list.children n members))

unfoldable pub states_from : List ℕ → Table → ℕ → Table → List ℕ
states_from text members n [] = []
states_from text members n (r ∷ rs) = state_lines text members n r ++ states_from text members (suc n) rs

unfoldable pub type_word : ℕ → List ℕ
type_word t = elim (eqb t internal) [ true ↦ str "internal" | false ↦ str "external" ]

-- "Number, source, targets, type, doc id, content."
unfoldable pub transition_lines : Table → Row → List ℕ
transition_lines members r =
    line (str "transition=") (decimal (num r transition.number)) ++ line (str "source=") (decimal (num r transition.source))
    ++ line (str "targets=") (spaced (numbers_of list.targets (num r transition.number) members))
    ++ line (str "type=") (type_word (num r transition.type))
    ++ line (str "doc=") (decimal (num r transition.doc))
    ++ line (str "content=") (decimal (num r transition.content))

unfoldable pub transitions_from : Table → Table → List ℕ
transitions_from members [] = []
transitions_from members (r ∷ rs) = transition_lines members r ++ transitions_from members rs

-- "First stand the answer, the root's number (0 without scxml) and the counts of states and transitions; then all states and then all transitions, each by
-- rising number": they stand in their tables in this order.
unfoldable pub listing : Table → Table → Table → Table → List ℕ → List ℕ
listing charts states transitions members text =
    line (str "answer=") (decimal 0) ++ line (str "root=") (decimal (num (get_or charts 0 []) chart.root)) ++ line (str "states=") (decimal (length states))
    ++ line (str "transitions=") (decimal (length transitions))
    ++ states_from text members 1 states
    ++ transitions_from members transitions

-- "A refusal prints `answer=` and `event=` (position from 1) only."
unfoldable pub refusal : ℕ → ℕ → List ℕ
refusal number event = line (str "answer=") (decimal number) ++ line (str "event=") (decimal event)
