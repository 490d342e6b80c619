-- Document 01's example: open scxml, empty state `id=a`, end scxml, as its rows are listed.
use mathlib.Core.Path.{◌≡◌, refl}
use mathlib.Core.List.{List, [], ◌∷◌, ◌++◌}
use Prim.Native.Nat.{ℕ}
use Rattle.definition.specs.Text.{str, decimal, bytes_at}
use Rattle.definition.specs.Rows.{Table, cell_at, text_at, listed, values_of}
use Rattle.printing.specs.Lines.{escape, escaped, gap, spaced_from, spaced, line, numbers_of}
use Rattle.listing.specs.Listing.{name_of, state_lines, states_from, type_word, transition_lines, transitions_from, listing}

pub charts : Table
charts = (1 ∷ []) ∷ []

pub states : Table
states = (1 ∷ 5 ∷ 1 ∷ 1 ∷ 0 ∷ []) ∷ (6 ∷ 1 ∷ 2 ∷ 0 ∷ 1 ∷ []) ∷ []

pub transitions : Table
transitions = (1 ∷ 0 ∷ 1 ∷ 0 ∷ 0 ∷ 0 ∷ []) ∷ []

pub members : Table
members = (1 ∷ 1 ∷ 2 ∷ []) ∷ (6 ∷ 1 ∷ 2 ∷ []) ∷ []

pub printed : List ℕ
unfolding str
printed =
    str "answer=0\nroot=1\nstates=2\ntransitions=1\nstate=1\nname=__id1\nparent=0\ninitial=1\ndoc=1\nchildren=2\n"
    ++ str "state=2\nname=a\nparent=1\ninitial=0\ndoc=2\nchildren=\ntransition=1\nsource=1\ntargets=2\ntype=external\ndoc=0\ncontent=0\n"

pub example : listing charts states transitions members (str "__id1a") ≡ printed
unfolding charts states transitions members printed listing states_from state_lines transitions_from transition_lines type_word name_of numbers_of spaced spaced_from gap line escaped escape str decimal bytes_at cell_at text_at listed values_of
example = refl
