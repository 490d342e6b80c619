-- A whole plan on the lent tables.
use Rattle.std.specs.Prelude.{ℕ, Option, List, [], ◌∷◌}
use Rattle.definition.specs.Rows.{Table}
use Rattle.plan.specs.declared.Plan.{Plan}
use Rattle.entries.specs.Whole.{chart_in, states_in, transitions_in, entries_in, invokes_in, datums_in, parameters_in}
use Rattle.tables.specs.declared.OpenedName.{OpenedName}
use Rattle.tables.specs.Whole.{regions_in, members_in, opened_in, open_names_in, open_regions_in}
use Rattle.definition.specs.declared.Position.{Position}
use Rattle.definition.specs.Reader as R
use Rattle.rows.specs.Lent.{lent}
use Rattle.rows.specs.declared.lent.Lent.{Lent}

-- The position where one row may come; m: the members in use, when the event's words and targets are written.
abbrev pub rows_of : Position → ℕ → Position
rows_of p m =
    record {
      opened = p.opened;
      states = p.states;
      transitions = p.transitions;
      regions = p.regions;
      entries = p.entries;
      invokes = p.invokes;
      datums = p.datums;
      parameters = p.parameters;
      members = m;
      open_regions = p.open_regions;
      current = p.current;
      ids = p.ids;
      docs = p.docs;
      names = p.names;
      used = p.used;
      charge = p.charge;
    }

-- t: the event's texts; g: its element; x: its own name, if it opens; n: the rows in use, as `rows_of` gives them.
unfoldable pub applied_in : List ℕ → ℕ → Option OpenedName → Position → Plan → Table → Table → Table → Table → Table → Table → Table → Table → Table → Table → Table → Table → List Table
applied_in t g x n p a b c d e f i j k o q r =
    chart_in t g p.chart a
    ∷ states_in t g p.states b
    ∷ transitions_in t g p.transitions n.transitions c
    ∷ regions_in p.regions n.regions d
    ∷ entries_in t g p.entries n.entries e
    ∷ invokes_in t g p.invokes n.invokes f
    ∷ datums_in t g p.datums n.datums i
    ∷ parameters_in t g p.parameters n.parameters j
    ∷ members_in p.members.one p.members.two n.members k
    ∷ opened_in g p.opened x n.opened o
    ∷ open_names_in x n.opened q
    ∷ open_regions_in p.pending r
    ∷ []

-- The same of all that is lent; the text stays.
abbrev pub applied_to : List ℕ → ℕ → Option OpenedName → Position → Plan → Lent → R.Lent
applied_to t g x n p y =
    lent (applied_in t g x n p y.chart.now y.states.now y.transitions.now y.regions.now y.entries.now y.invokes.now y.datums.now y.parameters.now y.members.now y.opened.now y.open_names.now y.open_regions.now)
    y.text.now
