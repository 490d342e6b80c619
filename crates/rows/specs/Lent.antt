-- What is lent, as the definition has it.
use Rattle.std.specs.Prelude.{List, [], ◌∷◌, ℕ, ◌≡◌, take}
use Rattle.definition.specs.Rows.{Table}
use Rattle.definition.specs.Reader as R
use Rattle.definition.specs.declared.Position.{Position}
use Rattle.rows.specs.declared.lent.Lent.{Lent}
use Rattle.rows.specs.declared.lent.Tables.{Tables}

-- The twelve tables, in the order of their numbers.
abbrev pub tables : Table → Table → Table → Table → Table → Table → Table → Table → Table → Table → Table → Table → List Table
tables ch st tr re en iv da pa me op on or = ch ∷ st ∷ tr ∷ re ∷ en ∷ iv ∷ da ∷ pa ∷ me ∷ op ∷ on ∷ or ∷ []

abbrev pub lent : List Table → List ℕ → R.Lent
lent ts text = record { tables = ts; text = text }

-- As it is lent to be written, and to be read.
abbrev pub lent_of : Lent → R.Lent
lent_of x =
    lent
    (tables x.chart.now x.states.now x.transitions.now x.regions.now x.entries.now x.invokes.now x.datums.now x.parameters.now x.members.now x.opened.now x.open_names.now x.open_regions.now)
    x.text.now

abbrev pub seen_of : Tables → R.Lent
seen_of x =
    lent
    (tables x.chart.now x.states.now x.transitions.now x.regions.now x.entries.now x.invokes.now x.datums.now x.parameters.now x.members.now x.opened.now x.open_names.now x.open_regions.now)
    x.text.now

-- Everything is written where it was lent.
pub record SameLoans (x y : Lent) : Type 0 where
  pub chart : y.chart.ghost_name ≡ x.chart.ghost_name
  pub states : y.states.ghost_name ≡ x.states.ghost_name
  pub transitions : y.transitions.ghost_name ≡ x.transitions.ghost_name
  pub regions : y.regions.ghost_name ≡ x.regions.ghost_name
  pub entries : y.entries.ghost_name ≡ x.entries.ghost_name
  pub invokes : y.invokes.ghost_name ≡ x.invokes.ghost_name
  pub datums : y.datums.ghost_name ≡ x.datums.ghost_name
  pub parameters : y.parameters.ghost_name ≡ x.parameters.ghost_name
  pub members : y.members.ghost_name ≡ x.members.ghost_name
  pub opened : y.opened.ghost_name ≡ x.opened.ghost_name
  pub open_names : y.open_names.ghost_name ≡ x.open_names.ghost_name
  pub open_regions : y.open_regions.ghost_name ≡ x.open_regions.ghost_name
  pub text : y.text.ghost_name ≡ x.text.ghost_name

-- y has of every table the rows that are in use at p.
pub record RowsInUse (x : Tables) (p : Position) (y : Tables) : Type 0 where
  pub chart : y.chart.now ≡ take 1 x.chart.now
  pub states : y.states.now ≡ take p.states x.states.now
  pub transitions : y.transitions.now ≡ take p.transitions x.transitions.now
  pub regions : y.regions.now ≡ take p.regions x.regions.now
  pub entries : y.entries.now ≡ take p.entries x.entries.now
  pub invokes : y.invokes.now ≡ take p.invokes x.invokes.now
  pub datums : y.datums.now ≡ take p.datums x.datums.now
  pub parameters : y.parameters.now ≡ take p.parameters x.parameters.now
  pub members : y.members.now ≡ take p.members x.members.now
  pub opened : y.opened.now ≡ take p.opened x.opened.now
  pub open_names : y.open_names.now ≡ take p.opened x.open_names.now
  pub open_regions : y.open_regions.now ≡ take p.open_regions x.open_regions.now
  pub text : y.text.now ≡ take p.used x.text.now
