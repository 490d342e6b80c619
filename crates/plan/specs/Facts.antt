-- What the plan's law needs of a store, beside the store itself. Question 2 and the look give all of it.
use Rattle.std.specs.Prelude.{suc, ◌<◌, ◌≡◌, true, not, [], length, get_or, eqb}
use Rattle.definition.specs.Elements.{names_state}
use Rattle.definition.specs.Event.{kind}
use Rattle.definition.specs.Rows.{table, row_of, Numbers, table_of}
use Rattle.definition.specs.Look.{Look}
use Rattle.definition.specs.States.{own_state}
use Rattle.definition.specs.Actions.{place_of_number}

-- n is the store with the event's names entered.
pub record Facts (n : Numbers) (l : Look) : Type 0 where
  -- There are twelve tables.
  pub twelve : length n.tables ≡ 12
  -- No transition has the next number.
  pub fresh : place_of_number (table_of n table.transitions) (suc n.ids) ≡ 0
  -- The chart's row is there.
  pub chart : 0 < length (get_or (table_of n table.chart) 0 [])
  -- The state of an element that begins is there.
  pub own : not (eqb l.kind kind.ends) ≡ true → names_state l.tag ≡ true → 3 < length (row_of (table_of n table.states) (own_state l))
