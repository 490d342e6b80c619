-- What questions 1 and 2 ask of what is lent, in the order in which the code asks.
use Rattle.std.specs.Prelude.{ℕ, ◌≤◌, ◌≡◌, Bool, true, false, ◌&&◌, List, length, leb}
use Rattle.definition.specs.Limits.{limits01}
use Rattle.definition.specs.declared.Limits.{Limits}
use Rattle.definition.specs.declared.Position.{Position}
use Rattle.definition.specs.Rows.{Table, table, schema, table_of, Store}
use Rattle.definition.specs.Rules.{tables_keep, names_distinct, numbers_fit, open_names_fit, open_regions_fit, is_row_or_zero, table_limits}
use Rattle.definition.specs.Reader as R
use Rattle.columns.specs.declared.numbered.Known.{Known}
use Rattle.columns.specs.Sees.{Sees}
use Rattle.rows.specs.declared.lent.Tables.{Tables}

-- Tables and a text that are in use as a whole.
abbrev pub store : List Table → List ℕ → Position → Store
store ts text p = record { numbers = record { tables = ts; current = p.current.0; ids = p.ids; docs = p.docs; names = p.names; charge = p.charge }; text = text }

-- r says whether the rows of all tables keep their classes, in every store that is seen so.
abbrev pub TablesTest : Known → List Table → Bool → Type 0
TablesTest k all r = (s : Store) → Sees s k → r ≡ tables_keep s schema all

-- The rules but for limits and counters.
unfoldable pub rules_kept : Limits → Store → Bool
unfolding tables_keep schema names_distinct numbers_fit open_names_fit open_regions_fit is_row_or_zero
rules_kept L s =
    tables_keep s schema s.numbers.tables && names_distinct s && numbers_fit s.numbers
    && open_names_fit L (table_of s.numbers table.opened) (table_of s.numbers table.open_names) && open_regions_fit s.numbers
    && is_row_or_zero s.numbers table.regions s.numbers.current

-- Tables that keep their limits.
pub record Few (st en iv pa : Table) (bytes : List ℕ) : Type 0 where
  pub states : length st ≤ limits01.states
  pub entries : length en ≤ limits01.entries
  pub invokes : length iv ≤ limits01.invokes
  pub parameters : length pa ≤ limits01.parameters
  pub text : length bytes ≤ limits01.charge

-- What the rows of these tables are held against.
pub record KnownOf (x : Tables) (p : Position) (k : Known) : Type 0 where
  pub transitions : x.transitions.now ≡ k.transitions.now
  pub regions : x.regions.now ≡ k.regions.now
  pub states : length x.states.now ≡ k.states
  pub entries : length x.entries.now ≡ k.entries
  pub invokes : length x.invokes.now ≡ k.invokes
  pub parameters : length x.parameters.now ≡ k.parameters
  pub ids : p.ids ≡ k.ids
  pub docs : p.docs ≡ k.docs
  pub used : length x.text.now ≡ k.used

-- The counts of rows keep the limits; the counters do, and the charge covers the text.
unfoldable pub counts_fit : Position → Bool
unfolding R.all_at_most R.counts table_limits
counts_fit p = R.all_at_most (R.counts p) (table_limits limits01) && leb p.used limits01.charge

unfoldable pub counters_fit : Position → ℕ → Bool
counters_fit p stored =
    leb p.ids limits01.drawn && leb p.docs limits01.drawn && leb p.names limits01.drawn && leb p.charge limits01.charge && leb stored p.charge

-- The first no of questions 1 and 2; 0: both yes.
unfoldable pub first_two : R.Lent → Position → ℕ
first_two x p = elim (R.long_enough limits01 x) [ false ↦ 1 | true ↦ elim (R.in_order limits01 x p) [ false ↦ 2 | true ↦ 0 ] ]
