-- What question 2 is asked with: a store's counts, transitions and regions as the code holds them. A contract speaks of every store that looks so.
use Rattle.std.specs.Prelude.{◌≡◌, Bool, List, [], ℕ, length, get_or}
use Rattle.definition.specs.Rows.{Row, Table, table, Class, free, choices, num, Store, table_of}
use Rattle.definition.specs.Rules.{keeps, columns_keep, rows_keep}
use Rattle.columns.specs.declared.numbered.Known.{Known}

pub record Sees (s : Store) (k : Known) : Type 0 where
  pub states : length (table_of s.numbers table.states) ≡ k.states
  pub entries : length (table_of s.numbers table.entries) ≡ k.entries
  pub invokes : length (table_of s.numbers table.invokes) ≡ k.invokes
  pub parameters : length (table_of s.numbers table.parameters) ≡ k.parameters
  pub ids : s.numbers.ids ≡ k.ids
  pub docs : s.numbers.docs ≡ k.docs
  pub used : length s.text ≡ k.used
  pub transitions : table_of s.numbers table.transitions ≡ k.transitions.now
  pub regions : table_of s.numbers table.regions ≡ k.regions.now

-- r says whether a row keeps the classes, in every store that is seen so; whether all rows do.
abbrev pub RowTest : Known → List Class → Row → Bool → Type 0
RowTest k cs x r = (s : Store) → Sees s k → r ≡ columns_keep s x cs x

abbrev pub RowsTest : Known → List Class → Table → Bool → Type 0
RowsTest k cs t r = (s : Store) → Sees s k → r ≡ rows_keep s cs t

-- Whether a column keeps the class that a code chooses; `region` is the row's first number.
abbrev pub ChoiceTest : Known → ℕ → ℕ → ℕ → ℕ → Bool → Type 0
ChoiceTest k choice code region v r =
    (s : Store) → Sees s k → (x vs : Row) → num x 0 ≡ region → r ≡ keeps s x (get_or (get_or choices choice []) code free) v vs
