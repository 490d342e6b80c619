-- Lists, and the frame of every handler's law.
use Prim.Native.Nat.{ℕ}
use mathlib.Core.List.{[], ◌∷◌}
use Rattle.definition.specs.Rows.{Table, Numbers, table_of}
use Rattle.definition.specs.Look.{Look}

-- Twelve tables, each by its name.
pub record Tables : Type 0 where
  pub chart : Table
  pub states : Table
  pub transitions : Table
  pub regions : Table
  pub entries : Table
  pub invokes : Table
  pub datums : Table
  pub parameters : Table
  pub members : Table
  pub opened : Table
  pub open_names : Table
  pub open_regions : Table

abbrev pub full : Tables → ℕ → ℕ → ℕ → ℕ → ℕ → Numbers
full T c i d a e =
    record {
      tables =
          T.chart ∷ T.states ∷ T.transitions ∷ T.regions ∷ T.entries ∷ T.invokes ∷ T.datums ∷ T.parameters ∷ T.members ∷ T.opened ∷ T.open_names ∷ T.open_regions ∷ [];
      current = c;
      ids = i;
      docs = d;
      names = a;
      charge = e;
    }

abbrev pub tables_of : Numbers → Tables
tables_of n =
    record {
      chart = table_of n 0;
      states = table_of n 1;
      transitions = table_of n 2;
      regions = table_of n 3;
      entries = table_of n 4;
      invokes = table_of n 5;
      datums = table_of n 6;
      parameters = table_of n 7;
      members = table_of n 8;
      opened = table_of n 9;
      open_names = table_of n 10;
      open_regions = table_of n 11;
    }

-- The look of an element by its number: a literal computes.
abbrev pub looked : ℕ → ℕ → Look → Look
looked k g l =
    record {
      kind = k;
      tag = g;
      fields = l.fields;
      refs = l.refs;
      known = l.known;
      generated = l.generated;
      charge = l.charge;
      base = l.base;
      found = l.found;
      innermost = l.innermost;
      name = l.name;
      name_length = l.name_length;
    }
