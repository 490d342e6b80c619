-- How many steps the walk of else and elseif gets: as many as there are regions.
use Prim.Native.Nat.{ℕ}
use lib.ListN.{length}
use Rattle.definition.specs.Rows.{Numbers, table_of}

abbrev pub step_count : Numbers → ℕ
step_count n = length (table_of n 3)
