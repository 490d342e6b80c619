use lib.ListN.{drop}
use Prim.Native.Nat.{◌+◌}
use mathlib.Core.Path.{◌≡◌}
use Rattle.definition.specs.Look.{find_name, name_cells}
use Rattle.order.proofs.find_name.Given as goal

abbrev pub invariant-loop-i : goal.invariant-loop-i
invariant-loop-i l = (find_name l.text (name_cells l.states) l.name ≡ l.i + find_name l.text (name_cells (drop l.i l.states)) l.name)
