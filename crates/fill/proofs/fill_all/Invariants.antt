use Rattle.std.proofs.Common.{◌≡◌, drop, map}
use Rattle.fill.specs.Fill.{fill_all, as_list}
use Rattle.fill.proofs.fill_all.Given as goal

abbrev pub invariant-loop-column : goal.invariant-loop-column
invariant-loop-column l = fill_all l.t (map as_list (drop l.column-index l.shape)) l.row ≡ fill_all l.t (map as_list l.shape) l.initial.row
