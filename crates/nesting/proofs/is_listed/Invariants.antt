use Rattle.std.proofs.Common.{◌≡◌, drop}
use Rattle.definition.specs.Elements.{among}
use Rattle.nesting.specs.Tables.{listed}
use Rattle.nesting.proofs.is_listed.Given as goal

abbrev pub invariant-loop-p : goal.invariant-loop-p
invariant-loop-p l = among l.parent (listed (drop l.p-index l.p-items)) ≡ among l.parent (listed l.fn.row)
