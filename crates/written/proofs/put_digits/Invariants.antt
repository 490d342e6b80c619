use mathlib.Core.Path.{◌≡◌}
use mathlib.Core.List.{◌++◌}
use lib.ListN.{length, drop}
use Rattle.definition.specs.Text.{digits, decimal}
use Rattle.written.proofs.put_digits.Given as goal

abbrev pub invariant-loop-i : goal.invariant-loop-i
invariant-loop-i l = (length (digits l.i l.m) ≡ l.i) × (digits l.i l.m ++ drop l.i l.out ≡ decimal l.n)
