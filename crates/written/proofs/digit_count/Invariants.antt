use Prim.Native.Nat.{◌+◌, ◌-◌}
use mathlib.Core.Path.{◌≡◌}
use lib.ListN.{length}
use Rattle.definition.specs.Text.{digits, decimal}
use Rattle.written.proofs.digit_count.Given as goal

abbrev pub invariant-loop-k : goal.invariant-loop-k
invariant-loop-k l = l.k + length (digits (20 - l.k) l.m) ≡ length (decimal l.n)
