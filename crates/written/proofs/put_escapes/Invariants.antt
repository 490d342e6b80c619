use Prim.Native.Nat.{◌≤◌, ◌+◌}
use mathlib.Core.Path.{◌≡◌}
use lib.ListN.{length, drop}
use lib.Seq.{sets}
use Rattle.definition.specs.Text.{escaped_quotes}
use Rattle.written.proofs.put_escapes.Given as goal

abbrev pub invariant-loop-b : goal.invariant-loop-b
invariant-loop-b l = ((l.b-index ≤ length l.w) × (length l.out ≡ length l.initial.out)) × ((l.p + length (escaped_quotes (drop l.b-index l.w)) ≡ l.at + length (escaped_quotes l.w)) × (sets l.out l.p (escaped_quotes (drop l.b-index l.w)) ≡ sets l.initial.out l.at (escaped_quotes l.w)))
