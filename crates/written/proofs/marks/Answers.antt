use mathlib.Core.Path.{◌≡◌}
use Prim.Native.Nat.{ℕ}
use lib.Dec.{eqb}
use native.Mathlib.Omega.{arith}
use Rattle.std.proofs.Common.{rules}
use Rattle.std.specs.Prelude.{count_by}
use Rattle.written.proofs.Laws.{marks_by}
use Rattle.written.proofs.marks.Goals as goal

pub returns-clause-w_value : goal.returns-clause-w_value
returns-clause-w_value c = let e : c.count.result ≡ count_by (λ (b : ℕ). eqb b 34) c.args.w.now = search rules in omega (arith, marks_by c.args.w.now)
