use mathlib.Core.Path.{◌≡◌, ◌∙◌}
use mathlib.Core.List.{List}
use Prim.Native.Nat.{ℕ}
use Rattle.std.proofs.Common.{rules}
use Rattle.std.specs.Prelude.{count_by}
use Rattle.definition.specs.Rows.{num}
use Rattle.definition.specs.Rules as R
use Rattle.order.proofs.Laws.{blocks_by}
use Rattle.order.proofs.blocks_in.Goals as goal

pub returns : goal.returns
returns c = let e : c.count.result ≡ count_by (λ (r : List ℕ). R.is_block (num r c.args.c)) c.args.t.now = search rules in e ∙ blocks_by c.args.c c.args.t.now
