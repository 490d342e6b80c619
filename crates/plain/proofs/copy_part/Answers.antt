use Rattle.plain.proofs.CopyLaws.{part_length, part_copied}
use mathlib.Core.Path.{ap}
use Prim.Native.Nat.{ℕ, ◌+◌}
use native.Mathlib.Omega.{arith}
use Rattle.plain.proofs.copy_part.Goals as goal

-- src/lib.rt:128:5
pub overflow_add-result : goal.overflow_add-result
overflow_add-result c = omega (arith, part_length c.args.out.now c.args.pos c.args.raw.now c.args.p _ _ _ c.part_of.ensures c.from.ensures c.from-2.ensures c.requires c.unescape.result c.unescape.ensures.value, c.requires)

-- src/lib.rt:120:1
pub returns-clause-value : goal.returns-clause-value
returns-clause-value c = ap (λ (n : ℕ). c.args.pos + n) (part_length c.args.out.now c.args.pos c.args.raw.now c.args.p _ _ _ c.part_of.ensures c.from.ensures c.from-2.ensures c.requires c.unescape.result c.unescape.ensures.value)

pub returns-clause-out_after : goal.returns-clause-out_after
returns-clause-out_after c = part_copied c.args.out.now c.args.pos c.args.raw.now c.args.p _ _ _ c.part_of.ensures c.from.ensures c.from-2.ensures c.requires _ c.unescape.ensures.out_after
