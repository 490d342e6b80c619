use Rattle.definition.specs.Text.{generated_name}
use Prim.Native.Nat.{ℕ, ◌+◌}
use mathlib.Core.Path.{ap}
use native.Mathlib.Omega.{arith}
use Rattle.payload.proofs.PartLaws.{written_length_lem, written_laid}
use Rattle.payload.proofs.put_name_at.Goals as goal

pub overflow_add-result : goal.overflow_add-result
overflow_add-result c = omega (arith, written_length_lem c.args.text.now c.args.pos (generated_name c.args.number) c.requires _ c.put_generated.ensures.value, c.requires)

pub returns-clause-value : goal.returns-clause-value
returns-clause-value c = ap (λ (n : ℕ). c.args.pos + n) (written_length_lem c.args.text.now c.args.pos (generated_name c.args.number) c.requires _ c.put_generated.ensures.value)

pub returns-clause-text_after : goal.returns-clause-text_after
returns-clause-text_after c = written_laid c.args.text.now c.args.pos (generated_name c.args.number) c.requires _ c.put_generated.ensures.out_after
