use native.Mathlib.Omega.{arith}
use Rattle.plain.proofs.ValueLaws.{part_short}
use Rattle.lines.specs.Parts.{part}
use mathlib.Core.Path.{ap₂, ◌∙◌}
use Rattle.plain.proofs.bytes_of.Goals as goal

pub returns-clause-result_value : goal.returns-clause-result_value
returns-clause-result_value c = c.part_of.ensures ∙ ap₂ (part c.args.src.now) c.from.ensures c.from-2.ensures

pub returns-clause-result_len_bound : goal.returns-clause-result_len_bound
returns-clause-result_len_bound c = part_short c.args.src.now _ _ (omega (arith, c.from-2.ensures)) _ c.part_of.ensures
