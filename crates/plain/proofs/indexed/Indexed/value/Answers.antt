use native.Mathlib.Omega.{arith}
use Rattle.plain.proofs.ValueLaws.{part_short, keyed_value}
use Rattle.plain.specs.Plain.{slots_of, loads_in}
use Rattle.plain.specs.Keyed.{keyed_bytes, value_in}
use Rattle.lines.specs.Parts.{part}
use Prim.Native.Nat.{ℕ}
use mathlib.Core.Path.{ap, ap₂, ◌∙◌}
use Rattle.plain.proofs.indexed.Indexed.value.Goals as goal

pub returns-clause-result_value : goal.returns-clause-result_value
unfolding keyed_bytes
returns-clause-result_value c = keyed_value c.args.self.now.src.now _ (omega (arith, c.key_index-k.ensures.upper_bound)) (slots_of c.args.self.now.plain.now) c.args.self.now.keys.now c.args.self.now.keyed _ (c.part_of.ensures ∙ ap₂ (part c.args.self.now.src.now) c.from.ensures c.from-2.ensures)
    ∙ ap (λ (k : ℕ). value_in k (loads_in c.args.self.now.src.now (slots_of c.args.self.now.plain.now))) c.key_index-k.ensures.value

pub returns-clause-result_len_bound : goal.returns-clause-result_len_bound
returns-clause-result_len_bound c = part_short c.args.self.now.src.now c.from.result c.from-2.result (omega (arith, c.from-2.ensures)) _ c.part_of.ensures
