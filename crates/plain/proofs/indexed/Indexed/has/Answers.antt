use Prim.Native.Nat.{ℕ}
use mathlib.Core.Path.{refl, ap, ◌∙◌}
use Rattle.definition.specs.Look.{has_load}
use native.Mathlib.Omega.{arith}
use Rattle.plain.specs.Plain.{slots_of, loads_in}
use Rattle.plain.specs.Keyed.{is_marked}
use Rattle.plain.proofs.ValueLaws.{marked_has}
use Rattle.plain.proofs.indexed.Indexed.has.Goals as goal

pub returns : goal.returns
unfolding is_marked
returns c = marked_has c.args.self.now.src.now _ (omega (arith, c.key_index.ensures.upper_bound)) (slots_of c.args.self.now.plain.now) c.args.self.now.keys.now c.args.self.now.keyed _ refl
    ∙ ap (λ (k : ℕ). has_load k (loads_in c.args.self.now.src.now (slots_of c.args.self.now.plain.now))) c.key_index.ensures.value
