-- No refusal has the number 0.
use Rattle.std.proofs.Common.{◌≡◌, arith}
use Rattle.definition.specs.declared.codes.Refusal.{Refusal}
use Rattle.definition.specs.Codes.{refusal_number}

pub some_number : (e : Refusal) → refusal_number e ≡ 0 → ⊥
some_number e = grind arith
