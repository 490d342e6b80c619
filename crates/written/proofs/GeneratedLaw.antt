-- Generated names are short: one fits into a small array.
use Prim.Native.Nat.{ℕ, ◌-◌, ◌≤◌}
use mathlib.Core.Path.{◌≡◌, ap₂, ◌∙◌}
use mathlib.Core.Bool.{true}
use mathlib.Core.List.{List, ◌++◌}
use native.Mathlib.Omega.{arith}
use lib.Dec.{leb}
use lib.ListN.{length, take, drop}
use lib.Seq.{take-append_seam}
use borrow.Author.Tests.{le-leb}
use Rattle.definition.specs.Text.{generated_name}
use Rattle.definition.proofs.Charges.{generated_le}
use Rattle.written.specs.Written.{written, written_length}

module _ (n : ℕ) (out : List ℕ) (room : length out ≡ 24) (k : ℕ) (ek : k ≡ written_length (generated_name n) out) where
  fits : leb (length (generated_name n)) (length out) ≡ true
  fits = le-leb (length (generated_name n)) (length out) (omega (arith, room, generated_le n))

  pub made_length : k ≡ length (generated_name n)
  made_length = ek ∙ unfold written_length in rw (fits, written_length)

  pub made_fits : k ≤ 24
  made_fits = omega (arith, made_length, generated_le n)

  pub made_name : (out' : List ℕ) → out' ≡ written (generated_name n) out → take (k - 0) (drop 0 out') ≡ generated_name n
  made_name out' eo =
      let z : k - 0 ≡ length (generated_name n) = omega (arith, made_length) in
      ap₂ take z (eo ∙ laid) ∙ take-append_seam (generated_name n) (drop (length (generated_name n)) out)
    where
      laid : written (generated_name n) out ≡ generated_name n ++ drop (length (generated_name n)) out
      laid = unfold written in rw (fits, written)
