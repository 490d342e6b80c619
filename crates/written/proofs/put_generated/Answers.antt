use mathlib.Core.Path.{◌≡◌, sym, ap, ◌∙◌}
use Prim.Native.Nat.{ℕ, ◌+◌, ◌-◌}
use native.Mathlib.Omega.{arith}
use lib.ListN.{length}
use Rattle.definition.specs.Text.{decimal}
use Rattle.written.proofs.Laws.{name_short, name_length, name_put}
use Rattle.written.proofs.put_generated.Goals as goal

pub returns-then-out-end : goal.returns-then-out-end
returns-then-out-end c =
    let count : c.digit_count-end.result ≡ length (decimal c.args.n) = c.digit_count-end.ensures.value ∙ ap (λ (m : ℕ). length (decimal m)) c.from-number.ensures in
    let r = name_short c.args.n _ c.args.out.now count c.if-out-end.true in
    record { value = r.0; out_after = r.1 }

pub returns : goal.returns
returns c =
    let same : c.put_digits.new.out ≡ decimal c.args.n = c.put_digits.ensures ∙ ap decimal c.from-number.ensures in
    let k : c.digit_count-end.result ≡ length c.put_digits.new.out = c.digit_count-end.ensures.value ∙ sym (ap length c.put_digits.ensures) in
    let j : 4 + c.digit_count-end.result - 4 ≡ length c.put_digits.new.out = omega (arith, k) in
    record {
      value = ap (◌+◌ 4) k ∙ name_length c.args.n c.args.out.now _ same (omega (arith, k));
      out_after = rw (j, c.copy_from_slice.ensures.after) (name_put c.args.n c.args.out.now _ same (omega (arith, k)));
    }
