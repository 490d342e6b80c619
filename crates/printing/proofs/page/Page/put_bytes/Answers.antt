use mathlib.Core.Path.{◌≡◌, refl}
use Prim.Native.Nat.{◌+◌, ◌-◌}
use native.Mathlib.Omega.{arith}
use Rattle.printing.proofs.Bytes.{bytes_put}
use Rattle.printing.proofs.page.Page.put_bytes.Goals as goal

pub returns : goal.returns
returns c =
    let n : c.args.self.now.at + c.min-n.result - c.args.self.now.at ≡ c.min-n.result = omega arith in
    record {
      added = rw (n, c.copy_from_slice.ensures.after) (bytes_put c.args.self.now.buffer.now c.args.w.now c.args.self.now.at c.min-n.result (omega arith) (omega arith) (λ l. omega arith));
      loan = refl;
    }
