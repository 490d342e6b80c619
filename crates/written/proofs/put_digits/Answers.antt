use mathlib.Core.Path.{sym, ap, ◌∙◌}
use native.Mathlib.Omega.{arith}
use lib.ListN.{length}
use Rattle.written.proofs.Laws.{digits_all, digits_begin, put_long, put_digit, digits_end}
use Rattle.written.proofs.put_digits.Goals as goal

pub loop-i-init : goal.loop-i-init
loop-i-init c = (ap length (digits_all _ c.args.n c.requires.count_value) ∙ sym c.requires.count_value, digits_begin c.args.out.now c.args.n c.requires.count_value)

pub loop-i-preserved : goal.loop-i-preserved
loop-i-preserved c =
    let (long, done) = c.loop-i.invariant in
    (put_long c.loop-i.out c.loop-i.i c.loop-i.m (omega arith) (omega arith) long, put_digit c.loop-i.out c.loop-i.i c.loop-i.m (omega arith) (omega arith) long ∙ done)

pub returns : goal.returns
returns c =
    let (_, done) = c.loop-i.invariant in
    digits_end c.loop-i.out c.loop-i.i c.loop-i.m (omega arith) ∙ done
