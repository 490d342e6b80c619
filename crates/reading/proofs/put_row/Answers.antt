use mathlib.Core.Path.{◌≡◌, ◌∙◌}
use Prim.Native.Nat.{◌+◌, ◌*◌, ◌-◌}
use lib.ListN.{get_or}
use native.Mathlib.Omega.{arith}
use Rattle.reading.proofs.Bytes.{written_none, written_more, written_all, le_bytes}
use Rattle.reading.proofs.put_row.Goals as goal

pub loop-c-init : goal.loop-c-init
loop-c-init c = written_none c.args.out.now c.args.row c.requires (omega (arith, c.well_formed))

pub loop-c-preserved : goal.loop-c-preserved
loop-c-preserved c =
    let four : c.loop-c.c * 4 + 4 - c.loop-c.c * 4 ≡ 4 = omega arith in
    rw four (written_more c.args.out.now c.args.row c.requires (omega (arith, c.well_formed)) c.loop-c.c c.loop-c.out c.loop-c-test.true c.loop-c.invariant (c.copy_from_slice.ensures.after ∙ c.to_le_bytes.ensures ∙ le_bytes (get_or c.args.row c.loop-c.c 0)))

pub returns : goal.returns
returns c = written_all c.args.out.now c.args.row c.requires (omega (arith, c.well_formed)) c.loop-c.c c.loop-c.out c.loop-c-test.false c.loop-c.invariant
