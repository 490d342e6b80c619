use Rattle.written.proofs.Laws.{quotes_short, quotes_done, kept_length}
use lib.ListN.{length-set}
use mathlib.Core.Path.{◌∙◌}
use Prim.Native.Nat.{◌<◌, ◌+◌}
use native.Mathlib.Omega.{arith}
use lib.ListN.{length, set}
use Rattle.definition.specs.Text.{escaped_quotes}
use Rattle.written.proofs.put_in_quotes.Goals as goal
use Rattle.written.proofs.put_in_quotes.Goals.{then-out-lt2-via-then-out-lt2, then-out-lt2-via-else-out-lt2+then-out-w}

pub returns-then-out-lt2 : goal.returns-then-out-lt2
returns-then-out-lt2 c =
    let short : length c.args.out.now < length (escaped_quotes c.args.w.now) + 2 =
    elim c.then-out-lt2.branch [
      | then-out-lt2-via-then-out-lt2 w ↦ omega (arith, w.if-out-lt2.true)
      | then-out-lt2-via-else-out-lt2+then-out-w w ↦ omega (arith, w.if-out-lt2.false, w.if-out-w.true, w.marks.ensures.w_value)
    ] in
    let r = quotes_short c.args.w.now c.args.out.now short in
    record { value = r.0; out_after = r.1 }

pub put_escapes-at-requires : goal.put_escapes-at-requires
put_escapes-at-requires c = omega (arith, c.marks.ensures.w_value, length-set c.args.out.now 0 34)

pub bounds-out-at : goal.bounds-out-at
bounds-out-at c = omega (arith, c.marks.ensures.w_value, length-set c.args.out.now 0 34, c.put_escapes-at.ensures.value, kept_length (set c.args.out.now 0 34) c.put_escapes-at.new.out (escaped_quotes c.args.w.now) 1 c.put_escapes-at.ensures.out_after)

pub shape_of-out : goal.shape_of-out
shape_of-out c = length-set c.put_escapes-at.new.out _ 34 ∙ kept_length (set c.args.out.now 0 34) c.put_escapes-at.new.out (escaped_quotes c.args.w.now) 1 c.put_escapes-at.ensures.out_after ∙ length-set c.args.out.now 0 34

pub returns : goal.returns
returns c = let r = quotes_done c.args.w.now c.args.out.now _ _ c.put_escapes-at.ensures.value (omega (arith, c.marks.ensures.w_value)) c.put_escapes-at.ensures.out_after in record { value = r.0; out_after = r.1 }
