use Rattle.std.proofs.Common.{◌∙◌, sym, arith}
use Rattle.lines.proofs.EscapeLaws.{un_start, un_room, un_more, un_end, un_illegible, un_long}
use Rattle.lines.proofs.unescape.Goals as goal

pub returns-in_default : goal.returns-in_default
returns-in_default c = let r = un_illegible c.args.raw.now c.args.out.now (sym c.in_default.is ∙ c.scan_line.ensures) in record { value = r.0; out_after = r.1 }

pub returns-then-out-len : goal.returns-then-out-len
returns-then-out-len c = let r = un_long c.args.raw.now c.args.out.now c.in-Some.len c.in-Some.ensures c.if-out-len.true in record { value = r.0; out_after = r.1 }

pub loop-b-init : goal.loop-b-init
loop-b-init c = (un_start c.args.raw.now c.args.out.now c.in-Some.len c.in-Some.ensures, omega arith)

pub bounds-out-n : goal.bounds-out-n
bounds-out-n c = un_room c.args.raw.now c.args.out.now c.in-Some.len c.loop-b.out c.loop-b.rest.now c.loop-b.n c.loop-b.invariant.0 c.in-Some-first.b c.in-Some-first.left.now c.in-Some-first.ensures c.loop-b.invariant.1

pub overflow_add-n : goal.overflow_add-n
overflow_add-n c = omega (arith, un_room c.args.raw.now c.args.out.now c.in-Some.len c.loop-b.out c.loop-b.rest.now c.loop-b.n c.loop-b.invariant.0 c.in-Some-first.b c.in-Some-first.left.now c.in-Some-first.ensures c.loop-b.invariant.1)

pub loop-b-preserved : goal.loop-b-preserved
loop-b-preserved c = (un_more c.args.raw.now c.args.out.now c.in-Some.len c.loop-b.out c.loop-b.rest.now c.loop-b.n c.loop-b.invariant.0 c.in-Some-first.b c.in-Some-first.left.now c.in-Some-first.ensures c.loop-b.invariant.1, c.loop-b.invariant.1)

pub returns : goal.returns
returns c = let r = un_end c.args.raw.now c.args.out.now c.in-Some.len c.loop-b.out c.loop-b.rest.now c.loop-b.n c.loop-b.invariant.0 c.in-Some.ensures c.in_default-first.ensures c.loop-b.invariant.1 in record { value = r.0; out_after = r.1 }
