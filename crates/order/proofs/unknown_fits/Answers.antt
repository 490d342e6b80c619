use native.Mathlib.Omega.{arith}
use mathlib.Core.Path.{refl, sym, ◌∙◌}
use lib.ListN.{get_or}
use lib.Seq.{length-take-le}
use Rattle.order.proofs.Laws.{unknown_short, unknown_long, unknown_rest}
use Rattle.order.proofs.unknown_fits.Goals as goal

pub returns-then-n-lt1 : goal.returns-then-n-lt1
returns-then-n-lt1 c = unknown_short c.args.row c.args.name.now refl c.if-n-lt1.true

pub returns-then-n : goal.returns-then-n
returns-then-n c = unknown_long c.args.row c.args.name.now refl (λ h. omega (arith, c.if-n-lt1.false)) (omega (arith, c.if-n.true))

pub slice_bounds-tag_of-end : goal.slice_bounds-tag_of-end
slice_bounds-tag_of-end c = sym (length-take-le (get_or c.args.row 3 0) c.args.name.now (omega arith))

pub returns : goal.returns
returns c = unknown_rest c.args.row c.args.name.now refl (omega arith) (omega arith) (c.number.ensures ∙ c.tag_of.ensures)
