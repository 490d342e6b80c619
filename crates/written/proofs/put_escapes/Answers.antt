use Rattle.written.proofs.Laws.{escape_length, escape_end, escape_step, kept_length}
use mathlib.Core.Path.{refl, sym, ◌∙◌, ap}
use native.Mathlib.Omega.{arith}
use borrow.Author.Rules.{rules}
use lib.ListN.{length, get_or}
use lib.Seq.{sets}
use Rattle.written.specs.Written.{escape}
use Rattle.written.proofs.put_escapes.Goals as goal

pub loop-b-init : goal.loop-b-init
loop-b-init c = ((search rules, refl), (refl, refl))

pub put_escape-p-requires : goal.put_escape-p-requires
put_escape-p-requires c = omega (arith, c.requires, escape_length c.args.w.now c.loop-b.b-index c.loop-b-test.true)

pub loop-b-preserved : goal.loop-b-preserved
loop-b-preserved c = ((search rules, kept_length c.loop-b.out c.put_escape-p.new.out (escape (get_or c.args.w.now c.loop-b.b-index 0)) c.loop-b.p c.put_escape-p.ensures.out_after ∙ c.loop-b.invariant.0.1), (omega (arith, c.put_escape-p.ensures.value, escape_length c.args.w.now c.loop-b.b-index c.loop-b-test.true), escape_step _ _ _ _ _ _ c.loop-b-test.true c.put_escape-p.ensures.out_after c.put_escape-p.ensures.value ∙ c.loop-b.invariant.1.1))

pub shape_of-out : goal.shape_of-out
shape_of-out c = c.loop-b.invariant.0.1

pub returns-clause-value : goal.returns-clause-value
returns-clause-value c = omega (arith, ap length (escape_end c.args.w.now c.loop-b.b-index c.loop-b-test.false))

pub returns-clause-out_after : goal.returns-clause-out_after
returns-clause-out_after c = sym (ap (sets c.loop-b.out c.loop-b.p) (escape_end c.args.w.now c.loop-b.b-index c.loop-b-test.false)) ∙ c.loop-b.invariant.1.1
