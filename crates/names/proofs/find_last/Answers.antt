use Rattle.std.proofs.Common.{◌+◌, ◌-◌, length, get_or, refl, sym, ◌∙◌, arith}
use lib.Seq.{take-length}
use Rattle.names.proofs.LikeLaws.{ending}
use Rattle.names.proofs.ApartLaws.{found_apart, none_apart, without_start, without_all, without_more, left_cut}
use Rattle.names.proofs.find_last.Goals as goal

pub loop-k-init : goal.loop-k-init
loop-k-init c =
    record {
      short = omega arith;
      cut = sym (take-length c.args.states.now);
      without = without_start c.args.states.now c.args.text.now c.args.w.now (length c.args.states.now) refl;
      ending = ending c.args.text.now c.args.w.now c.requires.in_bounds.0;
    }

pub returns-then-is_named : goal.returns-then-is_named
returns-then-is_named c = found_apart c.args.states.now c.args.text.now c.args.w.now c.requires.states_value c.in-Some.k (omega (arith, c.in-Some.ensures.0, c.loop-k.invariant.short)) (sym c.is_named.ensures ∙ c.if-is_named.true)

pub loop-k-preserved : goal.loop-k-preserved
loop-k-preserved c =
    let r =
    left_cut c.args.states.now c.args.text.now c.args.w.now (length c.loop-k.rest.now) c.loop-k.rest.now c.loop-k.invariant.cut refl c.loop-k.invariant.short c.in-Some.k c.in-Some.ensures.0
    (without_more c.args.states.now c.args.text.now c.args.w.now (length c.args.w.now - 2) (get_or c.args.w.now (length c.args.w.now - 2) 0) (get_or c.args.w.now (length c.args.w.now - 2 + 1) 0) _ c.loop-k.invariant.ending (length c.loop-k.rest.now) c.loop-k.rest.now c.loop-k.invariant.cut refl c.loop-k.invariant.without c.in-Some.k c.in-Some.ensures.1 (sym c.is_named.ensures ∙ c.if-is_named.false)) in
    record { short = r.0; cut = r.1; without = r.2; ending = c.loop-k.invariant.ending }

pub returns : goal.returns
returns c = none_apart c.args.states.now c.args.text.now c.args.w.now (without_all c.args.states.now c.args.text.now c.args.w.now (length c.args.w.now - 2) (get_or c.args.w.now (length c.args.w.now - 2) 0) (get_or c.args.w.now (length c.args.w.now - 2 + 1) 0) _ c.loop-k.invariant.ending (length c.loop-k.rest.now) c.loop-k.rest.now c.loop-k.invariant.cut refl c.loop-k.invariant.without c.in_default.ensures)
