use mathlib.Core.Path.{refl, ◌∙◌}
use native.Mathlib.Omega.{arith}
use Rattle.definition.specs.Look.{name_cells}
use Rattle.names.proofs.Laws.{counting_start, counting_ends, counting_goes, word_ends, first_zero, first_other, new_by}
use Rattle.names.proofs.count_names.Goals.{then-own-eq0, else-own-eq0}
use Rattle.names.proofs.count_names.Goals as goal

pub loop-found-init : goal.loop-found-init
loop-found-init c =
    record {
      can = tt;
      finite = tt;
      counted = record { at = 0; left = rw c.into_iter-found-iterator.ensures.into_iter_gives refl; counting = counting_start c.args.text.now (name_cells c.args.states.now) c.args.v.now };
    }

pub overflow_add-found : goal.overflow_add-found
overflow_add-found c = omega (arith, word_ends c.args.text.now (name_cells c.args.states.now) c.args.v.now c.loop-found.own c.loop-found.refs c.loop-found.new _ c.loop-found.invariant.counted _ _ c.in-Some.ensures.steps)

pub loop-found-preserved : goal.loop-found-preserved
loop-found-preserved c =
    record {
      can = tt;
      finite = tt;
      counted =
          counting_goes c.args.text.now (name_cells c.args.states.now) c.args.v.now c.loop-found.own c.loop-found.refs c.loop-found.new _ c.loop-found.invariant.counted _ _ c.in-Some.ensures.steps _ c.find_state-k.ensures.value _
          (elim c.if-own-eq0.branch [
            | then-own-eq0 w ↦ w.own-is ∙ first_zero _ _ w.if-own-eq0.true
            | else-own-eq0 w ↦ w.own-is ∙ first_other _ _ w.if-own-eq0.false
          ])
          _ (new_by c.args.states.now c.args.text.now _ _ _ c.find_state-k.ensures.value _ refl _ c.new_if-new.ensures.value) c.new_if-new.ensures.upper_bound;
    }

pub returns-clause-value : goal.returns-clause-value
returns-clause-value c = (counting_ends c.args.text.now (name_cells c.args.states.now) c.args.v.now c.loop-found.own c.loop-found.refs c.loop-found.new _ c.loop-found.invariant.counted c.in-None.ensures.steps.0).0
