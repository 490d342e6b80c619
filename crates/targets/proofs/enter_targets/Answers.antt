use native.Mathlib.Omega.{arith}
use Rattle.targets.proofs.LoopLaws.{value, entering_first, entering_last, given_fits, given_room, given_member, given_small, entering_goes}
use Rattle.targets.proofs.enter_targets.Goals as goal

pub slice_bounds-v-count : goal.slice_bounds-v-count
slice_bounds-v-count c = omega (arith, c.requires.inside, c.requires.short)

pub slice_bounds-v-start : goal.slice_bounds-v-start
slice_bounds-v-start c = omega (arith, c.requires.inside, c.requires.short)

pub slice_bounds-v-end : goal.slice_bounds-v-end
slice_bounds-v-end c = omega (arith, c.requires.inside, c.requires.short)

pub loop-found-init : goal.loop-found-init
loop-found-init c = record { can = tt; finite = tt; entering = λ room. rw c.into_iter-found-iterator.ensures.into_iter_gives (entering_first c.args.states.now c.args.members.now c.args.text.now c.args.rows.states c.args.rows.members c.args.off c.args.len c.args.owner room _ (value c.args.states.now c.args.members.now c.args.text.now c.args.rows.states c.args.rows.members c.args.off c.args.len c.args.owner room)) }

pub overflow_add-off : goal.overflow_add-off
overflow_add-off c = omega (arith, given_fits c.args.states.now c.args.members.now c.args.text.now c.args.rows.states c.args.rows.members c.args.off c.args.len c.args.owner c.requires c.loop-found.states c.loop-found.members c.loop-found.rows.states c.loop-found.rows.members _ (c.loop-found.invariant.entering c.requires) _ _ c.in-Some.ensures.steps, c.requires.short)

pub enter_name-k-requires-clause-text_len_bound : goal.enter_name-k-requires-clause-text_len_bound
enter_name-k-requires-clause-text_len_bound c = c.requires.short

pub enter_name-k-requires-clause-len_in_bounds : goal.enter_name-k-requires-clause-len_in_bounds
enter_name-k-requires-clause-len_in_bounds c = given_fits c.args.states.now c.args.members.now c.args.text.now c.args.rows.states c.args.rows.members c.args.off c.args.len c.args.owner c.requires c.loop-found.states c.loop-found.members c.loop-found.rows.states c.loop-found.rows.members _ (c.loop-found.invariant.entering c.requires) _ _ c.in-Some.ensures.steps

pub enter_name-k-requires-clause-count_in_bounds : goal.enter_name-k-requires-clause-count_in_bounds
enter_name-k-requires-clause-count_in_bounds c = given_room c.args.states.now c.args.members.now c.args.text.now c.args.rows.states c.args.rows.members c.args.off c.args.len c.args.owner c.requires c.loop-found.states c.loop-found.members c.loop-found.rows.states c.loop-found.rows.members _ (c.loop-found.invariant.entering c.requires) _ _ c.in-Some.ensures.steps

pub enter_name-k-requires-clause-states_value : goal.enter_name-k-requires-clause-states_value
enter_name-k-requires-clause-states_value c = (c.loop-found.invariant.entering c.requires).entering.apart

pub overflow_cast-near : goal.overflow_cast-near
overflow_cast-near c = omega (arith, given_small c.args.states.now c.args.members.now c.args.text.now c.args.rows.states c.args.rows.members c.args.off c.args.len c.args.owner c.requires c.loop-found.states c.loop-found.members c.loop-found.rows.states c.loop-found.rows.members _ (c.loop-found.invariant.entering c.requires) _ _ c.in-Some.ensures.steps c.enter_name-k.result c.enter_name-k.ensures.value)

pub put_member-requires : goal.put_member-requires
put_member-requires c = given_member c.args.states.now c.args.members.now c.args.text.now c.args.rows.states c.args.rows.members c.args.off c.args.len c.args.owner c.requires c.loop-found.states c.loop-found.members c.loop-found.rows.states c.loop-found.rows.members _ (c.loop-found.invariant.entering c.requires) _ _ c.in-Some.ensures.steps

pub overflow_add-rows : goal.overflow_add-rows
overflow_add-rows c = omega (arith, given_member c.args.states.now c.args.members.now c.args.text.now c.args.rows.states c.args.rows.members c.args.off c.args.len c.args.owner c.requires c.loop-found.states c.loop-found.members c.loop-found.rows.states c.loop-found.rows.members _ (c.loop-found.invariant.entering c.requires) _ _ c.in-Some.ensures.steps)

pub count_after-requires : goal.count_after-requires
count_after-requires c = omega (arith, given_small c.args.states.now c.args.members.now c.args.text.now c.args.rows.states c.args.rows.members c.args.off c.args.len c.args.owner c.requires c.loop-found.states c.loop-found.members c.loop-found.rows.states c.loop-found.rows.members _ (c.loop-found.invariant.entering c.requires) _ _ c.in-Some.ensures.steps c.enter_name-k.result c.enter_name-k.ensures.value)

pub overflow_add-near : goal.overflow_add-near
overflow_add-near c = omega (arith, given_small c.args.states.now c.args.members.now c.args.text.now c.args.rows.states c.args.rows.members c.args.off c.args.len c.args.owner c.requires c.loop-found.states c.loop-found.members c.loop-found.rows.states c.loop-found.rows.members _ (c.loop-found.invariant.entering c.requires) _ _ c.in-Some.ensures.steps c.enter_name-k.result c.enter_name-k.ensures.value)

pub loop-found-preserved : goal.loop-found-preserved
loop-found-preserved c =
    record {
      can = tt;
      finite = tt;
      entering = λ room. entering_goes c.args.states.now c.args.members.now c.args.text.now c.args.rows.states c.args.rows.members c.args.off c.args.len c.args.owner room c.loop-found.states c.loop-found.members c.loop-found.rows.states c.loop-found.rows.members _ (c.loop-found.invariant.entering room) _ _ c.in-Some.ensures.steps c.enter_name-k.result _ _ _ c.enter_name-k.ensures.value c.enter_name-k.ensures.states_after c.put_member.ensures c.count_after.ensures;
    }

pub shape_of-states : goal.shape_of-states
shape_of-states c = (c.loop-found.invariant.entering c.requires).entering.states.size

pub shape_of-members : goal.shape_of-members
shape_of-members c = (c.loop-found.invariant.entering c.requires).entering.partly.size

pub returns : goal.returns
returns c = entering_last c.args.states.now c.args.members.now c.args.text.now c.args.rows.states c.args.rows.members c.args.off c.args.len c.args.owner c.requires c.loop-found.states c.loop-found.members c.loop-found.rows.states c.loop-found.rows.members _ (c.loop-found.invariant.entering c.requires) c.in-None.ensures.steps.0
