use Rattle.targets.proofs.Laws.{placed_known, placed_new, room}
use Rattle.targets.specs.Enter.{count_after}
use Rattle.text.proofs.Laws.{part_at}
use Rattle.definition.specs.Look.{find_name, name_cells}
use lib.ListN.{take, length}
use Prim.Native.Nat.{ℕ, ◌≤◌}
use mathlib.Core.Path.{ap, sym, subst, ◌∙◌}
use Rattle.targets.proofs.enter_name.Goals as goal

-- src/lib.rt:47:9
pub returns-then-found-count-clause-value : goal.returns-then-found-count-clause-value
returns-then-found-count-clause-value c = (c.find_state-found.ensures.value ∙ ap (find_name c.args.text.now (name_cells (take c.args.count c.args.states.now))) (part_at c.args.text.now c.args.off c.args.len))

pub returns-then-found-count-clause-states_after : goal.returns-then-found-count-clause-states_after
returns-then-found-count-clause-states_after c = placed_known _ _ _ _ c.if-found-count.true

-- src/lib.rt:49:5
pub put_state-requires : goal.put_state-requires
put_state-requires c = room _ c.find_state-found.result _ c.if-found-count.false (subst (λ (k : ℕ). count_after c.args.count k ≤ length c.args.states.now) (sym (c.find_state-found.ensures.value ∙ ap (find_name c.args.text.now (name_cells (take c.args.count c.args.states.now))) (part_at c.args.text.now c.args.off c.args.len))) c.requires.count_in_bounds.1)

-- src/lib.rt:37:1
pub returns-clause-value : goal.returns-clause-value
returns-clause-value c = (c.find_state-found.ensures.value ∙ ap (find_name c.args.text.now (name_cells (take c.args.count c.args.states.now))) (part_at c.args.text.now c.args.off c.args.len))

pub returns-clause-states_after : goal.returns-clause-states_after
returns-clause-states_after c = c.put_state.ensures ∙ placed_new _ _ _ _ c.if-found-count.false
