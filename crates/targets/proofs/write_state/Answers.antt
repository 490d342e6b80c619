use Rattle.targets.proofs.NameLaws.{cell_at_lem, cell_len, off_at, name_inside, name_room, then_room, then_written, as_room, as_written}
use Rattle.targets.specs.Names.{pieces_at}
use Rattle.definition.specs.Rows.{cell_at}
use mathlib.Core.Path.{refl}
use native.Mathlib.Omega.{arith}
use Rattle.targets.proofs.write_state.Goals as goal

pub overflow_sub-own : goal.overflow_sub-own
overflow_sub-own c = omega (arith, c.requires.bound.0.0, cell_at_lem _ (cell_at c.args.t.now 2) c.key_cell-own.ensures)

pub enter_name-k-requires-clause-text_len_bound : goal.enter_name-k-requires-clause-text_len_bound
enter_name-k-requires-clause-text_len_bound c = c.requires.name_room.short

pub enter_name-k-requires-clause-len_in_bounds : goal.enter_name-k-requires-clause-len_in_bounds
enter_name-k-requires-clause-len_in_bounds c = name_inside c.args.states.now c.args.members.now c.args.text.now c.args.rows.states c.args.rows.members c.args.owner (cell_at c.args.t.now 2) (pieces_at c.args.text.now (cell_at c.args.t.now 4)) c.requires.bound.0.0 c.requires.bound.0.1 c.requires.name_room _ _ (off_at _ (cell_at c.args.t.now 2) c.key_cell-own.ensures 0 _ refl) (cell_len _ (cell_at c.args.t.now 2) c.key_cell-own.ensures)

pub enter_name-k-requires-clause-count_in_bounds : goal.enter_name-k-requires-clause-count_in_bounds
enter_name-k-requires-clause-count_in_bounds c = name_room c.args.states.now c.args.members.now c.args.text.now c.args.rows.states c.args.rows.members c.args.owner (cell_at c.args.t.now 2) (pieces_at c.args.text.now (cell_at c.args.t.now 4)) c.requires.bound.0.0 c.requires.bound.0.1 c.requires.name_room _ _ (off_at _ (cell_at c.args.t.now 2) c.key_cell-own.ensures 0 _ refl) (cell_len _ (cell_at c.args.t.now 2) c.key_cell-own.ensures)

pub enter_name-k-requires-clause-states_value : goal.enter_name-k-requires-clause-states_value
enter_name-k-requires-clause-states_value c = c.requires.name_room.apart

pub count_after-requires : goal.count_after-requires
count_after-requires c = omega (arith, c.requires.name_room.fits)

pub write_targets-requires : goal.write_targets-requires
write_targets-requires c = let r = as_room _ _ _ _ _ _ (cell_at c.args.t.now 4) c.key_cell.ensures (then_room c.args.states.now c.args.members.now c.args.text.now c.args.rows.states c.args.rows.members c.args.owner (cell_at c.args.t.now 2) (pieces_at c.args.text.now (cell_at c.args.t.now 4)) c.requires.bound.0.0 c.requires.bound.0.1 c.requires.name_room _ _ (off_at _ (cell_at c.args.t.now 2) c.key_cell-own.ensures 0 _ refl) (cell_len _ (cell_at c.args.t.now 2) c.key_cell-own.ensures) _ _ c.enter_name-k.ensures.value c.enter_name-k.ensures.states_after _ c.count_after.ensures) c.requires.bound.1 in record { name_room = r.0; in_text = r.1 }

pub returns : goal.returns
returns c = then_written c.args.states.now c.args.members.now c.args.text.now c.args.rows.states c.args.rows.members c.args.owner (cell_at c.args.t.now 2) (pieces_at c.args.text.now (cell_at c.args.t.now 4)) c.requires.bound.0.0 c.requires.bound.0.1 c.requires.name_room _ _ (off_at _ (cell_at c.args.t.now 2) c.key_cell-own.ensures 0 _ refl) (cell_len _ (cell_at c.args.t.now 2) c.key_cell-own.ensures) _ _ c.enter_name-k.ensures.value c.enter_name-k.ensures.states_after _ c.count_after.ensures _ _ _ _ (as_written _ _ _ _ _ _ _ (cell_at c.args.t.now 4) c.key_cell.ensures _ _ _ _ c.write_targets.ensures)
