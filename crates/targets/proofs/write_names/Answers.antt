use Rattle.targets.proofs.NameLaws.{none_written, ends_bring, state_brings, state_skips, other_skips, transition_brings, others_bring, room_as, written_as, as_room, as_written}
use Rattle.definition.specs.Rows.{cell_at}
use mathlib.Core.Path.{sym, ◌∙◌}
use borrow.Author.Tests.{ne_eqb}
use Rattle.targets.proofs.write_names.Goals as goal

pub returns-then-kind : goal.returns-then-kind
returns-then-kind c = none_written c.args.states.now c.args.members.now c.args.text.now c.args.count c.args.used c.args.owner _ _ (ends_bring c.args.kind c.args.tag c.args.text.now c.args.t.now c.if-kind.true) c.requires.name_room

pub write_state-requires-clause-name_room : goal.write_state-requires-clause-name_room
write_state-requires-clause-name_room c = room_as c.args.states.now c.args.members.now c.args.text.now c.args.count c.args.used _ _ _ _ (state_skips c.args.kind c.args.tag c.args.text.now c.args.t.now c.if-kind.false (sym c.names_state.ensures ∙ c.if-names_state.true)) (state_brings c.args.kind c.args.tag c.args.text.now c.args.t.now c.if-kind.false (sym c.names_state.ensures ∙ c.if-names_state.true)) c.requires.name_room

pub write_state-requires-clause-bound : goal.write_state-requires-clause-bound
write_state-requires-clause-bound c = (c.requires.own_in.0 (ne_eqb c.args.kind 3 c.if-kind.false) (sym c.names_state.ensures ∙ c.if-names_state.true), c.requires.own_in.1.0)

pub returns-then-names_state : goal.returns-then-names_state
returns-then-names_state c = written_as c.args.states.now c.args.members.now c.args.text.now c.args.count c.args.used c.args.owner _ _ _ _ (state_skips c.args.kind c.args.tag c.args.text.now c.args.t.now c.if-kind.false (sym c.names_state.ensures ∙ c.if-names_state.true)) (state_brings c.args.kind c.args.tag c.args.text.now c.args.t.now c.if-kind.false (sym c.names_state.ensures ∙ c.if-names_state.true)) _ _ _ _ c.write_state.ensures

pub write_targets-requires : goal.write_targets-requires
write_targets-requires c = let r = as_room c.args.states.now c.args.members.now c.args.text.now c.args.count c.args.used _ (cell_at c.args.t.now 34) c.key_cell.ensures (room_as c.args.states.now c.args.members.now c.args.text.now c.args.count c.args.used _ _ _ _ (other_skips c.args.kind c.args.tag c.args.text.now c.args.t.now c.if-kind.false (sym c.names_state.ensures ∙ c.if-names_state.false)) (transition_brings c.args.kind c.args.tag c.args.text.now c.args.t.now c.if-kind.false (sym c.names_state.ensures ∙ c.if-names_state.false) c.if-tag.true) c.requires.name_room) c.requires.own_in.1.1 in record { name_room = r.0; in_text = r.1 }

pub returns-then-tag : goal.returns-then-tag
returns-then-tag c = written_as c.args.states.now c.args.members.now c.args.text.now c.args.count c.args.used c.args.owner _ _ _ _ (other_skips c.args.kind c.args.tag c.args.text.now c.args.t.now c.if-kind.false (sym c.names_state.ensures ∙ c.if-names_state.false)) (transition_brings c.args.kind c.args.tag c.args.text.now c.args.t.now c.if-kind.false (sym c.names_state.ensures ∙ c.if-names_state.false) c.if-tag.true) _ _ _ _ (as_written c.args.states.now c.args.members.now c.args.text.now c.args.count c.args.used c.args.owner _ (cell_at c.args.t.now 34) c.key_cell.ensures _ _ _ _ c.write_targets.ensures)

pub returns : goal.returns
returns c = none_written c.args.states.now c.args.members.now c.args.text.now c.args.count c.args.used c.args.owner _ _ (others_bring c.args.kind c.args.tag c.args.text.now c.args.t.now c.if-kind.false (sym c.names_state.ensures ∙ c.if-names_state.false) c.if-tag.false) c.requires.name_room
