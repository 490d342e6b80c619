use Rattle.targets.proofs.NameLaws.{none_written, no_targets, targets_room, targets_written}
use mathlib.Core.Path.{refl}
use Rattle.targets.proofs.write_targets.Goals as goal

pub returns-then-c-eq0 : goal.returns-then-c-eq0
returns-then-c-eq0 c = none_written c.args.states.now c.args.members.now c.args.text.now c.args.rows.states c.args.rows.members c.args.owner 0 _ (no_targets c.args.states.now c.args.members.now c.args.text.now c.args.rows.states c.args.rows.members c.args.owner c.args.c c.if-c-eq0.true) c.requires.name_room

pub enter_targets-requires : goal.enter_targets-requires
enter_targets-requires c = targets_room c.args.states.now c.args.members.now c.args.text.now c.args.rows.states c.args.rows.members c.args.owner c.args.c _ _ c.if-c-eq0.false refl refl c.requires.name_room c.requires.in_text

pub returns : goal.returns
returns c = targets_written c.args.states.now c.args.members.now c.args.text.now c.args.rows.states c.args.rows.members c.args.owner c.args.c _ _ c.if-c-eq0.false refl refl _ _ _ _ c.enter_targets.ensures
