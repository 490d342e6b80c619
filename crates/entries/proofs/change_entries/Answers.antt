use Rattle.std.proofs.Common.{rules, ◌≡◌}
use Rattle.definition.specs.Codes.{tag_number}
use Rattle.tables.specs.Whole.{added_in}
use Rattle.entries.specs.Whole.{entries_in, new_entry, old_entry}
use Rattle.entries.proofs.Laws.{then_altered}
use Rattle.entries.proofs.change_entries.Goals as goal
use Rattle.entries.proofs.change_entries.Goals.{in-Some, in_default}

pub returns : goal.returns
unfolding entries_in added_in
returns c =
    let e : c.match-p.entries ≡ added_in (new_entry c.args.texts.cells.now (tag_number c.args.texts.tag)) c.args.p.now.added c.args.n c.args.entries.now =
    elim c.match-p.branch [ in-Some w ↦ search rules | in_default w ↦ search rules ]
    in
    then_altered (λ p. p.at) (old_entry c.args.texts.cells.now (tag_number c.args.texts.tag)) _ _ _ _ _ c.in-Some-altered.is e (c.alter.ensures _ (λ x y h. h))
