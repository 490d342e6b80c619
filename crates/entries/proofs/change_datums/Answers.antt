use Rattle.std.proofs.Common.{rules, ◌≡◌}
use Rattle.definition.specs.Codes.{tag_number}
use Rattle.tables.specs.Whole.{added_in}
use Rattle.entries.specs.Whole.{datums_in, new_datum, old_datum}
use Rattle.entries.proofs.Laws.{then_altered}
use Rattle.entries.proofs.change_datums.Goals as goal
use Rattle.entries.proofs.change_datums.Goals.{in-Some, in_default}

pub returns : goal.returns
unfolding datums_in added_in
returns c =
    let e : c.match-p.datums ≡ added_in (new_datum c.args.texts.cells.now (tag_number c.args.texts.tag)) c.args.p.now.added c.args.n c.args.datums.now =
    elim c.match-p.branch [ in-Some w ↦ search rules | in_default w ↦ search rules ]
    in
    then_altered (λ p. p.at) (old_datum c.args.texts.cells.now (tag_number c.args.texts.tag)) _ _ _ _ _ c.in-Some-altered.is e (c.alter.ensures _ (λ x y h. h))
