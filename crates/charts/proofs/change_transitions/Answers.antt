use Rattle.std.proofs.Common.{rules, ◌≡◌}
use Rattle.definition.specs.Codes.{tag_number}
use Rattle.plan.specs.After.{transition_after}
use Rattle.tables.specs.Whole.{added_in}
use Rattle.entries.specs.Whole.{transitions_in, new_transition}
use Rattle.entries.proofs.Laws.{then_altered}
use Rattle.charts.proofs.change_transitions.Goals as goal
use Rattle.charts.proofs.change_transitions.Goals.{in-Some, in_default}

pub returns : goal.returns
unfolding transitions_in added_in transition_after
returns c =
    let e : c.match-p.transitions ≡ added_in (new_transition c.args.texts.cells.now (tag_number c.args.texts.tag)) c.args.p.now.added c.args.n c.args.transitions.now =
    elim c.match-p.branch [ in-Some w ↦ search rules | in_default w ↦ search rules ]
    in
    then_altered (λ p. p.at) transition_after _ _ _ _ _ c.in-Some-altered.is e (c.alter.ensures _ (λ x y h. h))
