use Rattle.reading.proofs.Laws.{wide, shown_lem}
use Rattle.reading.proofs.show.Goals as goal

pub returns : goal.returns
returns c = shown_lem c.args.states.now c.args.s.0 c.args.row.now c.state_cell.ensures c.state_cell-2.ensures (wide c.requires c.copy_from_slice.ensures.after)
