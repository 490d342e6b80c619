use Rattle.fill.specs.Fill.{as_cell}
use Rattle.texts.proofs.Laws.{closed_done}
use Rattle.texts.proofs.close_texts.Goals as goal

pub returns : goal.returns
unfolding as_cell
returns c =
    closed_done c.args.t.now _ _ _ _ (as_cell c.args.trimmed) (as_cell c.args.quoted) (as_cell c.args.content) c.put_cell-4.ensures c.put_cell-3.ensures c.put_cell-2.ensures c.put_cell.ensures
