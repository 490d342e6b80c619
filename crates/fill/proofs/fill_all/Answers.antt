use Rattle.std.proofs.Common.{◌∙◌, arith, sym}
use Rattle.fill.proofs.Laws.{one_done, fill_more, fill_end}
use Rattle.fill.proofs.fill_all.Goals as goal

pub loop-column-preserved : goal.loop-column-preserved
loop-column-preserved c =
    fill_more c.args.t.now c.args.shape.now c.loop-column.column-index _ c.loop-column.row c.put_cell.new.t (omega arith) (
    one_done c.args.t.now _ _ _ _ _ _ _ _ c.from-column.ensures c.from.ensures c.cell_in.ensures c.cell_in-in-loop-column.ensures c.taken-cell.ensures c.put_cell.ensures)
    ∙ c.loop-column.invariant

pub returns : goal.returns
returns c = sym (fill_end c.args.t.now c.args.shape.now c.loop-column.column-index c.loop-column.row (omega arith)) ∙ c.loop-column.invariant
