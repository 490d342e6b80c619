use Rattle.std.proofs.Common.{◌∙◌, sym, arith, ◌+◌}
use Rattle.fill.specs.Fill.{as_cell}
use Rattle.texts.proofs.Laws.{put_there, put_new, cell_told}
use Rattle.texts.proofs.put_text.Goals as goal

pub returns-then-cell_in-eq0 : goal.returns-then-cell_in-eq0
returns-then-cell_in-eq0 c =
    c.put_cell.ensures
    ∙ put_new c.args.key (as_cell c.args.text) c.args.t.now (omega arith) (sym (cell_told c.args.t.now (c.args.key + c.args.key) _ c.cell_in.ensures) ∙ c.if-cell_in-eq0.true)

pub returns-else-cell_in-eq0 : goal.returns-else-cell_in-eq0
returns-else-cell_in-eq0 c =
    put_there c.args.key (as_cell c.args.text) c.args.t.now (omega arith) (λ z. c.if-cell_in-eq0.false (cell_told c.args.t.now (c.args.key + c.args.key) _ c.cell_in.ensures ∙ z))
