use Rattle.columns.proofs.Columns.{inside_is}
use Rattle.columns.proofs.inside.Goals as goal

pub returns : goal.returns
returns c = inside_is _ _ _ c.from.ensures c.from-2.ensures c.from-3.ensures
