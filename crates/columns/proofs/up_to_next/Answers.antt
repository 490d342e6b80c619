use Rattle.columns.proofs.Columns.{next_is}
use Rattle.columns.proofs.up_to_next.Goals as goal

pub returns : goal.returns
returns c = rw c.saturating_sub.ensures (next_is c.args.v c.args.count)
