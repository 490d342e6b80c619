use Rattle.columns.proofs.Columns.{up_to_is}
use Rattle.columns.proofs.up_to.Goals as goal

pub returns : goal.returns
returns c = up_to_is c.args.v c.args.count
