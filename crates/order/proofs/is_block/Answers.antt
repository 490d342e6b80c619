use Rattle.order.proofs.Laws.{block_is}
use Rattle.order.proofs.is_block.Goals as goal

pub returns : goal.returns
returns c = block_is _
