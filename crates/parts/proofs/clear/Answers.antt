use Rattle.parts.proofs.PairLaws.{pairs_none}
use Rattle.parts.proofs.clear.Goals as goal

pub returns : goal.returns
returns c = pairs_none 16 c.no_pair-pairs.result c.no_pair-pairs.ensures
