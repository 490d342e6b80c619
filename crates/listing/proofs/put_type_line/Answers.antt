use Rattle.definition.specs.Text.{str}
use Rattle.printing.proofs.Laws.{put_is}
use Rattle.listing.proofs.Laws.{type_internal, type_external}
use Rattle.listing.proofs.put_type_line.Goals as goal

pub returns-then-t-eq1 : goal.returns-then-t-eq1
unfolding str
returns-then-t-eq1 c = put_is (type_internal _ c.if-t-eq1.true) c.put_bytes.ensures

pub returns : goal.returns
unfolding str
returns c = put_is (type_external _ c.if-t-eq1.false) c.put_bytes-2.ensures
