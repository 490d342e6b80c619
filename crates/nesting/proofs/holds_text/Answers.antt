use Rattle.nesting.proofs.Laws.{text_held}
use Rattle.nesting.proofs.holds_text.Goals as goal

pub returns : goal.returns
returns c = text_held _
