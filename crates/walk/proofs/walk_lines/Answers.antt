use Rattle.std.proofs.Common.{◌∙◌}
use Rattle.walk.proofs.StreamLaws.{out_is}
use Rattle.walk.proofs.walk_lines.Goals as goal

pub returns-clause-lines : goal.returns-clause-lines
returns-clause-lines c = out_is c.clear.new.pairs c.clear.ensures ∙ c.in_default.ensures
