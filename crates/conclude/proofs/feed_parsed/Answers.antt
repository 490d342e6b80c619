use Rattle.conclude.proofs.Laws.{is_refused, is_accepted}
use Rattle.conclude.proofs.feed_parsed.Goals as goal

pub returns-in-Err-clause-answers : goal.returns-in-Err-clause-answers
returns-in-Err-clause-answers c = rw c.number.ensures (is_refused _ _ _ c.in-Err.refusal (rw c.tables.ensures at c.in-Err.ensures))

pub write-requires : goal.write-requires
write-requires c = (rw c.tables.ensures at c.in-Ok.ensures).ready c.requires

pub returns-in-Ok-clause-answers : goal.returns-in-Ok-clause-answers
returns-in-Ok-clause-answers c = is_accepted _ _ _ c.in-Ok.effect (rw c.tables.ensures at c.in-Ok.ensures) _ _ c.write.ensures.leaves
