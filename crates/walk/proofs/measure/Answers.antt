use Rattle.lines.proofs.BlockLaws.{scanned_plain}
use Rattle.walk.proofs.measure.Goals as goal

pub returns-then-plain : goal.returns-then-plain
returns-then-plain c = scanned_plain c.args.written.now (c.requires c.if-plain.true)
