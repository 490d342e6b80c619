use Rattle.printing.proofs.Laws.{goes_on, ended, escaped_more, escaped_end}
use Rattle.printing.proofs.page.Page.put_escaped.Goals as goal

pub loop-b-preserved : goal.loop-b-preserved
loop-b-preserved c = goes_on c.loop-b.invariant (escaped_more c.args.w.now c.loop-b.b-index c.loop-b-test.true) c.put_escape.ensures

pub returns : goal.returns
returns c = ended c.loop-b.invariant (escaped_end c.args.w.now c.loop-b.b-index c.loop-b-test.false)
