use Rattle.texts.proofs.Laws.{put_between}
use Rattle.texts.proofs.EventLaws.{made_some, made_none}
use Rattle.texts.proofs.put_made.Goals as goal

pub returns-then-made : goal.returns-then-made
returns-then-made c =
    made_some c.args.made c.args.e.text c.args.e.all c.args.t.now _ (put_between 1 c.args.e.text c.args.e.all _ _ _ c.text_between.ensures c.put_text.ensures) c.if-made.true

pub returns-else-made : goal.returns-else-made
returns-else-made c = made_none c.args.made c.args.e.text c.args.e.all c.args.t.now c.if-made.false
