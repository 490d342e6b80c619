use Rattle.definition.specs.declared.codes.Kind.TheVariants as K
use Rattle.plain.proofs.Codes.{kind_agrees, kind_differs}
use Rattle.asked.proofs.AskedLaws.{text_none, text_some}
use Rattle.asked.proofs.has_text.Goals as goal

pub returns-then-ne : goal.returns-then-ne
returns-then-ne c = text_none c.args.event.now.src.now c.args.event.now.plain.now (kind_differs c.args.event.now.plain.now.kind K.Whole c.if-ne.ensures)

pub returns : goal.returns
returns c = text_some c.args.event.now.src.now c.args.event.now.plain.now (kind_agrees c.args.event.now.plain.now.kind K.Whole c.if-ne.ensures) _ c.bytes_of.ensures.result_value _ c.trim.ensures
