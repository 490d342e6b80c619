use native.Mathlib.Omega.{arith}
use Rattle.texts.proofs.Laws.{texting_end, text_fits, texting_more}
use Rattle.texts.proofs.slot_texts.Goals as goal

pub text_between-requires : goal.text_between-requires
text_between-requires c = (
  omega arith,
  omega (arith, text_fits c.args.t.now c.args.base c.args.src.now c.args.slots.now c.loop-slot.t c.loop-slot.pos c.loop-slot.slot-index c.loop-slot.invariant (omega arith) _ c.bytes_of.ensures.result_value, c.requires),
)

pub loop-slot-preserved : goal.loop-slot-preserved
loop-slot-preserved c =
    texting_more c.args.t.now c.args.base c.args.src.now c.args.slots.now c.loop-slot.t c.loop-slot.pos c.loop-slot.slot-index c.loop-slot.invariant (omega arith) _ c.bytes_of.ensures.result_value _ _
    c.text_between.ensures _ c.number.ensures c.put_text.ensures

pub returns : goal.returns
returns c = texting_end c.args.t.now c.args.base c.args.src.now c.args.slots.now c.loop-slot.t c.loop-slot.pos c.loop-slot.slot-index c.loop-slot.invariant (omega arith)
