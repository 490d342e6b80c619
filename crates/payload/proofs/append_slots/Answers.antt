use native.Mathlib.Omega.{arith}
use Rattle.payload.proofs.Laws.{laying_start, laying_more, value_fits}
use Rattle.payload.proofs.append_slots.Goals as goal

pub loop-slot-init : goal.loop-slot-init
loop-slot-init c = laying_start c.args.text.now c.args.used c.args.src.now c.args.slots.now c.requires

pub put_bytes-requires : goal.put_bytes-requires
put_bytes-requires c =
    value_fits c.args.text.now c.args.used c.args.src.now c.args.slots.now c.loop-slot.text c.loop-slot.pos c.loop-slot.slot-index c.loop-slot.invariant (omega arith) _ c.bytes_of-v.ensures.result_value

pub overflow_add-pos : goal.overflow_add-pos
overflow_add-pos c =
    omega (
      arith,
      value_fits c.args.text.now c.args.used c.args.src.now c.args.slots.now c.loop-slot.text c.loop-slot.pos c.loop-slot.slot-index c.loop-slot.invariant (omega arith) _ c.bytes_of-v.ensures.result_value,
    )

pub loop-slot-preserved : goal.loop-slot-preserved
loop-slot-preserved c =
    laying_more c.args.text.now c.args.used c.args.src.now c.args.slots.now c.loop-slot.text c.loop-slot.pos c.loop-slot.slot-index c.loop-slot.invariant (omega arith) _ c.bytes_of-v.ensures.result_value _
    c.put_bytes.ensures
