use Rattle.names.proofs.Laws.{counted_with}
use Rattle.names.proofs.count_with.Goals as goal

pub returns : goal.returns
returns c = counted_with c.args.states.now c.args.text.now c.args.own.now c.args.v.now c.count_names-n.result c.count_names-n.ensures.value c.find_state-k.result c.find_state-k.ensures.value c.new_if-one.result c.new_if-one.ensures.value
