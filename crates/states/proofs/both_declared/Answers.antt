use Rattle.states.proofs.Laws.{both_default}
use Rattle.states.proofs.both_declared.Goals as goal

pub returns-then-v-eq0 : goal.returns-then-v-eq0
returns-then-v-eq0 c =
    both_default c.args.chart c.args.initial c.args.x c.args.v.now c.args.q.now c.defaulted.result c.if-not-initial.true c.if-v-eq0.true c.in_ok-needs.ensures c.defaulted.ensures
