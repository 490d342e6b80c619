use Rattle.columns.proofs.Numbers.{Among}
use Rattle.columns.proofs.has_number.Given as goal

abbrev pub invariant-loop-size : goal.invariant-loop-size
invariant-loop-size l = Among l.rows l.number l.base l.size

abbrev pub decreases-loop-size : goal.decreases-loop-size
decreases-loop-size l = l.size
