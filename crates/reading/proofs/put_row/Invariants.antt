use Rattle.reading.proofs.Bytes.{Written}
use Rattle.reading.proofs.put_row.Given as goal

abbrev pub invariant-loop-c : goal.invariant-loop-c
invariant-loop-c l = Written l.initial.out l.fn.row l.c l.out
