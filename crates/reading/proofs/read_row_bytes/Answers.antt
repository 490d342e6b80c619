use Rattle.definition.specs.Reader.{no_row}
use Rattle.reading.specs.Read.{refusal}
use Rattle.reading.proofs.Calls.{out_short, out_row}
use Rattle.reading.proofs.read_row_bytes.Goals as goal

pub returns-then-out-lt-BYTES : goal.returns-then-out-lt-BYTES
returns-then-out-lt-BYTES c = out_short _ c.args.out.now c.if-out-lt-BYTES.true

pub returns-in-Ok : goal.returns-in-Ok
returns-in-Ok c = out_row _ c.args.out.now c.if-out-lt-BYTES.false c.in-Ok.ensures c.put_row.ensures

pub returns-in-Err : goal.returns-in-Err
unfolding refusal no_row
returns-in-Err c = rw c.number.ensures (out_row _ c.args.out.now c.if-out-lt-BYTES.false c.in-Err.ensures c.put_row-in-Err.ensures)
