use mathlib.Core.Path.{◌≡◌, sym, ◌∙◌}
use borrow.Author.Rules.{rules}
use lib.ListN.{length}
use Rattle.reading.proofs.Calls.{some_number}
use Rattle.streams.proofs.Laws.{stream_none, stream_refused}
use Rattle.reader.proofs.chart_stream.Goals as goal

pub returns-then-is_empty-clause-stream : goal.returns-then-is_empty-clause-stream
returns-then-is_empty-clause-stream c = let none : length c.args.bytes.now ≡ 0 = search rules in stream_none _ _ _ none

pub returns-in-Err-clause-stream : goal.returns-in-Err-clause-stream
returns-in-Err-clause-stream c =
    let some : length c.args.bytes.now ≡ 0 → ⊥ = search rules in
    stream_refused _ _ _ some _ (c.number.ensures ∙ rw c.tables.ensures at c.in-Err.ensures) (λ z. some_number c.in-Err.first (sym c.number.ensures ∙ z))

pub feed_all-requires : goal.feed_all-requires
feed_all-requires c = sym (rw c.tables.ensures at c.in_default.ensures)
