use mathlib.Core.Path.{refl, sym, ◌∙◌}
use Rattle.reading.proofs.Calls.{some_number}
use Rattle.streams.proofs.Laws.{call_refused, one_event_lem}
use Rattle.reader.proofs.Laws.{not_one, is_one}
use Rattle.reader.proofs.chart_event.Goals as goal

pub returns-in-Err-clause-answer : goal.returns-in-Err-clause-answer
returns-in-Err-clause-answer c = call_refused _ _ _ (c.number.ensures ∙ rw c.tables.ensures at c.in-Err.ensures) (λ z. some_number c.in-Err.no (sym c.number.ensures ∙ z)) _

pub returns-in-Err-one_event-clause-answer : goal.returns-in-Err-one_event-clause-answer
returns-in-Err-one_event-clause-answer c =
    not_one _ _ _ (sym (rw c.tables.ensures at c.in_default.ensures)) (c.number-in-Err-one_event.ensures ∙ c.in-Err-one_event.ensures) (λ z. some_number c.in-Err-one_event.no (sym c.number-in-Err-one_event.ensures ∙ z))

pub feed_all-fed-requires : goal.feed_all-fed-requires
feed_all-fed-requires c = sym (rw c.tables.ensures at c.in_default.ensures)

pub returns-clause-answer : goal.returns-clause-answer
returns-clause-answer c = let one = is_one _ c.in_default-one_event.ensures refl in one_event_lem _ _ _ one.0 one.1 _ _ _ _ c.feed_all-fed.ensures.stream
