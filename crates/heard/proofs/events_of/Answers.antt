use native.Mathlib.Omega.{arith}
use mathlib.Core.Logic.{inl}
use Rattle.words.proofs.Laws.{words_few}
use Rattle.std.proofs.lemmas.Iterator.Consumers.{YieldsList-from_first, count_from_yields_List}
use Rattle.definition.specs.Text.{is_space}
use Rattle.words.specs.Left.{words_left}
use Rattle.definition.specs.declared.codes.Tag.TheVariants as T
use Rattle.plain.specs.Plain.{slots_of, loads_in, parsed_in}
use Rattle.definition.specs.Codes.{tag_number}
use mathlib.Core.Path.{refl, ap, ◌∙◌}
use mathlib.Core.List.{List}
use Prim.Native.Nat.{ℕ}
use lib.ListN.{length}
use Rattle.definition.specs.Look.{word_spans}
use Rattle.plain.specs.Keyed.{value_in}
use Rattle.plain.proofs.Codes.{tag_agrees, tag_differs}
use Rattle.heard.proofs.CodeLaws.{event_count, events_here, events_other, words_are}
use Rattle.heard.proofs.events_of.Goals as goal

pub returns-then-ne : goal.returns-then-ne
unfolding parsed_in
returns-then-ne c = words_are (tag_number c.args.event.now.plain.now.tag) 14 (loads_in c.args.event.now.src.now (slots_of c.args.event.now.plain.now)) _ (events_other (value_in 14 (loads_in c.args.event.now.src.now (slots_of c.args.event.now.plain.now))) (tag_number c.args.event.now.plain.now.tag) (tag_differs c.args.event.now.plain.now.tag T.Transition c.if-ne.ensures))

pub returns : goal.returns
unfolding parsed_in
returns c =
    words_are (tag_number c.args.event.now.plain.now.tag) 14 (loads_in c.args.event.now.src.now (slots_of c.args.event.now.plain.now)) _
    (events_here c.value-v.result.now (tag_number c.args.event.now.plain.now.tag) (tag_agrees c.args.event.now.plain.now.tag T.Transition c.if-ne.ensures) _ (event_count c.value-v.result.now _ (count_from_yields_List _ _ c.count.ensures.ran (YieldsList-from_first (λ w. record { off = w.off; word = w.word.now }) (λ s. words_left is_space s.v.now s.at) (words_left is_space c.value-v.result.now 0) refl))) ∙ ap (λ (v : List ℕ). length (word_spans (tag_number c.args.event.now.plain.now.tag) 14 v)) c.value-v.ensures.result_value)

pub count-requires-clause-fits : goal.count-requires-clause-fits
count-requires-clause-fits c = inl (omega (arith, words_few is_space c.value-v.result.now 0, c.value-v.ensures.result_len_bound))

pub overflow_cast-result : goal.overflow_cast-result
overflow_cast-result c = omega (arith, count_from_yields_List _ _ c.count.ensures.ran (YieldsList-from_first (λ w. record { off = w.off; word = w.word.now }) (λ s. words_left is_space s.v.now s.at) (words_left is_space c.value-v.result.now 0) refl), words_few is_space c.value-v.result.now 0, c.value-v.ensures.result_len_bound)
