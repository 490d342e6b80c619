use Rattle.definition.specs.declared.codes.Tag.TheVariants as T
use Rattle.plain.specs.Plain.{slots_of, loads_in, parsed_in}
use Rattle.definition.specs.Codes.{tag_number}
use mathlib.Core.Path.{sym, ap, ◌∙◌}
use Rattle.definition.specs.Look.{code_of}
use Rattle.plain.specs.Keyed.{value_in}
use Rattle.plain.proofs.Codes.{tag_is, tag_not}
use Rattle.heard.proofs.CodeLaws.{history_here, transition_here, type_other, code_none, code_some}
use Rattle.heard.proofs.type_code.Goals as goal

pub returns-then-not-has : goal.returns-then-not-has
unfolding parsed_in
returns-then-not-has c d = code_none d (tag_number c.args.event.now.plain.now.tag) 7 (loads_in c.args.event.now.src.now (slots_of c.args.event.now.plain.now)) (sym c.has.ensures ∙ c.if-not-has.true)

pub returns-then-eq : goal.returns-then-eq
unfolding parsed_in
returns-then-eq c d =
    code_some d (tag_number c.args.event.now.plain.now.tag) 7 (loads_in c.args.event.now.src.now (slots_of c.args.event.now.plain.now)) (sym c.has.ensures ∙ c.if-not-has.false) _
    (history_here c.value.result.now (tag_number c.args.event.now.plain.now.tag) (tag_is c.args.event.now.plain.now.tag T.History c.if-eq.ensures) _ c.history_code.ensures ∙ ap (code_of (tag_number c.args.event.now.plain.now.tag) 7) c.value.ensures.result_value)

pub returns-then-eq-2 : goal.returns-then-eq-2
unfolding parsed_in
returns-then-eq-2 c d =
    code_some d (tag_number c.args.event.now.plain.now.tag) 7 (loads_in c.args.event.now.src.now (slots_of c.args.event.now.plain.now)) (sym c.has.ensures ∙ c.if-not-has.false) _
    (transition_here c.value-then-eq-2.result.now (tag_number c.args.event.now.plain.now.tag) (tag_is c.args.event.now.plain.now.tag T.Transition c.if-eq-2.ensures) _ c.transition_code.ensures ∙ ap (code_of (tag_number c.args.event.now.plain.now.tag) 7) c.value-then-eq-2.ensures.result_value)

pub returns : goal.returns
unfolding parsed_in
returns c d =
    code_some d (tag_number c.args.event.now.plain.now.tag) 7 (loads_in c.args.event.now.src.now (slots_of c.args.event.now.plain.now)) (sym c.has.ensures ∙ c.if-not-has.false) _
    (type_other (value_in 7 (loads_in c.args.event.now.src.now (slots_of c.args.event.now.plain.now))) (tag_number c.args.event.now.plain.now.tag) (tag_not c.args.event.now.plain.now.tag T.History c.if-eq.ensures) (tag_not c.args.event.now.plain.now.tag T.Transition c.if-eq-2.ensures))
