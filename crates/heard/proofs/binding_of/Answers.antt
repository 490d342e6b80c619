use Rattle.definition.specs.declared.codes.Tag.TheVariants as T
use Rattle.plain.specs.Plain.{slots_of, loads_in, parsed_in}
use Rattle.definition.specs.Codes.{tag_number}
use mathlib.Core.Path.{sym, ap, ◌∙◌}
use Rattle.definition.specs.Look.{code_of}
use Rattle.plain.specs.Keyed.{value_in}
use Rattle.plain.proofs.Codes.{tag_agrees, tag_differs}
use Rattle.heard.proofs.CodeLaws.{binding_here, binding_other, code_none, code_some}
use Rattle.heard.proofs.binding_of.Goals as goal

pub returns-then-not-has : goal.returns-then-not-has
unfolding parsed_in
returns-then-not-has c = code_none 0 (tag_number c.args.event.now.plain.now.tag) 5 (loads_in c.args.event.now.src.now (slots_of c.args.event.now.plain.now)) (sym c.has.ensures ∙ c.if-not-has.true)

pub returns-then-ne : goal.returns-then-ne
unfolding parsed_in
returns-then-ne c = code_some 0 (tag_number c.args.event.now.plain.now.tag) 5 (loads_in c.args.event.now.src.now (slots_of c.args.event.now.plain.now)) (sym c.has.ensures ∙ c.if-not-has.false) _ (binding_other (value_in 5 (loads_in c.args.event.now.src.now (slots_of c.args.event.now.plain.now))) (tag_number c.args.event.now.plain.now.tag) (tag_differs c.args.event.now.plain.now.tag T.Scxml c.if-ne.ensures))

pub returns : goal.returns
unfolding parsed_in
returns c =
    code_some 0 (tag_number c.args.event.now.plain.now.tag) 5 (loads_in c.args.event.now.src.now (slots_of c.args.event.now.plain.now)) (sym c.has.ensures ∙ c.if-not-has.false) _
    (binding_here c.value.result.now (tag_number c.args.event.now.plain.now.tag) (tag_agrees c.args.event.now.plain.now.tag T.Scxml c.if-ne.ensures) _ c.binding_code.ensures ∙ ap (code_of (tag_number c.args.event.now.plain.now.tag) 5) c.value.ensures.result_value)
