use Rattle.definition.specs.declared.codes.Tag.TheVariants as T
use Rattle.plain.specs.Plain.{slots_of, loads_in, parsed_in}
use Rattle.definition.specs.Codes.{tag_number}
use mathlib.Core.Path.{ap, ◌∙◌}
use Rattle.definition.specs.Look.{code_of}
use Rattle.plain.specs.Keyed.{value_in}
use Rattle.plain.proofs.Codes.{tag_agrees, tag_differs}
use Rattle.heard.proofs.CodeLaws.{wildcard_here, wildcard_other, yes_is}
use Rattle.heard.proofs.wildcard_of.Goals as goal

pub returns-then-ne : goal.returns-then-ne
unfolding parsed_in
returns-then-ne c = wildcard_other (value_in 14 (loads_in c.args.event.now.src.now (slots_of c.args.event.now.plain.now))) (tag_number c.args.event.now.plain.now.tag) (tag_differs c.args.event.now.plain.now.tag T.Transition c.if-ne.ensures)

pub returns : goal.returns
unfolding parsed_in
returns c = wildcard_here c.value.result.now (tag_number c.args.event.now.plain.now.tag) (tag_agrees c.args.event.now.plain.now.tag T.Transition c.if-ne.ensures) _ _ c.is_wildcard.ensures (c.from.ensures ∙ yes_is _) ∙ ap (code_of (tag_number c.args.event.now.plain.now.tag) 14) c.value.ensures.result_value
