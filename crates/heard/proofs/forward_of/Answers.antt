use Rattle.plain.specs.Plain.{parsed_in}
use Rattle.definition.specs.Codes.{tag_number}
use mathlib.Core.Path.{ap, ◌∙◌}
use Rattle.definition.specs.Look.{code_of}
use Rattle.heard.proofs.CodeLaws.{forward_is, yes_is}
use Rattle.heard.proofs.forward_of.Goals as goal

pub returns : goal.returns
unfolding parsed_in
returns c = forward_is c.value.result.now (tag_number c.args.event.now.plain.now.tag) _ _ c.is_true.ensures (c.from.ensures ∙ yes_is _) ∙ ap (code_of (tag_number c.args.event.now.plain.now.tag) 13) c.value.ensures.result_value
