use mathlib.Core.Path.{refl, ap, ◌∙◌}
use Rattle.definition.specs.Actions.{type_of}
use Rattle.plain.specs.Plain.{parsed_in}
use Rattle.heard.proofs.CodeLaws.{heard_is}
use Rattle.heard.proofs.heard.Goals as goal

pub returns : goal.returns
unfolding parsed_in
returns c =
    heard_is (parsed_in c.args.event.now.src.now c.args.event.now.plain.now) c.args.own.0 c.args.found _ c.has_text.ensures refl c.has.ensures c.has-2.ensures c.has-3.ensures c.binding_of.ensures
    (c.type_of.ensures ∙ ap type_of (c.unwrap_or.ensures ∙ c.type_code-typed.ensures 0))
    (c.unwrap_or-2.ensures ∙ c.type_code-typed.ensures 1)
    c.wildcard_of.ensures c.forward_of.ensures c.events_of.ensures c.names_of.ensures refl
