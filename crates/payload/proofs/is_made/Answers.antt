use mathlib.Core.Path.{ap, ◌∙◌}
use Rattle.definition.specs.declared.codes.Kind.TheVariants as K
use Rattle.definition.specs.Elements.{names_state}
use Rattle.plain.proofs.Codes.{kind_is, kind_not}
use Rattle.payload.proofs.PartLaws.{made_never, made_unnamed, made_without}
use Rattle.payload.proofs.is_made.Goals as goal

pub returns-then-eq : goal.returns-then-eq
returns-then-eq c = made_never c.args.event.now.src.now c.args.event.now.plain.now (kind_is c.args.event.now.plain.now.kind K.End c.if-eq.ensures)

pub returns-then-names_state : goal.returns-then-names_state
returns-then-names_state c = made_without c.args.event.now.src.now c.args.event.now.plain.now (kind_not c.args.event.now.plain.now.kind K.End c.if-eq.ensures) (c.if-names_state.ensures ∙ ap names_state c.number.ensures) c.has.result c.has.ensures

pub returns-else-names_state : goal.returns-else-names_state
returns-else-names_state c = c.if-names_state.false ∙ made_unnamed c.args.event.now.src.now c.args.event.now.plain.now (kind_not c.args.event.now.plain.now.kind K.End c.if-eq.ensures) (c.if-names_state.ensures ∙ ap names_state c.number.ensures)
