use Rattle.names.proofs.FoundNames.{names_end, names_state_lem, names_transition, names_other}
use Rattle.plain.proofs.Codes.{kind_is, kind_not, tag_is, tag_not}
use mathlib.Core.Path.{ap, ◌∙◌}
use Rattle.definition.specs.Elements.{names_state}
use Rattle.definition.specs.declared.codes.Kind.TheVariants as K
use Rattle.definition.specs.declared.codes.Tag.TheVariants as T
use Rattle.plain.specs.Plain.{parsed_in}
use Rattle.definition.specs.Look.{name_cells}
use Rattle.names.proofs.look_names.Goals as goal

pub returns-then-eq : goal.returns-then-eq
unfolding parsed_in
returns-then-eq c = names_end c.args.drawn (parsed_in c.args.event.now.src.now c.args.event.now.plain.now) c.args.text.now (name_cells c.args.states.now) _ (kind_is c.args.event.now.plain.now.kind K.End c.if-eq.ensures) c.none.ensures

pub returns-then-names_state : goal.returns-then-names_state
unfolding parsed_in
returns-then-names_state c = names_state_lem c.args.drawn (parsed_in c.args.event.now.src.now c.args.event.now.plain.now) c.args.text.now (name_cells c.args.states.now) _ (kind_not c.args.event.now.plain.now.kind K.End c.if-eq.ensures) _ (c.names_state.ensures ∙ ap names_state c.number.ensures) c.if-names_state.true c.look_state.ensures

pub returns-then-eq-2 : goal.returns-then-eq-2
unfolding parsed_in
returns-then-eq-2 c = names_transition c.args.drawn (parsed_in c.args.event.now.src.now c.args.event.now.plain.now) c.args.text.now (name_cells c.args.states.now) _ (kind_not c.args.event.now.plain.now.kind K.End c.if-eq.ensures) _ (c.names_state.ensures ∙ ap names_state c.number.ensures) c.if-names_state.false (tag_is c.args.event.now.plain.now.tag T.Transition c.if-eq-2.ensures) _ c.value.ensures.result_value c.count_names.ensures.value

pub returns : goal.returns
unfolding parsed_in
returns c = names_other c.args.drawn (parsed_in c.args.event.now.src.now c.args.event.now.plain.now) c.args.text.now (name_cells c.args.states.now) _ (kind_not c.args.event.now.plain.now.kind K.End c.if-eq.ensures) _ (c.names_state.ensures ∙ ap names_state c.number.ensures) c.if-names_state.false (tag_not c.args.event.now.plain.now.tag T.Transition c.if-eq-2.ensures) c.none-2.ensures
