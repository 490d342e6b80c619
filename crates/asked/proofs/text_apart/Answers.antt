use mathlib.Core.Path.{ap, sym, ◌∙◌}
use mathlib.Core.Bool.{Bool, not, ◌&&◌}
use lib.Dec.{leb}
use Rattle.definition.specs.Codes.{tag_number}
use Rattle.definition.specs.declared.codes.Tag.TheVariants as T
use Rattle.definition.specs.declared.codes.Kind.TheVariants as K
use Rattle.plain.specs.Plain.{parsed_in}
use Rattle.plain.proofs.Codes.{tag_apart, kind_agrees, kind_differs}
use Rattle.asked.specs.Asked.{trimmed_in}
use Rattle.asked.proofs.AskedLaws.{text_none, apart_no_text, apart_data, apart_content, apart_assign, apart_any}
use Rattle.asked.proofs.text_apart.Goals.{then-has, else-has}
use Rattle.asked.proofs.text_apart.Goals as goal

pub returns-then-ne : goal.returns-then-ne
unfolding parsed_in
returns-then-ne c = apart_no_text (parsed_in c.args.event.now.src.now c.args.event.now.plain.now) (kind_differs c.args.event.now.plain.now.kind K.Whole c.if-ne.ensures) (sym (text_none c.args.event.now.src.now c.args.event.now.plain.now (kind_differs c.args.event.now.plain.now.kind K.Whole c.if-ne.ensures)))

pub returns-after-has : goal.returns-after-has
unfolding parsed_in
returns-after-has c =
    elim c.if-has.branch [
      | then-has w ↦ ap not (w.result-is ∙ w.has_text.ensures ∙ sym (ap (λ (b : Bool). b && leb 1 (trimmed_in (parsed_in c.args.event.now.src.now c.args.event.now.plain.now).text)) (sym c.has.ensures ∙ w.if-has.true)))
      | else-has w ↦ ap not (w.result-is ∙ w.if-has.false ∙ sym (ap (λ (b : Bool). b && leb 1 (trimmed_in (parsed_in c.args.event.now.src.now c.args.event.now.plain.now).text)) (sym c.has.ensures ∙ w.if-has.false)))
    ]
    ∙ apart_data (parsed_in c.args.event.now.src.now c.args.event.now.plain.now) (kind_agrees c.args.event.now.plain.now.kind K.Whole c.if-ne.ensures) (ap tag_number c.in-Data.is)

pub returns-in-Content : goal.returns-in-Content
unfolding parsed_in
returns-in-Content c = ap not c.has-in-Content.ensures ∙ apart_content (parsed_in c.args.event.now.src.now c.args.event.now.plain.now) (kind_agrees c.args.event.now.plain.now.kind K.Whole c.if-ne.ensures) (ap tag_number c.in-Content.is)

pub returns-in-Assign : goal.returns-in-Assign
unfolding parsed_in
returns-in-Assign c = c.is_empty.ensures ∙ apart_assign (parsed_in c.args.event.now.src.now c.args.event.now.plain.now) (kind_agrees c.args.event.now.plain.now.kind K.Whole c.if-ne.ensures) (ap tag_number c.in-Assign.is) _ c.value.ensures.result_value

pub returns-in_default : goal.returns-in_default
unfolding parsed_in
returns-in_default c = apart_any (parsed_in c.args.event.now.src.now c.args.event.now.plain.now) (kind_agrees c.args.event.now.plain.now.kind K.Whole c.if-ne.ensures) (tag_apart c.args.event.now.plain.now.tag T.Data c.in_default.not-Data) (tag_apart c.args.event.now.plain.now.tag T.Content c.in_default.not-Content) (tag_apart c.args.event.now.plain.now.tag T.Assign c.in_default.not-Assign)
