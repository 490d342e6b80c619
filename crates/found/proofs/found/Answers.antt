use Rattle.definition.specs.declared.codes.Tag.TheVariants as T
use Rattle.plain.specs.Plain.{parsed_in}
use Rattle.plain.proofs.Codes.{tag_agrees, tag_differs}
use Rattle.found.proofs.FoundLaws.{found_data, found_other}
use Rattle.found.proofs.found.Goals as goal

pub returns-then-ne : goal.returns-then-ne
unfolding parsed_in
returns-then-ne c =
    found_other c.args.text.now c.args.datums.now c.args.state (parsed_in c.args.event.now.src.now c.args.event.now.plain.now) (tag_differs c.args.event.now.plain.now.tag T.Data c.if-ne.ensures)

pub returns : goal.returns
unfolding parsed_in
returns c =
    found_data c.args.text.now c.args.datums.now c.args.state (parsed_in c.args.event.now.src.now c.args.event.now.plain.now) (tag_agrees c.args.event.now.plain.now.tag T.Data c.if-ne.ensures) _
    c.value.ensures.result_value _ c.find_datum.ensures
