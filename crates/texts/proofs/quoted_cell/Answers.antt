use Rattle.definition.specs.declared.codes.Kind.TheVariants as K
use Rattle.definition.specs.declared.codes.Tag.TheVariants as T
use Rattle.definition.specs.Codes.{kind_number, tag_number}
use Rattle.plain.proofs.Codes.{kind_agrees, kind_differs, tag_agrees, tag_differs}
use Rattle.std.proofs.Common.{◌∙◌}
use Rattle.fill.specs.Fill.{as_cell}
use Rattle.texts.proofs.EventLaws.{quoted_none, quoted_text, quoted_here}
use Rattle.texts.proofs.quoted_cell.Goals as goal

pub returns-then-ne : goal.returns-then-ne
returns-then-ne c = quoted_none (kind_number c.args.kind) (tag_number c.args.tag) c.args.text.now c.args.e.values (kind_differs c.args.kind K.Whole c.if-ne.ensures)

pub returns-then-ne-2 : goal.returns-then-ne-2
returns-then-ne-2 c = quoted_text (kind_number c.args.kind) (tag_number c.args.tag) c.args.text.now c.args.e.values (kind_agrees c.args.kind K.Whole c.if-ne.ensures) (tag_differs c.args.tag T.Assign c.if-ne-2.ensures)

pub returns : goal.returns
unfolding as_cell
returns c = c.text_between.ensures ∙ quoted_here (kind_number c.args.kind) (tag_number c.args.tag) c.args.text.now c.args.e.values c.args.e.text c.requires.0 (kind_agrees c.args.kind K.Whole c.if-ne.ensures) (tag_agrees c.args.tag T.Assign c.if-ne-2.ensures)
