use Rattle.definition.specs.declared.codes.Kind.TheVariants as K
use Rattle.definition.specs.declared.codes.Tag.TheVariants as T
use Rattle.definition.specs.Codes.{kind_number, tag_number}
use Rattle.plain.proofs.Codes.{kind_agrees, kind_differs, tag_is, tag_not}
use native.Mathlib.Omega.{arith}
use Rattle.fill.specs.Fill.{as_cell}
use Rattle.texts.proofs.EventLaws.{trimmed_none, trimmed_quoted, trimmed_text, trimmed_small}
use Rattle.texts.proofs.trimmed_cell.Goals as goal

pub returns-then-ne : goal.returns-then-ne
returns-then-ne c = trimmed_none (kind_number c.args.kind) (tag_number c.args.tag) c.args.text.now c.args.at c.args.none (kind_differs c.args.kind K.Whole c.if-ne.ensures)

pub returns-then-eq : goal.returns-then-eq
returns-then-eq c = trimmed_quoted (kind_number c.args.kind) (tag_number c.args.tag) c.args.text.now c.args.at c.args.none (kind_agrees c.args.kind K.Whole c.if-ne.ensures) (tag_is c.args.tag T.Assign c.if-eq.ensures)

pub overflow_add-result : goal.overflow_add-result
overflow_add-result c = omega (arith, trimmed_small (kind_number c.args.kind) (tag_number c.args.tag) c.args.text.now c.args.at _ c.requires (kind_agrees c.args.kind K.Whole c.if-ne.ensures) (tag_not c.args.tag T.Assign c.if-eq.ensures) c.trim-part.ensures)

pub overflow_add-result-2 : goal.overflow_add-result-2
overflow_add-result-2 c = omega (arith, trimmed_small (kind_number c.args.kind) (tag_number c.args.tag) c.args.text.now c.args.at _ c.requires (kind_agrees c.args.kind K.Whole c.if-ne.ensures) (tag_not c.args.tag T.Assign c.if-eq.ensures) c.trim-part.ensures)

pub overflow_cast-result : goal.overflow_cast-result
overflow_cast-result c = omega (arith, trimmed_small (kind_number c.args.kind) (tag_number c.args.tag) c.args.text.now c.args.at _ c.requires (kind_agrees c.args.kind K.Whole c.if-ne.ensures) (tag_not c.args.tag T.Assign c.if-eq.ensures) c.trim-part.ensures)

pub overflow_cast-result-2 : goal.overflow_cast-result-2
overflow_cast-result-2 c = omega (arith, trimmed_small (kind_number c.args.kind) (tag_number c.args.tag) c.args.text.now c.args.at _ c.requires (kind_agrees c.args.kind K.Whole c.if-ne.ensures) (tag_not c.args.tag T.Assign c.if-eq.ensures) c.trim-part.ensures)

pub returns : goal.returns
returns c = trimmed_text (kind_number c.args.kind) (tag_number c.args.tag) c.args.text.now c.args.at (as_cell c.args.none) _ (kind_agrees c.args.kind K.Whole c.if-ne.ensures) (tag_not c.args.tag T.Assign c.if-eq.ensures) c.trim-part.ensures
