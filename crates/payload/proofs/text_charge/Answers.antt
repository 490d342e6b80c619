use Rattle.definition.specs.declared.codes.Kind.TheVariants as K
use Rattle.definition.specs.declared.codes.Tag.TheVariants as T
use Rattle.plain.proofs.Codes.{kind_agrees, kind_differs, tag_is, tag_not}
use native.Mathlib.Omega.{arith}
use Rattle.payload.proofs.PartLaws.{charge_quoted, charge_plain, charge_none}
use Rattle.payload.proofs.text_charge.Goals as goal

pub returns-then-ne-clause-value : goal.returns-then-ne-clause-value
returns-then-ne-clause-value c = charge_none c.args.src.now c.args.p.now (kind_differs c.args.p.now.kind K.Whole c.if-ne.ensures)

pub overflow_mul-result : goal.overflow_mul-result
overflow_mul-result c = omega (arith, c.bytes_of-v.ensures.result_len_bound)

pub returns-then-eq-clause-value : goal.returns-then-eq-clause-value
returns-then-eq-clause-value c = omega (arith, charge_quoted c.args.src.now c.args.p.now (kind_agrees c.args.p.now.kind K.Whole c.if-ne.ensures) _ c.bytes_of-v.ensures.result_value (tag_is c.args.p.now.tag T.Assign c.if-eq.ensures))

pub returns-clause-value : goal.returns-clause-value
returns-clause-value c = charge_plain c.args.src.now c.args.p.now (kind_agrees c.args.p.now.kind K.Whole c.if-ne.ensures) _ c.bytes_of-v.ensures.result_value (tag_not c.args.p.now.tag T.Assign c.if-eq.ensures)
