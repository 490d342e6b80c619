use Rattle.definition.specs.declared.codes.Kind.TheVariants as K
use Rattle.plain.proofs.Codes.{kind_agrees, kind_differs}
use lib.ListN.{length}
use mathlib.Core.Path.{sym, ap}
use native.Mathlib.Omega.{arith}
use Rattle.payload.proofs.PartLaws.{text_some, text_none, laid_as, laid_empty}
use Rattle.payload.proofs.append_text.Goals as goal

pub put_text-requires : goal.put_text-requires
put_text-requires c = omega (arith, c.requires, ap length (text_some c.args.src.now c.args.p.now (kind_agrees c.args.p.now.kind K.Whole c.if-ne.ensures) _ c.bytes_of.ensures.result_value))

pub returns : goal.returns
returns c = let r = laid_as c.args.text.now c.args.pos _ _ (sym (text_some c.args.src.now c.args.p.now (kind_agrees c.args.p.now.kind K.Whole c.if-ne.ensures) _ c.bytes_of.ensures.result_value)) _ _ (c.put_text.ensures.value, c.put_text.ensures.text_after) in record { value = r.0; text_after = r.1 }

pub returns-then-ne : goal.returns-then-ne
returns-then-ne c = let r = laid_empty c.args.text.now c.args.pos _ (text_none c.args.src.now c.args.p.now (kind_differs c.args.p.now.kind K.Whole c.if-ne.ensures)) in record { value = r.0; text_after = r.1 }
