use Rattle.definition.specs.declared.codes.Tag.TheVariants as T
use Rattle.plain.proofs.Codes.{tag_is, tag_not}
use Rattle.definition.specs.Codes.{tag_number}
use lib.ListN.{length}
use mathlib.Core.Path.{refl, sym, ap}
use native.Mathlib.Omega.{arith}
use Rattle.payload.proofs.PartLaws.{bytes_quoted, bytes_plain, laid_as}
use Rattle.payload.proofs.put_text.Goals as goal

-- src/lib.rt:46:9
pub put_quoted_at-requires : goal.put_quoted_at-requires
put_quoted_at-requires c = omega (arith, c.requires, ap length (bytes_quoted (tag_number c.args.tag) c.args.v.now (tag_is c.args.tag T.Assign c.if-eq.ensures)))

-- src/lib.rt:46:9
pub returns-then-eq : goal.returns-then-eq
returns-then-eq c = let r = laid_as c.args.text.now c.args.pos _ _ (sym (bytes_quoted (tag_number c.args.tag) c.args.v.now (tag_is c.args.tag T.Assign c.if-eq.ensures))) _ _ (c.put_quoted_at.ensures.value, c.put_quoted_at.ensures.text_after) in record { value = r.0; text_after = r.1 }

-- src/lib.rt:48:5
pub put_bytes-requires : goal.put_bytes-requires
put_bytes-requires c = omega (arith, c.requires, ap length (bytes_plain (tag_number c.args.tag) c.args.v.now (tag_not c.args.tag T.Assign c.if-eq.ensures)))

-- src/lib.rt:49:5
pub overflow_add-result : goal.overflow_add-result
overflow_add-result c = omega (arith, c.requires, ap length (bytes_plain (tag_number c.args.tag) c.args.v.now (tag_not c.args.tag T.Assign c.if-eq.ensures)), c.well_formed)

-- src/lib.rt:40:1
pub returns : goal.returns
returns c = let r = laid_as c.args.text.now c.args.pos _ _ (sym (bytes_plain (tag_number c.args.tag) c.args.v.now (tag_not c.args.tag T.Assign c.if-eq.ensures))) _ _ (refl, c.put_bytes.ensures) in record { value = r.0; text_after = r.1 }
