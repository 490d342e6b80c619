use lib.ListN.{length}
use mathlib.Core.Path.{sym, ap}
use native.Mathlib.Omega.{arith}
use Rattle.payload.proofs.PartLaws.{name_some, name_none, laid_as, laid_empty}
use Rattle.payload.proofs.append_name.Goals as goal

-- src/lib.rt:73:9
pub put_name_at-requires : goal.put_name_at-requires
put_name_at-requires c = omega (arith, c.requires.1, ap length (name_some c.args.made c.args.drawn c.if-made.true))

-- src/lib.rt:73:9
pub returns-then-made : goal.returns-then-made
returns-then-made c = let r = laid_as c.args.text.now c.args.pos _ _ (sym (name_some c.args.made c.args.drawn c.if-made.true)) _ _ (c.put_name_at.ensures.value, c.put_name_at.ensures.text_after) in record { value = r.0; text_after = r.1 }

-- src/lib.rt:67:1
pub returns : goal.returns
returns c = let r = laid_empty c.args.text.now c.args.pos _ (name_none c.args.made c.args.drawn c.if-made.false) in record { value = r.0; text_after = r.1 }
