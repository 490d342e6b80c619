use mathlib.Core.Path.{refl}
use Rattle.plain.specs.Plain.{parsed_in}
use Rattle.write.proofs.Written.{asks, name_short, apply_asks, in_range, in_range_by, leaves}
use Rattle.write.proofs.write.Goals as goal

pub write_texts-w-requires : goal.write_texts-w-requires
write_texts-w-requires c = (refl, asks c.args.lent.now c.args.p (parsed_in c.args.src.now c.args.pl.now) c.args.effect.plan.now c.args.effect.made c.args.effect.charge c.requires)

pub opened_name-opened-requires : goal.opened_name-opened-requires
unfolding parsed_in
opened_name-opened-requires c = name_short c.args.lent.now c.args.p (parsed_in c.args.src.now c.args.pl.now) c.args.effect.plan.now c.args.effect.made c.args.effect.charge c.requires c.bytes_of.ensures.result_value

pub rows_of-requires : goal.rows_of-requires
rows_of-requires c = (in_range c.args.lent.now c.args.p (parsed_in c.args.src.now c.args.pl.now) c.args.effect.plan.now c.args.effect.made c.args.effect.charge c.requires c.write_texts-w.ensures).members

pub apply-requires : goal.apply-requires
apply-requires c = apply_asks c.args.lent.now c.args.p (parsed_in c.args.src.now c.args.pl.now) c.args.effect.plan.now c.args.effect.made c.args.effect.charge c.requires c.write_texts-w.ensures c.rows_of.ensures

pub position_after-requires : goal.position_after-requires
unfolding parsed_in
position_after-requires c = in_range_by c.args.lent.now c.args.p (parsed_in c.args.src.now c.args.pl.now) c.args.effect.plan.now c.args.effect.made c.args.effect.charge c.requires c.write_texts-w.ensures c.number.ensures

pub returns-clause-leaves : goal.returns-clause-leaves
unfolding parsed_in
returns-clause-leaves c = leaves c.args.lent.now c.args.p (parsed_in c.args.src.now c.args.pl.now) c.args.effect.plan.now c.args.effect.made c.args.effect.charge c.requires c.write_texts-w.ensures c.bytes_of.ensures.result_value c.opened_name-opened.ensures c.rows_of.ensures c.apply.ensures.written c.number.ensures c.position_after.ensures
