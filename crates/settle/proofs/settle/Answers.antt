use mathlib.Core.Path.{refl}
use Rattle.std.proofs.Common.{Ok, Err}
use native.Mathlib.Omega.{arith}
use Rattle.plain.specs.Plain.{parsed_in}
use Rattle.settle.proofs.Law.{looked, seen, planned_by, few_enough, charge_small, small_enough, brings, settles}
use Rattle.settle.proofs.settle.Goals as goal

pub look-l-requires : goal.look-l-requires
look-l-requires c =
    let r = few_enough c.args.tables c.args.p (parsed_in c.args.src.now c.args.pl.now) c.requires _ _ _ c.in_use-used.ensures.states c.in_use-used.ensures.datums c.in_use-used.ensures.text in
    record { states_len_bound = r.0; names_le_drawn = r.1.0; states_value = r.1.1 }

pub decide-decision-requires : goal.decide-decision-requires
unfolding parsed_in
decide-decision-requires c = small_enough c.args.tables c.args.p (parsed_in c.args.src.now c.args.pl.now) c.requires _ (looked c.in_use-used.ensures _ c.look-l.ensures) _ (seen c.in_use-used.ensures _ _ _ c.number-kind.ensures c.number-tag.ensures c.see-v.ensures)

pub decided-requires : goal.decided-requires
unfolding parsed_in
decided-requires c = brings c.args.tables c.args.p (parsed_in c.args.src.now c.args.pl.now) c.requires _ (looked c.in_use-used.ensures _ c.look-l.ensures) _ (seen c.in_use-used.ensures _ _ _ c.number-kind.ensures c.number-tag.ensures c.see-v.ensures) _ (planned_by _ _ _ _ c.number-kind.ensures c.number-tag.ensures c.decide-decision.ensures)

pub overflow_cast-result : goal.overflow_cast-result
unfolding parsed_in
overflow_cast-result c = omega (arith, charge_small c.args.tables c.args.p (parsed_in c.args.src.now c.args.pl.now) c.requires _ (looked c.in_use-used.ensures _ c.look-l.ensures))

pub returns-in-Err : goal.returns-in-Err
unfolding parsed_in
returns-in-Err c = settles c.args.tables c.args.p (parsed_in c.args.src.now c.args.pl.now) _ (looked c.in_use-used.ensures _ c.look-l.ensures) _ (seen c.in_use-used.ensures _ _ _ c.number-kind.ensures c.number-tag.ensures c.see-v.ensures) _ (planned_by _ _ _ _ c.number-kind.ensures c.number-tag.ensures c.decide-decision.ensures) (Err c.in-Err.refusal) c.in-Err.ensures

pub returns-in-Ok : goal.returns-in-Ok
unfolding parsed_in
returns-in-Ok c = settles c.args.tables c.args.p (parsed_in c.args.src.now c.args.pl.now) _ (looked c.in_use-used.ensures _ c.look-l.ensures) _ (seen c.in_use-used.ensures _ _ _ c.number-kind.ensures c.number-tag.ensures c.see-v.ensures) _ (planned_by _ _ _ _ c.number-kind.ensures c.number-tag.ensures c.decide-decision.ensures) (Ok _) (c.in-Ok.ensures.0, (c.in-Ok.ensures.1, (refl, refl)))
