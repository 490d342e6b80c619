use Rattle.std.proofs.Common.{Some, None, refl}
use Rattle.definition.specs.Codes.{kind_code, tag_number}
use Rattle.walk.specs.Views.{lined}
use Rattle.walk.proofs.StepLaws.{event_lost, event_within, name_lost, name_reached}
use Rattle.walk.proofs.walk_event.Goals as goal

pub returns-in_err-e : goal.returns-in_err-e
returns-in_err-e c = rw c.from_residual.ensures (event_lost c.args.stream.now (lined kind_code None) c.in_err-e.ensures refl)

pub name_line-requires : goal.name_line-requires
name_line-requires c = event_within c.args.stream.now (lined kind_code (Some c.in_ok-e.e)) c.in_ok-e.ensures refl

pub returns-in_err-n : goal.returns-in_err-n
returns-in_err-n c = rw c.from_residual-in_err-n.ensures (name_lost c.args.stream.now (lined kind_code (Some c.in_ok-e.e)) c.in_ok-e.ensures refl (lined tag_number None) c.in_err-n.ensures refl)

pub walk_pairs-requires : goal.walk_pairs-requires
walk_pairs-requires c = let r = name_reached c.args.stream.now (lined kind_code (Some c.in_ok-e.e)) c.in_ok-e.ensures refl (lined tag_number (Some c.in_ok-n.n)) c.in_ok-n.ensures refl in record { next_nonzero = r.0; reached = r.1 }
