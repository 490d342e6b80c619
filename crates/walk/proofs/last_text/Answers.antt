use Rattle.std.proofs.Common.{Some, None, refl}
use Rattle.walk.specs.Views.{lined, no_number, last_of}
use Rattle.walk.proofs.StepLaws.{takes_within, text_lost, text_more, text_end}
use Rattle.walk.proofs.last_text.Goals as goal

pub returns-in_err-t : goal.returns-in_err-t
returns-in_err-t c = rw c.from_residual.ensures (text_lost c.args.stream.now c.args.at c.requires.stream_value (lined no_number None) c.in_err-t.ensures refl (last_of None) refl)

pub is_over-requires : goal.is_over-requires
is_over-requires c = takes_within c.args.stream.now c.args.at _ _ (lined no_number (Some c.in_ok-t.t)) c.in_ok-t.ensures refl

pub returns-then-not-is_over : goal.returns-then-not-is_over
returns-then-not-is_over c = text_more c.args.stream.now c.args.at c.requires.stream_value (lined no_number (Some c.in_ok-t.t)) c.in_ok-t.ensures refl c.is_over.ensures c.if-not-is_over.true (last_of None) refl

pub returns : goal.returns
returns c = text_end c.args.stream.now c.args.at c.requires.stream_value (lined no_number (Some c.in_ok-t.t)) c.in_ok-t.ensures refl c.is_over.ensures c.if-not-is_over.false
