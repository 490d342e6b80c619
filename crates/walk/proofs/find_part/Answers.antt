use Rattle.std.proofs.Common.{Some, None, ap, ◌∙◌, refl}
use Rattle.parts.specs.declared.Part.{Part}
use Rattle.walk.specs.Views.{found_of, scan_of}
use Rattle.walk.proofs.CodeLaws.{scan_is, not_found, is_found}
use Rattle.walk.proofs.find_part.Goals as goal

pub returns-in_err-size : goal.returns-in_err-size
returns-in_err-size c = rw c.from_residual.ensures (not_found c.args.low c.args.high c.args.at c.args.written.now c.args.high (scan_of None) (scan_is c.args.written.now None c.in_err-size.ensures) refl refl)

pub returns-then-not-low-size : goal.returns-then-not-low-size
returns-then-not-low-size c = not_found c.args.low c.args.high c.args.at c.args.written.now c.args.high (scan_of (Some c.in_ok-size.size)) (scan_is c.args.written.now (Some c.in_ok-size.size) c.in_ok-size.ensures) refl c.if-not-low-size.true

pub returns : goal.returns
returns c =
    ap (λ (p : Part). found_of (Some p)) c.found_at.ensures
    ∙ is_found c.args.low c.args.high c.args.at c.args.written.now c.args.high (scan_of (Some c.in_ok-size.size)) (scan_is c.args.written.now (Some c.in_ok-size.size) c.in_ok-size.ensures) refl c.if-not-low-size.false
