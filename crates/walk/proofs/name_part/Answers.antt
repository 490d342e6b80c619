use Rattle.std.proofs.Common.{Some, ap, ◌∙◌}
use Rattle.parts.specs.declared.Part.{Part}
use Rattle.walk.specs.Views.{found_of}
use Rattle.walk.proofs.CodeLaws.{as_found}
use Rattle.walk.proofs.name_part.Goals as goal

pub returns-then-known : goal.returns-then-known
returns-then-known c = ap (λ (p : Part). found_of (Some p)) c.found_at.ensures ∙ as_found c.args.high c.args.at c.args.written.now (c.requires.as_written c.if-known.true)
