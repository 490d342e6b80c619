use Rattle.std.proofs.Common.{ℕ, ap, drop, ◌∙◌}
use Rattle.std.proofs.lemmas.List.{drop_min}
use Rattle.lines.proofs.BlockLaws.{rest_is}
use Rattle.lines.proofs.after.Goals as goal

pub returns : goal.returns
returns c = rest_is c.min.result c.args.raw.now ∙ ap (λ (k : ℕ). drop k c.args.raw.now) c.min.ensures ∙ drop_min c.args.from c.args.raw.now
