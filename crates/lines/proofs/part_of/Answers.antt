use Rattle.std.proofs.Common.{ℕ, ap, take, ◌∙◌}
use Rattle.std.proofs.lemmas.List.{take_min}
use Rattle.lines.specs.Parts.{part}
use Rattle.lines.proofs.part_of.Goals as goal

pub returns : goal.returns
unfolding part
returns c = ap (λ (k : ℕ). take k c.after-rest.result.now) c.min.ensures ∙ take_min c.args.len c.after-rest.result.now ∙ ap (take c.args.len) c.after-rest.ensures
