use Rattle.std.proofs.Common.{List, ℕ, ap, take, length, ◌∙◌, nat_eq}
use lib.Pointwise.{pointwise}
use Rattle.lines.proofs.LineLaws.{head_starts}
use Rattle.lines.proofs.BlockLaws.{rest_is}
use Rattle.lines.proofs.begins.Goals as goal

pub returns : goal.returns
returns c = c.starts_with.ensures.value ∙ ap (λ (l : List ℕ). pointwise nat_eq c.args.head.now (take (length c.args.head.now) l)) (rest_is c.args.i c.args.raw.now) ∙ head_starts _ _
