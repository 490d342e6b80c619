use Rattle.std.proofs.Common.{ℕ, List, ap, ◌∙◌}
use Rattle.definition.specs.Text.{same}
use Rattle.text.proofs.Laws.{span_is}
use Rattle.text.proofs.same_at.Goals as goal

pub returns : goal.returns
returns c = c.same.ensures ∙ ap (λ (x : List ℕ). same x c.args.w.now) (span_is _ _ _ _ _ c.min.ensures c.min-2.ensures)
