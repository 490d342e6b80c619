use mathlib.Core.Path.{ap, ◌∙◌}
use Rattle.std.proofs.Common.{Option, ℕ, unwrap_or, length}
use Rattle.names.proofs.Laws.{named_at}
use Rattle.names.proofs.find_short.Goals as goal

pub returns : goal.returns
returns c = c.unwrap_or.ensures ∙ ap (λ (o : Option ℕ). unwrap_or o (length c.args.states.now)) c.first_named.ensures ∙ named_at c.args.text.now c.args.w.now c.args.states.now
