use Rattle.std.proofs.Common.{ℕ, Option, length, unwrap_or, ap, ◌∙◌}
use Rattle.definition.specs.Text.{lowered}
use Rattle.text.proofs.Laws.{place_found}
use Rattle.text.proofs.code_in.Goals as goal

pub returns : goal.returns
returns c =
    c.unwrap_or.ensures
    ∙ ap (λ (r : Option ℕ). unwrap_or r (length c.args.words.now)) c.place_in.ensures
    ∙ place_found (lowered c.args.v.now) c.args.words.now
