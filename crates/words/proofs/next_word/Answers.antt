use Rattle.std.proofs.Common.{ap, ◌∙◌, not, ◌+◌, ℕ, rules}
use Rattle.words.proofs.Laws.{next_made, run_gap}
use Rattle.words.proofs.next_word.Goals as goal

pub returns : goal.returns
returns g c =
    λ p t. next_made p c.args.v.now c.args.from _ _ (c.skip-start.ensures p t)
    (c.skip-end.ensures (λ b. not (p b)) (λ b r e. search (rules, t)) ∙ ap (λ (n : ℕ). c.skip-start.result + n) (run_gap p _))
