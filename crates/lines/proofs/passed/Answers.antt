use Rattle.std.proofs.Common.{ℕ, ap, ◌≡◌, ◌+◌, ◌-◌, ◌∙◌, drop, take, refl, arith, sym}
use Rattle.lines.specs.Blocks.{all}
use Rattle.lines.specs.Parts.{part}
use Rattle.lines.proofs.BlockLaws.{all_join}
use Rattle.lines.proofs.passed.Goals as goal
use Rattle.lines.proofs.passed.Goals.{then-loop-i-test+else-all_of, else-loop-i-test}

pub loop-i-init : goal.loop-i-init
unfolding all
loop-i-init g c = (omega arith, λ p t. refl)

pub loop-i-preserved : goal.loop-i-preserved
loop-i-preserved g c =
    let e : g.row.N ≡ c.loop-i.i + g.row.N - c.loop-i.i = omega arith in
    (omega arith, λ p t. all_join p c.loop-i.i g.row.N c.args.raw.now (c.loop-i.invariant.1 p t) (ap (λ (n : ℕ). all p (take n (drop c.loop-i.i c.args.raw.now))) e ∙ sym (c.all_of.ensures p t) ∙ c.if-all_of.true))

pub returns-clause-stopped : goal.returns-clause-stopped
unfolding part
returns-clause-stopped g c =
    let e : g.row.N ≡ c.loop-i.i + g.row.N - c.loop-i.i = omega arith in
    λ p t k. elim c.loop-i-test.branch [
      | then-loop-i-test+else-all_of w ↦ ap (λ (n : ℕ). all p (take n (drop c.loop-i.i c.args.raw.now))) e ∙ sym (w.all_of.ensures p t) ∙ w.if-all_of.false
      | else-loop-i-test w ↦ absurd (omega arith)
    ]
