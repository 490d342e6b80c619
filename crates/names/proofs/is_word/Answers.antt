use mathlib.Core.Path.{◌≡◌, refl}
use mathlib.Core.Bool.{true, false}
use borrow.Author.Tests.{tests}
use borrow.Author.Rules.{rules}
use Rattle.std.proofs.lemmas.Iterator.{cases_from_any}
use Rattle.std.proofs.lemmas.Iterator.Consumers.{YieldsList-from_first}
use Rattle.definition.specs.Text.{is_separator, same}
use Rattle.words.specs.Left.{words_left}
use Rattle.names.proofs.Laws.{occurs_any}
use Rattle.names.proofs.is_word.Goals as goal

pub returns : goal.returns
unfolding words_left
returns c =
    occurs_any c.args.w.now _ _
    (cases_from_any c.any.new.self _ _ (λ p. same p.word c.args.w.now ≡ true) (λ p. same p.word c.args.w.now ≡ false) c.any.ensures.ran
    (YieldsList-from_first (λ w. record { off = w.off; word = w.word.now }) (λ s. words_left is_separator s.v.now s.at) (words_left is_separator c.args.v.now c.args.from) refl)
    (λ x q k. search (rules, tests)) (λ x q k. search (rules, tests)))
