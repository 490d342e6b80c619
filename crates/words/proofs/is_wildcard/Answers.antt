use mathlib.Core.Path.{◌≡◌, refl}
use mathlib.Core.Bool.{true, false}
use borrow.Author.Tests.{tests}
use borrow.Author.Rules.{rules}
use Rattle.std.proofs.lemmas.Iterator.{cases_from_any}
use Rattle.std.proofs.lemmas.Iterator.Consumers.{YieldsList-from_first}
use Rattle.definition.specs.Text.{is_space, event_words, words_by}
use Rattle.words.specs.Left.{words_left}
use Rattle.words.proofs.Starred.{starred, star_any}
use Rattle.words.proofs.is_wildcard.Goals as goal

pub returns : goal.returns
unfolding event_words words_by words_left
returns c =
    star_any _ _
    (cases_from_any c.any.new.self _ _ (λ p. starred p ≡ true) (λ p. starred p ≡ false) c.any.ensures.ran
    (YieldsList-from_first (λ w. record { off = w.off; word = w.word.now }) (λ s. words_left is_space s.v.now s.at) (words_left is_space c.args.v.now 0) refl)
    (λ x q k. search (rules, tests)) (λ x q k. search (rules, tests)))
