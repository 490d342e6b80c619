use Rattle.names.specs.Names.{words_from}
use Rattle.names.proofs.Laws.{new_known, new_again, new_first_lem}
use Rattle.names.proofs.new_if.Goals as goal

pub returns-then-known-clause-value : goal.returns-then-known-clause-value
returns-then-known-clause-value c = new_known c.args.w.now (words_from c.args.v.now c.args.from) _ c.if-known.true

pub returns-then-is_word-clause-value : goal.returns-then-is_word-clause-value
returns-then-is_word-clause-value c = new_again c.args.w.now (words_from c.args.v.now c.args.from) _ c.if-known.false _ c.is_word.ensures c.if-is_word.true

pub returns-clause-value : goal.returns-clause-value
returns-clause-value c = new_first_lem c.args.w.now (words_from c.args.v.now c.args.from) _ c.if-known.false _ c.is_word.ensures c.if-is_word.false
