use native.Mathlib.Omega.{arith}
use mathlib.Core.Path.{ap}
use lib.ListN.{length}
use Rattle.definition.specs.Text.{is_separator}
use Rattle.words.proofs.Laws.{left_none, left_order, left_within, left_some}
use Rattle.words.proofs.each.StateWordsIterator.next.Goals as goal

pub returns-then-w-clause-steps : goal.returns-then-w-clause-steps
returns-then-w-clause-steps c = (left_none is_separator c.args.self.now.v.now c.args.self.now.at c.next_state_word-w.result c.next_state_word-w.ensures c.if-w.true, left_none is_separator c.args.self.now.v.now c.args.self.now.at c.next_state_word-w.result c.next_state_word-w.ensures c.if-w.true)

pub slice_bounds-result-count : goal.slice_bounds-result-count
slice_bounds-result-count c = left_order is_separator c.args.self.now.v.now c.args.self.now.at c.next_state_word-w.result c.next_state_word-w.ensures

pub slice_bounds-result-start : goal.slice_bounds-result-start
slice_bounds-result-start c = omega (arith, left_order is_separator c.args.self.now.v.now c.args.self.now.at c.next_state_word-w.result c.next_state_word-w.ensures, left_within is_separator c.args.self.now.v.now c.args.self.now.at c.next_state_word-w.result c.next_state_word-w.ensures c.if-w.false)

pub slice_bounds-result-end : goal.slice_bounds-result-end
slice_bounds-result-end c = omega (arith, left_order is_separator c.args.self.now.v.now c.args.self.now.at c.next_state_word-w.result c.next_state_word-w.ensures, left_within is_separator c.args.self.now.v.now c.args.self.now.at c.next_state_word-w.result c.next_state_word-w.ensures c.if-w.false)

pub returns-clause-steps : goal.returns-clause-steps
returns-clause-steps c = left_some is_separator c.args.self.now.v.now c.args.self.now.at c.next_state_word-w.result c.next_state_word-w.ensures c.if-w.false

pub returns-clause-goes : goal.returns-clause-goes
returns-clause-goes c = record { on = λ _. (tt, tt, omega (arith, ap length (returns-clause-steps c))); keeps = tt; rests = λ _. tt }
