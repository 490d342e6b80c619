use Rattle.definition.specs.Text.{is_separator}
use Rattle.definition.specs.Look.{name_cells}
use Rattle.words.specs.Left.{words_left}
use Rattle.names.proofs.Laws.{CountingTo}
use Rattle.names.proofs.count_names.Given as goal

abbrev pub invariant-loop-found : goal.invariant-loop-found
invariant-loop-found l =
    record {
      can : (goal.iterator-loop-found).can_next l.found-iterator;
      finite : (goal.iterator-loop-found).is_finite l.found-iterator;
      counted : CountingTo l.text (name_cells l.states) l.v l.own l.refs l.new (words_left is_separator l.found-iterator.v.now l.found-iterator.at);
    }
