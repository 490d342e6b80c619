use Rattle.definition.specs.Text.{is_separator}
use Rattle.words.specs.Left.{words_left}
use Rattle.targets.specs.Enter.{Room}
use Rattle.targets.proofs.LoopLaws.{EnteringTo}
use Rattle.targets.proofs.enter_targets.Given as goal

abbrev pub invariant-loop-found : goal.invariant-loop-found
invariant-loop-found l =
    record {
      can : (goal.iterator-loop-found).can_next l.found-iterator;
      finite : (goal.iterator-loop-found).is_finite l.found-iterator;
      entering :
          (room : Room l.initial.states l.initial.members l.text l.initial.rows.states l.initial.rows.members l.off l.len)
          → EnteringTo l.initial.states l.initial.members l.text l.initial.rows.states l.initial.rows.members l.off l.len l.owner room l.states l.members l.rows.states l.rows.members
          (words_left is_separator l.found-iterator.v.now l.found-iterator.at);
    }
