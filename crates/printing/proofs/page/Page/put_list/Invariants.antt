use mathlib.Core.Path.{◌≡◌}
use mathlib.Core.Bool.{true}
use Rattle.printing.specs.Put.{Put}
use Rattle.printing.specs.Lines.{spaced}
use Rattle.printing.proofs.Laws.{gap_after, numbers_in}
use Rattle.printing.proofs.page.Page.put_list.Given as goal

abbrev pub invariant-loop-row : goal.invariant-loop-row
invariant-loop-row l =
    (goal.iterator-loop-row).can_next l.row-iterator
    × (goal.iterator-loop-row).is_finite l.row-iterator
    × (l.gap ≡ gap_after true (numbers_in l.yielded))
    × Put l.initial.self l.self (spaced (numbers_in l.yielded))
