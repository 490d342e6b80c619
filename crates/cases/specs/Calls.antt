-- The second table: calls from made-up stores. Questions 1 and 2 by each clause, internal errors, limits, rows read.
use Rattle.std.specs.Prelude.{List, ◌++◌}
use Rattle.cases.specs.Made.{Case}
use Rattle.cases.specs.Lent.{question_one, codes, spares, numbers, texts, counters, open_rows}
use Rattle.cases.specs.Internal.{without_state, without_region, without_owner, answered_on}
use Rattle.cases.specs.Bounds.{row_limits, drawn_limits, charge_limits, before_limits, own_limits}
use Rattle.cases.specs.Readings.{readings}

unfoldable pub calls : List Case
unfolding question_one codes spares numbers texts counters open_rows without_state without_region without_owner answered_on row_limits drawn_limits charge_limits before_limits own_limits readings
calls =
    question_one ++ codes ++ spares ++ numbers ++ texts ++ counters ++ open_rows ++ without_state ++ without_region ++ without_owner ++ answered_on ++ row_limits ++ drawn_limits
    ++ charge_limits ++ before_limits ++ own_limits ++ readings
