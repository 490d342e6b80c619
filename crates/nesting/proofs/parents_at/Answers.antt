use Rattle.definition.specs.Nesting.{nesting}
use Rattle.nesting.specs.Tables.{parents_of, parent_row, parent_rows}
use mathlib.Core.Path.{refl}
use Rattle.nesting.proofs.parents_at.Goals as goal

pub returns : goal.returns
unfolding parent_rows parent_row parents_of nesting
returns c = refl
