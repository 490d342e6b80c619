use mathlib.Core.List.{List}
use Rattle.definition.specs.Elements.{among}
use Rattle.nesting.specs.Tables.{listed}
use Rattle.nesting.proofs.Laws.{free_below, free_above, row_listed, in_table}
use Prim.Native.Nat.{ℕ}
use mathlib.Core.Path.{ap, ◌∙◌}
use Rattle.nesting.proofs.parent_allowed.Goals as goal

pub returns-then-tag : goal.returns-then-tag
returns-then-tag c = free_below _ _ c.if-tag.true

pub returns-then-tag-2 : goal.returns-then-tag-2
returns-then-tag-2 c = free_above _ _ c.if-tag-2.true

pub returns : goal.returns
returns c = c.is_listed.ensures ∙ ap (λ (l : List ℕ). among c.args.parent (listed l)) c.parents_at.ensures ∙ ap (among c.args.parent) (row_listed _) ∙ in_table _ _ c.if-tag.false c.if-tag-2.false
