-- The count is the plan's: question 15 of a store and a look.
use Prim.Native.Nat.{◌≤◌}
use mathlib.Core.Path.{◌≡◌, refl, sym}
use mathlib.Core.Bool.{Bool, true}
use mathlib.Core.List.{[]}
use Rattle.std.specs.Prelude.{Option, Some, None}
use lib.ListN.{length, drop, length-drop}
use borrow.Author.Tests.{le-leb}
use Rattle.std.proofs.Math.Bool.{and_assoc}
use Rattle.definition.specs.declared.Limits.{Limits}
use Rattle.definition.specs.Rows.{table, Store, table_of}
use Rattle.definition.specs.Look.{Look, one_if}
use Rattle.definition.specs.Rules.{chart_limits}
use Rattle.definition.specs.Reader.{all_at_most, rows_in, position_of}
use Rattle.definition.proofs.Base.{and_true}
use Rattle.definition.proofs.Lending.{most_cons}
use Rattle.plan.specs.declared.Plan.{Plan}
use Rattle.plan.specs.declared.TargetPlan.{TargetPlan}
use Rattle.plan.specs.declared.MembersPlan.{MembersPlan}
use Rattle.plan.specs.Decided.{targets_added, members_added, counts_after, stays_within}
use Rattle.decide.specs.Within.{targets_more, members_more, rows_within, drawn_within, within}

targets_counted : (l : Look) (t : Option TargetPlan) → targets_more t (length l.refs) ≡ targets_added l t
unfolding targets_more targets_added
targets_counted l None = refl
targets_counted l (Some t) = sym (length-drop t.skip l.refs)

members_counted : (l : Look) (m : MembersPlan) → members_more m (length l.refs) ≡ members_added l m
unfolding members_more members_added
members_counted l m = rw (targets_counted l m.targets)

none_left : all_at_most [] [] ≡ true
unfolding all_at_most
none_left = refl

-- The count is what the plan's question 15 asks, of a store and a look.
pub counted : (L : Limits) (s : Store) (l : Look) (made : Bool) (p : Plan) → length (table_of s.numbers table.chart) ≤ 1 → one_if made ≡ l.generated
    → within L (position_of s) (length l.refs) (length (drop (length (table_of s.numbers table.states)) l.known)) made l.charge p ≡ stays_within L l p s.numbers
unfolding within rows_within drawn_within stays_within position_of rows_in counts_after chart_limits
counted L s l made p h g = simp (g, members_counted l p.members, most_cons, le-leb (length (table_of s.numbers table.chart)) 1 h, none_left, and_true, and_assoc)
