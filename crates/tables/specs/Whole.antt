-- A plan on a whole lent table, n rows of which are in use: regions, members named one by one, what is open.
use Rattle.std.specs.Prelude.{ℕ, zero, suc, ◌+◌, Option, Some, None, List, [], ◌∷◌, set}
use Rattle.definition.specs.Rows.{Row, Table}
use Rattle.plan.specs.declared.MemberPlan.{MemberPlan}
use Rattle.plan.specs.declared.OpenPlan.{OpenPlan}
use Rattle.plan.specs.declared.OpenRegionPlan.{OpenRegionPlan}
use Rattle.plan.specs.declared.RegionPlan.{RegionPlan}
use Rattle.plan.specs.After.{member_of, region_row, open_region_of}
use Rattle.plan.specs.Decided.{one_there}
use Rattle.tables.specs.declared.OpenedName.{OpenedName}

-- What is added is the row n.
unfoldable pub added_in : {A B : Type 0} → (A → B) → Option A → ℕ → List B → List B
added_in f None n t = t
added_in f (Some p) n t = set t n (f p)

-- Up to two rows, from the row n on.
unfoldable pub both_in : {A B : Type 0} → (A → B) → Option A → Option A → ℕ → List B → List B
unfolding added_in one_there
both_in f p q n t = added_in f q (n + one_there p) (added_in f p n t)

unfoldable pub regions_in : RegionPlan → ℕ → Table → Table
unfolding both_in region_row
regions_in p n t = both_in region_row p.one p.two n t

-- ---- members

unfoldable pub members_in : Option MemberPlan → Option MemberPlan → ℕ → Table → Table
unfolding both_in member_of
members_in p q n t = both_in member_of p q n t

-- ---- open elements: a row where one opens; else the rows stay as they are, and only the count changes

-- An element's own name, by what becomes of the open elements: 0, one more is open.
unfoldable pub opens : ℕ → ℕ → Row → Option OpenedName
opens zero n r = Some (record { length = n; row = r })
opens (suc m) n r = None

unfoldable pub opened_row : ℕ → OpenPlan → OpenedName → Row
opened_row g p x = g ∷ p.state.0 ∷ p.transition.0 ∷ x.length ∷ 0 ∷ 0 ∷ 0 ∷ 0 ∷ []

unfoldable pub opened_in : ℕ → OpenPlan → Option OpenedName → ℕ → Table → Table
unfolding added_in opened_row
opened_in g p x n t = added_in (opened_row g p) x n t

unfoldable pub open_names_in : Option OpenedName → ℕ → Table → Table
unfolding added_in
open_names_in x n t = added_in (λ x. x.row) x n t

unfoldable pub open_regions_in : OpenRegionPlan → Table → Table
unfolding both_in open_region_of
open_regions_in p t = both_in open_region_of p.one p.two p.kept t
