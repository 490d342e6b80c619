-- All that a plan needs of the store: each is one read of a table before the event. `decide` sees this and the look, and no table.
use Rattle.std.specs.Prelude.{ℕ, zero, suc, Bool, true, false, Option, Some, None, ◌||◌, ◌&&◌, [], ◌∷◌, length, get_or, eqb}
use Rattle.definition.specs.Elements.{tag}
use Rattle.definition.specs.Rows.{Table, table, list, entry, state, member, open_region, num, row_of, same_list, Numbers, table_of, current_state, current_transition, parent_tag, root}
use Rattle.definition.specs.Look.{Look}
use Rattle.definition.specs.Codes.{list_number}
use Rattle.definition.specs.declared.codes.ListKind.TheVariants as L
use Rattle.definition.specs.States.{own_state, is_child, initial_of}
use Rattle.definition.specs.Actions.{place_of_number, last_entry, last_invoke, Walk, meets, nowhere, no_if, walk_from}
use Rattle.plan.specs.declared.MemberPlan.{MemberPlan}
use Rattle.plan.specs.declared.Closing.{Closing}
use Rattle.plan.specs.declared.Walked.{Walked}
use Rattle.plan.specs.declared.Walked.TheVariants as W
use Rattle.plan.specs.declared.Seen.{Seen}
use Rattle.plan.specs.Ids.{state_id, transition_id, region_id}

-- ---- reads

-- k of the open regions are left: "closing a region recurses over the open regions, their number falling."
unfoldable pub closed_at : ℕ → Table → ℕ → ℕ → Option Closing
closed_at g rs zero c = elim c [ zero ↦ None | suc i ↦ Some (record { current = region_id 0; kept = 0 }) ]
closed_at g rs (suc k) c =
    elim c [
      | zero ↦ None
      | suc i ↦
          elim (eqb (num (get_or rs k []) open_region.tag) g) [
            | true ↦ Some (record { current = region_id (num (get_or rs k []) open_region.region); kept = k })
            | false ↦ closed_at g rs k (num (get_or rs k []) open_region.region)
          ]
    ]

-- else and elseif close their if; an element that ends closes its own region.
unfoldable pub closes : ℕ → ℕ
closes g = elim (eqb g tag.else || eqb g tag.elseif) [ true ↦ tag.if | false ↦ g ]

unfoldable pub walked_as : Walk → Walked
walked_as (meets e) = W.Met e
walked_as nowhere = W.Nowhere
walked_as no_if = W.NoIf

unfoldable pub walk_in : Numbers → Option Closing → Walked
unfolding walk_from walked_as
walk_in n None = W.NoIf
walk_in n (Some x) = walked_as (walk_from n x.current.0)

-- The first child of a state; d if it has none.
unfoldable pub first_child_or : ℕ → ℕ → Table → ℕ
unfolding same_list
first_child_or d s [] = d
first_child_or d s (m ∷ ms) = elim (same_list list.children s m) [ true ↦ num m member.value | false ↦ first_child_or d s ms ]

-- A state joins its parent's children, once.
unfoldable pub child_member : Bool → ℕ → ℕ → Option MemberPlan
child_member is_one zero s = None
child_member is_one (suc p) s = elim is_one [ true ↦ None | false ↦ Some (record { list = L.Children; owner = suc p; value = s }) ]

-- What a member would be as the first child of s: `<state id="a"><state id="a"/>`.
unfoldable pub joined : Option MemberPlan → ℕ → ℕ
joined None s = 0
joined (Some j) s = elim (eqb (list_number j.list) list.children && eqb j.owner s) [ true ↦ j.value | false ↦ 0 ]

-- The first child that a state would have when it has begun.
unfoldable pub own_first : Numbers → Look → ℕ
unfolding first_child_or joined child_member is_child own_state current_state
own_first n l =
    let s : ℕ = own_state l in
    first_child_or (elim (eqb l.tag tag.state) [ true ↦ joined (child_member (is_child n (current_state n) s) (current_state n) s) s | false ↦ 0 ]) s (table_of n table.members)

-- ---- what is seen

unfoldable pub seen : Numbers → Look → Seen
unfolding current_state current_transition parent_tag closed_at closes walk_in last_entry last_invoke place_of_number initial_of row_of first_child_or root is_child own_state own_first
seen n l =
    let x : Option Closing = closed_at (closes l.tag) (table_of n table.open_regions) (length (table_of n table.open_regions)) n.current in
    record {
      state = state_id (current_state n);
      transition = transition_id (current_transition n);
      parent = parent_tag n;
      current = region_id n.current;
      ids = n.ids;
      docs = n.docs;
      regions = length (table_of n table.open_regions);
      entries = length (table_of n table.entries);
      invokes = length (table_of n table.invokes);
      datums = length (table_of n table.datums);
      parameters = length (table_of n table.parameters);
      closed = x;
      walk = walk_in n x;
      entry = last_entry n n.current;
      kind = num (row_of (table_of n table.entries) (last_entry n n.current)) entry.kind;
      invoke = last_invoke n (current_state n);
      place = place_of_number (table_of n table.transitions) (current_transition n);
      initial = transition_id (initial_of n (current_state n));
      donedata = num (row_of (table_of n table.states) (current_state n)) (Rattle.definition.specs.Rows.state).donedata;
      first = state_id (first_child_or 0 (current_state n) (table_of n table.members));
      root = state_id (root n);
      begins = transition_id (initial_of n (root n));
      child = state_id (first_child_or 0 (root n) (table_of n table.members));
      joined = is_child n (current_state n) (own_state l);
      own = transition_id (initial_of n (own_state l));
      eldest = state_id (own_first n l);
    }
