-- The plan is decided on the store before the event: names that it enters are rows whose numbers are 0.
use Prim.Native.Nat.{ℕ, zero, suc, ◌+◌}
use mathlib.Core.Path.{◌≡◌, refl, sym, ap, subst}
use mathlib.Core.Bool.{Bool, true, false}
use mathlib.Core.List.{List, [], ◌∷◌, ◌++◌, map}
use lib.ListN.{length, get_or, drop}
use lib.Dec.{eqb}
use Rattle.std.specs.Prelude.{Option, Some, None}
use Rattle.definition.specs.Rows.{Table, num, row_of, Cell, Numbers, table_of, current_state, root}
use Rattle.definition.specs.Look.{Look}
use Rattle.definition.specs.Change.{state_row, entered}
use Rattle.definition.specs.States.{own_state}
use Rattle.definition.specs.Actions.{last_entry, Walk, meets, no_if, else_walk, walk_from}
use Rattle.plan.specs.declared.Seen.{Seen}
use Rattle.plan.specs.declared.Closing.{Closing}
use Rattle.plan.specs.Ids.{transition_id}
use Rattle.plan.specs.Seen.{walked_as, walk_in, seen}
use Rattle.plan.specs.Heard.{heard}
use Rattle.plan.specs.Plans.{plan_by, plan_of}
use Rattle.plan.proofs.Base.{Tables, full, tables_of}
use Rattle.plan.proofs.Handled.{again_is}

-- ---- numbers of the rows that names bring

new_zero : (i : ℕ) (ks : List Cell) → num (get_or (map state_row ks) i []) 3 ≡ 0
unfolding state_row
new_zero i [] = refl
new_zero zero (k ∷ ks) = refl
new_zero (suc i) (k ∷ ks) = new_zero i ks

new_mark : (i : ℕ) (ks : List Cell) → num (get_or (map state_row ks) i []) 8 ≡ 0
unfolding state_row
new_mark i [] = refl
new_mark zero (k ∷ ks) = refl
new_mark (suc i) (k ∷ ks) = new_mark i ks

append_num : (c : ℕ) (xs : Table) → ((i : ℕ) → num (get_or xs i []) c ≡ 0) → (rs : Table) (i : ℕ) → num (get_or (rs ++ xs) i []) c ≡ num (get_or rs i []) c
append_num c xs h [] i = h i
append_num c xs h (r ∷ rs) zero = refl
append_num c xs h (r ∷ rs) (suc i) = append_num c xs h rs i

row_num : (c : ℕ) (xs rs : Table) (s : ℕ) → ((i : ℕ) → num (get_or xs i []) c ≡ 0) → num (row_of (rs ++ xs) s) c ≡ num (row_of rs s) c
unfolding row_of
row_num c xs rs zero h = refl
row_num c xs rs (suc i) h = append_num c xs h rs i

-- ---- two stores that differ in the states only

module _ (T : Tables) (S : Table) (c i d a e a₂ e₂ : ℕ) (l : Look) (h3 : (s : ℕ) → num (row_of S s) 3 ≡ num (row_of T.states s) 3) (h8 : (s : ℕ) → num (row_of S s) 8 ≡ num (row_of T.states s) 8) where
  abbrev n : Numbers
  n = full T c i d a e

  abbrev T₂ : Tables
  T₂ =
      record {
        chart = T.chart;
        states = S;
        transitions = T.transitions;
        regions = T.regions;
        entries = T.entries;
        invokes = T.invokes;
        datums = T.datums;
        parameters = T.parameters;
        members = T.members;
        opened = T.opened;
        open_names = T.open_names;
        open_regions = T.open_regions;
      }

  abbrev n₂ : Numbers
  n₂ = full T₂ c i d a₂ e₂

  walk_same : (fuel r : ℕ) → else_walk fuel n₂ r ≡ else_walk fuel n r
  unfolding else_walk last_entry
  walk_same zero r = refl
  walk_same (suc fuel) r = at (eqb (num (row_of T.entries (last_entry n r)) 1) 1) (eqb (num (row_of T.entries (last_entry n r)) 4) 0) (walk_same fuel (num (row_of T.entries (last_entry n r)) 4))
    where
      at : (b z : Bool) → else_walk fuel n₂ (num (row_of T.entries (last_entry n r)) 4) ≡ else_walk fuel n (num (row_of T.entries (last_entry n r)) 4)
          → ◌≡◌ {A = Walk} (elim b [ false ↦ no_if | true ↦ elim z [ true ↦ meets (last_entry n r) | false ↦ else_walk fuel n₂ (num (row_of T.entries (last_entry n r)) 4) ] ])
          (elim b [ false ↦ no_if | true ↦ elim z [ true ↦ meets (last_entry n r) | false ↦ else_walk fuel n (num (row_of T.entries (last_entry n r)) 4) ] ])
      at false z h = refl
      at true true h = refl
      at true false h = h

  from_same : (r : ℕ) → walk_from n₂ r ≡ walk_from n r
  unfolding walk_from
  from_same zero = refl
  from_same (suc r) = walk_same (length T.regions) (suc r)

  in_same : (y : Option Closing) → walk_in n₂ y ≡ walk_in n y
  unfolding walk_in
  in_same None = refl
  in_same (Some x) = ap walked_as (from_same x.current.0)

  pub seen_same : seen n₂ l ≡ seen n l
  unfolding seen
  seen_same =
      let v : Seen = seen n l in
      λ j.
      record {
        state = v.state;
        transition = v.transition;
        parent = v.parent;
        current = v.current;
        ids = v.ids;
        docs = v.docs;
        regions = v.regions;
        entries = v.entries;
        invokes = v.invokes;
        datums = v.datums;
        parameters = v.parameters;
        closed = v.closed;
        walk = in_same v.closed j;
        entry = v.entry;
        kind = v.kind;
        invoke = v.invoke;
        place = v.place;
        initial = transition_id (h3 (current_state n) j);
        donedata = h8 (current_state n) j;
        first = v.first;
        root = v.root;
        begins = transition_id (h3 (root n) j);
        child = v.child;
        joined = v.joined;
        own = transition_id (h3 (own_state l) j);
        eldest = v.eldest;
      }

-- WHAT IS SEEN, AND SO THE PLAN, IS THAT OF THE STORE BEFORE THE EVENT'S NAMES ARE ENTERED.
pub seen_entered : (n : Numbers) (l : Look) → length n.tables ≡ 12 → seen (entered l n) l ≡ seen n l
unfolding entered
seen_entered n l e =
    let ks : List Cell = drop (length (table_of n 1)) l.known in
    let xs : Table = map state_row ks in
    subst (λ (m : Numbers). seen (entered l m) l ≡ seen m l) (sym (again_is n e))
    (seen_same (tables_of n) (table_of n 1 ++ xs) n.current n.ids n.docs n.names n.charge (n.names + l.generated) (n.charge + l.charge) l (λ s. row_num 3 xs (table_of n 1) s (λ j. new_zero j ks)) (λ s. row_num 8 xs (table_of n 1) s (λ j. new_mark j ks)))

pub plan_entered : (n : Numbers) (l : Look) → length n.tables ≡ 12 → plan_of (entered l n) l ≡ plan_of n l
unfolding plan_of
plan_entered n l e = ap (λ (v : Seen). plan_by l.kind l.tag v (heard l)) (seen_entered n l e)
