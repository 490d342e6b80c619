-- What the code sees is what the definition sees, masked; and that is enough for the plan.
use Prim.Native.Nat.{ℕ, zero, suc}
use mathlib.Core.Path.{◌≡◌, refl, sym, ap, ◌∙◌, subst}
use mathlib.Core.Bool.{Bool, true, false, not, ◌||◌, ◌&&◌}
use lib.ListN.{length}
use lib.Dec.{eqb}
use borrow.Author.Tests.{eqb-true}
use Rattle.std.specs.Prelude.{Option}
use Rattle.definition.specs.Rows.{Table, table, num, row_of, innermost, current_state, current_transition, parent_tag, root, Numbers, table_of, Store}
use Rattle.definition.specs.Look.{Look}
use Rattle.definition.specs.Reader.{rows_in, position_of}
use Rattle.definition.specs.States.{own_state, is_child, initial_of}
use Rattle.definition.specs.Actions.{last_entry, last_invoke, place_of_number}
use Rattle.plan.specs.declared.Closing.{Closing}
use Rattle.plan.specs.declared.Seen.{Seen}
use Rattle.plan.specs.Ids.{state_id, transition_id, region_id}
use Rattle.plan.specs.Seen.{closes, closed_at, first_child_or, child_member, joined, own_first, seen}
use Rattle.plan.specs.Heard.{heard}
use Rattle.plan.specs.Small.{Small}
use Rattle.plan.specs.Plans.{plan_by, plan_of}
use Rattle.see.specs.Scans.{is_child_in}
use Rattle.see.specs.Masked.{masked, is_start, is_both, is_else, is_part, is_invoked, is_childish, number_if, bool_if, walked_if, is_open, closes_own, does_close, closing_if}
use Rattle.see.specs.View.{walk_after, new_first, default_for, family_of, seen_by}
use Rattle.see.proofs.Cells.{walk_in_lem}
use Rattle.see.proofs.Enough.{enough}

first_is : (b : Bool) (p s : ℕ) → new_first b p s ≡ joined (child_member b p s) s
unfolding new_first joined child_member
first_is true zero s = refl
first_is true (suc p) s = refl
first_is false zero s = go (eqb 0 s) where
  go : (c : Bool) → ◌≡◌ {A = ℕ} (elim c [ true ↦ 0 | false ↦ 0 ]) 0
  go true = refl
  go false = refl
first_is false (suc p) s = go (eqb (suc p) s) refl where
  go : (c : Bool) → eqb (suc p) s ≡ c → ◌≡◌ {A = ℕ} (elim c [ true ↦ suc p | false ↦ 0 ]) (elim c [ true ↦ s | false ↦ 0 ])
  go true e = eqb-true (suc p) s e
  go false e = refl

default_is : (g : ℕ) (b : Bool) (p s : ℕ) → default_for g (bool_if (is_childish g) b) p s ≡ elim (eqb g 2) [ true ↦ joined (child_member b p s) s | false ↦ 0 ]
unfolding default_for is_childish bool_if
default_is g b p s = go (eqb g 2) (is_childish g) (λ e. ap (λ (z : Bool). z || eqb g 3 || eqb g 5) e) where
  go : (x y : Bool) → (x ≡ true → y ≡ true) → ◌≡◌ {A = ℕ} (elim x [ true ↦ new_first (bool_if y b) p s | false ↦ 0 ]) (elim x [ true ↦ joined (child_member b p s) s | false ↦ 0 ])
  go true y h = ap (λ (z : Bool). new_first (bool_if z b) p s) (h refl) ∙ first_is b p s
  go false y h = refl

-- The default is asked for only at kinds that ask for `joined` as well.
eldest_is : (k g : ℕ) (a b : Bool) (p s : ℕ) (m : Table)
    → number_if (is_both k && a) (first_child_or (default_for g (bool_if (is_start k && is_childish g) b) p s) s m) ≡ number_if (is_both k && a) (first_child_or (elim (eqb g 2) [ true ↦ joined (child_member b p s) s | false ↦ 0 ]) s m)
unfolding is_both is_start number_if
eldest_is zero g a b p s m = refl
eldest_is (suc zero) g a b p s m = ap (λ (d : ℕ). number_if a (first_child_or d s m)) (default_is g b p s)
eldest_is (suc (suc zero)) g a b p s m = ap (λ (d : ℕ). number_if a (first_child_or d s m)) (default_is g b p s)
eldest_is (suc (suc (suc k))) g a b p s m = refl

kind_is : (b : Bool) (t : Table) (k : ℕ) → num (row_of t (number_if b k)) 1 ≡ number_if b (num (row_of t k) 1)
unfolding number_if row_of
kind_is true t k = refl
kind_is false t k = refl

-- An else closes its if at every kind, so its walk begins where it did.
walk_masked : (k g steps : ℕ) (x : Option Closing) (t : Table) → walked_if (is_else g) (walk_after (closing_if (does_close k g) x) steps t) ≡ walked_if (is_else g) (walk_after x steps t)
unfolding does_close walked_if closing_if
walk_masked k g steps x t = go (is_else g) (not (is_open k) && closes_own g)
  where
    go : (a b : Bool) → walked_if a (walk_after (closing_if (a || b) x) steps t) ≡ walked_if a (walk_after x steps t)
    go true b = refl
    go false b = refl

module _ (s : Store) (l : Look) where
  abbrev n : Numbers
  n = s.numbers

  abbrev g : ℕ
  g = l.tag

  abbrev k : ℕ
  k = length (table_of n table.open_regions)

  -- What is seen of a store, as the code reads it.
  abbrev pub seen_in : Seen
  seen_in =
      seen_by l.kind g (own_state l) (position_of s) (table_of n table.chart) (table_of n table.states) (table_of n table.transitions) (table_of n table.entries) (table_of n table.invokes) (table_of n table.members) (table_of n table.opened) (table_of n table.open_regions)

  pub seen_all : seen_in ≡ masked l.kind g (seen n l)
  unfolding seen_by masked seen family_of position_of rows_in innermost current_state current_transition parent_tag root last_entry last_invoke initial_of is_child is_child_in own_first
  seen_all = λ j.
      record {
        state = state_id (current_state n);
        transition = transition_id (current_transition n);
        parent = parent_tag n;
        current = region_id n.current;
        ids = n.ids;
        docs = n.docs;
        regions = k;
        entries = length (table_of n table.entries);
        invokes = length (table_of n table.invokes);
        datums = length (table_of n table.datums);
        parameters = length (table_of n table.parameters);
        closed = closing_if (does_close l.kind g) (closed_at (closes g) (table_of n table.open_regions) k n.current);
        walk = (walk_masked l.kind g (length (table_of n table.regions)) (closed_at (closes g) (table_of n table.open_regions) k n.current) (table_of n table.entries) ∙ ap (walked_if (is_else g)) (walk_in_lem n (closed_at (closes g) (table_of n table.open_regions) k n.current))) j;
        entry = number_if (is_part g) (last_entry n n.current);
        kind = kind_is (is_part g) (table_of n table.entries) (last_entry n n.current) j;
        invoke = number_if (is_invoked g) (last_invoke n (current_state n));
        place = number_if (not (is_start l.kind) && eqb g 16) (place_of_number (table_of n table.transitions) (current_transition n));
        initial = transition_id (initial_of n (current_state n));
        donedata = num (row_of (table_of n table.states) (current_state n)) 8;
        first = state_id (number_if (not (is_start l.kind) && eqb g 2) (first_child_or 0 (current_state n) (table_of n table.members)));
        root = state_id (root n);
        begins = transition_id (initial_of n (root n));
        child = state_id (number_if (not (is_start l.kind) && eqb g 1) (first_child_or 0 (root n) (table_of n table.members)));
        joined = bool_if (is_start l.kind && is_childish g) (is_child n (current_state n) (own_state l));
        own = transition_id (initial_of n (own_state l));
        eldest = state_id (eldest_is l.kind g (eqb g 1 || eqb g 2) (is_child n (current_state n) (own_state l)) (current_state n) (own_state l) (table_of n table.members) j);
      }

  -- The plan of what the code sees is the definition's.
  pub plan_of_seen : plan_by l.kind g seen_in (heard l) ≡ plan_of n l
  unfolding plan_of heard
  plan_of_seen = ap (λ (v : Seen). plan_by l.kind g v (heard l)) seen_all ∙ enough l.kind g (seen n l) (heard l)

  -- And its numbers are as small.
  pub small_seen : Small (seen n l) (heard l) → Small seen_in (heard l)
  unfolding masked
  small_seen h = subst (λ (v : Seen). Small v (heard l)) (sym seen_all) h
