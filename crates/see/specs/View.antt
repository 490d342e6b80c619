-- Parts of what is seen, of tables alone.
use Rattle.std.specs.Prelude.{ℕ, zero, suc, ◌<◌, ◌^◌, Bool, true, false, Option, Some, None, not, ◌||◌, ◌&&◌, [], length, get_or, eqb}
use Rattle.definition.specs.declared.Position.{Position}
use Rattle.definition.specs.Elements.{tag}
use Rattle.definition.specs.Rows.{Table, chart, state, entry, invoke, opened, num, row_of, last_of}
use Rattle.definition.specs.Actions.{last_with, place_of_number}
use Rattle.plan.specs.Ids.{state_id, transition_id}
use Rattle.plan.specs.Seen.{closes, closed_at, first_child_or}
use Rattle.plan.specs.declared.Seen.{Seen}
use Rattle.opens.specs.declared.Open.{Open}
use Rattle.see.specs.declared.Family.{Family}
use Rattle.see.specs.Masked.{is_start, is_both, is_else, is_part, is_invoked, is_childish, number_if, bool_if, walked_if, does_close, closing_if}
use Rattle.plan.specs.declared.Closing.{Closing}
use Rattle.plan.specs.declared.Walked.{Walked}
use Rattle.plan.specs.declared.Walked.TheVariants as W
use Rattle.see.specs.Scans.{walk_over, is_child_in}

unfoldable pub walk_at : ℕ → Table → ℕ → Walked
unfolding walk_over
walk_at steps t zero = W.Nowhere
walk_at steps t (suc r) = walk_over steps t (suc r)

unfoldable pub walk_after : Option Closing → ℕ → Table → Walked
unfolding walk_at
walk_after None steps t = W.NoIf
walk_after (Some x) steps t = walk_at steps t x.current.0

-- `<state id="a"><state id="a"/>`
unfoldable pub new_first : Bool → ℕ → ℕ → ℕ
new_first true p s = 0
new_first false p s = elim (eqb p s) [ true ↦ p | false ↦ 0 ]

unfoldable pub default_for : ℕ → Bool → ℕ → ℕ → ℕ
unfolding new_first
default_for g j p s = elim (eqb g tag.state) [ true ↦ new_first j p s | false ↦ 0 ]

-- By the event's kind and element: whether s is a child already is asked at the start, the first child at the end.
unfoldable pub family_of : ℕ → ℕ → Table → ℕ → ℕ → ℕ → Family
unfolding number_if bool_if is_start is_both is_childish default_for first_child_or is_child_in
family_of k g m s r o =
    let j : Bool = bool_if (is_start k && is_childish g) (is_child_in s o m) in
    record {
      first = state_id (number_if (not (is_start k) && eqb g tag.state) (first_child_or 0 s m));
      child = state_id (number_if (not (is_start k) && eqb g tag.scxml) (first_child_or 0 r m));
      joined = j;
      eldest = state_id (number_if (is_both k && (eqb g tag.scxml || eqb g tag.state)) (first_child_or (default_for g j s o) o m));
    }

-- The tables whose rows are told by their places have fewer than 2 to the 32.
abbrev pub Short : Table → Table → Table → Table → Type 0
Short t e i r = (length t < 2 ^ 32) × (length e < 2 ^ 32) × (length i < 2 ^ 32) × (length r < 2 ^ 32)

-- Of the innermost open element, the last row in use; 0 where nothing is open.
unfoldable pub inside_of : Table → Open
unfolding last_of
inside_of w = record { state = state_id (num (last_of [] w) opened.state); transition = transition_id (num (last_of [] w) opened.transition); tag = num (last_of [] w) opened.tag }

-- As the code reads it: of the chart, states, transitions, entries, invokes, members, open elements, open regions.
unfoldable pub seen_by : ℕ → ℕ → ℕ → Position → Table → Table → Table → Table → Table → Table → Table → Table → Seen
unfolding family_of walk_after walked_if is_start is_else is_part is_invoked row_of last_of closes closed_at last_with place_of_number number_if does_close closing_if
seen_by k g o p c s t e i m w r =
    let now : ℕ = num (last_of [] w) opened.state in
    let transition : ℕ = num (last_of [] w) opened.transition in
    let root : ℕ = num (get_or c 0 []) chart.root in
    let x : Option Closing = closing_if (does_close k g) (closed_at (closes g) r (length r) p.current.0) in
    let last : ℕ = number_if (is_part g) (last_with entry.region p.current.0 0 0 e) in
    let f : Family = family_of k g m now root o in
    record {
      state = state_id now;
      transition = transition_id transition;
      parent = num (last_of [] w) opened.tag;
      current = p.current;
      ids = p.ids;
      docs = p.docs;
      regions = p.open_regions;
      entries = p.entries;
      invokes = p.invokes;
      datums = p.datums;
      parameters = p.parameters;
      closed = x;
      walk = walked_if (is_else g) (walk_after x p.regions e);
      entry = last;
      kind = num (row_of e last) (Rattle.definition.specs.Rows.entry).kind;
      invoke = number_if (is_invoked g) (last_with (Rattle.definition.specs.Rows.invoke).state now 0 0 i);
      place = number_if (not (is_start k) && eqb g tag.transition) (place_of_number t transition);
      initial = transition_id (num (row_of s now) (Rattle.definition.specs.Rows.state).initial);
      donedata = num (row_of s now) (Rattle.definition.specs.Rows.state).donedata;
      first = f.first;
      root = state_id root;
      begins = transition_id (num (row_of s root) (Rattle.definition.specs.Rows.state).initial);
      child = f.child;
      joined = f.joined;
      own = transition_id (num (row_of s o) (Rattle.definition.specs.Rows.state).initial);
      eldest = f.eldest;
    }
