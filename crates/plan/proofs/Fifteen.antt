-- 15 is a check of counts: every table after the event has as many rows as before and those that the plan adds.
use Prim.Native.Nat.{ℕ, zero, suc, ◌+◌}
use mathlib.Core.Path.{◌≡◌, refl, ap, ◌∙◌}
use mathlib.Core.Bool.{Bool, true, false, ◌&&◌}
use mathlib.Core.List.{List, [], ◌∷◌, ◌++◌, map}
use lib.ListN.{length, get_or, drop, length-append, length-map}
use lib.Seq.{get_or-set_same, get_or-set_other}
use lib.Dec.{leb}
use native.Mathlib.Omega.{arith}
use Rattle.std.specs.Prelude.{Option, Some, None}
use Rattle.definition.specs.declared.Limits.{Limits}
use Rattle.definition.specs.Rows.{Row, Table, list, Numbers, table_of}
use Rattle.definition.specs.Look.{Look}
use Rattle.definition.specs.Change.{state_row, entered}
use Rattle.definition.specs.Rules.{all_within, chart_limits, counters_within, within_limits}
use Rattle.definition.specs.Reader.{all_at_most}
use Rattle.definition.proofs.Changes.{alter_length}
use Rattle.definition.specs.Codes.{list_number}
use Rattle.plan.specs.declared.MembersPlan.{MembersPlan}
use Rattle.plan.specs.declared.Plan.{Plan}
use Rattle.plan.specs.declared.ChartPlan.{ChartPlan}
use Rattle.plan.specs.declared.TargetPlan.{TargetPlan}
use Rattle.plan.specs.declared.MemberPlan.{MemberPlan}
use Rattle.plan.specs.After.{added_if, altered_if, chart_columns_after, chart_after, states_after, transitions_after, regions_after, entries_after, invokes_after, datums_after, parameters_after, member_rows, word_rows, targets_after, words_after, member_of, member_after, members_after, applied}
use Rattle.plan.specs.Decided.{one_there, words_added, targets_added, members_added, counts_after, stays_within}

-- ---- lengths

pub added_length : {A : Type 0} (f : A → Row) (p : Option A) (rs : Table) → length (added_if f p rs) ≡ length rs + one_there p
unfolding added_if one_there
added_length f None rs = omega arith
added_length f (Some p) rs = length-append rs (f p ∷ [])

pub altered_length : {A : Type 0} (at : A → ℕ) (f : A → Row → Row) (p : Option A) (rs : Table) → length (altered_if at f p rs) ≡ length rs
unfolding altered_if
altered_length at f None rs = refl
altered_length at f (Some p) rs = alter_length (at p) (f p) rs

members_length : (k o : ℕ) (vs : List ℕ) → length (member_rows k o vs) ≡ length vs
unfolding member_rows
members_length k o [] = refl
members_length k o (v ∷ vs) = ap suc (members_length k o vs)

words_length : (l : Look) (k o i n : ℕ) → length (word_rows l k o i n) ≡ n
unfolding word_rows
words_length l k o i zero = refl
words_length l k o i (suc n) = ap suc (words_length l k o (suc i) n)

targets_length : (l : Look) (p : Option TargetPlan) (rs : Table) → length (targets_after l p rs) ≡ length rs + targets_added l p
unfolding targets_after targets_added
targets_length l None rs = omega arith
targets_length l (Some p) rs = length-append rs (member_rows list.targets p.owner (drop p.skip l.refs)) ∙ ap (λ (z : ℕ). length rs + z) (members_length list.targets p.owner (drop p.skip l.refs))

wordsin_length : (l : Look) (p : Option MemberPlan) (rs : Table) → length (words_after l p rs) ≡ length rs + words_added p
unfolding words_after words_added
wordsin_length l None rs = omega arith
wordsin_length l (Some p) rs = length-append rs (word_rows l (list_number p.list) p.owner 0 p.value) ∙ ap (λ (z : ℕ). length rs + z) (words_length l (list_number p.list) p.owner 0 p.value)

pub all_members : (l : Look) (p : MembersPlan) (rs : Table) → length (members_after l p rs) ≡ length rs + members_added l p
unfolding members_after members_added member_after
all_members l p rs =
    let w : Table = words_after l p.words rs in
    let t : Table = targets_after l p.targets w in
    let o : Table = member_after p.one t in
    omega (arith, added_length member_of p.two o, added_length member_of p.one t, targets_length l p.targets w, wordsin_length l p.words rs)

-- ---- limits by counts

lengths : List Table → List ℕ
lengths [] = []
lengths (t ∷ ts) = length t ∷ lengths ts

within_counts : (ms : List ℕ) (ts : List Table) → all_within ms ts ≡ all_at_most (lengths ts) ms
unfolding all_within all_at_most lengths
within_counts [] [] = refl
within_counts [] (t ∷ ts) = refl
within_counts (m ∷ ms) [] = refl
within_counts (m ∷ ms) (t ∷ ts) = at (leb (length t) m) (within_counts ms ts)
  where
    at : (b : Bool) → all_within ms ts ≡ all_at_most (lengths ts) ms → ◌≡◌ {A = Bool} (elim b [ true ↦ all_within ms ts | false ↦ false ]) (elim b [ true ↦ all_at_most (lengths ts) ms | false ↦ false ])
    at true h = h
    at false h = refl

module _ (L : Limits) (l : Look) (p : Plan) (n : Numbers) (m : ℕ) (e : length n.tables ≡ 12) where
  abbrev after : Numbers
  after = applied m l p (entered l n)

  -- The tables of the store with the names entered.
  pub states_entered : table_of (entered l n) 1 ≡ table_of n 1 ++ map state_row (drop (length (table_of n 1)) l.known)
  unfolding entered
  states_entered = get_or-set_same n.tables 1 _ [] (omega arith)

  pub other_entered : (t : ℕ) → ¬ (t ≡ 1) → table_of (entered l n) t ≡ table_of n t
  unfolding entered
  other_entered t h = get_or-set_other n.tables 1 t _ [] h

  abbrev old : ℕ → ℕ
  old t = length (table_of n t)

  same : (t : ℕ) → ¬ (t ≡ 1) → length (table_of (entered l n) t) ≡ old t
  same t h = ap length (other_entered t h)

  pub chart_count : length (chart_after l p.chart (table_of (entered l n) 0)) ≡ old 0
  unfolding chart_after
  chart_count = altered_length (λ (x : ChartPlan). 1) (chart_columns_after l) p.chart (table_of (entered l n) 0) ∙ same 0 (omega arith)

  pub states_count : length (states_after l p.states (table_of (entered l n) 1)) ≡ old 1 + length (drop (old 1) l.known)
  unfolding states_after
  states_count =
      altered_length _ _ p.states (table_of (entered l n) 1) ∙ ap length states_entered ∙ length-append (table_of n 1) (map state_row (drop (old 1) l.known)) ∙ ap (λ (z : ℕ). old 1 + z) (length-map (drop (old 1) l.known) state_row)

  pub transitions_count : length (transitions_after l p.transitions (table_of (entered l n) 2)) ≡ old 2 + one_there p.transitions.added
  unfolding transitions_after
  transitions_count = altered_length _ _ p.transitions.altered _ ∙ added_length _ p.transitions.added (table_of (entered l n) 2) ∙ ap (λ (z : ℕ). z + one_there p.transitions.added) (same 2 (omega arith))

  pub regions_count : length (regions_after p.regions (table_of (entered l n) 3)) ≡ old 3 + one_there p.regions.one + one_there p.regions.two
  unfolding regions_after
  regions_count =
      added_length _ p.regions.two _ ∙ ap (λ (z : ℕ). z + one_there p.regions.two) (added_length _ p.regions.one (table_of (entered l n) 3) ∙ ap (λ (z : ℕ). z + one_there p.regions.one) (same 3 (omega arith)))

  pub entries_count : length (entries_after l p.entries (table_of (entered l n) 4)) ≡ old 4 + one_there p.entries.added
  unfolding entries_after
  entries_count = altered_length _ _ p.entries.altered _ ∙ added_length _ p.entries.added (table_of (entered l n) 4) ∙ ap (λ (z : ℕ). z + one_there p.entries.added) (same 4 (omega arith))

  pub invokes_count : length (invokes_after l p.invokes (table_of (entered l n) 5)) ≡ old 5 + one_there p.invokes.added
  unfolding invokes_after
  invokes_count = altered_length _ _ p.invokes.altered _ ∙ added_length _ p.invokes.added (table_of (entered l n) 5) ∙ ap (λ (z : ℕ). z + one_there p.invokes.added) (same 5 (omega arith))

  pub datums_count : length (datums_after l p.datums (table_of (entered l n) 6)) ≡ old 6 + one_there p.datums.added
  unfolding datums_after
  datums_count = altered_length _ _ p.datums.altered _ ∙ added_length _ p.datums.added (table_of (entered l n) 6) ∙ ap (λ (z : ℕ). z + one_there p.datums.added) (same 6 (omega arith))

  pub parameters_count : length (parameters_after l p.parameters (table_of (entered l n) 7)) ≡ old 7 + one_there p.parameters
  unfolding parameters_after
  parameters_count = added_length _ p.parameters (table_of (entered l n) 7) ∙ ap (λ (z : ℕ). z + one_there p.parameters) (same 7 (omega arith))

  pub members_count : length (members_after l p.members (table_of (entered l n) 8)) ≡ old 8 + members_added l p.members
  members_count = all_members l p.members (table_of (entered l n) 8) ∙ ap (λ (z : ℕ). z + members_added l p.members) (same 8 (omega arith))

  counts_are : all_within (chart_limits L) after.tables ≡ all_at_most (counts_after l p n) (chart_limits L)
  unfolding applied all_at_most chart_limits lengths counts_after
  counts_are =
      within_counts (chart_limits L) after.tables
      ∙ (λ j. all_at_most (chart_count j ∷ states_count j ∷ transitions_count j ∷ regions_count j ∷ entries_count j ∷ invokes_count j ∷ datums_count j ∷ parameters_count j ∷ members_count j ∷ length (get_or after.tables 9 []) ∷ length (get_or after.tables 10 []) ∷ length (get_or after.tables 11 []) ∷ []) (chart_limits L))

  -- 15 BY COUNTING.
  pub within_is : within_limits L after ≡ stays_within L l p n
  unfolding within_limits stays_within applied entered
  within_is = ap (λ (b : Bool). b && counters_within L after) counts_are
