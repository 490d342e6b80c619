-- Reads of tables, of the table alone.
use Rattle.std.specs.Prelude.{◌≡◌, ◌≢◌, ℕ, zero, suc, ◌+◌, ◌<◌, Bool, true, false, [], ◌∷◌, eqb, length, get_or, drop, Option, MatchOption}
use Rattle.definition.specs.Elements.{among}
use Rattle.definition.specs.Rows.{Table, list, entry, entry_kind, num, row_of, listed, values_of}
use Rattle.definition.specs.Actions.{last_with}
use Rattle.plan.specs.declared.Walked.{Walked}
use Rattle.plan.specs.declared.Walked.TheVariants as W

-- The else walk over the entries.
unfoldable pub walk_over : ℕ → Table → ℕ → Walked
unfolding last_with row_of
walk_over zero t r = W.NoIf
walk_over (suc fuel) t r =
    let e : ℕ = last_with entry.region r 0 0 t in
    elim (eqb (num (row_of t e) entry.kind) entry_kind.if) [
      | false ↦ W.NoIf
      | true ↦ elim (eqb (num (row_of t e) entry.else) 0) [ true ↦ W.Met e | false ↦ walk_over fuel t (num (row_of t e) entry.else) ]
    ]

unfoldable pub is_child_in : ℕ → ℕ → Table → Bool
unfolding among values_of listed
is_child_in p s t = among s (values_of (listed list.children p t))

-- How many rows stand before the first that has v in column c.
unfoldable pub first_with : ℕ → ℕ → Table → ℕ
first_with c v [] = 0
first_with c v (r ∷ rs) = elim (eqb (num r c) v) [ true ↦ 0 | false ↦ suc (first_with c v rs) ]

-- The last row that has v in column c.
abbrev pub IsLast : ℕ → ℕ → Table → Option ℕ → Type 0
IsLast c v t o =
    MatchOption o ((k : ℕ) → k < length t → num (get_or t k []) c ≢ v) (λ i. (i < length t) × (num (get_or t i []) c ≡ v) × ((k : ℕ) → i < k → k < length t → num (get_or t k []) c ≢ v))

-- The first row from one on that has v in column c.
abbrev pub IsNext : ℕ → ℕ → ℕ → Table → Option ℕ → Type 0
IsNext c v from t o = MatchOption o (from + first_with c v (drop from t) ≡ length t) (λ i. (i < length t) × (i ≡ from + first_with c v (drop from t)))
