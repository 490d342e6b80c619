-- What the law of plans needs holds in every store that keeps the rules and has the chart's row.
use Prim.Native.Nat.{ℕ, zero, suc, ◌≤◌, ◌<◌}
use mathlib.Core.Path.{◌≡◌, refl, ap}
use mathlib.Core.Bool.{Bool, true, false}
use mathlib.Core.List.{List, [], ◌∷◌}
use lib.ListN.{length, get_or}
use lib.Dec.{eqb}
use native.Mathlib.Omega.{arith}
use Rattle.definition.specs.declared.Limits.{Limits}
use Rattle.definition.specs.Event.{Event}
use Rattle.definition.specs.Rows.{Row, Table, Class, num, row_of, columns_of, Numbers, table_of, Store}
use Rattle.definition.specs.Look.{look}
use Rattle.definition.specs.Change.{entered}
use Rattle.definition.specs.States.{own_state}
use Rattle.definition.specs.Actions.{place_of_number}
use Rattle.definition.specs.Rules.{keeps_rules, has_own_number, chosen}
use Rattle.definition.specs.Reader.{decided}
use Rattle.kept.proofs.Base.{All, neqb_of}
use Rattle.kept.proofs.Classes.{View, Fits, Nums, HasRow}
use Rattle.kept.proofs.Grow.{nth_from}
use Rattle.kept.proofs.Tables.{RowOk}
use Rattle.kept.proofs.Okay.{OkOf}
use Rattle.kept.proofs.Facts.{rules_from}
use Rattle.kept.proofs.LookOk.{now_ok, now_chart, is_state, own_in_lem}
use Rattle.plan.specs.Facts.{Facts}
use Rattle.plan.specs.Decided.{decided_p}
use Rattle.plan.proofs.Decided.{decided_is}

nums_length : (W : View) (r : Row) (cs : List Class) (vs : Row) → Nums W r cs vs → length vs ≡ length cs
unfolding Nums
nums_length W r [] [] h = refl
nums_length W r [] (v ∷ vs) h = absurd h
nums_length W r (c ∷ cs) [] h = absurd h
nums_length W r (c ∷ cs) (v ∷ vs) h = ap suc (nums_length W r cs vs h.1)

row_at : (P : Row → Type 0) (rs : Table) → All P rs → (i : ℕ) → i < length rs → P (get_or rs i [])
row_at P [] a i h = absurd (omega arith)
row_at P (r ∷ rs) a zero h = a.0
row_at P (r ∷ rs) a (suc i) h = row_at P rs a.1 i (omega arith)

-- A state that exists has its columns.
state_wide : (W : View) (rs : Table) → All (RowOk W 1) rs → (v : ℕ) → 1 ≤ v → v ≤ length rs → 3 < length (row_of rs v)
unfolding row_of columns_of
state_wide W rs a zero h g = absurd (omega arith)
state_wide W rs a (suc v) h g = omega (arith, nums_length W (get_or rs v []) (columns_of 1) (get_or rs v []) (row_at (RowOk W 1) rs a v g).nums)

chart_wide : (W : View) (rs : Table) → All (RowOk W 0) rs → 1 ≤ length rs → 0 < length (get_or rs 0 [])
unfolding columns_of
chart_wide W rs a h = omega (arith, nums_length W (get_or rs 0 []) (columns_of 0) (get_or rs 0 []) (row_at (RowOk W 0) rs a 0 h).nums)

-- Numbers of transitions were drawn before.
number_le : (W : View) (r : Row) → Nums W r (columns_of 2) r → num r 0 ≤ W.ids
unfolding Nums Fits chosen columns_of
number_le W [] h = absurd h
number_le W (v ∷ vs) h = h.0.1

next_fresh : (W : View) (rs : Table) → All (RowOk W 2) rs → place_of_number rs (suc W.ids) ≡ 0
unfolding place_of_number
next_fresh W [] a = refl
next_fresh W (r ∷ rs) a = at (eqb (num r 0) (suc W.ids)) (place_of_number rs (suc W.ids)) (neqb_of (num r 0) (suc W.ids) (λ z. omega (arith, number_le W r a.0.nums))) (next_fresh W rs a.1)
  where
    at : (b : Bool) (p : ℕ) → b ≡ false → p ≡ 0 → ◌≡◌ {A = ℕ} (elim b [ true ↦ 1 | false ↦ elim p [ zero ↦ 0 | suc q ↦ suc (suc q) ] ]) 0
    at b p f g = rw (f, g)

-- QUESTION 2 GIVES THE FACTS.
module _ (L : Limits) (s : Store) (e : Event) (rules : keeps_rules L s ≡ true) (one : 1 ≤ length (table_of s.numbers 0)) where
  abbrev K : OkOf L s.text s.numbers
  K = (rules_from L s rules).1

  abbrev n : Numbers
  n = entered (look s e) s.numbers

  pub facts_of : Facts n (look s e)
  unfolding look has_own_number
  facts_of =
      let O = now_ok L s e K in
      record {
        twelve = O.sound.twelve;
        fresh = next_fresh _ (table_of n 2) (O.sound.rows 2);
        chart = chart_wide _ (table_of n 0) (O.sound.rows 0) (rw (now_chart L s e K) one);
        own = λ k q.
            let h : HasRow n.tables 1 (own_state (look s e)) = is_state L s e K (own_state (look s e)) (own_in_lem L s e K k q) in
            let x = nth_from n.tables 1 (own_state (look s e)) refl h in
            state_wide _ (table_of n 1) (O.sound.rows 1) (own_state (look s e)) x.0 x.1;
      }

  -- An event on a store that keeps the rules is decided by its plan.
  pub decided_by_plan : decided L s.numbers (look s e) ≡ decided_p L s.numbers (look s e)
  decided_by_plan = decided_is L s.numbers (look s e) facts_of
