-- Limits and counters, and what is in use of the lent slices.
use mathlib.Core.Path.{◌≡◌, refl, sym, ap, ◌∙◌}
use mathlib.Core.Bool.{Bool, true, false, ◌&&◌}
use mathlib.Core.List.{List, [], ◌∷◌}
use Prim.Native.Nat.{ℕ, ◌≤◌}
use native.Mathlib.Omega.{arith}
use lib.Dec.{leb}
use lib.ListN.{length, take, length-take}
use borrow.Author.Tests.{leb-true, le-leb}
use Rattle.definition.specs.Limits.{limits01}
use Rattle.definition.specs.Rows.{Table}
use Rattle.definition.specs.Rules.{all_within, table_limits, chart_limits, open_limits, counters_within, keeps_rules}
use Rattle.definition.specs.declared.Position.{Position}
use Rattle.definition.specs.Reader.{long_enough, all_long, all_at_most, counts, taken, store_of, in_order}
use Rattle.definition.proofs.Base.{and_true, elim_and, and_left, and_right}
use Rattle.definition.proofs.Lending.{most_cons}
use Rattle.rows.specs.declared.lent.Tables.{Tables}
use Rattle.rows.specs.Lent.{lent, seen_of, RowsInUse}
use Rattle.questions.specs.Lent.{store, rules_kept, counts_fit, counters_fit, Few}

-- What is taken of a table has at most as many rows as are taken.
within_taken : (ks ms : List ℕ) (ts : List Table) → all_at_most ks ms ≡ true → all_within ms (taken ks ts) ≡ true
unfolding all_within taken
within_taken ks [] ts e = refl
within_taken [] (m ∷ ms) ts e = refl
within_taken (k ∷ ks) (m ∷ ms) [] e = refl
within_taken (k ∷ ks) (m ∷ ms) (t ∷ ts) e =
    let f : leb k m && all_at_most ks ms ≡ true = sym (most_cons k m ks ms) ∙ e in
    let h : k ≤ m = leb-true k m (and_left (leb k m) (all_at_most ks ms) f) in
    let l : length (take k t) ≤ m = omega (arith, length-take k t) in
    rw (le-leb (length (take k t)) m l, all_within) (within_taken ks ms ts (and_right (leb k m) (all_at_most ks ms) f))

counted_is : (p : Position) → counts_fit p ≡ true → all_at_most (counts p) (table_limits limits01) && leb p.used 65535 ≡ true
unfolding counts_fit
counted_is p e = e

module _ (ts : List Table) (text : List ℕ) (p : Position) where
  pub in_order_counts : counts_fit p ≡ false → false ≡ in_order limits01 (lent ts text) p
  unfolding in_order counts_fit
  in_order_counts e = rw (e, in_order)

  module _ (e : counts_fit p ≡ true) {stored : ℕ} (o : stored ≡ length (take p.used text)) where
    asked : (all_within (table_limits limits01) (taken (counts p) ts) && counters_within limits01 (store_of (lent ts text) p).numbers && leb (length (take p.used text)) p.charge) ≡ counters_fit p stored
    unfolding counters_fit counters_within store_of
    asked = rw (o, within_taken (counts p) (table_limits limits01) ts (and_left (all_at_most (counts p) (table_limits limits01)) (leb p.used 65535) (counted_is p e)))

    pub in_order_counters : counters_fit p stored ≡ false → false ≡ in_order limits01 (lent ts text) p
    unfolding in_order keeps_rules counts_fit store_of
    in_order_counters f = rw (e, in_order, asked, f, keeps_rules)

    pub in_order_rest : counters_fit p stored ≡ true → rules_kept limits01 (store_of (lent ts text) p) ≡ in_order limits01 (lent ts text) p
    unfolding in_order keeps_rules counts_fit store_of rules_kept
    in_order_rest f = rw (e, in_order, asked, f, keeps_rules)

-- ---- the counts, one by one

none_left : (ms : List ℕ) → all_at_most [] ms ≡ true
unfolding all_at_most
none_left ms = refl

twelve : (k0 k1 k2 k3 k4 k5 k6 k7 k8 k9 k10 k11 m0 m1 m2 m3 m4 m5 m6 m7 m8 m9 m10 m11 : ℕ) → leb k0 m0 ≡ true → (leb k1 m1 && (leb k2 m2 && (leb k3 m3 && (leb k4 m4 && (leb k5 m5 && (leb k6 m6 && (leb k7 m7 && (leb k8 m8 && (leb k9 m9 && (leb k10 m10 && leb k11 m11)))))))))) ≡ all_at_most (k0 ∷ k1 ∷ k2 ∷ k3 ∷ k4 ∷ k5 ∷ k6 ∷ k7 ∷ k8 ∷ k9 ∷ k10 ∷ k11 ∷ []) (m0 ∷ m1 ∷ m2 ∷ m3 ∷ m4 ∷ m5 ∷ m6 ∷ m7 ∷ m8 ∷ m9 ∷ m10 ∷ m11 ∷ [])
twelve k0 k1 k2 k3 k4 k5 k6 k7 k8 k9 k10 k11 m0 m1 m2 m3 m4 m5 m6 m7 m8 m9 m10 m11 e = simp (most_cons, none_left, and_true, e)

counts_list : (p : Position) → (leb p.states 256 && (leb p.transitions 512 && (leb p.regions 512 && (leb p.entries 2048 && (leb p.invokes 64 && (leb p.datums 256 && (leb p.parameters 512 && (leb p.members 4096 && (leb p.opened 32 && (leb p.opened 32 && leb p.open_regions 64)))))))))) ≡ all_at_most (counts p) (table_limits limits01)
unfolding counts table_limits chart_limits open_limits
counts_list p = twelve 1 p.states p.transitions p.regions p.entries p.invokes p.datums p.parameters p.members p.opened p.opened p.open_regions 1 256 512 512 2048 64 256 512 4096 32 32 64 refl

-- As many names are open as elements.
pub once : (a b : Bool) → (a && (a && b)) ≡ (a && b)
once true b = refl
once false b = refl

pub counts_is : (p : Position) {b : Bool} → b ≡ (leb p.states 256 && (leb p.transitions 512 && (leb p.regions 512 && (leb p.entries 2048 && (leb p.invokes 64 && (leb p.datums 256 && (leb p.parameters 512 && (leb p.members 4096 && (leb p.opened 32 && (leb p.opened 32 && leb p.open_regions 64)))))))))) → (b && leb p.used 65535) ≡ counts_fit p
unfolding counts_fit
counts_is p e = ap (λ (x : Bool). x && leb p.used 65535) (e ∙ counts_list p)

-- ---- the rows in use are few

few_taken {ℓ} : {A : Type ℓ} (n m : ℕ) (t : List A) → leb n m ≡ true → length (take n t) ≤ m
few_taken n m t e = omega (arith, length-take n t, leb-true n m e)

pub few : {x y : Tables} {p : Position} → RowsInUse x p y → counts_fit p ≡ true → Few y.states.now y.entries.now y.invokes.now y.parameters.now y.text.now
few {x} {y} {p} U e =
    let a : all_at_most (counts p) (table_limits limits01) ≡ true = and_left (all_at_most (counts p) (table_limits limits01)) (leb p.used 65535) (counted_is p e) in
    let c0 : _ ≡ true = counts_list p ∙ a in
    let c3 : _ ≡ true = and_right (leb p.regions 512) _ (and_right (leb p.transitions 512) _ (and_right (leb p.states 256) _ c0)) in
    let c4 : _ ≡ true = and_right (leb p.entries 2048) _ c3 in
    let c6 : _ ≡ true = and_right (leb p.datums 256) _ (and_right (leb p.invokes 64) _ c4) in
    record {
      states = rw U.states (few_taken p.states 256 x.states.now (and_left (leb p.states 256) _ c0));
      entries = rw U.entries (few_taken p.entries 2048 x.entries.now (and_left (leb p.entries 2048) _ c3));
      invokes = rw U.invokes (few_taken p.invokes 64 x.invokes.now (and_left (leb p.invokes 64) _ c4));
      parameters = rw U.parameters (few_taken p.parameters 512 x.parameters.now (and_left (leb p.parameters 512) _ c6));
      text = rw U.text (few_taken p.used 65535 x.text.now (and_right (all_at_most (counts p) (table_limits limits01)) (leb p.used 65535) (counted_is p e)));
    }

-- ---- the parts that are cut out

pub cut_kept : {x y : Tables} {p : Position} → RowsInUse x p y → rules_kept limits01 (store (seen_of y).tables y.text.now p) ≡ rules_kept limits01 (store_of (seen_of x) p)
unfolding store_of taken counts
cut_kept {x} {y} {p} U = λ i. rules_kept limits01 (store (U.chart i ∷ U.states i ∷ U.transitions i ∷ U.regions i ∷ U.entries i ∷ U.invokes i ∷ U.datums i ∷ U.parameters i ∷ U.members i ∷ U.opened i ∷ U.open_names i ∷ U.open_regions i ∷ []) (U.text i) p)

-- ---- question 1

long_more : (m : ℕ) (ms : List ℕ) (t : Table) (ts : List Table) → all_long (m ∷ ms) (t ∷ ts) ≡ leb m (length t) && all_long ms ts
unfolding all_long
long_more m ms t ts = elim_and (leb m (length t)) (all_long ms ts)

long_none : (ts : List Table) → all_long [] ts ≡ true
unfolding all_long
long_none ts = refl

long_all : (m0 m1 m2 m3 m4 m5 m6 m7 m8 m9 m10 m11 : ℕ) (t0 t1 t2 t3 t4 t5 t6 t7 t8 t9 t10 t11 : Table) → (leb m0 (length t0) && (leb m1 (length t1) && (leb m2 (length t2) && (leb m3 (length t3) && (leb m4 (length t4) && (leb m5 (length t5) && (leb m6 (length t6) && (leb m7 (length t7) && (leb m8 (length t8) && (leb m9 (length t9) && (leb m10 (length t10) && (leb m11 (length t11))))))))))))) ≡ all_long (m0 ∷ m1 ∷ m2 ∷ m3 ∷ m4 ∷ m5 ∷ m6 ∷ m7 ∷ m8 ∷ m9 ∷ m10 ∷ m11 ∷ []) (t0 ∷ t1 ∷ t2 ∷ t3 ∷ t4 ∷ t5 ∷ t6 ∷ t7 ∷ t8 ∷ t9 ∷ t10 ∷ t11 ∷ [])
long_all m0 m1 m2 m3 m4 m5 m6 m7 m8 m9 m10 m11 t0 t1 t2 t3 t4 t5 t6 t7 t8 t9 t10 t11 = simp (long_more, long_none, and_true)

module _ (x : Tables) where
  abbrev long_bits : Bool
  long_bits = leb 1 (length x.chart.now) && (leb 256 (length x.states.now) && (leb 512 (length x.transitions.now) && (leb 512 (length x.regions.now) && (leb 2048 (length x.entries.now) && (leb 64 (length x.invokes.now) && (leb 256 (length x.datums.now) && (leb 512 (length x.parameters.now) && (leb 4096 (length x.members.now) && (leb 32 (length x.opened.now) && (leb 32 (length x.open_names.now) && (leb 64 (length x.open_regions.now))))))))))))

  long_list : long_bits ≡ all_long (table_limits limits01) (seen_of x).tables
  unfolding table_limits chart_limits open_limits
  long_list = long_all 1 256 512 512 2048 64 256 512 4096 32 32 64 x.chart.now x.states.now x.transitions.now x.regions.now x.entries.now x.invokes.now x.datums.now x.parameters.now x.members.now x.opened.now x.open_names.now x.open_regions.now

  pub long_is : long_bits && leb 65535 (length x.text.now) ≡ long_enough limits01 (seen_of x)
  unfolding long_enough
  long_is = ap (λ (b : Bool). b && leb 65535 (length x.text.now)) long_list
