-- Question 1 and 2 of lent slices, as facts of the store in use.
use Prim.Native.Nat.{ℕ, zero, suc, ◌≤◌, ◌<◌}
use mathlib.Core.Path.{◌≡◌, refl}
use mathlib.Core.Bool.{Bool, true, false, ◌&&◌}
use mathlib.Core.List.{List, [], ◌∷◌}
use native.Mathlib.Omega.{arith}
use lib.Dec.{leb}
use lib.ListN.{length, get_or}
use Rattle.definition.specs.declared.Position.{Position}
use Rattle.definition.specs.Limits.{limits01}
use Rattle.definition.specs.Rows.{Table}
use Rattle.definition.specs.Rules.{keeps_rules, table_limits, chart_limits, open_limits}
use Rattle.definition.specs.Reader.{Lent, counts, store_of, all_long, long_enough, all_at_most, in_order}
use Rattle.kept.proofs.Base.{and_left, and_right, false_is_true, le_of}

long_cons : (m : ℕ) (ms : List ℕ) (t : Table) (ts : List Table) → all_long (m ∷ ms) (t ∷ ts) ≡ true → (m ≤ length t) × (all_long ms ts ≡ true)
unfolding all_long
long_cons m ms t ts e = go (leb m (length t)) refl e
  where
    go : (b : Bool) → leb m (length t) ≡ b → elim b [ true ↦ all_long ms ts | false ↦ false ] ≡ true → (m ≤ length t) × (all_long ms ts ≡ true)
    go true q e = (le_of m (length t) q, e)
    go false q e = false_is_true e

most_cons : (k m : ℕ) (ks ms : List ℕ) → all_at_most (k ∷ ks) (m ∷ ms) ≡ true → (k ≤ m) × (all_at_most ks ms ≡ true)
unfolding all_at_most
most_cons k m ks ms e = go (leb k m) refl e
  where
    go : (b : Bool) → leb k m ≡ b → elim b [ true ↦ all_at_most ks ms | false ↦ false ] ≡ true → (k ≤ m) × (all_at_most ks ms ≡ true)
    go true q e = (le_of k m q, e)
    go false q e = false_is_true e

long_at : (ms : List ℕ) (ts : List Table) (k : ℕ) → all_long ms ts ≡ true → k < length ms → get_or ms k 0 ≤ length (get_or ts k [])
long_at [] ts k e h = absurd (omega arith)
long_at (m ∷ ms) [] k e h = false_is_true (unfold all_long in e)
long_at (m ∷ ms) (t ∷ ts) zero e h = (long_cons m ms t ts e).0
long_at (m ∷ ms) (t ∷ ts) (suc k) e h = long_at ms ts k (long_cons m ms t ts e).1 (omega arith)

pub most_at : (ks ms : List ℕ) (k : ℕ) → all_at_most ks ms ≡ true → k < length ks → k < length ms → get_or ks k 0 ≤ get_or ms k 0
most_at [] ms k e h g = absurd (omega arith)
most_at (x ∷ ks) [] k e h g = absurd (omega arith)
most_at (x ∷ ks) (m ∷ ms) zero e h g = (most_cons x m ks ms e).0
most_at (x ∷ ks) (m ∷ ms) (suc k) e h g = most_at ks ms k (most_cons x m ks ms e).1 (omega arith) (omega arith)

-- A slice of at least m rows of which k are in use, k at most m.
abbrev pub Fit : ℕ → ℕ → Table → Type 0
Fit k m t = (k ≤ m) × (m ≤ length t)

pub record Sized (p : Position) (a b c d e f i j k o q r : Table) (tx : List ℕ) : Type 0 where
  pub chart : Fit 1 1 a
  pub states : Fit p.states 256 b
  pub transitions : Fit p.transitions 512 c
  pub regions : Fit p.regions 512 d
  pub entries : Fit p.entries 2048 e
  pub invokes : Fit p.invokes 64 f
  pub datums : Fit p.datums 256 i
  pub parameters : Fit p.parameters 512 j
  pub members : Fit p.members 4096 k
  pub opened : Fit p.opened 32 o
  pub names : Fit p.opened 32 q
  pub open_regions_lem : Fit p.open_regions 64 r
  pub text : 65535 ≤ length tx
  pub used : p.used ≤ 65535
  pub rules : keeps_rules limits01 (store_of (record { tables = a ∷ b ∷ c ∷ d ∷ e ∷ f ∷ i ∷ j ∷ k ∷ o ∷ q ∷ r ∷ []; text = tx }) p) ≡ true

module _ (p : Position) (a b c d e f i j k o q r : Table) (tx : List ℕ) where
  abbrev x : Lent
  x = record { tables = a ∷ b ∷ c ∷ d ∷ e ∷ f ∷ i ∷ j ∷ k ∷ o ∷ q ∷ r ∷ []; text = tx }

  order_parts : in_order limits01 x p ≡ true → ((all_at_most (counts p) (table_limits limits01) && leb p.used 65535) ≡ true) × (keeps_rules limits01 (store_of x p) ≡ true)
  unfolding in_order
  order_parts h = go (all_at_most (counts p) (table_limits limits01) && leb p.used 65535) refl h
    where
      go : (z : Bool) → (all_at_most (counts p) (table_limits limits01) && leb p.used 65535) ≡ z → elim z [ true ↦ keeps_rules limits01 (store_of x p) | false ↦ false ] ≡ true
          → ((all_at_most (counts p) (table_limits limits01) && leb p.used 65535) ≡ true) × (keeps_rules limits01 (store_of x p) ≡ true)
      go true y h = (y, h)
      go false y h = false_is_true h

  pub sized : long_enough limits01 x ≡ true → in_order limits01 x p ≡ true → Sized p a b c d e f i j k o q r tx
  unfolding long_enough table_limits chart_limits open_limits counts
  sized l h =
      let R = order_parts h in
      let A : all_at_most (counts p) (table_limits limits01) ≡ true = and_left (all_at_most (counts p) (table_limits limits01)) (leb p.used 65535) R.0 in
      let B : all_long (table_limits limits01) x.tables ≡ true = and_left (all_long (table_limits limits01) x.tables) (leb 65535 (length tx)) l in
      let m : (k : ℕ) → k < 12 → get_or (counts p) k 0 ≤ get_or (table_limits limits01) k 0 = λ k h. most_at (counts p) (table_limits limits01) k A h h in
      let n : (k : ℕ) → k < 12 → get_or (table_limits limits01) k 0 ≤ length (get_or x.tables k []) = λ k h. long_at (table_limits limits01) x.tables k B h in
      record {
        chart = (m 0 (omega arith), n 0 (omega arith));
        states = (m 1 (omega arith), n 1 (omega arith));
        transitions = (m 2 (omega arith), n 2 (omega arith));
        regions = (m 3 (omega arith), n 3 (omega arith));
        entries = (m 4 (omega arith), n 4 (omega arith));
        invokes = (m 5 (omega arith), n 5 (omega arith));
        datums = (m 6 (omega arith), n 6 (omega arith));
        parameters = (m 7 (omega arith), n 7 (omega arith));
        members = (m 8 (omega arith), n 8 (omega arith));
        opened = (m 9 (omega arith), n 9 (omega arith));
        names = (m 10 (omega arith), n 10 (omega arith));
        open_regions_lem = (m 11 (omega arith), n 11 (omega arith));
        text = le_of 65535 (length tx) (and_right (all_long (table_limits limits01) x.tables) (leb 65535 (length tx)) l);
        used = le_of p.used 65535 (and_right (all_at_most (counts p) (table_limits limits01)) (leb p.used 65535) R.0);
        rules = R.1;
      }
