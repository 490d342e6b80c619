-- What is written over lent slices is read back, and slices stay long enough.
use Prim.Native.Nat.{ℕ, zero, suc, ◌+◌, ◌≤◌}
use mathlib.Core.Path.{◌≡◌, refl, sym, ap, ◌∙◌}
use mathlib.Core.Bool.{Bool, true, false, ◌&&◌, ◌||◌, not}
use mathlib.Core.List.{List, [], ◌∷◌, ◌++◌}
use lib.ListN.{length, get_or, take, drop, length-append, length-drop, drop_of_length-le}
use lib.Seq.{take-append_seam, drop-cons}
use lib.Dec.{eqb, leb}
use borrow.Author.Tests.{leb-true, le-leb}
use native.Mathlib.Omega.{arith}
use Rattle.definition.specs.declared.Limits.{Limits}
use Rattle.definition.specs.declared.Position.{Position}
use Rattle.definition.specs.Rows.{Table, num, table_of, Store}
use Rattle.definition.specs.Rules.{chart_limits, open_limits, table_limits, all_within, open_names_fit, unknown_fits}
use Rattle.definition.specs.Reader.{Lent, counts, taken, store_of, rows_in, position_of, over, over_all, lent_after, all_long, long_enough, all_at_most}
use Rattle.definition.proofs.Base.{true_is_false, elim_and, and_left, and_right, and_both}

-- ---- a list by its elements

list_from : ℕ → ℕ → List Table → List Table
list_from i zero us = []
list_from i (suc k) us = get_or us i [] ∷ list_from (suc i) k us

list_is : (i k : ℕ) (us : List Table) → length us ≡ i + k → drop i us ≡ list_from i k us
unfolding list_from
list_is i zero us e = drop_of_length-le us {i = i} (omega arith)
list_is i (suc k) us e = drop-cons us i [] (omega arith) ∙ ap {B = List Table} (λ x. get_or us i [] ∷ x) (list_is (suc i) k us (omega arith))

unfoldable pub lengths : List Table → List ℕ
lengths [] = []
lengths (t ∷ ts) = length t ∷ lengths ts

pub counts_are : (s : Store) → length s.numbers.tables ≡ 12 → length (get_or s.numbers.tables 0 []) ≡ 1
    → length (get_or s.numbers.tables 10 []) ≡ length (get_or s.numbers.tables 9 []) → counts (position_of s) ≡ lengths s.numbers.tables
unfolding counts position_of rows_in list_from lengths
counts_are s z c o =
    let us : List Table = s.numbers.tables in
    ap {B = List ℕ} (λ x. x ∷ length (get_or us 1 []) ∷ length (get_or us 2 []) ∷ length (get_or us 3 []) ∷ length (get_or us 4 []) ∷ length (get_or us 5 []) ∷ length (get_or us 6 []) ∷ length (get_or us 7 [])
    ∷ length (get_or us 8 []) ∷ length (get_or us 9 []) ∷ length (get_or us 9 []) ∷ length (get_or us 11 []) ∷ []) (sym c)
    ∙ ap {B = List ℕ} (λ x. length (get_or us 0 []) ∷ length (get_or us 1 []) ∷ length (get_or us 2 []) ∷ length (get_or us 3 []) ∷ length (get_or us 4 []) ∷ length (get_or us 5 []) ∷ length (get_or us 6 [])
    ∷ length (get_or us 7 []) ∷ length (get_or us 8 []) ∷ length (get_or us 9 []) ∷ x ∷ length (get_or us 11 []) ∷ []) (sym o)
    ∙ ap lengths (sym (list_is 0 12 us (z ∙ omega arith)))

-- ---- what is written over is read back

taken_over : (us ts : List Table) → length us ≤ length ts → taken (lengths us) (over_all us ts) ≡ us
unfolding taken over_all over lengths
taken_over [] [] h = refl
taken_over [] (t ∷ ts) h = refl
taken_over (u ∷ us) [] h = absurd (omega arith)
taken_over (u ∷ us) (t ∷ ts) h = λ i. take-append_seam u (drop (length u) t) i ∷ taken_over us ts (omega arith) i

pub store_back : (x : Lent) (s : Store) → counts (position_of s) ≡ lengths s.numbers.tables → length s.numbers.tables ≤ length x.tables → store_of (lent_after x s) (position_of s) ≡ s
unfolding store_of lent_after over position_of
store_back x s e h =
    let p : taken (counts (position_of s)) (over_all s.numbers.tables x.tables) ≡ s.numbers.tables = ap (λ (k : List ℕ). taken k (over_all s.numbers.tables x.tables)) e ∙ taken_over s.numbers.tables x.tables h in
    let q : take (length s.text) (s.text ++ drop (length s.text) x.text) ≡ s.text = take-append_seam s.text (drop (length s.text) x.text) in
    λ i. record {
      numbers = record { tables = p i; current = s.numbers.current; ids = s.numbers.ids; docs = s.numbers.docs; names = s.numbers.names; charge = s.numbers.charge };
      text = q i;
    }

-- ---- slices stay long enough

over_length {ℓ} : {A : Type ℓ} (u t : List A) → length t ≤ length (over u t)
unfolding over
over_length u t = omega (arith, length-append u (drop (length u) t), length-drop (length u) t)

leb_more : (m a b : ℕ) → leb m a ≡ true → a ≤ b → leb m b ≡ true
leb_more m a b e h = le-leb m b (let q : m ≤ a = leb-true m a e in omega arith)

long_over : (ms : List ℕ) (us ts : List Table) → all_long ms ts ≡ true → all_long ms (over_all us ts) ≡ true
unfolding all_long over_all
long_over [] us [] e = refl
long_over [] us (t ∷ ts) e = refl
long_over (m ∷ ms) us [] e = true_is_false (sym e)
long_over (m ∷ ms) [] (t ∷ ts) e = e
long_over (m ∷ ms) (u ∷ us) (t ∷ ts) e = go (leb m (length t)) refl (long_over ms us ts)
  where
    go : (b : Bool) → leb m (length t) ≡ b → (all_long ms ts ≡ true → all_long ms (over_all us ts) ≡ true) → all_long (m ∷ ms) (over u t ∷ over_all us ts) ≡ true
    go true f ih = rw (leb_more m (length t) (length (over u t)) f (over_length u t), all_long) (ih (rw (f, all_long) at e))
    go false f ih = true_is_false (sym (rw (f, all_long) at e))

pub long_after : (L : Limits) (x : Lent) (s : Store) → long_enough L x ≡ true → long_enough L (lent_after x s) ≡ true
unfolding long_enough lent_after
long_after L x s e =
    and_both (all_long (table_limits L) (over_all s.numbers.tables x.tables)) _ (long_over (table_limits L) s.numbers.tables x.tables (and_left (all_long (table_limits L) x.tables) _ e)) (
    leb_more L.charge (length x.text) _ (and_right (all_long (table_limits L) x.tables) _ e) (over_length s.text x.text))

pub long_many : (ms : List ℕ) (ts : List Table) → all_long ms ts ≡ true → length ms ≤ length ts
unfolding all_long
long_many [] ts e = omega arith
long_many (m ∷ ms) [] e = true_is_false (sym e)
long_many (m ∷ ms) (t ∷ ts) e = go (leb m (length t)) refl (long_many ms ts)
  where
    go : (b : Bool) → leb m (length t) ≡ b → (all_long ms ts ≡ true → length ms ≤ length ts) → suc (length ms) ≤ suc (length ts)
    go true f ih = omega (arith, ih (rw (f, all_long) at e))
    go false f ih = true_is_false (sym (rw (f, all_long) at e))

pub long_twelve : (L : Limits) (x : Lent) → long_enough L x ≡ true → 12 ≤ length x.tables
unfolding long_enough table_limits chart_limits open_limits
long_twelve L x e = long_many (table_limits L) x.tables (and_left (all_long (table_limits L) x.tables) _ e)

pub long_chart : (L : Limits) (t : Table) (ts : List Table) → all_long (table_limits L) (t ∷ ts) ≡ true → 1 ≤ length t
unfolding table_limits chart_limits open_limits all_long
long_chart L t ts e = go (leb 1 (length t)) refl
  where
    go : (b : Bool) → leb 1 (length t) ≡ b → 1 ≤ length t
    go true f = leb-true 1 (length t) f
    go false f = true_is_false (sym (rw (f, all_long) at e))

-- ---- what the rules say of the counts

pub names_as_many : (L : Limits) (xs ns : Table) → open_names_fit L xs ns ≡ true → length ns ≡ length xs
unfolding open_names_fit
names_as_many L [] [] e = refl
names_as_many L [] (n ∷ ns) e = true_is_false (sym e)
names_as_many L (x ∷ xs) [] e = true_is_false (sym e)
names_as_many L (x ∷ xs) (n ∷ ns) e = go (not (eqb (num x 0) 0) || unknown_fits L x n) refl (names_as_many L xs ns)
  where
    go : (b : Bool) → (not (eqb (num x 0) 0) || unknown_fits L x n) ≡ b → (open_names_fit L xs ns ≡ true → length ns ≡ length xs) → suc (length ns) ≡ suc (length xs)
    go true f ih = ap suc (ih (rw (f, open_names_fit) at e))
    go false f ih = true_is_false (sym (rw (f, open_names_fit) at e))

pub at_most : (ms : List ℕ) (us : List Table) → all_within ms us ≡ true → all_at_most (lengths us) ms ≡ true
unfolding all_within all_at_most lengths
at_most [] [] e = refl
at_most [] (u ∷ us) e = refl
at_most (m ∷ ms) [] e = refl
at_most (m ∷ ms) (u ∷ us) e = go (leb (length u) m) refl (at_most ms us)
  where
    go : (b : Bool) → leb (length u) m ≡ b → (all_within ms us ≡ true → all_at_most (lengths us) ms ≡ true) → elim b [ true ↦ all_at_most (lengths us) ms | false ↦ false ] ≡ true
    go true f ih = ih (rw (f, all_within) at e)
    go false f ih = true_is_false (sym (rw (f, all_within) at e))

one_chart : (L : Limits) (u : Table) (us : List Table) → all_within (table_limits L) (u ∷ us) ≡ true → length u ≤ 1
unfolding table_limits chart_limits open_limits all_within
one_chart L u us e = go (leb (length u) 1) refl
  where
    go : (b : Bool) → leb (length u) 1 ≡ b → length u ≤ 1
    go true f = leb-true (length u) 1 f
    go false f = true_is_false (sym (rw (f, all_within) at e))

pub chart_one : (L : Limits) (us : List Table) → all_within (table_limits L) us ≡ true → 1 ≤ length (get_or us 0 []) → length (get_or us 0 []) ≡ 1
chart_one L [] e h = absurd (omega arith)
chart_one L (u ∷ us) e h = omega (arith, one_chart L u us e)

pub most_cons : (k m : ℕ) (ks ms : List ℕ) → all_at_most (k ∷ ks) (m ∷ ms) ≡ leb k m && all_at_most ks ms
unfolding all_at_most
most_cons k m ks ms = elim_and (leb k m) (all_at_most ks ms)

-- The chart's own row.
pub chart_there : (L : Limits) (x : Lent) (p : Position) → long_enough L x ≡ true → 1 ≤ length (table_of (store_of x p).numbers 0)
unfolding long_enough all_long table_limits chart_limits store_of taken counts
chart_there L x p h = go x.tables (and_left (all_long (table_limits L) x.tables) (leb L.charge (length x.text)) h)
  where
    go : (ts : List Table) → all_long (table_limits L) ts ≡ true → 1 ≤ length (get_or (taken (counts p) ts) 0 [])
    go [] e = true_is_false (sym e)
    go ([] ∷ ts) e = true_is_false (sym e)
    go ((r ∷ t) ∷ ts) e = omega arith
