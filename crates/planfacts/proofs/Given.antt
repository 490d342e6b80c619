-- What question 2 gives to the stages of an event: where names and ids stand, and that all numbers are small.
use Prim.Native.Nat.{ℕ, zero, suc, ◌+◌, ◌≤◌}
use mathlib.Core.Path.{◌≡◌, refl}
use mathlib.Core.Bool.{Bool, true, false, ◌&&◌, not}
use mathlib.Core.List.{List, [], ◌∷◌}
use native.Mathlib.Omega.{arith}
use lib.Dec.{eqb, leb}
use lib.ListN.{length, get_or}
use Rattle.definition.specs.declared.Limits.{Limits}
use Rattle.definition.specs.Rows.{Row, Table, num, columns_of, Cell, cell_at, Numbers, table_of, Store}
use Rattle.definition.specs.Look.{name_cells}
use Rattle.definition.specs.Actions.{place_of_number}
use Rattle.definition.specs.Rules.{is_inside, following, keeps_rules, all_within, table_limits, chart_limits, open_limits, counters_within, has_own_number, is_row, chosen}
use Rattle.definition.proofs.Base as D
use Rattle.definition.proofs.Places as Places
use Rattle.kept.proofs.Base.{All, le_of, eq_of, and_left, and_right, false_is_true}
use Rattle.kept.proofs.Classes.{View, HasRow, OrZero, Fits, Nums, Laid, Texts}
use Rattle.kept.proofs.RowCells.{CellIn}
use Rattle.kept.proofs.Tables.{RowOk}
use Rattle.kept.proofs.Sound.{at}
use Rattle.kept.proofs.Sizes.{within_at}
use Rattle.kept.proofs.Okay.{OkOf}
use Rattle.kept.proofs.Facts.{rules_from}
use Rattle.kept.proofs.EnteredOk.{known_of}

-- ---- texts

inside_of_lem : (u a k : ℕ) → is_inside u a k ≡ true → Places.Fits u a k
unfolding is_inside
inside_of_lem u zero k e = tt
inside_of_lem u (suc i) k e = le_of (i + k) u e

all_inside : (u : ℕ) (cs : List Cell) → All (CellIn u) cs → D.All (λ (c : Cell). Places.Fits u c.at c.len) cs
all_inside u [] a = tt
all_inside u (c ∷ cs) a = (inside_of_lem u c.at c.len a.0, all_inside u cs a.1)

pub names_inside : (L : Limits) (s : Store) → keeps_rules L s ≡ true → D.All (λ (c : Cell). Places.Fits (length s.text) c.at c.len) (name_cells (table_of s.numbers 1))
names_inside L s r = all_inside (length s.text) (name_cells (table_of s.numbers 1)) (known_of L s.text s.numbers (rules_from L s r).1).inside

-- The ids of data stand in the second column.
id_inside : (u : ℕ) (T : List Table) (i d : ℕ) (r : Row) → RowOk (at u T i d) 6 r → CellIn u (cell_at r 1)
unfolding columns_of Texts Laid following cell_at
id_inside u T i d [] h = absurd h.texts
id_inside u T i d (v ∷ []) h = absurd h.texts.1
id_inside u T i d (v ∷ a ∷ []) h = absurd h.texts.1.1
id_inside u T i d (v ∷ a ∷ k ∷ vs) h = h.texts.1.0

pub ids_inside : (L : Limits) (s : Store) → keeps_rules L s ≡ true → D.All (λ (r : Row). Places.Fits (length s.text) (cell_at r 1).at (cell_at r 1).len) (table_of s.numbers 6)
ids_inside L s r = go (table_of s.numbers 6) ((rules_from L s r).1.sound.rows 6)
  where
    go : (rs : Table) → All (RowOk (at (length s.text) s.numbers.tables s.numbers.ids s.numbers.docs) 6) rs
        → D.All (λ (r : Row). Places.Fits (length s.text) (cell_at r 1).at (cell_at r 1).len) rs
    go [] a = tt
    go (x ∷ xs) a =
        (inside_of_lem (length s.text) (cell_at x 1).at (cell_at x 1).len (id_inside (length s.text) s.numbers.tables s.numbers.ids s.numbers.docs x a.0), go xs a.1)

-- ---- numbers

-- The current region's number was drawn before.
number_le : (W : View) (r : Row) → RowOk W 3 r → num r 0 ≤ W.ids
unfolding Nums Fits chosen columns_of
number_le W [] h = absurd h.nums
number_le W (v ∷ vs) h = h.nums.0.1

region_le : (W : View) (rs : Table) → All (RowOk W 3) rs → (c : ℕ) → (place_of_number rs c ≡ 0 → ⊥) → c ≤ W.ids
unfolding place_of_number
region_le W [] a c h = absurd (h refl)
region_le W (r ∷ rs) a c h = go (eqb (num r 0) c) (place_of_number rs c) (λ e. omega (arith, eq_of (num r 0) c e, number_le W r a.0)) (region_le W rs a.1 c) refl h
  where
    go : (b : Bool) (p : ℕ) → (eqb (num r 0) c ≡ true → c ≤ W.ids) → ((p ≡ 0 → ⊥) → c ≤ W.ids) → eqb (num r 0) c ≡ b
        → (◌≡◌ {A = ℕ} (elim b [ true ↦ 1 | false ↦ elim p [ zero ↦ 0 | suc q ↦ suc (suc q) ] ]) 0 → ⊥) → c ≤ W.ids
    go true p x y e k = x e
    go false zero x y e k = absurd (k refl)
    go false (suc p) x y e k = y (λ z. omega (arith, z))

pub record Few (L : Limits) (s : Store) : Type 0 where
  pub twelve : length s.numbers.tables ≡ 12
  pub chart : length (table_of s.numbers 0) ≤ 1
  pub states : length (table_of s.numbers 1) ≤ L.states
  pub transitions : length (table_of s.numbers 2) ≤ L.transitions
  pub regions : length (table_of s.numbers 3) ≤ L.regions
  pub entries : length (table_of s.numbers 4) ≤ L.entries
  pub invokes : length (table_of s.numbers 5) ≤ L.invokes
  pub datums : length (table_of s.numbers 6) ≤ L.datums
  pub parameters : length (table_of s.numbers 7) ≤ L.parameters
  pub members : length (table_of s.numbers 8) ≤ L.members
  pub opened : length (table_of s.numbers 9) ≤ L.opened
  pub names_open : length (table_of s.numbers 10) ≡ length (table_of s.numbers 9)
  pub open_regions_lem : length (table_of s.numbers 11) ≤ L.opened + L.opened
  pub ids : s.numbers.ids ≤ L.drawn
  pub docs : s.numbers.docs ≤ L.drawn
  pub names : s.numbers.names ≤ L.drawn
  pub charge : s.numbers.charge ≤ L.charge
  pub text : length s.text ≤ s.numbers.charge
  pub current : s.numbers.current ≤ L.drawn

current_le : (T : List Table) (i d u c : ℕ) → All (RowOk (at u T i d) 3) (get_or T 3 []) → OrZero T 3 c → c ≤ i
unfolding is_row has_own_number
current_le T i d u zero a h = omega arith
current_le T i d u (suc c) a h = region_le (at u T i d) (get_or T 3 []) a (suc c) (λ z. there z (h (λ y. omega (arith, y))))
  where
    there : place_of_number (get_or T 3 []) (suc c) ≡ 0 → HasRow T 3 (suc c) → ⊥
    there z k = false_is_true (and_right (not (eqb (suc c) 0)) (leb 1 0) (rw z at k))

pub few : (L : Limits) (s : Store) → keeps_rules L s ≡ true → Few L s
unfolding table_limits chart_limits open_limits counters_within
few L s r =
    let n : Numbers = s.numbers in
    let F = rules_from L s r in
    let K : OkOf L s.text n = F.1 in
    let w : length n.tables ≡ 12 = K.sound.twelve in
    let t : all_within (table_limits L) n.tables ≡ true = F.0.tables in
    let a = leb n.ids L.drawn in
    let b = leb n.docs L.drawn in
    let c = leb n.names L.drawn in
    let d = leb n.charge L.charge in
    let abc : (a && b && c) ≡ true = and_left (a && b && c) d F.0.counters in
    let ab : (a && b) ≡ true = and_left (a && b) c abc in
    let i : n.ids ≤ L.drawn = le_of n.ids L.drawn (and_left a b ab) in
    record {
      twelve = w;
      chart = within_at (table_limits L) n.tables 0 t (omega arith) (omega (arith, w));
      states = within_at (table_limits L) n.tables 1 t (omega arith) (omega (arith, w));
      transitions = within_at (table_limits L) n.tables 2 t (omega arith) (omega (arith, w));
      regions = within_at (table_limits L) n.tables 3 t (omega arith) (omega (arith, w));
      entries = within_at (table_limits L) n.tables 4 t (omega arith) (omega (arith, w));
      invokes = within_at (table_limits L) n.tables 5 t (omega arith) (omega (arith, w));
      datums = within_at (table_limits L) n.tables 6 t (omega arith) (omega (arith, w));
      parameters = within_at (table_limits L) n.tables 7 t (omega arith) (omega (arith, w));
      members = within_at (table_limits L) n.tables 8 t (omega arith) (omega (arith, w));
      opened = within_at (table_limits L) n.tables 9 t (omega arith) (omega (arith, w));
      names_open = K.even;
      open_regions_lem = within_at (table_limits L) n.tables 11 t (omega arith) (omega (arith, w));
      ids = i;
      docs = le_of n.docs L.drawn (and_right a b ab);
      names = le_of n.names L.drawn (and_right (a && b) c abc);
      charge = le_of n.charge L.charge (and_right (a && b && c) d F.0.counters);
      text = F.0.text;
      current = omega (arith, i, current_le n.tables n.ids n.docs (length s.text) n.current (K.sound.rows 3) K.current);
    }
