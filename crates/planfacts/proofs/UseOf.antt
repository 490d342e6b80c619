-- What is seen of a store that keeps the rules, and heard of an event, names rows in use.
use Prim.Native.Nat.{ℕ, zero, suc, ◌≤◌}
use mathlib.Core.Path.{◌≡◌, refl}
use mathlib.Core.Bool.{Bool, true, false}
use mathlib.Core.List.{List, [], ◌∷◌, ◌++◌}
use native.Mathlib.Omega.{arith}
use lib.Dec.{eqb}
use lib.ListN.{length, get_or}
use Rattle.std.specs.Prelude.{Option, Some, None, IfSome}
use Rattle.definition.specs.declared.Limits.{Limits}
use Rattle.definition.specs.Event.{Event}
use Rattle.definition.specs.Rows.{Row, Table, num, row_of, columns_of, Numbers, table_of, Store, current_state, root}
use Rattle.definition.specs.Look.{look, payload, loads_of, id_in, find_datum}
use Rattle.definition.specs.Elements.{tag_of}
use Rattle.definition.specs.Change.{nothing, edited_by}
use Rattle.definition.specs.States.{own_state}
use Rattle.definition.specs.Actions.{last_entry, last_invoke, meets, no_if, else_walk, walk_from}
use Rattle.definition.specs.Rules.{keeps_rules, has_own_number, chosen}
use Rattle.definition.proofs.Changes.{place_le, last_le}
use Rattle.definition.proofs.Finds.{cells_length, datum_le}
use Rattle.kept.proofs.Base.{All}
use Rattle.kept.proofs.Classes.{OrZero, Fits, Nums}
use Rattle.kept.proofs.Grow.{nth_from}
use Rattle.kept.proofs.Tables.{RowOk}
use Rattle.kept.proofs.Sound.{at}
use Rattle.kept.proofs.Okay.{OkOf, ready_of}
use Rattle.kept.proofs.Facts.{rules_from}
use Rattle.kept.proofs.Resolved.{InRange}
use Rattle.kept.proofs.LookOk.{look_refs, look_grown}
use Rattle.plan.specs.declared.Closing.{Closing}
use Rattle.plan.specs.Ids.{region_id}
use Rattle.plan.specs.Seen.{closed_at, closes, walked_as, walk_in, seen}
use Rattle.plan.specs.Heard.{heard}
use Rattle.planfacts.proofs.Places.{MetIn, InUse}

-- ---- searches end inside their tables

entry_le : (n : Numbers) (r : ℕ) → last_entry n r ≤ length (table_of n 4)
unfolding last_entry
entry_le n r = let z : 0 ≤ 0 = omega arith in omega (arith, last_le 0 r 0 0 (table_of n 4) z)

invoke_le : (n : Numbers) (s : ℕ) → last_invoke n s ≤ length (table_of n 5)
unfolding last_invoke
invoke_le n s = let z : 0 ≤ 0 = omega arith in omega (arith, last_le 0 s 0 0 (table_of n 5) z)

kept_le : (g : ℕ) (rs : Table) (k c m : ℕ) → k ≤ m → IfSome (closed_at g rs k c) (λ x. x.kept ≤ m)
unfolding closed_at
kept_le g rs zero zero m h = tt
kept_le g rs zero (suc i) m h = omega arith
kept_le g rs (suc k) zero m h = tt
kept_le g rs (suc k) (suc i) m h = go (eqb (num (get_or rs k []) 1) g) (kept_le g rs k (num (get_or rs k []) 0) m (omega (arith, h)))
  where
    go : (b : Bool) → IfSome (closed_at g rs k (num (get_or rs k []) 0)) (λ x. x.kept ≤ m)
        → IfSome {T = Closing} (elim b [ true ↦ Some (record { current = region_id (num (get_or rs k []) 0); kept = k }) | false ↦ closed_at g rs k (num (get_or rs k []) 0) ]) (λ x. x.kept ≤ m)
    go true z = omega (arith, h)
    go false z = z

walked_le : (n : Numbers) (fuel r : ℕ) → MetIn (walked_as (else_walk fuel n r)) (length (table_of n 4))
unfolding else_walk walked_as MetIn
walked_le n zero r = tt
walked_le n (suc fuel) r =
    let e : Row = row_of (table_of n 4) (last_entry n r) in
    go (eqb (num e 1) 1) (eqb (num e 4) 0) (entry_le n r) (walked_le n fuel (num e 4))
  where
    go : (b z : Bool) → last_entry n r ≤ length (table_of n 4) → MetIn (walked_as (else_walk fuel n (num (row_of (table_of n 4) (last_entry n r)) 4))) (length (table_of n 4))
        → MetIn (walked_as (elim b [ false ↦ no_if | true ↦ elim z [ true ↦ meets (last_entry n r) | false ↦ else_walk fuel n (num (row_of (table_of n 4) (last_entry n r)) 4) ] ])) (length (table_of n 4))
    go false z h k = tt
    go true true h k = h
    go true false h k = k

walk_le : (n : Numbers) (x : Option Closing) → MetIn (walk_in n x) (length (table_of n 4))
unfolding walk_in MetIn
walk_le n None = tt
walk_le n (Some x) = from x.current.0
  where
    from : (c : ℕ) → MetIn (walked_as (walk_from n c)) (length (table_of n 4))
    from zero = unfold walk_from walked_as in tt
    from (suc c) = unfold walk_from in walked_le n (length (table_of n 3)) (suc c)

-- ---- numbers that the rules speak of

or_le : (T : List Table) (t v : ℕ) → has_own_number t ≡ false → OrZero T t v → v ≤ length (get_or T t [])
or_le T t zero o h = omega arith
or_le T t (suc v) o h = (nth_from T t (suc v) o (h (λ z. omega (arith, z)))).1

first_le : (m : ℕ) (vs : List ℕ) → All (InRange m) vs → get_or vs 0 0 ≤ m
first_le m [] a = omega arith
first_le m (v ∷ vs) a = a.0.1

first_column : (u : ℕ) (T : List Table) (i d : ℕ) (r : Row) → RowOk (at u T i d) 0 r → num r 0 ≤ length (get_or T 1 [])
unfolding Nums Fits columns_of chosen has_own_number
first_column u T i d [] h = absurd h.nums
first_column u T i d (v ∷ vs) h = or_le T 1 v refl h.nums.0

data_le : (b : Bool) (t : List ℕ) (rs : Table) (c : ℕ) (w : List ℕ) → elim b [ true ↦ find_datum t rs c w | false ↦ 0 ] ≤ suc (length rs)
data_le true t rs c w = datum_le t rs c w
data_le false t rs c w = omega arith

module _ (L : Limits) (s : Store) (e : Event) (rules : keeps_rules L s ≡ true) where
  abbrev n : Numbers
  n = s.numbers

  abbrev K : OkOf L s.text n
  K = (rules_from L s rules).1

  pub state_le : current_state n ≤ length (table_of n 1)
  state_le = or_le n.tables 1 (current_state n) (unfold has_own_number in refl) (unfold nothing edited_by in (ready_of L s.text n K (look s e)).good.state)

  root_le : root n ≤ length (table_of n 1)
  unfolding root
  root_le = go (table_of n 0) (K.sound.rows 0)
    where
      go : (rs : Table) → All (RowOk (at (length s.text) n.tables n.ids n.docs) 0) rs → num (get_or rs 0 []) 0 ≤ length (table_of n 1)
      go [] a = omega arith
      go (r ∷ rs) a = first_column (length s.text) n.tables n.ids n.docs r a.0

  looked_le : (look s e).found ≤ suc (length (table_of n 6))
  unfolding look
  looked_le =
      data_le (eqb (tag_of e.name) 9) (s.text ++ payload (loads_of (tag_of e.name) n.names e)) (table_of n 6) (current_state n) (id_in (loads_of (tag_of e.name) n.names e))

  pub in_use : InUse (seen n (look s e)) (heard (look s e)) (length (look s e).known) (length (table_of n 2)) (length (table_of n 4)) (length (table_of n 5)) (length (table_of n 6)) (length (table_of n 11))
  unfolding seen heard own_state
  in_use =
      record {
        state = omega (arith, state_le, look_grown L s e K, cells_length (table_of n 1));
        root = omega (arith, root_le, look_grown L s e K, cells_length (table_of n 1));
        own = first_le _ (look s e).refs (look_refs L s e K);
        place = place_le (table_of n 2) _;
        entry = entry_le n _;
        walk = walk_le n (closed_at (closes (look s e).tag) (table_of n 11) (length (table_of n 11)) n.current);
        invoke = invoke_le n _;
        found = looked_le;
        datums = refl;
        kept = kept_le _ (table_of n 11) _ _ _ (omega arith);
        regions = omega arith;
      }
