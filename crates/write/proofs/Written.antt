-- What is known on the way: everything has its place, numbers stay small, and at the end it is what the definition says.
use Prim.Native.Nat.{ℕ, ◌≤◌, ◌<◌}
use mathlib.Core.Path.{◌≡◌, sym, ap, ◌∙◌, subst}
use mathlib.Core.Bool.{Bool}
use mathlib.Core.List.{List}
use native.Mathlib.Omega.{arith}
use lib.ListN.{length}
use Rattle.definition.specs.declared.Position.{Position}
use Rattle.definition.specs.Rows.{Table}
use Rattle.definition.specs.Look.{kept_name, name_row}
use Rattle.definition.specs.Reader as Reader
use Rattle.rows.specs.declared.lent.Lent.{Lent}
use Rattle.rows.specs.Lent.{lent, lent_of}
use Rattle.plain.specs.Plain.{Parsed, parsed_of}
use Rattle.plain.proofs.PlainLaw.{form}
use Rattle.plan.specs.declared.Plan.{Plan}
use Rattle.plan.specs.After.{move_of}
use Rattle.std.specs.Prelude.{Option}
use Rattle.tables.specs.declared.OpenedName.{OpenedName}
use Rattle.tables.specs.Whole.{opens}
use Rattle.apply.specs.Applied.{rows_of, applied_in}
use Rattle.arena.specs.declared.Written.{Written}
use Rattle.arena.specs.Storing.{Storable, Stored}
use Rattle.whole.specs.Accepted.{Ready}
use Rattle.whole.specs.After.{position_by, InRange}
use Rattle.whole.proofs.Done as D
use Rattle.write.specs.Leaves.{Leaves}

module _ (xs : Lent) (p : Position) (v : Parsed) (q : Plan) (made : Bool) (charge : ℕ) (R : Ready (lent_of xs) p v q made charge) where
  abbrev a : Table
  a = xs.chart.now

  abbrev b : Table
  b = xs.states.now

  abbrev c : Table
  c = xs.transitions.now

  abbrev d : Table
  d = xs.regions.now

  abbrev f : Table
  f = xs.entries.now

  abbrev h : Table
  h = xs.invokes.now

  abbrev i : Table
  i = xs.datums.now

  abbrev j : Table
  j = xs.parameters.now

  abbrev k : Table
  k = xs.members.now

  abbrev o : Table
  o = xs.opened.now

  abbrev y : Table
  y = xs.open_names.now

  abbrev r : Table
  r = xs.open_regions.now

  abbrev tx : List ℕ
  tx = xs.text.now

  pub asks : Storable p v b k tx made q.members
  asks = D.asks p a b c d f h i j k o y r tx v q R.accepted made R.makes

  pub name_short : {w : List ℕ} → w ≡ v.name → length w ≤ 64
  unfolding parsed_of
  name_short e = omega (arith, ap length e, ap (λ (z : Parsed). length z.name) R.accepted.parsed, name_of)
    where
      name_of : length (parsed_of R.accepted.event).name ≤ 64
      name_of = (form R.accepted.event R.accepted.form).name

  module _ {st' ms' : Table} {tx' t' : List ℕ} {w : Written} (W : Stored p v b k tx q.members st' ms' tx' t' w) where
    pub in_range : InRange p q v.kind made charge w
    in_range = D.in_range p a b c d f h i j k o y r tx v q R.accepted made R.makes charge R.takes st' ms' tx' t' w W

    -- By a number of the event's kind.
    pub in_range_by : {kind : ℕ} → kind ≡ v.kind → InRange p q kind made charge w
    in_range_by e = subst (λ (z : ℕ). InRange p q z made charge w) (sym e) in_range

    pub apply_asks : {n : Position} → n ≡ rows_of p w.members → ((n.regions < 65536) × (n.members < 65536)) × (q.pending.kept < 65536)
    apply_asks e = ((omega (arith, ap (λ (z : Position). z.regions) e, in_range.regions), omega (arith, ap (λ (z : Position). z.members) e, in_range.members)), in_range.pending)

    pub leaves : {name : List ℕ} → name ≡ v.name → {o' : Option OpenedName} → o' ≡ opens (move_of v.kind) (length (kept_name v.tag name)) (name_row (kept_name v.tag name))
        → {n : Position} → n ≡ rows_of p w.members
        → {z : Reader.Lent} → z ≡ lent (applied_in t' v.tag o' n q a st' c d f h i j ms' o y r) tx'
        → {kind : ℕ} → kind ≡ v.kind
        → {u : Position} → u ≡ position_by p q kind made charge w
        → Leaves (lent_of xs) p v q z u
    leaves {name} en {o'} eo {n} ec {z} et {kind} ek {u} eu =
        record {
          lent = λ A.
              et
              ∙ D.tables_done p a b c d f h i j k o y r tx v q A made R.makes charge R.takes st' ms' tx' t' w W (applied_in t' v.tag o' n q a st' c d f h i j ms' o y r) o'
              (eo ∙ ap (λ (z : List ℕ). opens (move_of v.kind) (length (kept_name v.tag z)) (name_row (kept_name v.tag z))) en)
              (λ z. applied_in t' v.tag o' (ec z) q a st' c d f h i j ms' o y r);
          position = λ A. D.position_done p a b c d f h i j k o y r tx v q A made R.makes charge R.takes st' ms' tx' t' w W u (eu ∙ (λ z. position_by p q (ek z) made charge w));
        }
