-- THE INVARIANT, and what opening and closing an element does to it.
use Prim.Native.Nat.{ℕ, zero, suc}
use mathlib.Core.Path.{◌≡◌, refl, sym, ap, ◌∙◌, subst}
use mathlib.Core.Bool.{true, not, false≢true}
use mathlib.Core.List.{List, [], ◌∷◌, ◌++◌, map, reverse, reverse-cons, reverse-reverse}
use lib.ListN.{length, get_or, set, length-set}
use lib.Seq.{get_or-set_same}
use native.Mathlib.Omega.{arith}
use Rattle.definition.specs.Elements.{among}
use Rattle.definition.specs.Rows.{Row, Table, num, Numbers, innermost, current_state, current_transition, parent_tag}
use Rattle.definition.specs.Look.{Look}
use Rattle.definition.specs.Change.{Change, on_table, edited_by, made, with_tables, pushed, popped, opened_row, without_last}
use Rattle.reached.proofs.Tables.{top_of, rest_of, last_reverse, without_reverse, AllRows, all_map}
use Rattle.reached.proofs.Edits.{safe_edits, edits_open}
use Rattle.reached.proofs.Stack.{holders, Place, Bare, head_of}
use Rattle.reached.proofs.Growth.{RootOf, Fact, Solid, Grows, fact_grows, solid_grows, edits_grow, same_grows, set_other}

unfoldable pub tags_of : Table → List ℕ
tags_of os = map (λ (r : Row). num r 0) os

abbrev pub FactOf : List Table → Row → Type 0
FactOf ts r = Fact ts (num r 0) (num r 1) (num r 2)

pub record Reached (n : Numbers) : Type 0 where
  pub os : Table
  pub opened : get_or n.tables 9 [] ≡ reverse os
  pub solid : Solid n.tables
  pub facts : AllRows (FactOf n.tables) os
  pub begun : RootOf n.tables ≡ 0 → Bare (tags_of os)
  pub place : Place (get_or n.tables 4 []) (tags_of os) (reverse (get_or n.tables 11 [])) n.current

-- ---- the innermost element

module _ (n : Numbers) (R : Reached n) where
  pub inner_is : innermost n ≡ top_of R.os
  unfolding innermost
  inner_is = rw R.opened (last_reverse R.os)

  pub parent_is : parent_tag n ≡ head_of (tags_of R.os)
  unfolding parent_tag tags_of head_of top_of
  parent_is = rw inner_is (go R.os)
    where
      go : (os : Table) → num (top_of os) 0 ≡ head_of (tags_of os)
      go [] = refl
      go (r ∷ os) = refl

  pub inner_fact : Fact n.tables (parent_tag n) (current_state n) (current_transition n)
  unfolding parent_tag current_state current_transition top_of AllRows among
  inner_fact = rw inner_is (go R.os R.facts)
    where
      go : (os : Table) → AllRows (FactOf n.tables) os → FactOf n.tables (top_of os)
      go [] a = record { known = λ m. absurd (false≢true m); going = λ e. absurd (omega arith); invoked = λ m. absurd (false≢true m); done = λ e. absurd (omega arith) }
      go (r ∷ os) a = a.0

-- ---- the tables of open elements written

pub root_back : (ts us : List Table) → Grows ts us → RootOf us ≡ 0 → RootOf ts ≡ 0
root_back ts us G e = go (RootOf ts) refl
  where
    go : (k : ℕ) → RootOf ts ≡ k → RootOf ts ≡ 0
    go zero f = f
    go (suc k) f = absurd (G.root (λ z. let y : ◌≡◌ {A = ℕ} 0 (suc k) = sym z ∙ f in absurd (omega arith)) e)

pub record Wrapped (ts us : List Table) (regs opened : Table) : Type 0 where
  pub grows : Grows ts us
  pub entries : get_or us 4 [] ≡ get_or ts 4 []
  pub regions : get_or us 11 [] ≡ regs
  pub opens : get_or us 9 [] ≡ opened

wrapped : (ts : List Table) (a b y : Table) → length ts ≡ 12 → Wrapped ts (set (set (set ts 11 a) 10 b) 9 y) a y
wrapped ts a b y z =
    let X : List Table = set ts 11 a in
    let Y : List Table = set X 10 b in
    let x : length X ≡ length ts = length-set ts 11 a in
    let w : length Y ≡ length X = length-set X 10 b in
    record {
      grows =
          same_grows ts (set Y 9 y) (length-set Y 9 y ∙ w ∙ x)
          (set_other Y 9 0 y (omega arith) ∙ set_other X 10 0 b (omega arith) ∙ set_other ts 11 0 a (omega arith))
          (set_other Y 9 1 y (omega arith) ∙ set_other X 10 1 b (omega arith) ∙ set_other ts 11 1 a (omega arith))
          (set_other Y 9 5 y (omega arith) ∙ set_other X 10 5 b (omega arith) ∙ set_other ts 11 5 a (omega arith));
      entries = set_other Y 9 4 y (omega arith) ∙ set_other X 10 4 b (omega arith) ∙ set_other ts 11 4 a (omega arith);
      regions = set_other Y 9 11 y (omega arith) ∙ set_other X 10 11 b (omega arith) ∙ get_or-set_same ts 11 a [] (omega arith);
      opens = get_or-set_same Y 9 y [] (omega arith);
    }

inside_opened : (ts : List Table) (a b : Table) → get_or (set (set ts 11 a) 10 b) 9 [] ≡ get_or ts 9 []
inside_opened ts a b = set_other (set ts 11 a) 10 9 b (omega arith) ∙ set_other ts 11 9 a (omega arith)

-- ---- from one to the next

abbrev pub after : Look → Change → Numbers → List Table
after l c n = edited_by l c.edits n.tables

module _ (n : Numbers) (l : Look) (c : Change) (R : Reached n) (safe : safe_edits l.tag c.edits ≡ true) where
  grown : Grows n.tables (after l c n)
  grown = edits_grow l c.edits n.tables safe

  still_open : get_or (after l c n) 9 [] ≡ reverse R.os
  unfolding among
  still_open = edits_open 9 refl l c.edits n.tables safe ∙ R.opened

  module _ (m : Numbers) (os : Table) (W : Wrapped (after l c n) m.tables (reverse c.regions) (reverse os)) where
    reached_by : AllRows (FactOf (after l c n)) os → (RootOf (after l c n) ≡ 0 → Bare (tags_of os)) → m.current ≡ c.current
        → Place (get_or (after l c n) 4 []) (tags_of os) c.regions c.current → Reached m
    reached_by f b e p =
        record {
          os = os;
          opened = W.opens;
          solid = solid_grows (after l c n) m.tables W.grows (solid_grows n.tables (after l c n) grown R.solid);
          facts = all_map (FactOf (after l c n)) (FactOf m.tables) os (λ r x. fact_grows (after l c n) m.tables (num r 0) (num r 1) (num r 2) W.grows x) f;
          begun = λ z. b (root_back (after l c n) m.tables W.grows z);
          place =
              subst (λ (x : Table). Place (get_or m.tables 4 []) (tags_of os) (reverse x) m.current) (sym W.regions) (
              subst (λ (x : Table). Place (get_or m.tables 4 []) (tags_of os) x m.current) (sym (reverse-reverse c.regions)) (
              subst (λ (x : Table). Place x (tags_of os) c.regions m.current) (sym W.entries) (
              subst (λ (x : ℕ). Place (get_or (after l c n) 4 []) (tags_of os) c.regions x) (sym e) p)));
        }

  old_facts : AllRows (FactOf (after l c n)) R.os
  old_facts = all_map (FactOf n.tables) (FactOf (after l c n)) R.os (λ r x. fact_grows n.tables (after l c n) (num r 0) (num r 1) (num r 2) grown x) R.facts

  after_size : length (after l c n) ≡ 12
  after_size = grown.size ∙ R.solid.size

  pub push_reached : Fact (after l c n) l.tag c.state c.transition → (RootOf (after l c n) ≡ 0 → not (among l.tag holders) ≡ true)
      → Place (get_or (after l c n) 4 []) (l.tag ∷ tags_of R.os) c.regions c.current → Reached (pushed l c (made l c n))
  unfolding pushed made with_tables on_table opened_row tags_of AllRows Bare
  push_reached f b p =
      reached_by (pushed l c (made l c n)) (opened_row l c ∷ R.os) (
      subst (λ (x : Table). Wrapped (after l c n) (pushed l c (made l c n)).tables (reverse c.regions) x) (
      ap {B = Table} (λ x. x ++ opened_row l c ∷ []) (inside_opened (after l c n) _ _ ∙ still_open) ∙ sym (reverse-cons (opened_row l c) R.os)) (
      wrapped (after l c n) (reverse c.regions) _ _ after_size)) (f, old_facts) (λ z. (b z, R.begun (root_back n.tables (after l c n) grown z))) refl p

  rest_facts : (os : Table) → AllRows (FactOf (after l c n)) os → AllRows (FactOf (after l c n)) (rest_of os)
  unfolding AllRows rest_of
  rest_facts [] a = a
  rest_facts (r ∷ os) a = a.1

  rest_bare : (os : Table) → Bare (tags_of os) → Bare (tags_of (rest_of os))
  unfolding Bare tags_of rest_of
  rest_bare [] b = b
  rest_bare (r ∷ os) b = b.1

  pub pop_reached : Place (get_or (after l c n) 4 []) (tags_of (rest_of R.os)) c.regions c.current → Reached (popped (made l c n))
  unfolding popped made with_tables on_table
  pop_reached p =
      reached_by (popped (made l c n)) (rest_of R.os) (
      subst (λ (x : Table). Wrapped (after l c n) (popped (made l c n)).tables (reverse c.regions) x) (
      ap without_last (inside_opened (after l c n) _ _ ∙ still_open) ∙ without_reverse R.os) (
      wrapped (after l c n) (reverse c.regions) _ _ after_size)) (rest_facts R.os old_facts) (
      λ z. rest_bare R.os (R.begun (root_back n.tables (after l c n) grown z))) refl p
