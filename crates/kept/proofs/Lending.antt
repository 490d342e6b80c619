-- What a call leaves and gives back is in order again.
use Prim.Native.Nat.{ℕ, zero, suc, ◌≤◌}
use mathlib.Core.Path.{◌≡◌, refl, ap, ◌∙◌}
use mathlib.Core.Bool.{Bool, true, false, ◌&&◌}
use mathlib.Core.List.{List}
use lib.ListN.{length}
use lib.Dec.{leb}
use native.Mathlib.Omega.{arith}
use Rattle.definition.specs.declared.Limits.{Limits}
use Rattle.definition.specs.Rows.{Numbers, table_of, Store}
use Rattle.definition.specs.Rules.{chart_limits, open_limits, table_limits, counters_within, keeps_rules}
use Rattle.definition.specs.declared.Position.{Position}
use Rattle.definition.specs.Reader.{Lent, counts, store_of, position_of, lent_after, all_long, long_enough, all_at_most, in_order, Call, event, reading, Reply, event_reply, Answer, refused, answer_of, answer_to, call, exists}
use Rattle.definition.proofs.Lending.{counts_are, store_back, long_after, long_many, at_most, chart_there}
use Rattle.kept.specs.Statements.{StaysInOrder}
use Rattle.kept.proofs.Base.{le_of, leb_of, and_left, and_right, and_both, false_is_true}
use Rattle.kept.proofs.Okay.{OkOf}
use Rattle.kept.proofs.Facts.{Within, rules_from}
use Rattle.kept.proofs.Sizes.{within_at}
use Rattle.kept.proofs.RulesKept.{kept_from}

-- ---- what is in use afterwards is the store

store_after : (x : Lent) (s : Store) → length s.numbers.tables ≡ 12 → length (table_of s.numbers 0) ≡ 1 → length (table_of s.numbers 10) ≡ length (table_of s.numbers 9) → 12 ≤ length x.tables
    → store_of (lent_after x s) (position_of s) ≡ s
store_after x s w e f h = store_back x s (counts_are s w e f) (omega (arith, w, h))

-- ---- in order

in_order_after : (L : Limits) (x : Lent) (s : Store) → long_enough L x ≡ true → keeps_rules L s ≡ true → 1 ≤ length (table_of s.numbers 0) → in_order L (lent_after x s) (position_of s) ≡ true
unfolding in_order
in_order_after L x s e rules one =
    let F = rules_from L s rules in
    let W : Within L s = F.0 in
    let K : OkOf L s.text s.numbers = F.1 in
    let n : Numbers = s.numbers in
    let w : length n.tables ≡ 12 = K.sound.twelve in
    let c : length (table_of n 0) ≡ 1 = omega (arith, one, chart_most W w) in
    let h : 12 ≤ length x.tables = enough in
    let a : all_at_most (counts (position_of s)) (table_limits L) ≡ true = ap (λ (ks : List ℕ). all_at_most ks (table_limits L)) (counts_are s w c K.even) ∙ at_most (table_limits L) n.tables W.tables in
    let b : leb (position_of s).used L.charge ≡ true = used_most W in
    rw (and_both (all_at_most (counts (position_of s)) (table_limits L)) (leb (position_of s).used L.charge) a b, in_order) (ap (keeps_rules L) (store_after x s w c K.even h) ∙ rules)
  where
    chart_most : Within L s → length s.numbers.tables ≡ 12 → length (table_of s.numbers 0) ≤ 1
    chart_most W w = unfold table_limits chart_limits in within_at (table_limits L) s.numbers.tables 0 W.tables (omega arith) (omega (arith, w))

    enough : 12 ≤ length x.tables
    enough = unfold long_enough table_limits chart_limits open_limits in omega (arith, long_many (table_limits L) x.tables (and_left (all_long (table_limits L) x.tables) (leb L.charge (length x.text)) e))

    used_most : Within L s → leb (position_of s).used L.charge ≡ true
    used_most W = unfold position_of counters_within in
        leb_of (length s.text) L.charge (omega (arith, W.text, le_of s.numbers.charge L.charge (and_right ((leb s.numbers.ids L.drawn && leb s.numbers.docs L.drawn) && leb s.numbers.names L.drawn) (leb s.numbers.charge L.charge) W.counters)))

pub rules_of : (L : Limits) (x : Lent) (p : Position) → in_order L x p ≡ true → keeps_rules L (store_of x p) ≡ true
unfolding in_order
rules_of L x p e = go (all_at_most (counts p) (table_limits L) && leb p.used L.charge) refl
  where
    go : (b : Bool) → (all_at_most (counts p) (table_limits L) && leb p.used L.charge) ≡ b → keeps_rules L (store_of x p) ≡ true
    go true f = rw (f, in_order) at e
    go false f = let z : false ≡ true = rw (f, in_order) at e in false_is_true z

-- ---- a call

abbrev Again : Limits → Answer → Type 0
Again L a = (long_enough L a.lent ≡ true) × (in_order L a.lent a.position ≡ true)

answer_again : (L : Limits) (x : Lent) (p : Position) (r : Reply) → long_enough L x ≡ true → in_order L x p ≡ true → keeps_rules L r.store ≡ true → 1 ≤ length (table_of r.store.numbers 0) → Again L (answer_of x p r)
unfolding answer_of refused
answer_again L x p r e f k one = go r.number refl
  where
    go : (m : ℕ) → r.number ≡ m → Again L (answer_of x p r)
    go zero z = rw (z, answer_of) (long_after L x r.store e, in_order_after L x r.store e k one)
    go (suc m) z = rw (z, answer_of) (e, f)

pub stays_in_order : StaysInOrder
unfolding call
stays_in_order L x p c short e f = rw (e, call, f, call) (answered c)
  where
    answered : (c : Call) → Again L (answer_to L x p c)
    answered (event raw) = unfold answer_to in
        let R = kept_from L (store_of x p) raw short (rules_of L x p f) in
        answer_again L x p (event_reply L (store_of x p) raw) e f R.0 (omega (arith, R.1, chart_there L x p e))
    answered (reading t i) = read (exists (store_of x p).numbers t i) refl
      where
        read : (b : Bool) → exists (store_of x p).numbers t i ≡ b → Again L (answer_to L x p (reading t i))
        read true z = unfold answer_to refused in rw (z, answer_to) (e, f)
        read false z = unfold answer_to refused in rw (z, answer_to) (e, f)
