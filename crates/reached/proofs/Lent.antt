-- The store that an accepted event leaves is what the next call reads from the slices; it is in order and in slices that are long enough.
use mathlib.Core.Path.{◌≡◌, refl}
use mathlib.Core.Bool.{Bool, true, false, ◌&&◌, false≢true}
use mathlib.Core.List.{[]}
use lib.ListN.{length, get_or}
use lib.Dec.{leb}
use borrow.Author.Tests.{leb-true, le-leb}
use native.Mathlib.Omega.{arith}
use Rattle.definition.specs.declared.Limits.{Limits}
use Rattle.definition.specs.Rows.{schema, Store}
use Rattle.definition.specs.Rules.{table_limits, all_within, counters_within, tables_keep, names_distinct, numbers_fit, open_names_fit, open_regions_fit, is_row_or_zero, keeps_rules}
use Rattle.definition.specs.Reader.{Lent, counts, store_of, position_of, lent_after, long_enough, all_at_most, in_order}
use Rattle.definition.proofs.Lending.{lengths, counts_are, store_back, long_twelve, names_as_many, at_most, chart_one}
use Rattle.definition.proofs.Base.{and_both}
use Rattle.reached.proofs.Tables.{and_left, and_right}
use Rattle.reached.proofs.Growth.{Solid}

-- ---- what the rules say of the counts

record Ruled (L : Limits) (s : Store) : Type 0 where
  within : all_within (table_limits L) s.numbers.tables ≡ true
  charged : leb (length s.text) s.numbers.charge ≡ true
  limited : leb s.numbers.charge L.charge ≡ true
  named : open_names_fit L (get_or s.numbers.tables 9 []) (get_or s.numbers.tables 10 []) ≡ true

fourth : (a b c d e f : Bool) → a && b && c && d && e && f ≡ true → d ≡ true
fourth a b c d e f h = and_right (a && b && c) d (and_left (a && b && c && d) e (and_left (a && b && c && d && e) f h))

ruled : (L : Limits) (s : Store) → keeps_rules L s ≡ true → Ruled L s
unfolding keeps_rules counters_within
ruled L s e = go (a && b && c) refl
  where
    a : Bool
    a = all_within (table_limits L) s.numbers.tables

    b₁ : Bool
    b₁ = leb s.numbers.ids L.drawn && leb s.numbers.docs L.drawn && leb s.numbers.names L.drawn

    b : Bool
    b = b₁ && leb s.numbers.charge L.charge

    c : Bool
    c = leb (length s.text) s.numbers.charge

    fit : Bool
    fit = open_names_fit L (get_or s.numbers.tables 9 []) (get_or s.numbers.tables 10 [])

    go : (d : Bool) → a && b && c ≡ d → Ruled L s
    go true f =
        let r : tables_keep s schema s.numbers.tables && names_distinct s && numbers_fit s.numbers && fit && open_regions_fit s.numbers && is_row_or_zero s.numbers 3 s.numbers.current ≡ true = rw (f, keeps_rules) at e in
        record {
          within = and_left a b (and_left (a && b) c f);
          charged = and_right (a && b) c f;
          limited = and_right b₁ (leb s.numbers.charge L.charge) (and_right a b (and_left (a && b) c f));
          named = fourth (tables_keep s schema s.numbers.tables) (names_distinct s) (numbers_fit s.numbers) fit (open_regions_fit s.numbers) (is_row_or_zero s.numbers 3 s.numbers.current) r;
        }
    go false f = absurd (false≢true (rw (f, keeps_rules) at e))

-- ---- after an accepted event

module _ (L : Limits) (x : Lent) (s : Store) (long : long_enough L x ≡ true) (S : Solid s.numbers.tables) (K : keeps_rules L s ≡ true) where
  counted : counts (position_of s) ≡ lengths s.numbers.tables
  counted = counts_are s S.size (chart_one L s.numbers.tables (ruled L s K).within S.chart) (names_as_many L (get_or s.numbers.tables 9 []) (get_or s.numbers.tables 10 []) (ruled L s K).named)

  pub read_back : store_of (lent_after x s) (position_of s) ≡ s
  read_back = store_back x s counted (let z : length s.numbers.tables ≡ 12 = S.size in omega (arith, long_twelve L x long))

  used_few : leb (position_of s).used L.charge ≡ true
  unfolding position_of
  used_few = le-leb (length s.text) L.charge (omega (arith, leb-true (length s.text) s.numbers.charge (ruled L s K).charged, leb-true s.numbers.charge L.charge (ruled L s K).limited))

  pub in_order_lem : in_order L (lent_after x s) (position_of s) ≡ true
  unfolding in_order
  in_order_lem =
      rw (and_both (all_at_most (counts (position_of s)) (table_limits L)) (leb (position_of s).used L.charge) (rw counted (at_most (table_limits L) s.numbers.tables (ruled L s K).within)) used_few, in_order) (
      rw read_back K)
