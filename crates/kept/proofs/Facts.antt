-- The rules as a test, and as facts.
use Prim.Native.Nat.{ℕ, zero, suc, ◌≤◌}
use mathlib.Core.Path.{◌≡◌, refl, sym, ap, ◌∙◌}
use mathlib.Core.Bool.{Bool, true, false, ◌&&◌}
use mathlib.Core.List.{List, [], ◌∷◌}
use lib.ListN.{length, get_or}
use lib.Dec.{eqb, leb, ltb}
use native.Mathlib.Omega.{arith}
use Rattle.definition.specs.declared.Limits.{Limits}
use Rattle.definition.specs.Rows.{Row, Table, Class, num, columns_of, schema, Numbers, table_of, Store}
use Rattle.definition.specs.Actions.{place_of_number}
use Rattle.definition.specs.Rules.{columns_keep, rows_keep, tables_keep, names_distinct, rises, none_in, numbers_fit, open_names_fit, open_regions_fit, open_tags_fit, blocks_in, is_row_or_zero, all_within, table_limits, counters_within, keeps_rules}
use Rattle.definition.proofs.Lending.{names_as_many}
use Rattle.kept.proofs.Base.{and_left, and_right, and_both, false_is_true, le_of, leb_of, eq_of, eqb_of, All, All-map}
use Rattle.kept.proofs.Classes.{view_of, Nums, Texts, columns_from, columns_to, or_zero_from, or_zero_to}
use Rattle.kept.proofs.Grow.{Absent, absent_to, absent_from, ext_refl}
use Rattle.kept.proofs.Tables.{RowOk, Rises, NumbersOk}
use Rattle.kept.proofs.Okay.{OkOf}

-- ---- rows and tables

Kept : Store → List Class → Row → Type 0
Kept s cs r = Nums (view_of s) r cs r × Texts (length s.text) cs r

rows_cons : (s : Store) (cs : List Class) (r : Row) (rs : Table) → rows_keep s cs (r ∷ rs) ≡ (columns_keep s r cs r && rows_keep s cs rs)
unfolding rows_keep
rows_cons s cs r rs = go (columns_keep s r cs r) refl
  where
    go : (b : Bool) → columns_keep s r cs r ≡ b → rows_keep s cs (r ∷ rs) ≡ (b && rows_keep s cs rs)
    go true e = rw (e, rows_keep)
    go false e = rw (e, rows_keep)

rows_from : (s : Store) (cs : List Class) (rs : Table) → rows_keep s cs rs ≡ true → All (Kept s cs) rs
unfolding Kept
rows_from s cs [] e = tt
rows_from s cs (r ∷ rs) e =
    let f : (columns_keep s r cs r && rows_keep s cs rs) ≡ true = sym (rows_cons s cs r rs) ∙ e in
    (columns_from s r cs r (and_left (columns_keep s r cs r) (rows_keep s cs rs) f), rows_from s cs rs (and_right (columns_keep s r cs r) (rows_keep s cs rs) f))

rows_to : (s : Store) (cs : List Class) (rs : Table) → All (Kept s cs) rs → rows_keep s cs rs ≡ true
unfolding Kept rows_keep
rows_to s cs [] a = refl
rows_to s cs (r ∷ rs) a = rows_cons s cs r rs ∙ and_both (columns_keep s r cs r) (rows_keep s cs rs) (columns_to s r cs r a.0.0 a.0.1) (rows_to s cs rs a.1)

tables_cons : (s : Store) (cs : List Class) (css : List (List Class)) (t : Table) (ts : List Table) → tables_keep s (cs ∷ css) (t ∷ ts) ≡ (rows_keep s cs t && tables_keep s css ts)
unfolding tables_keep
tables_cons s cs css t ts = go (rows_keep s cs t) refl
  where
    go : (b : Bool) → rows_keep s cs t ≡ b → tables_keep s (cs ∷ css) (t ∷ ts) ≡ (b && tables_keep s css ts)
    go true e = rw (e, tables_keep)
    go false e = rw (e, tables_keep)

tables_from : (s : Store) (css : List (List Class)) (ts : List Table) → tables_keep s css ts ≡ true → (length ts ≡ length css) × ((k : ℕ) → All (Kept s (get_or css k [])) (get_or ts k []))
unfolding tables_keep
tables_from s [] [] e = (refl, λ k. tt)
tables_from s [] (t ∷ ts) e = false_is_true e
tables_from s (cs ∷ css) [] e = false_is_true e
tables_from s (cs ∷ css) (t ∷ ts) e =
    let f : (rows_keep s cs t && tables_keep s css ts) ≡ true = sym (tables_cons s cs css t ts) ∙ e in
    let ih = tables_from s css ts (and_right (rows_keep s cs t) (tables_keep s css ts) f) in
    (ap suc ih.0, more (rows_from s cs t (and_left (rows_keep s cs t) (tables_keep s css ts) f)) ih.1)
  where
    more : All (Kept s cs) t → ((k : ℕ) → All (Kept s (get_or css k [])) (get_or ts k [])) → (k : ℕ) → All (Kept s (get_or (cs ∷ css) k [])) (get_or (t ∷ ts) k [])
    more a h zero = a
    more a h (suc k) = h k

tables_to : (s : Store) (css : List (List Class)) (ts : List Table) → length ts ≡ length css → ((k : ℕ) → All (Kept s (get_or css k [])) (get_or ts k [])) → tables_keep s css ts ≡ true
unfolding tables_keep
tables_to s [] [] e h = refl
tables_to s [] (t ∷ ts) e h = absurd (omega arith)
tables_to s (cs ∷ css) [] e h = absurd (omega arith)
tables_to s (cs ∷ css) (t ∷ ts) e h =
    tables_cons s cs css t ts ∙ and_both (rows_keep s cs t) (tables_keep s css ts) (rows_to s cs t (h 0)) (tables_to s css ts (omega arith) (λ k. h (suc k)))

-- ---- numbers of transitions and regions

rises_cons : (low : ℕ) (r : Row) (rs : Table) → rises low (r ∷ rs) ≡ (ltb low (num r 0) && rises (num r 0) rs)
unfolding rises
rises_cons low r rs = go (ltb low (num r 0)) refl
  where
    go : (b : Bool) → ltb low (num r 0) ≡ b → rises low (r ∷ rs) ≡ (b && rises (num r 0) rs)
    go true e = rw (e, rises)
    go false e = rw (e, rises)

rises_from : (low : ℕ) (rs : Table) → rises low rs ≡ true → Rises low rs
unfolding Rises
rises_from low [] e = tt
rises_from low (r ∷ rs) e =
    let f : (ltb low (num r 0) && rises (num r 0) rs) ≡ true = sym (rises_cons low r rs) ∙ e in
    (le_of (suc low) (num r 0) (and_left (ltb low (num r 0)) (rises (num r 0) rs) f), rises_from (num r 0) rs (and_right (ltb low (num r 0)) (rises (num r 0) rs) f))

rises_to : (low : ℕ) (rs : Table) → Rises low rs → rises low rs ≡ true
unfolding Rises rises
rises_to low [] h = refl
rises_to low (r ∷ rs) h = rises_cons low r rs ∙ and_both (ltb low (num r 0)) (rises (num r 0) rs) (leb_of (suc low) (num r 0) h.0) (rises_to (num r 0) rs h.1)

none_cons : (us : Table) (r : Row) (rs : Table) → none_in us (r ∷ rs) ≡ (eqb (place_of_number us (num r 0)) 0 && none_in us rs)
unfolding none_in
none_cons us r rs = go (eqb (place_of_number us (num r 0)) 0) refl
  where
    go : (b : Bool) → eqb (place_of_number us (num r 0)) 0 ≡ b → none_in us (r ∷ rs) ≡ (b && none_in us rs)
    go true e = rw (e, none_in)
    go false e = rw (e, none_in)

none_from : (us rs : Table) → none_in us rs ≡ true → All (λ (r : Row). Absent us (num r 0)) rs
none_from us [] e = tt
none_from us (r ∷ rs) e =
    let p = eqb (place_of_number us (num r 0)) 0 in
    let f : (p && none_in us rs) ≡ true = sym (none_cons us r rs) ∙ e in
    (absent_from us (num r 0) (eq_of (place_of_number us (num r 0)) 0 (and_left p (none_in us rs) f)), none_from us rs (and_right p (none_in us rs) f))

none_to : (us rs : Table) → All (λ (r : Row). Absent us (num r 0)) rs → none_in us rs ≡ true
unfolding none_in
none_to us [] a = refl
none_to us (r ∷ rs) a =
    none_cons us r rs
    ∙ and_both (eqb (place_of_number us (num r 0)) 0) (none_in us rs) (eqb_of (place_of_number us (num r 0)) 0 (absent_to us (num r 0) a.0)) (none_to us rs a.1)

fit_from : (n : Numbers) → numbers_fit n ≡ true → NumbersOk n.tables
unfolding numbers_fit
fit_from n e =
    let a = rises 0 (table_of n 2) in
    let b = rises 0 (table_of n 3) in
    let c = none_in (table_of n 3) (table_of n 2) in
    let ab : (a && b) ≡ true = and_left (a && b) c e in
    record {
      transitions = rises_from 0 (table_of n 2) (and_left a b ab);
      regions = rises_from 0 (table_of n 3) (and_right a b ab);
      apart = none_from (table_of n 3) (table_of n 2) (and_right (a && b) c e);
    }

fit_to : (n : Numbers) → NumbersOk n.tables → numbers_fit n ≡ true
unfolding numbers_fit
fit_to n h =
    let a = rises 0 (table_of n 2) in
    let b = rises 0 (table_of n 3) in
    let c = none_in (table_of n 3) (table_of n 2) in
    and_both (a && b) c (and_both a b (rises_to 0 (table_of n 2) h.transitions) (rises_to 0 (table_of n 3) h.regions)) (none_to (table_of n 3) (table_of n 2) h.apart)

-- ---- all rules

pub record Within (L : Limits) (s : Store) : Type 0 where
  pub tables : all_within (table_limits L) s.numbers.tables ≡ true
  pub counters : counters_within L s.numbers ≡ true
  pub text : length s.text ≤ s.numbers.charge

sizes : Limits → Store → Bool
sizes L s = (all_within (table_limits L) s.numbers.tables && counters_within L s.numbers) && leb (length s.text) s.numbers.charge

rest : Limits → Store → Bool
rest L s =
    ((((tables_keep s schema s.numbers.tables && names_distinct s) && numbers_fit s.numbers) && open_names_fit L (table_of s.numbers 9) (table_of s.numbers 10)) && open_regions_fit s.numbers)
    && is_row_or_zero s.numbers 3 s.numbers.current

rules_and : (L : Limits) (s : Store) → keeps_rules L s ≡ (sizes L s && rest L s)
unfolding keeps_rules sizes rest
rules_and L s = go (sizes L s) refl
  where
    go : (b : Bool) → sizes L s ≡ b → keeps_rules L s ≡ (b && rest L s)
    go true e = rw (e, keeps_rules)
    go false e = rw (e, keeps_rules)

ok_from : (L : Limits) (s : Store) → rest L s ≡ true → OkOf L s.text s.numbers
unfolding rest names_distinct open_regions_fit columns_of Kept
ok_from L s e =
    let n : Numbers = s.numbers in
    let a = tables_keep s schema n.tables in
    let b = names_distinct s in
    let c = numbers_fit n in
    let d = open_names_fit L (table_of n 9) (table_of n 10) in
    let f = open_regions_fit n in
    let g = is_row_or_zero n 3 n.current in
    let e₅ : ((((a && b) && c) && d) && f) ≡ true = and_left ((((a && b) && c) && d) && f) g e in
    let e₄ : (((a && b) && c) && d) ≡ true = and_left (((a && b) && c) && d) f e₅ in
    let e₃ : ((a && b) && c) ≡ true = and_left ((a && b) && c) d e₄ in
    let e₂ : (a && b) ≡ true = and_left (a && b) c e₃ in
    let rs = tables_from s schema n.tables (and_left a b e₂) in
    let op : f ≡ true = and_right (((a && b) && c) && d) f e₅ in
    let p = open_tags_fit 0 (table_of n 11) in
    let q = leb (blocks_in 1 (table_of n 11)) (blocks_in 0 (table_of n 9)) in
    record {
      sound =
          record {
            twelve = rs.0;
            rows = λ t. All-map (Kept s (get_or schema t [])) (RowOk (view_of s) t) (λ r x. record { nums = x.0; texts = x.1 }) (get_or n.tables t []) (rs.1 t);
            fit = fit_from n (and_right (a && b) c e₃);
            names = refl;
            opened = refl;
            open_names = refl;
            grown = λ t. ext_refl t (get_or n.tables t []);
          };
      names = and_right a b e₂;
      opens = and_right ((a && b) && c) d e₄;
      even = names_as_many L (table_of n 9) (table_of n 10) (and_right ((a && b) && c) d e₄);
      tags = and_left p q op;
      blocks = le_of (blocks_in 1 (table_of n 11)) (blocks_in 0 (table_of n 9)) (and_right p q op);
      current = or_zero_from n 3 n.current (and_right ((((a && b) && c) && d) && f) g e);
    }

ok_to : (L : Limits) (s : Store) → OkOf L s.text s.numbers → rest L s ≡ true
unfolding rest names_distinct open_regions_fit columns_of Kept
ok_to L s K =
    let n : Numbers = s.numbers in
    let a = tables_keep s schema n.tables in
    let b = names_distinct s in
    let c = numbers_fit n in
    let d = open_names_fit L (table_of n 9) (table_of n 10) in
    let f = open_regions_fit n in
    let g = is_row_or_zero n 3 n.current in
    let p = open_tags_fit 0 (table_of n 11) in
    let q = leb (blocks_in 1 (table_of n 11)) (blocks_in 0 (table_of n 9)) in
    let ha : a ≡ true =
    tables_to s schema n.tables K.sound.twelve (λ t. All-map (RowOk (view_of s) t) (Kept s (get_or schema t [])) (λ r x. (x.nums, x.texts)) (get_or n.tables t []) (K.sound.rows t)) in
    let hf : f ≡ true = and_both p q K.tags (leb_of (blocks_in 1 (table_of n 11)) (blocks_in 0 (table_of n 9)) K.blocks) in
    and_both ((((a && b) && c) && d) && f) g
    (and_both (((a && b) && c) && d) f (and_both ((a && b) && c) d (and_both (a && b) c (and_both a b ha K.names) (fit_to n K.sound.fit)) K.opens) hf) (or_zero_to n 3 n.current K.current)

pub rules_from : (L : Limits) (s : Store) → keeps_rules L s ≡ true → Within L s × OkOf L s.text s.numbers
unfolding sizes
rules_from L s e =
    let f : (sizes L s && rest L s) ≡ true = sym (rules_and L s) ∙ e in
    let g : sizes L s ≡ true = and_left (sizes L s) (rest L s) f in
    let a = all_within (table_limits L) s.numbers.tables in
    let b = counters_within L s.numbers in
    let c = leb (length s.text) s.numbers.charge in
    let ab : (a && b) ≡ true = and_left (a && b) c g in (
      record { tables = and_left a b ab; counters = and_right a b ab; text = le_of (length s.text) s.numbers.charge (and_right (a && b) c g) },
      ok_from L s (and_right (sizes L s) (rest L s) f),
    )

pub rules_to : (L : Limits) (s : Store) → Within L s → OkOf L s.text s.numbers → keeps_rules L s ≡ true
unfolding sizes
rules_to L s W K =
    let a = all_within (table_limits L) s.numbers.tables in
    let b = counters_within L s.numbers in
    let c = leb (length s.text) s.numbers.charge in
    rules_and L s ∙ and_both (sizes L s) (rest L s) (and_both (a && b) c (and_both a b W.tables W.counters) (leb_of (length s.text) s.numbers.charge W.text)) (ok_to L s K)
