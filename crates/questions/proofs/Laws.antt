-- The rules of a store from the tests of its tables.
use mathlib.Core.Path.{◌≡◌, refl, sym}
use mathlib.Core.Bool.{Bool, true, false, ◌&&◌}
use mathlib.Core.List.{List, [], ◌∷◌}
use lib.ListN.{replicate}
use Rattle.definition.specs.Limits.{limits01}
use Rattle.definition.specs.Rows.{Table, Class, free, table, schema, Numbers, table_of, Store, chart_columns, state_columns, transition_columns, region_columns, entry_columns, invoke_columns, datum_columns, parameter_columns, member_columns, opened_columns, open_region_columns}
use Rattle.definition.specs.Rules.{rows_keep, tables_keep, rises, none_in, numbers_fit, names_distinct, open_names_fit, open_regions_fit, is_row_or_zero}
use Rattle.columns.specs.declared.numbered.Known.{Known}
use Rattle.columns.specs.Sees.{Sees}
use Rattle.definition.specs.declared.Position.{Position}
use Rattle.definition.proofs.Base.{and_true, elim_and}
use Rattle.rows.specs.declared.lent.Tables.{Tables}
use Rattle.rows.specs.Lent.{tables, seen_of}
use Rattle.questions.specs.Lent.{store, rules_kept, KnownOf}

pub tables_more : (s : Store) (cs : List Class) (css : List (List Class)) (t : Table) (ts : List Table) → tables_keep s (cs ∷ css) (t ∷ ts) ≡ rows_keep s cs t && tables_keep s css ts
unfolding tables_keep
tables_more s cs css t ts = elim_and (rows_keep s cs t) (tables_keep s css ts)

tables_none : (s : Store) → tables_keep s [] [] ≡ true
unfolding tables_keep
tables_none s = refl

third_false : (a b c d e f : Bool) → c ≡ false → false ≡ a && b && c && d && e && f
third_false a b c d e f z = rw z (go (a && b))
  where
    go : (x : Bool) → false ≡ x && false && d && e && f
    go true = refl
    go false = refl

pub unfit : (s : Store) → numbers_fit s.numbers ≡ false → false ≡ rules_kept limits01 s
unfolding rules_kept
unfit s e =
    third_false (tables_keep s schema s.numbers.tables) (names_distinct s) (numbers_fit s.numbers)
    (open_names_fit limits01 (table_of s.numbers table.opened) (table_of s.numbers table.open_names)) (open_regions_fit s.numbers) (is_row_or_zero s.numbers table.regions s.numbers.current)
    e

module _ (x : Tables) (p : Position) where
  abbrev pub it_is : Store
  it_is = store (seen_of x).tables x.text.now p

  abbrev tr : Table
  tr = x.transitions.now

  abbrev re : Table
  re = x.regions.now

  pub sees : {k : Known} → KnownOf x p k → Sees it_is k
  sees e = record { states = e.states; entries = e.entries; invokes = e.invokes; parameters = e.parameters; ids = e.ids; docs = e.docs; used = e.used; transitions = e.transitions; regions = e.regions }

  -- Numbers that do not fit, in the order in which the code asks.
  pub not_rising : {b : Bool} → b ≡ rises 0 tr → b ≡ false → false ≡ rules_kept limits01 it_is
  unfolding numbers_fit
  not_rising e f = unfit it_is (rw (← e, f))

  pub nor_rising : {b : Bool} → b ≡ rises 0 re → b ≡ false → false ≡ rules_kept limits01 it_is
  unfolding numbers_fit
  nor_rising e f = unfit it_is (rw (← e, f) (go (rises 0 tr)))
    where
      go : (x : Bool) → (x && false && none_in re tr) ≡ false
      go true = refl
      go false = refl

  pub not_apart : {b : Bool} → b ≡ none_in re tr → b ≡ false → false ≡ rules_kept limits01 it_is
  unfolding numbers_fit
  not_apart e f = unfit it_is (rw (← e, f) (go (rises 0 tr && rises 0 re)))
    where
      go : (x : Bool) → (x && false) ≡ false
      go true = refl
      go false = refl

-- ---- twelve tables

tables_all : (s : Store) (c0 c1 c2 c3 c4 c5 c6 c7 c8 c9 c10 c11 : List Class) (t0 t1 t2 t3 t4 t5 t6 t7 t8 t9 t10 t11 : Table) → tables_keep s (c0 ∷ c1 ∷ c2 ∷ c3 ∷ c4 ∷ c5 ∷ c6 ∷ c7 ∷ c8 ∷ c9 ∷ c10 ∷ c11 ∷ []) (t0 ∷ t1 ∷ t2 ∷ t3 ∷ t4 ∷ t5 ∷ t6 ∷ t7 ∷ t8 ∷ t9 ∷ t10 ∷ t11 ∷ []) ≡ rows_keep s c0 t0 && (rows_keep s c1 t1 && (rows_keep s c2 t2 && (rows_keep s c3 t3 && (rows_keep s c4 t4 && (rows_keep s c5 t5 && (rows_keep s c6 t6 && (rows_keep s c7 t7 && (rows_keep s c8 t8 && (rows_keep s c9 t9 && (rows_keep s c10 t10 && (rows_keep s c11 t11)))))))))))
tables_all s c0 c1 c2 c3 c4 c5 c6 c7 c8 c9 c10 c11 t0 t1 t2 t3 t4 t5 t6 t7 t8 t9 t10 t11 = simp (tables_more, tables_none, and_true)

pub rows_is : (s : Store) (t0 t1 t2 t3 t4 t5 t6 t7 t8 t9 t10 t11 : Table) {b0 b1 b2 b3 b4 b5 b6 b7 b8 b9 b10 b11 : Bool} → b0 ≡ rows_keep s chart_columns t0 → b1 ≡ rows_keep s state_columns t1 → b2 ≡ rows_keep s transition_columns t2 → b3 ≡ rows_keep s region_columns t3 → b4 ≡ rows_keep s entry_columns t4 → b5 ≡ rows_keep s invoke_columns t5 → b6 ≡ rows_keep s datum_columns t6 → b7 ≡ rows_keep s parameter_columns t7 → b8 ≡ rows_keep s member_columns t8 → b9 ≡ rows_keep s opened_columns t9 → b10 ≡ rows_keep s (replicate 64 free) t10 → b11 ≡ rows_keep s open_region_columns t11 → (b0 && (b1 && (b2 && (b3 && (b4 && (b5 && (b6 && (b7 && (b8 && (b9 && (b10 && (b11)))))))))))) ≡ tables_keep s schema (tables t0 t1 t2 t3 t4 t5 t6 t7 t8 t9 t10 t11)
unfolding schema
rows_is s t0 t1 t2 t3 t4 t5 t6 t7 t8 t9 t10 t11 e0 e1 e2 e3 e4 e5 e6 e7 e8 e9 e10 e11 = rw (e0, e1, e2, e3, e4, e5, e6, e7, e8, e9, e10, e11) (sym (tables_all s chart_columns state_columns transition_columns region_columns entry_columns invoke_columns datum_columns parameter_columns member_columns opened_columns (replicate 64 free) open_region_columns t0 t1 t2 t3 t4 t5 t6 t7 t8 t9 t10 t11))

six : (T N F O G C : Bool) {t n o g c : Bool} → t ≡ T → n ≡ N → F ≡ true → o ≡ O → g ≡ G → c ≡ C → (t && n && o && g && c) ≡ (T && N && F && O && G && C)
six T N F O G C et en ef eo eg ec = rw (et, en, ef, eo, eg, ec, and_true (T && N))

pub kept_is : (s : Store) {t n o g c : Bool} → t ≡ tables_keep s schema s.numbers.tables → n ≡ names_distinct s → numbers_fit s.numbers ≡ true → o ≡ open_names_fit limits01 (table_of s.numbers table.opened) (table_of s.numbers table.open_names) → g ≡ open_regions_fit s.numbers → c ≡ is_row_or_zero s.numbers table.regions s.numbers.current → (t && n && o && g && c) ≡ rules_kept limits01 s
unfolding rules_kept
kept_is s et en ef eo eg ec =
    six (tables_keep s schema s.numbers.tables) (names_distinct s) (numbers_fit s.numbers)
    (open_names_fit limits01 (table_of s.numbers table.opened) (table_of s.numbers table.open_names)) (open_regions_fit s.numbers) (is_row_or_zero s.numbers table.regions s.numbers.current)
    et en ef eo eg ec

pub fit_is : (n : Numbers) → rises 0 (table_of n table.transitions) ≡ true → rises 0 (table_of n table.regions) ≡ true → none_in (table_of n table.regions) (table_of n table.transitions) ≡ true → numbers_fit n ≡ true
unfolding numbers_fit
fit_is n a b c = rw (a, b, c)
