-- The open elements and regions replaced, the other tables left.
use Prim.Native.Nat.{ℕ, ◌≤◌, ◌<◌}
use mathlib.Core.Path.{◌≡◌, refl, sym, ap, ◌∙◌, subst}
use mathlib.Core.Bool.{true, not}
use mathlib.Core.List.{List, []}
use lib.ListN.{length, get_or, set, length-set, get_or-eq_default}
use lib.Dec.{eqb, leb}
use lib.Seq.{get_or-set_other, get_or-set_same}
use native.Mathlib.Omega.{arith}
use Rattle.definition.specs.Rows.{Table}
use Rattle.kept.proofs.Base.{T_of, le_of, eq_of, neq_of, test, All}
use Rattle.kept.proofs.Grow.{ext_refl}
use Rattle.kept.proofs.Tables.{RowOk}
use Rattle.kept.proofs.Sound.{at, Sound}
use Rattle.kept.proofs.Low.{Grows8, rows_ok_low, has_same}

abbrev pub reopened : List Table → Table → Table → Table → List Table
reopened T a b c = set (set (set T 11 c) 10 b) 9 a

module _ (u : ℕ) (T₀ T : List Table) (i d : ℕ) (S : Sound u T₀ T i d) (a b c : Table) where
  abbrev U : List Table
  U = reopened T a b c

  pub low_same : (t : ℕ) → leb t 8 ≡ true → get_or U t [] ≡ get_or T t []
  low_same t e =
      let k : t ≤ 8 = le_of t 8 e in
      get_or-set_other (set (set T 11 c) 10 b) 9 t a [] (omega arith) ∙ get_or-set_other (set T 11 c) 10 t b [] (omega arith) ∙ get_or-set_other T 11 t c [] (omega arith)

  pub at_nine : get_or U 9 [] ≡ a
  at_nine = get_or-set_same (set (set T 11 c) 10 b) 9 a [] (omega (arith, length-set (set T 11 c) 10 b, length-set T 11 c, S.twelve))

  pub at_ten : get_or U 10 [] ≡ b
  at_ten = get_or-set_other (set (set T 11 c) 10 b) 9 10 a [] (omega arith) ∙ get_or-set_same (set T 11 c) 10 b [] (omega (arith, length-set T 11 c, S.twelve))

  pub at_eleven : get_or U 11 [] ≡ c
  at_eleven =
      get_or-set_other (set (set T 11 c) 10 b) 9 11 a [] (omega arith) ∙ get_or-set_other (set T 11 c) 10 11 b [] (omega arith) ∙ get_or-set_same T 11 c [] (omega (arith, S.twelve))

  twelve_still : length U ≡ 12
  twelve_still = length-set (set (set T 11 c) 10 b) 9 a ∙ length-set (set T 11 c) 10 b ∙ length-set T 11 c ∙ S.twelve

  pub grows_low : Grows8 (at u T i d) (at u U i d)
  grows_low =
      record {
        rows = λ t v e h. has_same T U t v (low_same t e) h;
        marks = omega (arith, ap length (low_same 7 refl));
        ids = omega arith;
        docs = omega arith;
        used = omega arith;
      }

  module _ (ha : All (RowOk (at u T i d) 9) a) (hb : All (RowOk (at u T i d) 10) b) (hc : All (RowOk (at u T i d) 11) c) where
    rows_at : (t : ℕ) → All (RowOk (at u U i d) t) (get_or U t [])
    rows_at t =
        test (leb t 8) (λ e. subst (All (RowOk (at u U i d) t)) (sym (low_same t e)) (lifted t (get_or T t []) (S.rows t))) (λ e.
        test (eqb t 9) (λ f. there 9 t a ha at_nine (eq_of t 9 f)) (λ f.
        test (eqb t 10) (λ g. there 10 t b hb at_ten (eq_of t 10 g)) (λ g.
        test (eqb t 11) (λ h. there 11 t c hc at_eleven (eq_of t 11 h)) (λ h.
        let k : 8 < t = lib.Dec.nleb→lt t 8 (T_of (not (leb t 8)) (ap not e)) in
        let f' : ¬ (t ≡ 9) = neq_of t 9 f in
        let g' : ¬ (t ≡ 10) = neq_of t 10 g in
        let h' : ¬ (t ≡ 11) = neq_of t 11 h in
        let z : length U ≤ t = omega (arith, twelve_still, k, f', g', h') in
        subst (All (RowOk (at u U i d) t)) (sym (get_or-eq_default U [] z)) tt))))
      where
        lifted : (t : ℕ) (rs : Table) → All (RowOk (at u T i d) t) rs → All (RowOk (at u U i d) t) rs
        lifted t rs p = rows_ok_low (at u T i d) (at u U i d) grows_low t rs p

        there : (k t : ℕ) (rs : Table) → All (RowOk (at u T i d) k) rs → get_or U k [] ≡ rs → t ≡ k → All (RowOk (at u U i d) t) (get_or U t [])
        there k t rs p e f = subst (λ (x : ℕ). All (RowOk (at u U i d) x) (get_or U x [])) (sym f) (subst (All (RowOk (at u U i d) k)) (sym e) (lifted k rs p))

    pub sound_reopened : Sound u U U i d
    sound_reopened =
        let e₂ : get_or U 2 [] ≡ get_or T 2 [] = low_same 2 refl in
        let e₃ : get_or U 3 [] ≡ get_or T 3 [] = low_same 3 refl in
        record {
          twelve = twelve_still;
          rows = rows_at;
          fit = record { transitions = rw e₂ S.fit.transitions; regions = rw e₃ S.fit.regions; apart = rw (e₂, e₃) S.fit.apart };
          names = refl;
          opened = refl;
          open_names = refl;
          grown = λ t. ext_refl t (get_or U t []);
        }
