-- What the edits of a change have made of the tables so far, and the steps that keep it.
use Prim.Native.Nat.{ℕ, suc, ◌≤◌, ◌<◌}
use mathlib.Core.Path.{◌≡◌, refl, ap, ◌∙◌}
use mathlib.Core.Bool.{true, ◌&&◌}
use mathlib.Core.List.{List, [], ◌∷◌, ◌++◌}
use lib.ListN.{length, get_or, set, length-set}
use lib.Dec.{leb}
use lib.Seq.{get_or-set_other, get_or-set_same}
use native.Mathlib.Omega.{arith}
use Rattle.definition.specs.Rows.{Row, Table, num, columns_of}
use Rattle.definition.specs.Look.{name_cells}
use Rattle.definition.specs.Change.{on_table}
use Rattle.kept.proofs.Base.{and_left, and_right, le_of, All, All-map, All-append, get_d_set}
use Rattle.kept.proofs.Classes.{View, Fits, Nums}
use Rattle.kept.proofs.Grow.{Absent, Ext, ExtAll, ext_refl, ext_append, ext_on, all_trans, Grows}
use Rattle.kept.proofs.Tables.{RowOk, rows_ok_grow, NumbersOk, rises_append, below_absent}

abbrev pub at : ℕ → List Table → ℕ → ℕ → View
at u T i d = record { tables = T; ids = i; docs = d; used = u }

-- T₀: the tables before the change; T: the tables now; i and d: what is drawn.
pub record Sound (u : ℕ) (T₀ T : List Table) (i d : ℕ) : Type 0 where
  pub twelve : length T ≡ 12
  pub rows : (t : ℕ) → All (RowOk (at u T i d) t) (get_or T t [])
  pub fit : NumbersOk T
  pub names : name_cells (get_or T 1 []) ≡ name_cells (get_or T₀ 1 [])
  pub opened : get_or T 9 [] ≡ get_or T₀ 9 []
  pub open_names : get_or T 10 [] ≡ get_or T₀ 10 []
  pub grown : ExtAll T₀ T

pub grows_ext : (u : ℕ) (T U : List Table) (i j d e : ℕ) → ExtAll T U → i ≤ j → d ≤ e → Grows (at u T i d) (at u U j e)
grows_ext u T U i j d e x a b = record { rows = x; ids = a; docs = b; used = omega arith }

pub other : (T : List Table) (k j : ℕ) (us : Table) → ¬ (j ≡ k) → get_or (set T k us) j [] ≡ get_or T j []
other T k j us h = get_or-set_other T k j us [] h

-- All rows, after the table k is another.
pub rows_on : (u : ℕ) (T : List Table) (i d k : ℕ) (us : Table) (j e : ℕ) → Ext k (get_or T k []) us → i ≤ j → d ≤ e → ((t : ℕ) → All (RowOk (at u T i d) t) (get_or T t []))
    → All (RowOk (at u (set T k us) j e) k) us → (t : ℕ) → All (RowOk (at u (set T k us) j e) t) (get_or (set T k us) t [])
rows_on u T i d k us j e x a b h p =
    get_d_set (λ t rs. All (RowOk (at u (set T k us) j e) t) rs) T [] k us
    (λ t. rows_ok_grow (at u T i d) (at u (set T k us) j e) (grows_ext u T (set T k us) i j d e (ext_on k T us x) a b) t (get_or T t []) (h t)) p

module _ (u : ℕ) (T₀ T : List Table) (i d : ℕ) (S : Sound u T₀ T i d) where
  -- ---- numbers drawn

  pub sound_draw : (j e : ℕ) → i ≤ j → d ≤ e → Sound u T₀ T j e
  sound_draw j e a b =
      record {
        twelve = S.twelve;
        rows = λ t. rows_ok_grow (at u T i d) (at u T j e) (grows_ext u T T i j d e (λ t. ext_refl t (get_or T t [])) a b) t (get_or T t []) (S.rows t);
        fit = S.fit;
        names = S.names;
        opened = S.opened;
        open_names = S.open_names;
        grown = S.grown;
      }

  -- ---- a row added to a table whose rows have no number of their own

  pub sound_add : (k : ℕ) (r : Row) → (leb 4 k && leb k 8) ≡ true
      → RowOk (at u (on_table k (λ rs. rs ++ r ∷ []) T) i d) k r → Sound u T₀ (on_table k (λ rs. rs ++ r ∷ []) T) i d
  unfolding on_table
  sound_add k r e p =
      let a : 4 ≤ k = le_of 4 k (and_left (leb 4 k) (leb k 8) e) in
      let b : k ≤ 8 = le_of k 8 (and_right (leb 4 k) (leb k 8) e) in
      let us : Table = get_or T k [] ++ r ∷ [] in
      let x : Ext k (get_or T k []) us = ext_append k (get_or T k []) (r ∷ []) in
      let e₂ : get_or (set T k us) 2 [] ≡ get_or T 2 [] = other T k 2 us (omega arith) in
      let e₃ : get_or (set T k us) 3 [] ≡ get_or T 3 [] = other T k 3 us (omega arith) in
      let g : ExtAll T (set T k us) = ext_on k T us x in
      record {
        twelve = length-set T k us ∙ S.twelve;
        rows =
            rows_on u T i d k us i d x (omega arith) (omega arith) S.rows
            (All-append (RowOk (at u (set T k us) i d) k) (get_or T k []) (r ∷ [])
            (rows_ok_grow (at u T i d) (at u (set T k us) i d) (grows_ext u T (set T k us) i i d d g (omega arith) (omega arith)) k (get_or T k []) (S.rows k)) (p, tt));
        fit = record { transitions = rw e₂ S.fit.transitions; regions = rw e₃ S.fit.regions; apart = rw (e₂, e₃) S.fit.apart };
        names = ap name_cells (other T k 1 us (omega arith)) ∙ S.names;
        opened = other T k 9 us (omega arith) ∙ S.opened;
        open_names = other T k 10 us (omega arith) ∙ S.open_names;
        grown = all_trans T₀ T (set T k us) S.grown g;
      }

  -- ---- own numbers are at most what is drawn

  own_at : (t : ℕ) (r : Row) → (t ≡ 2) → RowOk (at u T i d) t r → num r 0 < suc i
  unfolding Nums Fits columns_of
  own_at t [] e h = omega arith
  own_at t (v ∷ vs) e h = let k : RowOk (at u T i d) 2 (v ∷ vs) = rw e at h in omega (arith, k.nums.0.1)

  own_region : (t : ℕ) (r : Row) → (t ≡ 3) → RowOk (at u T i d) t r → num r 0 < suc i
  unfolding Nums Fits columns_of
  own_region t [] e h = omega arith
  own_region t (v ∷ vs) e h = let k : RowOk (at u T i d) 3 (v ∷ vs) = rw e at h in omega (arith, k.nums.0.1)

  pub transitions_below : All (λ (r : Row). num r 0 < suc i) (get_or T 2 [])
  transitions_below = All-map (RowOk (at u T i d) 2) (λ (r : Row). num r 0 < suc i) (λ r. own_at 2 r refl) (get_or T 2 []) (S.rows 2)

  pub regions_below : All (λ (r : Row). num r 0 < suc i) (get_or T 3 [])
  regions_below = All-map (RowOk (at u T i d) 3) (λ (r : Row). num r 0 < suc i) (λ r. own_region 3 r refl) (get_or T 3 []) (S.rows 3)

  -- ---- a transition, a region

  pub sound_transition : (r : Row) (j e : ℕ) → i ≤ j → d ≤ e → num r 0 ≡ suc i
      → RowOk (at u (on_table 2 (λ rs. rs ++ r ∷ []) T) j e) 2 r → Sound u T₀ (on_table 2 (λ rs. rs ++ r ∷ []) T) j e
  unfolding on_table
  sound_transition r j e a b v p =
      let us : Table = get_or T 2 [] ++ r ∷ [] in
      let x : Ext 2 (get_or T 2 []) us = ext_append 2 (get_or T 2 []) (r ∷ []) in
      let e₂ : get_or (set T 2 us) 2 [] ≡ us = get_or-set_same T 2 us [] (omega (arith, S.twelve)) in
      let e₃ : get_or (set T 2 us) 3 [] ≡ get_or T 3 [] = other T 2 3 us (omega arith) in
      let g : ExtAll T (set T 2 us) = ext_on 2 T us x in
      record {
        twelve = length-set T 2 us ∙ S.twelve;
        rows =
            rows_on u T i d 2 us j e x a b S.rows
            (All-append (RowOk (at u (set T 2 us) j e) 2) (get_or T 2 []) (r ∷ [])
            (rows_ok_grow (at u T i d) (at u (set T 2 us) j e) (grows_ext u T (set T 2 us) i j d e g a b) 2 (get_or T 2 []) (S.rows 2)) (p, tt));
        fit =
            record {
              transitions = rw e₂ (rises_append 0 (suc i) (get_or T 2 []) r S.fit.transitions (omega arith) transitions_below v);
              regions = rw e₃ S.fit.regions;
              apart =
                  rw (e₂, e₃)
                  (All-append (λ (q : Row). Absent (get_or T 3 []) (num q 0)) (get_or T 2 []) (r ∷ []) S.fit.apart (rw v (below_absent (suc i) (get_or T 3 []) regions_below), tt));
            };
        names = ap name_cells (other T 2 1 us (omega arith)) ∙ S.names;
        opened = other T 2 9 us (omega arith) ∙ S.opened;
        open_names = other T 2 10 us (omega arith) ∙ S.open_names;
        grown = all_trans T₀ T (set T 2 us) S.grown g;
      }

  still_apart : (r : Row) → num r 0 ≡ suc i → (q : Row) → (num q 0 < suc i) × Absent (get_or T 3 []) (num q 0) → Absent (get_or T 3 [] ++ r ∷ []) (num q 0)
  still_apart r v q h = All-append (λ (x : Row). ¬ (num x 0 ≡ num q 0)) (get_or T 3 []) (r ∷ []) h.1 (λ z. omega (arith, h.0), tt)

  both : (rs : Table) → All (λ (q : Row). num q 0 < suc i) rs → All (λ (q : Row). Absent (get_or T 3 []) (num q 0)) rs
      → All (λ (q : Row). (num q 0 < suc i) × Absent (get_or T 3 []) (num q 0)) rs
  both [] a b = tt
  both (r ∷ rs) a b = ((a.0, b.0), both rs a.1 b.1)

  pub sound_region : (r : Row) (j e : ℕ) → i ≤ j → d ≤ e → num r 0 ≡ suc i
      → RowOk (at u (on_table 3 (λ rs. rs ++ r ∷ []) T) j e) 3 r → Sound u T₀ (on_table 3 (λ rs. rs ++ r ∷ []) T) j e
  unfolding on_table
  sound_region r j e a b v p =
      let us : Table = get_or T 3 [] ++ r ∷ [] in
      let x : Ext 3 (get_or T 3 []) us = ext_append 3 (get_or T 3 []) (r ∷ []) in
      let e₂ : get_or (set T 3 us) 2 [] ≡ get_or T 2 [] = other T 3 2 us (omega arith) in
      let e₃ : get_or (set T 3 us) 3 [] ≡ us = get_or-set_same T 3 us [] (omega (arith, S.twelve)) in
      let g : ExtAll T (set T 3 us) = ext_on 3 T us x in
      record {
        twelve = length-set T 3 us ∙ S.twelve;
        rows =
            rows_on u T i d 3 us j e x a b S.rows
            (All-append (RowOk (at u (set T 3 us) j e) 3) (get_or T 3 []) (r ∷ [])
            (rows_ok_grow (at u T i d) (at u (set T 3 us) j e) (grows_ext u T (set T 3 us) i j d e g a b) 3 (get_or T 3 []) (S.rows 3)) (p, tt));
        fit =
            record {
              transitions = rw e₂ S.fit.transitions;
              regions = rw e₃ (rises_append 0 (suc i) (get_or T 3 []) r S.fit.regions (omega arith) regions_below v);
              apart =
                  rw (e₂, e₃)
                  (All-map (λ (q : Row). (num q 0 < suc i) × Absent (get_or T 3 []) (num q 0)) (λ (q : Row). Absent us (num q 0)) (still_apart r v) (get_or T 2 [])
                  (both (get_or T 2 []) transitions_below S.fit.apart));
            };
        names = ap name_cells (other T 3 1 us (omega arith)) ∙ S.names;
        opened = other T 3 9 us (omega arith) ∙ S.opened;
        open_names = other T 3 10 us (omega arith) ∙ S.open_names;
        grown = all_trans T₀ T (set T 3 us) S.grown g;
      }
