-- A row altered.
use Prim.Native.Nat.{ℕ, zero, suc}
use mathlib.Core.Path.{◌≡◌, refl, ap, ap₂, ◌∙◌}
use mathlib.Core.Bool.{Bool, true, false, ◌&&◌, ◌||◌, not}
use mathlib.Core.List.{List, [], ◌∷◌}
use lib.ListN.{get_or, set, length-set}
use lib.Dec.{eqb, leb, eqb-suc-zero}
use lib.Seq.{get_or-set_same}
use native.Mathlib.Omega.{arith}
use Rattle.definition.specs.Rows.{Row, Table, Class, num, columns_of, row_of, Cell, cell_at}
use Rattle.definition.specs.Shapes.{Filling}
use Rattle.definition.specs.Look.{Look, name_cells}
use Rattle.definition.specs.Change.{Put, put_all, filled_by, alter_row, on_table}
use Rattle.definition.specs.Rules.{has_own_number}
use Rattle.kept.proofs.Base.{false_is_true, and_left, and_right, le_of, neq_of, eq_of, All, or_right}
use Rattle.kept.proofs.Classes.{View}
use Rattle.kept.proofs.Grow.{Absent, Ext, ExtAll, ext_alter, ext_on, all_trans, Grows}
use Rattle.kept.proofs.RowChange.{puts, PutsFit, nums_puts, paired}
use Rattle.kept.proofs.RowCells.{texts_puts}
use Rattle.kept.proofs.RowTexts.{LookIn, fills, texts_fill, nums_fill}
use Rattle.kept.proofs.Tables.{RowOk, row_ok_grow, rows_ok_grow, spares, num_spared, NumbersOk, rises_alter, all_alter, names_alter}
use Rattle.kept.proofs.Sound.{at, Sound, grows_ext, rows_on, other}

-- What is computed of an alteration: its columns and its table.
unfoldable pub alters : ℕ → List Filling → List Put → Bool
unfolding fills paired puts spares has_own_number columns_of
alters k fs ps =
    (fills (columns_of k) fs && paired (columns_of k)) && ((puts (columns_of k) ps && (not (eqb k 1) || spares 1 fs ps)) && ((eqb k 0 || spares 0 fs ps) && (leb k 2 || (leb 4 k && leb k 8))))

abbrev pub changed : ℕ → List Filling → List Put → Look → Row → Row
changed k fs ps l r = put_all (columns_of k) ps (filled_by l 0 fs r)

not_three : (k j : ℕ) → (leb k 2 || (leb 4 k && leb k 8)) ≡ true → leb 9 j ≡ true → ¬ (j ≡ k)
not_three k j e f z = go (leb k 2) refl
  where
    go : (b : Bool) → leb k 2 ≡ b → ⊥
    go true g = omega (arith, le_of k 2 g, le_of 9 j f)
    go false g = omega (arith, le_of k 8 (and_right (leb 4 k) (leb k 8) (or_right (leb k 2) (leb 4 k && leb k 8) g e)), le_of 9 j f)

not_regions : (k : ℕ) → (leb k 2 || (leb 4 k && leb k 8)) ≡ true → ¬ (3 ≡ k)
not_regions k e z = go (leb k 2) refl
  where
    go : (b : Bool) → leb k 2 ≡ b → ⊥
    go true g = omega (arith, le_of k 2 g)
    go false g = omega (arith, le_of 4 k (and_left (leb 4 k) (leb k 8) (or_right (leb k 2) (leb 4 k && leb k 8) g e)))

cells_spared : (k : ℕ) (fs : List Filling) (ps : List Put) (l : Look) → spares 0 fs ps ≡ true → spares 1 fs ps ≡ true → (r : Row) → cell_at (changed k fs ps l r) 0 ≡ cell_at r 0
unfolding cell_at
cells_spared k fs ps l a b r = ap₂ {C = Cell} (λ x y. record { at = x; len = y }) (num_spared k fs ps l r 0 a) (num_spared k fs ps l r 1 b)

pub row_changed : (W U : View) → Grows W U → (k : ℕ) (fs : List Filling) (ps : List Put) (l : Look) (r : Row) → LookIn U.used l
    → (fills (columns_of k) fs && paired (columns_of k)) ≡ true → puts (columns_of k) ps ≡ true
    → RowOk W k r → PutsFit U (columns_of k) (filled_by l 0 fs r) ps → RowOk U k (changed k fs ps l r)
row_changed W U g k fs ps l r h e q p f =
    let x : RowOk U k r = row_ok_grow W U g k r p in
    let cs : List Class = columns_of k in
    let e₁ : fills cs fs ≡ true = and_left (fills cs fs) (paired cs) e in
    let e₂ : paired cs ≡ true = and_right (fills cs fs) (paired cs) e in
    record {
      nums = nums_puts U cs (filled_by l 0 fs r) ps q (nums_fill U l 0 cs fs r e₁ x.nums) f;
      texts = texts_puts U.used cs (filled_by l 0 fs r) ps e₂ (texts_fill U.used l 0 cs fs r h e₂ e₁ x.texts);
    }

alter_both : (W U : View) (k i : ℕ) (f : Row → Row) (rs : Table) → Grows W U → All (RowOk W k) rs
    → ((r : Row) → row_of rs i ≡ r → RowOk W k r → RowOk U k (f r)) → All (RowOk U k) (alter_row i f rs)
unfolding alter_row row_of
alter_both W U k zero f rs g a h = rows_ok_grow W U g k rs a
alter_both W U k (suc i) f [] g a h = tt
alter_both W U k (suc zero) f (r ∷ rs) g a h = (h r refl a.0, rows_ok_grow W U g k rs a.1)
alter_both W U k (suc (suc i)) f (r ∷ rs) g a h = (row_ok_grow W U g k r a.0, alter_both W U k (suc i) f rs g a.1 h)

apart_alter : (us : Table) (n : ℕ) (f : Row → Row) (rs : Table) → ((r : Row) → num (f r) 0 ≡ num r 0)
    → All (λ (r : Row). Absent us (num r 0)) rs → All (λ (r : Row). Absent us (num r 0)) (alter_row n f rs)
apart_alter us n f rs e a = all_alter (λ (r : Row). Absent us (num r 0)) n f rs a (λ r q p. rw (e r) p)

own_positive : (k : ℕ) → has_own_number k ≡ true → eqb k 0 ≡ false
unfolding has_own_number
own_positive zero o = false_is_true o
own_positive (suc k) o = eqb-suc-zero k

pub ext_altered : (k n : ℕ) (fs : List Filling) (ps : List Put) (l : Look) → alters k fs ps ≡ true → (T : List Table)
    → ExtAll T (set T k (alter_row n (changed k fs ps l) (get_or T k [])))
unfolding alters
ext_altered k n fs ps l e T =
    let fp = fills (columns_of k) fs && paired (columns_of k) in
    let q = puts (columns_of k) ps in
    let s₁ = not (eqb k 1) || spares 1 fs ps in
    let s₀ = eqb k 0 || spares 0 fs ps in
    let w = leb k 2 || (leb 4 k && leb k 8) in
    let r₀ : ((q && s₁) && (s₀ && w)) ≡ true = and_right fp ((q && s₁) && (s₀ && w)) e in
    let sw : (s₀ && w) ≡ true = and_right (q && s₁) (s₀ && w) r₀ in
    ext_on k T (alter_row n (changed k fs ps l) (get_or T k []))
    (ext_alter k n (changed k fs ps l) (get_or T k []) (λ o r. num_spared k fs ps l r 0 (or_right (eqb k 0) (spares 0 fs ps) (own_positive k o) (and_left s₀ w sw))))

module _ (u : ℕ) (T₀ T : List Table) (i d : ℕ) (S : Sound u T₀ T i d) where
  abbrev after : ℕ → ℕ → List Filling → List Put → Look → List Table
  after k n fs ps l = set T k (alter_row n (changed k fs ps l) (get_or T k []))

  names_after : (k n : ℕ) (fs : List Filling) (ps : List Put) (l : Look) → (not (eqb k 1) || spares 1 fs ps) ≡ true → (eqb k 0 || spares 0 fs ps) ≡ true
      → name_cells (get_or (after k n fs ps l) 1 []) ≡ name_cells (get_or T 1 [])
  names_after k n fs ps l e f = go (eqb 1 k) refl
    where
      go : (b : Bool) → eqb 1 k ≡ b → name_cells (get_or (after k n fs ps l) 1 []) ≡ name_cells (get_or T 1 [])
      go false g = ap name_cells (other T k 1 (alter_row n (changed k fs ps l) (get_or T k [])) (neq_of 1 k g))
      go true g =
          let z : 1 ≡ k = eq_of 1 k g in
          let e₁ : (not (eqb 1 1) || spares 1 fs ps) ≡ true = rw (← z) at e in
          let f₁ : (eqb 1 0 || spares 0 fs ps) ≡ true = rw (← z) at f in
          rw (← z, get_or-set_same T 1 (alter_row n (changed 1 fs ps l) (get_or T 1 [])) [] (omega (arith, S.twelve)))
          (names_alter n (changed 1 fs ps l) (get_or T 1 []) (cells_spared 1 fs ps l f₁ e₁))

  fit_after : (k n : ℕ) (fs : List Filling) (ps : List Put) (l : Look) → (eqb k 0 || spares 0 fs ps) ≡ true
      → get_or (after k n fs ps l) 3 [] ≡ get_or T 3 [] → NumbersOk (after k n fs ps l)
  fit_after k n fs ps l f e₃ = go (eqb 2 k) refl
    where
      us : Table
      us = alter_row n (changed k fs ps l) (get_or T k [])

      go : (b : Bool) → eqb 2 k ≡ b → NumbersOk (after k n fs ps l)
      go false g =
          let e₂ : get_or (after k n fs ps l) 2 [] ≡ get_or T 2 [] = other T k 2 us (neq_of 2 k g) in
          record { transitions = rw e₂ S.fit.transitions; regions = rw e₃ S.fit.regions; apart = rw (e₂, e₃) S.fit.apart }
      go true g =
          let z : 2 ≡ k = eq_of 2 k g in
          let f₁ : (eqb 2 0 || spares 0 fs ps) ≡ true = rw (← z) at f in
          let e₂ : get_or (after k n fs ps l) 2 [] ≡ alter_row n (changed k fs ps l) (get_or T 2 []) =
          rw (← z) (get_or-set_same T 2 (alter_row n (changed 2 fs ps l) (get_or T 2 [])) [] (omega (arith, S.twelve))) in
          record {
            transitions = rw e₂ (rises_alter 0 n (changed k fs ps l) (get_or T 2 []) (λ r. num_spared k fs ps l r 0 f₁) S.fit.transitions);
            regions = rw e₃ S.fit.regions;
            apart = rw (e₂, e₃) (apart_alter (get_or T 3 []) n (changed k fs ps l) (get_or T 2 []) (λ r. num_spared k fs ps l r 0 f₁) S.fit.apart);
          }

  pub sound_alter : (k n : ℕ) (fs : List Filling) (ps : List Put) (l : Look) → LookIn u l → alters k fs ps ≡ true
      → ((r : Row) → row_of (get_or T k []) n ≡ r → RowOk (at u T i d) k r → PutsFit (at u (after k n fs ps l) i d) (columns_of k) (filled_by l 0 fs r) ps)
      → Sound u T₀ (on_table k (λ rs. alter_row n (changed k fs ps l) rs) T) i d
  unfolding on_table alters
  sound_alter k n fs ps l h e p =
      let fp = fills (columns_of k) fs && paired (columns_of k) in
      let q = puts (columns_of k) ps in
      let s₁ = not (eqb k 1) || spares 1 fs ps in
      let s₀ = eqb k 0 || spares 0 fs ps in
      let w = leb k 2 || (leb 4 k && leb k 8) in
      let e₀ : fp ≡ true = and_left fp ((q && s₁) && (s₀ && w)) e in
      let r₀ : ((q && s₁) && (s₀ && w)) ≡ true = and_right fp ((q && s₁) && (s₀ && w)) e in
      let qs : (q && s₁) ≡ true = and_left (q && s₁) (s₀ && w) r₀ in
      let sw : (s₀ && w) ≡ true = and_right (q && s₁) (s₀ && w) r₀ in
      let wt : w ≡ true = and_right s₀ w sw in
      let us : Table = alter_row n (changed k fs ps l) (get_or T k []) in
      let x : Ext k (get_or T k []) us =
      ext_alter k n (changed k fs ps l) (get_or T k []) (λ o r.
      num_spared k fs ps l r 0 (or_right (eqb k 0) (spares 0 fs ps) (own_positive k o) (and_left s₀ w sw))) in
      let g : ExtAll T (set T k us) = ext_on k T us x in
      let gv : Grows (at u T i d) (at u (set T k us) i d) = grows_ext u T (set T k us) i i d d g (omega arith) (omega arith) in
      let e₃ : get_or (set T k us) 3 [] ≡ get_or T 3 [] = other T k 3 us (not_regions k wt) in
      record {
        twelve = length-set T k us ∙ S.twelve;
        rows =
            rows_on u T i d k us i d x (omega arith) (omega arith) S.rows
            (alter_both (at u T i d) (at u (set T k us) i d) k n (changed k fs ps l) (get_or T k []) gv (S.rows k) (λ r z o.
            row_changed (at u T i d) (at u (set T k us) i d) gv k fs ps l r h e₀ (and_left q s₁ qs) o (p r z o)));
        fit = fit_after k n fs ps l (and_left s₀ w sw) e₃;
        names = names_after k n fs ps l (and_right q s₁ qs) (and_left s₀ w sw) ∙ S.names;
        opened = other T k 9 us (not_three k 9 wt refl) ∙ S.opened;
        open_names = other T k 10 us (not_three k 10 wt refl) ∙ S.open_names;
        grown = all_trans T₀ T (set T k us) S.grown g;
      }
