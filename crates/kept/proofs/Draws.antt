-- Transitions and regions drawn; regions opened and closed.
use Prim.Native.Nat.{ℕ, suc, ◌≤◌}
use mathlib.Core.Path.{◌≡◌, refl, sym, ap, ◌∙◌, subst}
use mathlib.Core.Bool.{true, ◌&&◌}
use mathlib.Core.List.{List, [], ◌∷◌, ◌++◌}
use lib.ListN.{length, get_or, set}
use lib.Dec.{leb}
use lib.Seq.{get_or-set_same}
use native.Mathlib.Omega.{arith}
use Rattle.definition.specs.Rows.{Row, Table, num, columns_of, blank, Numbers, region}
use Rattle.definition.specs.Shapes.{Filling}
use Rattle.definition.specs.Look.{Look}
use Rattle.definition.specs.Change.{Put, ◌≔◌, Which, numbers, Edit, add, Change, put_all, put_one, is_number, filled_by, on_table, also, edited, edited_by, shape_of, region_over, open_region_row, nested_region, fresh_region}
use Rattle.definition.specs.Rules.{has_own_number}
use Rattle.kept.proofs.Base.{le_of, All}
use Rattle.kept.proofs.Classes.{Fits, Nums, Texts, Laid, HasRow, OrZero}
use Rattle.kept.proofs.Grow.{Absent, ExtAll, zero_grow, own_to}
use Rattle.kept.proofs.RowChange.{paired}
use Rattle.kept.proofs.RowTexts.{LookIn, fills}
use Rattle.kept.proofs.Tables.{RowOk, new_row, new_texts}
use Rattle.kept.proofs.Sound.{at, Sound, sound_transition, sound_region}
use Rattle.kept.proofs.Steps.{now, Good, self, edited_snoc, good_to, good_same, regions_on, add_now, ext_added}

not_absent : (rs : Table) (r : Row) (v : ℕ) → num r 0 ≡ v → Absent (rs ++ r ∷ []) v → ⊥
not_absent [] r v e a = a.0 e
not_absent (x ∷ rs) r v e a = not_absent rs r v e a.1

pub has_new : (T : List Table) (k : ℕ) (r : Row) (i : ℕ) → length T ≡ 12 → has_own_number k ≡ true → (leb k 11 ≡ true) → num r 0 ≡ suc i → HasRow (on_table k (λ rs. rs ++ r ∷ []) T) k (suc i)
unfolding on_table
has_new T k r i e o b v =
    own_to (set T k (get_or T k [] ++ r ∷ [])) k (suc i) o (omega arith)
    (subst (λ (x : Table). ¬ (Absent x (suc i))) (sym (get_or-set_same T k (get_or T k [] ++ r ∷ []) [] (omega (arith, e, le_of k 11 b)))) (not_absent (get_or T k []) r (suc i) v))

module _ (u : ℕ) (l : Look) (n : Numbers) (look_in : LookIn u l) where
  -- ---- a transition

  -- c: before its number is drawn; c₁: after it.
  pub good_transition : (w : Which) (ps : List Put) (c c₁ : Change) (fs : List Filling) → Good u l n c → c₁.edits ≡ c.edits → c.ids ≤ c₁.ids → c.docs ≤ c₁.docs
      → c₁.current ≡ c.current → c₁.state ≡ c.state → c₁.transition ≡ c.transition → c₁.regions ≡ c.regions → shape_of l.tag w ≡ record { into = 2; texts = fs }
      → (fills (columns_of 2) fs && paired (columns_of 2)) ≡ true → num (new_row 2 fs ps l 0) 0 ≡ suc c.ids
      → ((U : List Table) → ExtAll (now l n c) U → Nums (at u U c₁.ids c₁.docs) (new_row 2 fs ps l 0) (columns_of 2) (new_row 2 fs ps l 0))
      → Good u l n (also (add w 0 ps) c₁) × HasRow (now l n (also (add w 0 ps) c₁)) 2 (suc c.ids)
  unfolding also has_own_number
  good_transition w ps c c₁ fs G e a b e₁ e₂ e₃ e₄ s q v f =
      let T : List Table = now l n c in
      let r : Row = new_row 2 fs ps l 0 in
      let U : List Table = on_table 2 (λ rs. rs ++ r ∷ []) T in
      let S : Sound u T T c.ids c.docs = self u n.tables T c.ids c.docs G.sound in
      let R : Sound u T U c₁.ids c₁.docs =
      sound_transition u T T c.ids c.docs S r c₁.ids c₁.docs a b v (record { nums = f U (ext_added u l n look_in 2 r T); texts = new_texts u 2 fs ps l 0 look_in q }) in
      let z : now l n (also (add w 0 ps) c₁) ≡ U =
      edited_snoc l c₁.edits (add w 0 ps) n.tables ∙ ap (λ (es : List Edit). edited l (add w 0 ps) (edited_by l es n.tables)) e ∙ add_now u l n look_in w 0 ps 2 fs s T in (
        good_same u l n look_in c (also (add w 0 ps) c₁) G (subst (λ (X : List Table). Sound u T X c₁.ids c₁.docs) (sym z) R) a b e₁ e₂ e₃ e₄,
        subst (λ (X : List Table). HasRow X 2 (suc c.ids)) (sym z) (has_new T 2 r c.ids G.sound.twelve refl refl v),
      )

  -- ---- a region

  pub good_region : (rs : List Row) (c : Change) → Good u l n c
      → ((U : List Table) → ExtAll (now l n c) U → All (RowOk (at u U (suc c.ids) c.docs) 11) rs)
      → Good u l n (region_over rs c) × HasRow (now l n (region_over rs c)) 3 (suc c.ids)
  unfolding region_over also Nums Fits columns_of shape_of blank put_all put_one is_number filled_by fills paired has_own_number
  good_region rs c G f =
      let T : List Table = now l n c in
      let ps : List Put = region.number ≔ suc c.ids ∷ [] in
      let r : Row = new_row 3 [] ps l 0 in
      let U : List Table = on_table 3 (λ rs. rs ++ r ∷ []) T in
      let S : Sound u T T c.ids c.docs = self u n.tables T c.ids c.docs G.sound in
      let x : ExtAll T U = ext_added u l n look_in 3 r T in
      let R : Sound u T U (suc c.ids) c.docs =
      sound_region u T T c.ids c.docs S r (suc c.ids) c.docs (omega arith) (omega arith) refl
      (record { nums = ((omega arith, omega arith), (refl, (refl, (refl, (refl, (refl, (refl, (refl, tt)))))))); texts = new_texts u 3 [] ps l 0 look_in refl }) in
      let z : now l n (region_over rs c) ≡ U = edited_snoc l c.edits (add (numbers 3) 0 ps) n.tables ∙ add_now u l n look_in (numbers 3) 0 ps 3 [] refl T in
      let h : HasRow U 3 (suc c.ids) = has_new T 3 r c.ids G.sound.twelve refl refl refl in (
        good_to u l n look_in c (region_over rs c) G (subst (λ (X : List Table). Sound u T X (suc c.ids) c.docs) (sym z) R)
            (subst (λ (X : List Table). OrZero X 3 (suc c.ids)) (sym z) (λ o. h))
            (subst (λ (X : List Table). OrZero X 1 c.state) (sym z) (zero_grow T U x 1 c.state G.state))
            (subst (λ (X : List Table). OrZero X 2 c.transition) (sym z) (zero_grow T U x 2 c.transition G.transition))
            (subst (λ (X : List Table). All (RowOk (at u X (suc c.ids) c.docs) 11) rs) (sym z) (f U x)),
        subst (λ (X : List Table). HasRow X 3 (suc c.ids)) (sym z) h,
      )

  pub open_row : (T : List Table) (i d r g : ℕ) → OrZero T 3 r → RowOk (at u T i d) 11 (open_region_row r g)
  unfolding open_region_row Nums Fits Texts Laid columns_of
  open_row T i d r g h = record { nums = (h, (tt, (refl, (refl, (refl, (refl, (refl, (refl, tt)))))))); texts = (tt, (tt, (tt, (tt, (tt, (tt, (tt, (tt, tt)))))))) }

  pub good_nested : (g : ℕ) (c : Change) → Good u l n c → Good u l n (nested_region g c) × HasRow (now l n (nested_region g c)) 3 (suc c.ids)
  unfolding nested_region
  good_nested g c G =
      good_region (open_region_row c.current g ∷ c.regions) c G (λ U x.
      (open_row U (suc c.ids) c.docs c.current g (zero_grow (now l n c) U x 3 c.current G.current), regions_on u l n look_in c U (suc c.ids) c.docs G x (omega arith) (omega arith)))

  pub good_fresh : (c : Change) → Good u l n c → Good u l n (fresh_region c) × HasRow (now l n (fresh_region c)) 3 (suc c.ids)
  unfolding fresh_region
  good_fresh c G = good_region [] c G (λ U x. tt)
