-- The steps of a handler, each keeping what a change has made so far in order.
use Prim.Native.Nat.{ℕ, suc, ◌+◌, ◌≤◌}
use mathlib.Core.Path.{◌≡◌, refl, sym, ap, ◌∙◌, subst}
use mathlib.Core.Bool.{true, ◌&&◌}
use mathlib.Core.List.{List, [], ◌∷◌, ◌++◌}
use lib.ListN.{length, get_or, set}
use lib.Dec.{leb}
use native.Mathlib.Omega.{arith}
use Rattle.definition.specs.Rows.{Row, Table, columns_of, blank, row_of, Numbers, region}
use Rattle.definition.specs.Shapes.{Filling, Shape}
use Rattle.definition.specs.Look.{Look}
use Rattle.definition.specs.Change.{Put, ◌≔◌, Which, numbers, Edit, add, alter, Change, put_all, filled_by, alter_row, on_table, also, altering, drawn, edited, edited_by, shape_of, region_over}
use Rattle.kept.proofs.Base.{All}
use Rattle.kept.proofs.Classes.{Nums, HasRow, OrZero}
use Rattle.kept.proofs.Grow.{ExtAll, ext_refl, ext_append, ext_on, all_trans, row_grow, zero_grow}
use Rattle.kept.proofs.RowChange.{PutsFit, paired}
use Rattle.kept.proofs.RowTexts.{LookIn, fills}
use Rattle.kept.proofs.Tables.{RowOk, rows_ok_grow, new_row, new_texts}
use Rattle.kept.proofs.Sound.{at, Sound, grows_ext, sound_add, sound_draw}
use Rattle.kept.proofs.Altered.{alters, changed, ext_altered, sound_alter}

-- The tables as the change's edits leave them.
abbrev pub now : Look → Numbers → Change → List Table
now l n c = edited_by l c.edits n.tables

pub record Good (u : ℕ) (l : Look) (n : Numbers) (c : Change) : Type 0 where
  pub sound : Sound u n.tables (now l n c) c.ids c.docs
  pub current : OrZero (now l n c) 3 c.current
  pub state : OrZero (now l n c) 1 c.state
  pub transition : OrZero (now l n c) 2 c.transition
  pub regions : All (RowOk (at u (now l n c) c.ids c.docs) 11) c.regions

pub edited_snoc : (l : Look) (es : List Edit) (e : Edit) (T : List Table) → edited_by l (es ++ e ∷ []) T ≡ edited l e (edited_by l es T)
unfolding edited_by
edited_snoc l [] e T = refl
edited_snoc l (x ∷ es) e T = edited_snoc l es e (edited l x T)

pub self : (u : ℕ) (T₀ T : List Table) (i d : ℕ) → Sound u T₀ T i d → Sound u T T i d
self u T₀ T i d S =
    record { twelve = S.twelve; rows = S.rows; fit = S.fit; names = refl; opened = refl; open_names = refl; grown = λ t. ext_refl t (get_or T t []) }

join : (u : ℕ) (T₀ T U : List Table) (i d j e : ℕ) → Sound u T₀ T i d → Sound u T U j e → Sound u T₀ U j e
join u T₀ T U i d j e S R =
    record {
      twelve = R.twelve;
      rows = R.rows;
      fit = R.fit;
      names = R.names ∙ S.names;
      opened = R.opened ∙ S.opened;
      open_names = R.open_names ∙ S.open_names;
      grown = all_trans T₀ T U S.grown R.grown;
    }

module _ (u : ℕ) (l : Look) (n : Numbers) (look_in : LookIn u l) where
  -- ---- what a change has besides its edits

  pub good_to : (c c' : Change) → Good u l n c → Sound u (now l n c) (now l n c') c'.ids c'.docs
      → OrZero (now l n c') 3 c'.current → OrZero (now l n c') 1 c'.state → OrZero (now l n c') 2 c'.transition
      → All (RowOk (at u (now l n c') c'.ids c'.docs) 11) c'.regions → Good u l n c'
  good_to c c' G R a b e f =
      record {
        sound = join u n.tables (now l n c) (now l n c') c.ids c.docs c'.ids c'.docs G.sound R;
        current = a;
        state = b;
        transition = e;
        regions = f;
      }

  pub regions_on : (c : Change) (U : List Table) (j e : ℕ) → Good u l n c → ExtAll (now l n c) U → c.ids ≤ j → c.docs ≤ e → All (RowOk (at u U j e) 11) c.regions
  regions_on c U j e G x a b =
      rows_ok_grow (at u (now l n c) c.ids c.docs) (at u U j e) (grows_ext u (now l n c) U c.ids j c.docs e x a b) 11 c.regions G.regions

  -- The fields stay, the tables and the counters grow.
  pub good_same : (c c' : Change) → Good u l n c → Sound u (now l n c) (now l n c') c'.ids c'.docs → c.ids ≤ c'.ids → c.docs ≤ c'.docs
      → c'.current ≡ c.current → c'.state ≡ c.state → c'.transition ≡ c.transition → c'.regions ≡ c.regions → Good u l n c'
  good_same c c' G R a b e₁ e₂ e₃ e₄ =
      good_to c c' G R (subst (OrZero (now l n c') 3) (sym e₁) (zero_grow (now l n c) (now l n c') R.grown 3 c.current G.current))
      (subst (OrZero (now l n c') 1) (sym e₂) (zero_grow (now l n c) (now l n c') R.grown 1 c.state G.state))
      (subst (OrZero (now l n c') 2) (sym e₃) (zero_grow (now l n c) (now l n c') R.grown 2 c.transition G.transition))
      (subst (All (RowOk (at u (now l n c') c'.ids c'.docs) 11)) (sym e₄) (regions_on c (now l n c') c'.ids c'.docs G R.grown a b))

  pub good_draw : (i d : ℕ) (c : Change) → Good u l n c → Good u l n (drawn i d c)
  unfolding drawn
  good_draw i d c G =
      good_same c (drawn i d c) G
      (sound_draw u (now l n c) (now l n c) c.ids c.docs (self u n.tables (now l n c) c.ids c.docs G.sound) (c.ids + i) (c.docs + d) (omega arith) (omega arith))
      (omega arith) (omega arith) refl refl refl refl

  pub also_now : (e : Edit) (c : Change) → now l n (also e c) ≡ edited l e (now l n c)
  unfolding also
  also_now e c = edited_snoc l c.edits e n.tables

  pub good_also : (e : Edit) (c : Change) → Good u l n c → Sound u (now l n c) (edited l e (now l n c)) c.ids c.docs → Good u l n (also e c)
  unfolding also
  good_also e c G R =
      good_same c (also e c) G (subst (λ (U : List Table). Sound u (now l n c) U c.ids c.docs) (sym (also_now e c)) R) (omega arith) (omega arith) refl refl refl refl

  -- ---- a row added

  pub add_now : (w : Which) (i : ℕ) (ps : List Put) (k : ℕ) (fs : List Filling) → shape_of l.tag w ≡ record { into = k; texts = fs } → (T : List Table)
      → edited l (add w i ps) T ≡ on_table k (λ rs. rs ++ new_row k fs ps l i ∷ []) T
  unfolding edited
  add_now w i ps k fs e T =
      ap (λ (h : Shape). on_table h.into (λ rs. rs ++ put_all (columns_of h.into) ps (filled_by l i h.texts (blank h.into)) ∷ []) T) e

  pub ext_added : (k : ℕ) (r : Row) (T : List Table) → ExtAll T (on_table k (λ rs. rs ++ r ∷ []) T)
  unfolding on_table
  ext_added k r T = ext_on k T (get_or T k [] ++ r ∷ []) (ext_append k (get_or T k []) (r ∷ []))

  pub good_add : (w : Which) (i : ℕ) (ps : List Put) (c : Change) (k : ℕ) (fs : List Filling) → Good u l n c → shape_of l.tag w ≡ record { into = k; texts = fs }
      → (leb 4 k && leb k 8) ≡ true → (fills (columns_of k) fs && paired (columns_of k)) ≡ true
      → ((U : List Table) → ExtAll (now l n c) U → Nums (at u U c.ids c.docs) (new_row k fs ps l i) (columns_of k) (new_row k fs ps l i))
      → Good u l n (also (add w i ps) c)
  good_add w i ps c k fs G e p q f =
      let T : List Table = now l n c in
      let U : List Table = on_table k (λ rs. rs ++ new_row k fs ps l i ∷ []) T in
      let R : Sound u T U c.ids c.docs =
      sound_add u T T c.ids c.docs (self u n.tables T c.ids c.docs G.sound) k (new_row k fs ps l i) p
      (record { nums = f U (ext_added k (new_row k fs ps l i) T); texts = new_texts u k fs ps l i look_in q }) in
      good_also (add w i ps) c G (subst (λ (X : List Table). Sound u T X c.ids c.docs) (sym (add_now w i ps k fs e T)) R)

  -- ---- a row altered

  alter_now : (w : Which) (m : ℕ) (ps : List Put) (k : ℕ) (fs : List Filling) → shape_of l.tag w ≡ record { into = k; texts = fs } → (T : List Table)
      → edited l (alter w m ps) T ≡ on_table k (λ rs. alter_row m (changed k fs ps l) rs) T
  unfolding edited
  alter_now w m ps k fs e T =
      ap (λ (h : Shape). on_table h.into (λ rs. alter_row m (λ r. put_all (columns_of h.into) ps (filled_by l 0 h.texts r)) rs) T) e

  pub good_alter : (w : Which) (m : ℕ) (ps : List Put) (c : Change) (k : ℕ) (fs : List Filling) → Good u l n c → shape_of l.tag w ≡ record { into = k; texts = fs }
      → alters k fs ps ≡ true
      → ((U : List Table) → ((t v : ℕ) → HasRow (now l n c) t v → HasRow U t v) → length (get_or (now l n c) 7 []) ≤ length (get_or U 7 []) → (r : Row) → row_of (get_or (now l n c) k []) m ≡ r → RowOk (at u (now l n c) c.ids c.docs) k r
      → PutsFit (at u U c.ids c.docs) (columns_of k) (filled_by l 0 fs r) ps)
      → Good u l n (altering w m ps c)
  unfolding altering
  good_alter w m ps c k fs G e a f =
      let T : List Table = now l n c in
      let S : Sound u T T c.ids c.docs = self u n.tables T c.ids c.docs G.sound in
      let U : List Table = set T k (alter_row m (changed k fs ps l) (get_or T k [])) in
      let x : ExtAll T U = ext_altered k m fs ps l a T in
      good_also (alter w m ps) c G
      (subst (λ (X : List Table). Sound u T X c.ids c.docs) (sym (alter_now w m ps k fs e T))
      (sound_alter u T T c.ids c.docs S k m fs ps l look_in a (λ r z o. f U (row_grow T U x) (x 7).longer r z o)))

  -- ---- rows that exist go on existing

  pub ext_add : (w : Which) (i : ℕ) (ps : List Put) (c : Change) → ExtAll (now l n c) (now l n (also (add w i ps) c))
  unfolding also edited
  ext_add w i ps c =
      let h : Shape = shape_of l.tag w in
      subst (λ (X : List Table). ExtAll (now l n c) X) (sym (edited_snoc l c.edits (add w i ps) n.tables)) (ext_added h.into (new_row h.into h.texts ps l i) (now l n c))

  pub ext_alter_now : (w : Which) (m : ℕ) (ps : List Put) (c : Change) (k : ℕ) (fs : List Filling) → shape_of l.tag w ≡ record { into = k; texts = fs } → alters k fs ps ≡ true
      → ExtAll (now l n c) (now l n (altering w m ps c))
  unfolding altering also on_table
  ext_alter_now w m ps c k fs e a =
      subst (λ (X : List Table). ExtAll (now l n c) X) (sym (edited_snoc l c.edits (alter w m ps) n.tables ∙ alter_now w m ps k fs e (now l n c))) (ext_altered k m fs ps l a (now l n c))

  pub ext_region : (rs : List Row) (c : Change) → ExtAll (now l n c) (now l n (region_over rs c))
  unfolding region_over also
  ext_region rs c = ext_add (numbers 3) 0 (region.number ≔ suc c.ids ∷ []) c
