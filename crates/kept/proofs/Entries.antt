-- Entries, and edits that change places.
use Prim.Native.Nat.{ℕ, zero, suc}
use mathlib.Core.Path.{◌≡◌, refl, sym, ap, ◌∙◌, subst}
use mathlib.Core.Bool.{Bool, true, false, ◌&&◌, not}
use mathlib.Core.List.{List, [], ◌∷◌, ◌++◌}
use lib.ListN.{length, get_or, set, drop, replicate, length-append}
use lib.Dec.{leb}
use lib.Seq.{get_or-set_other, get_or-set_same, set_comm}
use native.Mathlib.Omega.{arith}
use Rattle.definition.specs.Rows.{Row, Table, Class, free, own, doc_id, above, mark, len, code, row, existing, text, by, columns_of, choices, Numbers}
use Rattle.definition.specs.Shapes.{Filling}
use Rattle.definition.specs.Look.{Look}
use Rattle.definition.specs.Change.{Put, Which, Edit, add, Change, on_table, edited_by, also, shape_of}
use Rattle.definition.specs.Rules.{chosen, has_own_number}
use Rattle.kept.proofs.Base.{false_is_true, and_left, and_right, le_of}
use Rattle.kept.proofs.Classes.{View, Fits, Nums, Texts, Laid, HasRow, OrZero}
use Rattle.kept.proofs.RowChange.{is_texty}
use Rattle.kept.proofs.Grow.{nth_to}
use Rattle.kept.proofs.RowTexts.{LookIn}
use Rattle.kept.proofs.Tables.{new_row}
use Rattle.kept.proofs.Steps.{now, Good, edited_snoc, add_now}

-- ---- columns whose class asks at most for a code

unfoldable pub fits_alone : Class → ℕ → Bool
fits_alone (text q) v = true
fits_alone len v = true
fits_alone free v = true
fits_alone own v = false
fits_alone doc_id v = false
fits_alone above v = false
fits_alone mark v = false
fits_alone (code a b) v = leb a v && leb v b
fits_alone (row t) v = false
fits_alone (existing t) v = false
fits_alone (by c k) v = false

unfoldable pub all_fit_alone : List Class → Row → Bool
unfolding fits_alone
all_fit_alone [] [] = true
all_fit_alone [] (v ∷ vs) = false
all_fit_alone (c ∷ cs) [] = false
all_fit_alone (c ∷ cs) (v ∷ vs) = fits_alone c v && all_fit_alone cs vs

alone_fits : (W : View) (r : Row) (c : Class) (v : ℕ) → fits_alone c v ≡ true → Fits W r (chosen r c) v
unfolding Fits fits_alone chosen
alone_fits W r (text q) v e = tt
alone_fits W r len v e = tt
alone_fits W r free v e = tt
alone_fits W r own v e = false_is_true e
alone_fits W r doc_id v e = false_is_true e
alone_fits W r above v e = false_is_true e
alone_fits W r mark v e = false_is_true e
alone_fits W r (code a b) v e = e
alone_fits W r (row t) v e = false_is_true e
alone_fits W r (existing t) v e = false_is_true e
alone_fits W r (by c k) v e = false_is_true e

pub free_alone : (k : ℕ) (vs : Row) → length vs ≡ k → all_fit_alone (replicate k free) vs ≡ true
unfolding all_fit_alone
free_alone zero [] e = refl
free_alone zero (v ∷ vs) e = absurd (omega arith)
free_alone (suc k) [] e = absurd (omega arith)
free_alone (suc k) (v ∷ vs) e = free_alone k vs (omega arith)

pub alone_nums : (W : View) (r : Row) (cs : List Class) (vs : Row) → all_fit_alone cs vs ≡ true → Nums W r cs vs
unfolding Nums all_fit_alone
alone_nums W r [] [] e = tt
alone_nums W r [] (v ∷ vs) e = false_is_true e
alone_nums W r (c ∷ cs) [] e = false_is_true e
alone_nums W r (c ∷ cs) (v ∷ vs) e = (alone_fits W r c v (and_left (fits_alone c v) (all_fit_alone cs vs) e), alone_nums W r cs vs (and_right (fits_alone c v) (all_fit_alone cs vs) e))

-- Columns without a text.
unfoldable pub textless : List Class → Bool
unfolding is_texty
textless [] = true
textless (c ∷ cs) = not (is_texty c) && textless cs

textless_laid : (u : ℕ) (c : Class) (v : ℕ) (vs : Row) → not (is_texty c) ≡ true → Laid u c v vs
unfolding Laid is_texty
textless_laid u (text q) v vs e = false_is_true e
textless_laid u len v vs e = tt
textless_laid u free v vs e = tt
textless_laid u own v vs e = tt
textless_laid u doc_id v vs e = tt
textless_laid u above v vs e = tt
textless_laid u mark v vs e = tt
textless_laid u (code a b) v vs e = tt
textless_laid u (row t) v vs e = tt
textless_laid u (existing t) v vs e = tt
textless_laid u (by c k) v vs e = tt

pub plain_texts : (u : ℕ) (cs : List Class) (vs : Row) → textless cs ≡ true → length vs ≡ length cs → Texts u cs vs
unfolding Texts textless
plain_texts u [] [] e f = tt
plain_texts u [] (v ∷ vs) e f = absurd (omega arith)
plain_texts u (c ∷ cs) [] e f = absurd (omega arith)
plain_texts u (c ∷ cs) (v ∷ vs) e f =
    (textless_laid u c v vs (and_left (not (is_texty c)) (textless cs) e), plain_texts u cs vs (and_right (not (is_texty c)) (textless cs) e) (omega arith))

abbrev content_class : ℕ → Class
content_class k = get_or (get_or choices 0 []) k free

abbrev else_class : ℕ → Class
else_class k = get_or (get_or choices 1 []) k free

pub entry_nums : (W : View) (r k st co el hc : ℕ) (vs : Row) → all_fit_alone (drop 6 (columns_of 4)) vs ≡ true → OrZero W.tables 3 r → (leb 1 k && leb k 8) ≡ true → OrZero W.tables 1 st
    → Fits W (r ∷ k ∷ st ∷ co ∷ el ∷ hc ∷ vs) (content_class k) co → Fits W (r ∷ k ∷ st ∷ co ∷ el ∷ hc ∷ vs) (else_class k) el → (leb 0 hc && leb hc 1) ≡ true
    → Nums W (r ∷ k ∷ st ∷ co ∷ el ∷ hc ∷ vs) (columns_of 4) (r ∷ k ∷ st ∷ co ∷ el ∷ hc ∷ vs)
unfolding Nums columns_of chosen Fits all_fit_alone
entry_nums W r k st co el hc vs e a b c d f g = (a, (b, (c, (d, (f, (g, alone_nums W (r ∷ k ∷ st ∷ co ∷ el ∷ hc ∷ vs) (drop 6 (columns_of 4)) vs e))))))

pub invoke_nums : (W : View) (st a f hc : ℕ) (vs : Row) → all_fit_alone (drop 4 (columns_of 5)) vs ≡ true → OrZero W.tables 1 st → (leb 0 a && leb a 1) ≡ true → OrZero W.tables 3 f → (leb 0 hc && leb hc 1) ≡ true
    → Nums W (st ∷ a ∷ f ∷ hc ∷ vs) (columns_of 5) (st ∷ a ∷ f ∷ hc ∷ vs)
unfolding Nums columns_of chosen Fits all_fit_alone
invoke_nums W st a f hc vs e x y z w = (x, (y, (z, (w, alone_nums W (st ∷ a ∷ f ∷ hc ∷ vs) (drop 4 (columns_of 5)) vs e))))

-- ---- edits of two tables change places

pub swapped : (j k : ℕ) (f g : Table → Table) (T : List Table) → ¬ (j ≡ k) → on_table j f (on_table k g T) ≡ on_table k g (on_table j f T)
unfolding on_table
swapped j k f g T h =
    let z : ¬ (k ≡ j) = λ e. h (sym e) in
    ap (λ (x : Table). set (set T k (g (get_or T k []))) j (f x)) (get_or-set_other T k j (g (get_or T k [])) [] h)
    ∙ set_comm T k j (g (get_or T k [])) (f (get_or T j [])) z
    ∙ ap (λ (x : Table). set (set T j (f (get_or T j []))) k (g x)) (sym (get_or-set_other T j k (f (get_or T j [])) [] z))

module _ (u : ℕ) (l : Look) (n : Numbers) (look_in : LookIn u l) where
  -- Two adds, and the same two the other way round.
  pub add_swapped : (w v : Which) (i : ℕ) (ps qs : List Put) (j k : ℕ) (fs gs : List Filling) → shape_of l.tag w ≡ record { into = j; texts = fs }
      → shape_of l.tag v ≡ record { into = k; texts = gs } → ¬ (j ≡ k) → (es : List Edit)
      → edited_by l ((es ++ add w i ps ∷ []) ++ add v 0 qs ∷ []) n.tables ≡ edited_by l ((es ++ add v 0 qs ∷ []) ++ add w i ps ∷ []) n.tables
  add_swapped w v i ps qs j k fs gs a b h es =
      let T : List Table = edited_by l es n.tables in
      let A : List Table → List Table = on_table j (λ rs. rs ++ new_row j fs ps l i ∷ []) in
      let B : List Table → List Table = on_table k (λ rs. rs ++ new_row k gs qs l 0 ∷ []) in
      let one : edited_by l ((es ++ add w i ps ∷ []) ++ add v 0 qs ∷ []) n.tables ≡ B (A T) =
      edited_snoc l (es ++ add w i ps ∷ []) (add v 0 qs) n.tables ∙ add_now u l n look_in v 0 qs k gs b (edited_by l (es ++ add w i ps ∷ []) n.tables)
      ∙ ap B (edited_snoc l es (add w i ps) n.tables ∙ add_now u l n look_in w i ps j fs a T) in
      let two : edited_by l ((es ++ add v 0 qs ∷ []) ++ add w i ps ∷ []) n.tables ≡ A (B T) =
      edited_snoc l (es ++ add v 0 qs ∷ []) (add w i ps) n.tables ∙ add_now u l n look_in w i ps j fs a (edited_by l (es ++ add v 0 qs ∷ []) n.tables)
      ∙ ap A (edited_snoc l es (add v 0 qs) n.tables ∙ add_now u l n look_in v 0 qs k gs b T) in
      one ∙ sym (swapped j k (λ rs. rs ++ new_row j fs ps l i ∷ []) (λ rs. rs ++ new_row k gs qs l 0 ∷ []) T h) ∙ sym two

  -- What is in order depends on the tables, not on the edits.
  pub good_as : (c c' : Change) → now l n c ≡ now l n c' → c.ids ≡ c'.ids → c.docs ≡ c'.docs → c.current ≡ c'.current → c.state ≡ c'.state → c.transition ≡ c'.transition
      → c.regions ≡ c'.regions → Good u l n c' → Good u l n c
  good_as c c' e e₁ e₂ e₃ e₄ e₅ e₆ G =
      record {
        sound = rw (e, e₁, e₂) G.sound;
        current = rw (e, e₃) G.current;
        state = rw (e, e₄) G.state;
        transition = rw (e, e₅) G.transition;
        regions = rw (e, e₁, e₂, e₆) G.regions;
      }

  -- The row just added to a table whose rows go by their place.
  pub has_last : (w : Which) (i : ℕ) (ps : List Put) (k : ℕ) (fs : List Filling) (c : Change) → Good u l n c → shape_of l.tag w ≡ record { into = k; texts = fs }
      → has_own_number k ≡ false → leb k 11 ≡ true → HasRow (now l n (also (add w i ps) c)) k (suc (length (get_or (now l n c) k [])))
  unfolding also on_table
  has_last w i ps k fs c G s o b =
      let T : List Table = now l n c in
      let us : Table = get_or T k [] ++ new_row k fs ps l i ∷ [] in
      subst (λ (X : List Table). HasRow X k (suc (length (get_or T k [])))) (sym (edited_snoc l c.edits (add w i ps) n.tables ∙ add_now u l n look_in w i ps k fs s T))
      (nth_to (set T k us) k (suc (length (get_or T k []))) o (omega arith)
      (rw (get_or-set_same T k us [] (omega (arith, G.sound.twelve, le_of k 11 b))) (omega (arith, length-append (get_or T k []) (new_row k fs ps l i ∷ [])))))
