-- A step of a handler: it keeps what is in order, rows go on existing, the open regions stay.
use Prim.Native.Nat.{ℕ, zero, suc, ◌-◌, ◌≤◌}
use mathlib.Core.Path.{◌≡◌, refl, ◌∙◌, subst}
use mathlib.Core.Bool.{true, ◌&&◌}
use mathlib.Core.Option.{Option, none, some}
use mathlib.Core.List.{List, [], ◌∷◌}
use lib.ListN.{length, get_or}
use lib.Dec.{leb}
use native.Mathlib.Omega.{arith}
use Rattle.definition.specs.Rows.{Row, Table, spare, row, num, columns_of, row_of, Numbers, member}
use Rattle.definition.specs.Shapes.{Filling, ◌⇐◌, word}
use Rattle.definition.specs.Look.{Look}
use Rattle.definition.specs.Change.{Put, ◌≔◌, Which, shape, add, Change, Outcome, Closed, closed_by, on_closed, closing, filled_by, also, adding, altering, drawn, draw_doc, inside, shape_of, add_member, add_members, add_words_from, add_words}
use Rattle.definition.specs.Rules.{is_block, blocks_in}
use Rattle.kept.proofs.Base.{All}
use Rattle.kept.proofs.Classes.{Fits, Nums, HasRow, OrZero}
use Rattle.kept.proofs.Grow.{ExtAll, ext_refl, all_trans, row_grow}
use Rattle.kept.proofs.RowChange.{PutsFit, paired}
use Rattle.kept.proofs.RowTexts.{LookIn, fills}
use Rattle.kept.proofs.Tables.{RowOk, new_row}
use Rattle.kept.proofs.Sound.{at}
use Rattle.kept.proofs.Altered.{alters}
use Rattle.kept.proofs.Steps.{now, Good, good_add, good_alter, good_draw, ext_add, ext_alter_now}
use Rattle.kept.proofs.Regions.{Tags, After, OnSome, closed_by_lem, closed_fewer}
use Rattle.kept.proofs.Members.{member_row, owner_class, value_class, good_member, good_targets, ext_targets, good_words, ext_words, now_member, Out, no_out}

pub record Next (u : ℕ) (l : Look) (n : Numbers) (c c' : Change) : Type 0 where
  pub good : Good u l n c'
  pub ext : ExtAll (now l n c) (now l n c')
  pub regions : c'.regions ≡ c.regions

module _ (u : ℕ) (l : Look) (n : Numbers) (look_in : LookIn u l) where
  pub has_next : (c c' : Change) → Next u l n c c' → (t v : ℕ) → HasRow (now l n c) t v → HasRow (now l n c') t v
  has_next c c' N t v h = row_grow (now l n c) (now l n c') N.ext t v h

  pub next_refl : (c : Change) → Good u l n c → Next u l n c c
  next_refl c G = record { good = G; ext = λ t. ext_refl t (get_or (now l n c) t []); regions = refl }

  pub next_trans : (a b c : Change) → Next u l n a b → Next u l n b c → Next u l n a c
  next_trans a b c N M = record { good = M.good; ext = all_trans (now l n a) (now l n b) (now l n c) N.ext M.ext; regions = M.regions ∙ N.regions }

  pub next_draw : (i d : ℕ) (c : Change) → Good u l n c → Next u l n c (drawn i d c)
  unfolding drawn
  next_draw i d c G = record { good = good_draw u l n look_in i d c G; ext = λ t. ext_refl t (get_or (now l n c) t []); regions = refl }

  pub next_doc_lem : (c : Change) → Good u l n c → Next u l n c (draw_doc c)
  unfolding draw_doc
  next_doc_lem c G = next_draw 0 1 c G

  pub next_inside : (s t : ℕ) (c : Change) → Good u l n c → OrZero (now l n c) 1 s → OrZero (now l n c) 2 t → Next u l n c (inside s t c)
  unfolding inside
  next_inside s t c G a b =
      record {
        good = record { sound = G.sound; current = G.current; state = a; transition = b; regions = G.regions };
        ext = λ t. ext_refl t (get_or (now l n c) t []);
        regions = refl;
      }

  pub next_add : (w : Which) (i : ℕ) (ps : List Put) (c : Change) (k : ℕ) (fs : List Filling) → Good u l n c → shape_of l.tag w ≡ record { into = k; texts = fs }
      → (leb 4 k && leb k 8) ≡ true → (fills (columns_of k) fs && paired (columns_of k)) ≡ true
      → ((U : List Table) → ExtAll (now l n c) U → Nums (at u U c.ids c.docs) (new_row k fs ps l i) (columns_of k) (new_row k fs ps l i))
      → Next u l n c (also (add w i ps) c)
  unfolding also
  next_add w i ps c k fs G e p q f = record { good = good_add u l n look_in w i ps c k fs G e p q f; ext = ext_add u l n look_in w i ps c; regions = refl }

  pub next_alter : (w : Which) (m : ℕ) (ps : List Put) (c : Change) (k : ℕ) (fs : List Filling) → Good u l n c → shape_of l.tag w ≡ record { into = k; texts = fs }
      → alters k fs ps ≡ true
      → ((U : List Table) → ((t v : ℕ) → HasRow (now l n c) t v → HasRow U t v) → length (get_or (now l n c) 7 []) ≤ length (get_or U 7 []) → (r : Row) → row_of (get_or (now l n c) k []) m ≡ r → RowOk (at u (now l n c) c.ids c.docs) k r
      → PutsFit (at u U c.ids c.docs) (columns_of k) (filled_by l 0 fs r) ps)
      → Next u l n c (altering w m ps c)
  unfolding altering also
  next_alter w m ps c k fs G e a f = record { good = good_alter u l n look_in w m ps c k fs G e a f; ext = ext_alter_now u l n look_in w m ps c k fs e a; regions = refl }

  pub next_member : (k o v : ℕ) (c : Change) → Good u l n c → (leb 1 k && leb k 9) ≡ true
      → ((U : List Table) → ExtAll (now l n c) U → Fits (at u U c.ids c.docs) (member_row k o v 0 0) (owner_class k) o)
      → ((U : List Table) → ExtAll (now l n c) U → Fits (at u U c.ids c.docs) (member_row k o v 0 0) (value_class k) v)
      → Next u l n c (add_member k o v c)
  unfolding add_member adding also
  next_member k o v c G e f g = record { good = good_member u l n look_in k o v c G e f g; ext = now_member u l n look_in k o v c; regions = refl }

  targets_regions : (o : ℕ) (vs : List ℕ) (c : Change) → (add_members 6 o vs c).regions ≡ c.regions
  unfolding add_members add_member adding also
  targets_regions o [] c = refl
  targets_regions o (v ∷ vs) c = targets_regions o vs (add_member 6 o v c)

  pub next_targets : (o : ℕ) (vs : List ℕ) (c : Change) → Good u l n c → HasRow (now l n c) 2 o → All (HasRow (now l n c) 1) vs → Next u l n c (add_members 6 o vs c)
  next_targets o vs c G h a = record { good = good_targets u l n look_in o vs c G h a; ext = ext_targets u l n look_in o vs c; regions = targets_regions o vs c }

  words_regions : (k o i m : ℕ) (c : Change) → (add_words_from (shape 1) k o i m c).regions ≡ c.regions
  unfolding add_words_from also
  words_regions k o i zero c = refl
  words_regions k o i (suc m) c = words_regions k o (suc i) m (also (add (shape 1) i (member.list ≔ k ∷ member.owner ≔ o ∷ [])) c)

  pub next_words : (k o t kk : ℕ) → (leb 1 k && leb k 9) ≡ true → owner_class k ≡ row t → value_class k ≡ spare → shape_of l.tag (shape 1) ≡ record { into = 8; texts = member.word ⇐ word kk ∷ [] }
      → (m : ℕ) (c : Change) → Good u l n c → HasRow (now l n c) t o → Next u l n c (add_words (shape 1) k o m c)
  unfolding add_words
  next_words k o t kk e f g s m c G h =
      record { good = good_words u l n look_in k o t kk e f g s 0 m c G h; ext = ext_words u l n look_in k o 0 m c; regions = words_regions k o 0 m c }

  -- ---- closing

  abbrev closed_to : Closed → Change → Change
  closed_to x c = record { edits = c.edits; regions = x.regions; current = x.current; ids = c.ids; docs = c.docs; state = c.state; transition = c.transition }

  open_region_lem : (T : List Table) (i d : ℕ) (r : Row) → RowOk (at u T i d) 11 r → OrZero T 3 (num r 0)
  unfolding Nums Fits columns_of
  open_region_lem T i d [] h = absurd h.nums
  open_region_lem T i d (v ∷ vs) h = h.nums.0

  pub out_closing : (b g : ℕ) (c : Change) (next : Change → Outcome) → Good u l n c → Tags c.regions
      → ((x : Closed) → ¬ (c.current ≡ 0) → Good u l n (closed_to x c) → Tags x.regions → blocks_in 1 x.regions ≤ blocks_in 1 c.regions
      → (is_block g ≡ true → blocks_in 1 x.regions ≤ blocks_in 1 c.regions - 1) → Out u l n b (next (closed_to x c)))
      → Out u l n b (closing g c next)
  unfolding closing on_closed closed_by
  out_closing b g c next G t f =
      go (closed_by g c.regions c.current) refl
      (closed_by_lem (RowOk (at u (now l n c) c.ids c.docs) 11) (OrZero (now l n c) 3) (λ z. absurd (z refl)) (open_region_lem (now l n c) c.ids c.docs) g c.regions c.current G.regions t)
      (λ k. closed_fewer g k c.regions c.current)
    where
      P : Row → Type 0
      P = RowOk (at u (now l n c) c.ids c.docs) 11

      zero_closes : (rs : List Row) (x : Closed) → closed_by g rs 0 ≡ some x → ⊥
      zero_closes [] x e = let z : ◌≡◌ {A = ℕ} 0 1 = cc in omega arith
      zero_closes (r ∷ rs) x e = let z : ◌≡◌ {A = ℕ} 0 1 = cc in omega arith

      go : (o : Option Closed) → closed_by g c.regions c.current ≡ o → OnSome (After P (OrZero (now l n c) 3) c.regions (blocks_in 1 c.regions)) o
          → (is_block g ≡ true → OnSome (λ (x : Closed). blocks_in 1 x.regions ≤ blocks_in 1 c.regions - 1) o) → Out u l n b (on_closed o c next)
      go none e a k = no_out
      go (some x) e a k =
          f x (λ z. zero_closes c.regions x (subst (λ (v : ℕ). closed_by g c.regions v ≡ some x) z e))
          (record { sound = G.sound; current = a.current; state = G.state; transition = G.transition; regions = a.regions }) a.tags a.blocks k
