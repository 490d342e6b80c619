-- Members of lists; what a handler gives; closing.
use Prim.Native.Nat.{ℕ, zero, suc, ◌≤◌}
use mathlib.Core.Path.{◌≡◌, refl}
use mathlib.Core.Bool.{Bool, true, false, ◌&&◌}
use mathlib.Core.List.{List, [], ◌∷◌}
use lib.ListN.{get_or}
use lib.Dec.{leb}
use native.Mathlib.Omega.{arith}
use Rattle.definition.specs.Rows.{Row, Table, Class, free, spare, row, columns_of, choices, blank, Numbers, member, Cell, cell_at, with_cell}
use Rattle.definition.specs.Shapes.{◌⇐◌, word}
use Rattle.definition.specs.Look.{Look}
use Rattle.definition.specs.Change.{Put, ◌≔◌, numbers, shape, add, Change, Outcome, done, refuse, unless_zero, put_all, put_one, is_number, filled_by, cell_of, also, adding, shape_of, add_member, add_members, add_words_from}
use Rattle.definition.specs.Rules.{blocks_in, chosen}
use Rattle.kept.proofs.Base.{All, All-map}
use Rattle.kept.proofs.Classes.{View, Fits, Nums, HasRow}
use Rattle.kept.proofs.Grow.{ExtAll, ext_refl, all_trans, row_grow}
use Rattle.kept.proofs.RowChange.{paired}
use Rattle.kept.proofs.RowTexts.{LookIn, fills}
use Rattle.kept.proofs.Sound.{at}
use Rattle.kept.proofs.Steps.{now, Good, good_add, ext_add}
use Rattle.kept.proofs.Regions.{Tags}

abbrev pub member_row : ℕ → ℕ → ℕ → ℕ → ℕ → Row
member_row k o v a b = k ∷ o ∷ v ∷ a ∷ b ∷ 0 ∷ 0 ∷ 0 ∷ []

-- The classes of a member's owner and value.
abbrev pub owner_class : ℕ → Class
owner_class k = get_or (get_or choices 3 []) k free

abbrev pub value_class : ℕ → Class
value_class k = get_or (get_or choices 4 []) k free

pub member_nums : (W : View) (k o v a b : ℕ) → (leb 1 k && leb k 9) ≡ true → Fits W (member_row k o v a b) (owner_class k) o → Fits W (member_row k o v a b) (value_class k) v
    → Nums W (member_row k o v a b) (columns_of 8) (member_row k o v a b)
unfolding Nums columns_of chosen Fits
member_nums W k o v a b e f g = (e, (f, (g, (tt, (tt, (refl, (refl, (refl, tt))))))))

module _ (u : ℕ) (l : Look) (n : Numbers) (look_in : LookIn u l) where
  one_word : (k o t kk : ℕ) → (leb 1 k && leb k 9) ≡ true → owner_class k ≡ row t → value_class k ≡ spare → shape_of l.tag (shape 1) ≡ record { into = 8; texts = member.word ⇐ word kk ∷ [] }
      → (i : ℕ) (c : Change) → Good u l n c → HasRow (now l n c) t o → Good u l n (also (add (shape 1) i (member.list ≔ k ∷ member.owner ≔ o ∷ [])) c)
  unfolding columns_of blank put_all put_one is_number filled_by with_cell fills paired Fits
  one_word k o t kk e f g s i c G h =
      let x : Cell = cell_of l i (cell_at (blank 8) 3) (word kk) in
      good_add u l n look_in (shape 1) i (member.list ≔ k ∷ member.owner ≔ o ∷ []) c 8 (member.word ⇐ word kk ∷ []) G s refl refl (λ U y.
      member_nums (at u U c.ids c.docs) k o 0 x.at x.len e (rw f (λ z. row_grow (now l n c) U y t o h)) (rw g refl))

  pub good_member : (k o v : ℕ) (c : Change) → Good u l n c → (leb 1 k && leb k 9) ≡ true
      → ((U : List Table) → ExtAll (now l n c) U → Fits (at u U c.ids c.docs) (member_row k o v 0 0) (owner_class k) o)
      → ((U : List Table) → ExtAll (now l n c) U → Fits (at u U c.ids c.docs) (member_row k o v 0 0) (value_class k) v)
      → Good u l n (add_member k o v c)
  unfolding add_member adding shape_of columns_of blank put_all put_one is_number filled_by fills paired
  good_member k o v c G e f g =
      good_add u l n look_in (numbers 8) 0 (member.list ≔ k ∷ member.owner ≔ o ∷ member.value ≔ v ∷ []) c 8 [] G refl refl refl (λ U x.
      member_nums (at u U c.ids c.docs) k o v 0 0 e (f U x) (g U x))

  -- ---- targets of a transition

  pub now_member : (k o v : ℕ) (c : Change) → ExtAll (now l n c) (now l n (add_member k o v c))
  unfolding add_member adding
  now_member k o v c = ext_add u l n look_in (numbers 8) 0 (member.list ≔ k ∷ member.owner ≔ o ∷ member.value ≔ v ∷ []) c

  pub good_targets : (o : ℕ) (vs : List ℕ) (c : Change) → Good u l n c → HasRow (now l n c) 2 o → All (HasRow (now l n c) 1) vs → Good u l n (add_members 6 o vs c)
  unfolding add_members Fits choices
  good_targets o [] c G h a = G
  good_targets o (v ∷ vs) c G h a =
      let x : ExtAll (now l n c) (now l n (add_member 6 o v c)) = now_member 6 o v c in
      good_targets o vs (add_member 6 o v c) (
      good_member 6 o v c G refl (λ U y z. row_grow (now l n c) U y 2 o h) (λ U y. row_grow (now l n c) U y 1 v a.0))
      (row_grow (now l n c) (now l n (add_member 6 o v c)) x 2 o h)
      (All-map (HasRow (now l n c) 1) (HasRow (now l n (add_member 6 o v c)) 1) (λ w. row_grow (now l n c) (now l n (add_member 6 o v c)) x 1 w) vs a.1)

  pub ext_targets : (o : ℕ) (vs : List ℕ) (c : Change) → ExtAll (now l n c) (now l n (add_members 6 o vs c))
  unfolding add_members
  ext_targets o [] c = λ t. ext_refl t (get_or (now l n c) t [])
  ext_targets o (v ∷ vs) c = all_trans (now l n c) (now l n (add_member 6 o v c)) (now l n (add_members 6 o vs (add_member 6 o v c))) (now_member 6 o v c) (ext_targets o vs (add_member 6 o v c))

  -- ---- words: t is the table of their owners

  pub good_words : (k o t kk : ℕ) → (leb 1 k && leb k 9) ≡ true → owner_class k ≡ row t → value_class k ≡ spare → shape_of l.tag (shape 1) ≡ record { into = 8; texts = member.word ⇐ word kk ∷ [] }
      → (i m : ℕ) (c : Change) → Good u l n c → HasRow (now l n c) t o → Good u l n (add_words_from (shape 1) k o i m c)
  unfolding add_words_from
  good_words k o t kk e f g s i zero c G h = G
  good_words k o t kk e f g s i (suc m) c G h =
      let ps : List Put = member.list ≔ k ∷ member.owner ≔ o ∷ [] in
      good_words k o t kk e f g s (suc i) m (also (add (shape 1) i ps) c) (one_word k o t kk e f g s i c G h)
      (row_grow (now l n c) (now l n (also (add (shape 1) i ps) c)) (ext_add u l n look_in (shape 1) i ps c) t o h)

  pub ext_words : (k o i m : ℕ) (c : Change) → ExtAll (now l n c) (now l n (add_words_from (shape 1) k o i m c))
  unfolding add_words_from
  ext_words k o i zero c = λ t. ext_refl t (get_or (now l n c) t [])
  ext_words k o i (suc m) c =
      let ps : List Put = member.list ≔ k ∷ member.owner ≔ o ∷ [] in
      let c' : Change = also (add (shape 1) i ps) c in
      all_trans (now l n c) (now l n c') (now l n (add_words_from (shape 1) k o (suc i) m c')) (ext_add u l n look_in (shape 1) i ps c) (ext_words k o (suc i) m c')

-- ---- what a handler gives

-- b: the most blocks that the open regions may have.
pub data Out (u : ℕ) (l : Look) (n : Numbers) (b : ℕ) : Outcome → Type 0 where
  out : {c : Change} → Good u l n c → Tags c.regions → blocks_in 1 c.regions ≤ b → Out u l n b (done c)
  no_out : {k : ℕ} → Out u l n b (refuse k)

module _ (u : ℕ) (l : Look) (n : Numbers) (b : ℕ) where
  pub out_either : (p : Bool) (x y : Outcome) → (p ≡ true → Out u l n b x) → (p ≡ false → Out u l n b y) → Out u l n b (elim p as (λ z. Outcome) [ true ↦ x | false ↦ y ])
  out_either true x y f g = f refl
  out_either false x y f g = g refl

  pub out_unless : (i : ℕ) (o : Outcome) → (¬ (i ≡ 0) → Out u l n b o) → Out u l n b (unless_zero i o)
  unfolding unless_zero
  out_unless zero o f = no_out
  out_unless (suc i) o f = f (omega arith)
