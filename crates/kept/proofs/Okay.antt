-- The rules as facts; an element opened, an element closed.
use Prim.Native.Nat.{ℕ, suc, ◌-◌, ◌≤◌}
use mathlib.Core.Path.{◌≡◌, refl, sym, ap, ◌∙◌, subst}
use mathlib.Core.Bool.{Bool, true, false, ◌&&◌, ◌||◌, not}
use mathlib.Core.List.{List, [], ◌∷◌, ◌++◌, reverse, reverse-cons, reverse-reverse}
use lib.ListN.{length, get_or}
use lib.Dec.{eqb}
use native.Mathlib.Omega.{arith}
use Rattle.definition.specs.declared.Limits.{Limits}
use Rattle.definition.specs.Rows.{Row, Table, num, columns_of, Numbers, table_of, last_of, innermost, current_state, current_transition}
use Rattle.definition.specs.Look.{Look, name_cells}
use Rattle.definition.specs.Change.{nothing, edited_by, without_last}
use Rattle.definition.specs.Rules.{blocks_in, open_tags_fit, open_names_fit, unknown_fits, names_lead, chosen}
use Rattle.kept.proofs.Base.{and_left, and_right, and_both, All, All-map, All-append}
use Rattle.kept.proofs.Classes.{OrZero, Fits, Nums}
use Rattle.kept.proofs.Tables.{RowOk}
use Rattle.kept.proofs.Sound.{at, Sound}
use Rattle.kept.proofs.Regions.{blocks_append, blocks_reverse}
use Rattle.kept.proofs.StatesOut.{Ready}
use Rattle.kept.proofs.Dispatch.{room}

-- THE RULES AS FACTS, but for the limits.
pub record Ok (L : Limits) (t : List ℕ) (T : List Table) (i d c : ℕ) : Type 0 where
  pub sound : Sound (length t) T T i d
  pub names : names_lead t (name_cells (get_or T 1 [])) 0 (name_cells (get_or T 1 [])) ≡ true
  pub opens : open_names_fit L (get_or T 9 []) (get_or T 10 []) ≡ true
  pub even : length (get_or T 10 []) ≡ length (get_or T 9 [])
  pub tags : open_tags_fit 0 (get_or T 11 []) ≡ true
  pub blocks : blocks_in 1 (get_or T 11 []) ≤ blocks_in 0 (get_or T 9 [])
  pub current : OrZero T 3 c

abbrev pub OkOf : Limits → List ℕ → Numbers → Type 0
OkOf L t n = Ok L t n.tables n.ids n.docs n.current

-- ---- what a handler finds

pub All-reverse : (P : Row → Type 0) (rs : Table) → All P rs → All P (reverse rs)
All-reverse P [] a = tt
All-reverse P (r ∷ rs) a = subst (All P) (sym (reverse-cons r rs)) (All-append P (reverse rs) (r ∷ []) (All-reverse P rs a.1) (a.0, tt))

last_all : (P : Row → Type 0) (d : Row) (rs : Table) → P d → All P rs → P (last_of d rs)
unfolding last_of
last_all P d [] h a = h
last_all P d (r ∷ rs) h a = last_all P r rs a.0 a.1

opened_row_lem : (u : ℕ) (T : List Table) (i d : ℕ) (r : Row) → RowOk (at u T i d) 9 r → OrZero T 1 (num r 1) × OrZero T 2 (num r 2)
unfolding Nums Fits columns_of chosen
opened_row_lem u T i d [] h = absurd h.nums
opened_row_lem u T i d (a ∷ []) h = absurd h.nums.1
opened_row_lem u T i d (a ∷ b ∷ []) h = absurd h.nums.1.1
opened_row_lem u T i d (a ∷ b ∷ c ∷ vs) h = (h.nums.1.0, h.nums.1.1.0)

pub ready_of : (L : Limits) (t : List ℕ) (n : Numbers) → OkOf L t n → (l : Look) → Ready (length t) l n (blocks_in 0 (table_of n 9))
unfolding nothing edited_by current_state current_transition innermost
ready_of L t n K l =
    let u : ℕ = length t in
    let T : List Table = n.tables in
    let x = last_all (λ (r : Row). OrZero T 1 (num r 1) × OrZero T 2 (num r 2)) [] (get_or T 9 []) ((λ z. absurd (z refl)), (λ z. absurd (z refl)))
    (All-map (RowOk (at u T n.ids n.docs) 9) (λ (r : Row). OrZero T 1 (num r 1) × OrZero T 2 (num r 2)) (opened_row_lem u T n.ids n.docs) (get_or T 9 []) (K.sound.rows 9)) in
    record {
      good = record { sound = K.sound; current = K.current; state = x.0; transition = x.1; regions = All-reverse (RowOk (at u T n.ids n.docs) 11) (get_or T 11 []) (K.sound.rows 11) };
      tags = ap (open_tags_fit 0) (reverse-reverse (get_or T 11 [])) ∙ K.tags;
      blocks = omega (arith, blocks_reverse 1 (get_or T 11 []), K.blocks);
    }

-- ---- open names

names_cons : (L : Limits) (x n : Row) (xs ns : Table) → open_names_fit L (x ∷ xs) (n ∷ ns) ≡ ((not (eqb (num x 0) 0) || unknown_fits L x n) && open_names_fit L xs ns)
unfolding open_names_fit
names_cons L x n xs ns = go (not (eqb (num x 0) 0) || unknown_fits L x n) refl
  where
    go : (b : Bool) → (not (eqb (num x 0) 0) || unknown_fits L x n) ≡ b → open_names_fit L (x ∷ xs) (n ∷ ns) ≡ (b && open_names_fit L xs ns)
    go true e = rw (e, open_names_fit)
    go false e = rw (e, open_names_fit)

abbrev pub NamedSo : Limits → Row → Row → Type 0
NamedSo L x n = (not (eqb (num x 0) 0) || unknown_fits L x n) ≡ true

pub names_append : (L : Limits) (xs ns : Table) (x n : Row) → open_names_fit L xs ns ≡ true → length ns ≡ length xs → NamedSo L x n → open_names_fit L (xs ++ x ∷ []) (ns ++ n ∷ []) ≡ true
unfolding open_names_fit
names_append L [] [] x n e k h = names_cons L x n [] [] ∙ and_both (not (eqb (num x 0) 0) || unknown_fits L x n) true h refl
names_append L [] (m ∷ ns) x n e k h = absurd (omega arith)
names_append L (y ∷ xs) [] x n e k h = absurd (omega arith)
names_append L (y ∷ xs) (m ∷ ns) x n e k h =
    let f : (NamedB && open_names_fit L xs ns) ≡ true = sym (names_cons L y m xs ns) ∙ e in
    names_cons L y m (xs ++ x ∷ []) (ns ++ n ∷ []) ∙ and_both NamedB (open_names_fit L (xs ++ x ∷ []) (ns ++ n ∷ [])) (and_left NamedB (open_names_fit L xs ns) f)
    (names_append L xs ns x n (and_right NamedB (open_names_fit L xs ns) f) (omega arith) h)
  where
    NamedB : Bool
    NamedB = not (eqb (num y 0) 0) || unknown_fits L y m

pub names_drop : (L : Limits) (xs ns : Table) → open_names_fit L xs ns ≡ true → length ns ≡ length xs → open_names_fit L (without_last xs) (without_last ns) ≡ true
unfolding open_names_fit without_last
names_drop L [] [] e k = refl
names_drop L [] (m ∷ ns) e k = absurd (omega arith)
names_drop L (y ∷ xs) [] e k = absurd (omega arith)
names_drop L (y ∷ []) (m ∷ []) e k = refl
names_drop L (y ∷ []) (m ∷ o ∷ ns) e k = absurd (omega arith)
names_drop L (y ∷ z ∷ xs) (m ∷ []) e k = absurd (omega arith)
names_drop L (y ∷ z ∷ xs) (m ∷ o ∷ ns) e k =
    let f : (NamedB && open_names_fit L (z ∷ xs) (o ∷ ns)) ≡ true = sym (names_cons L y m (z ∷ xs) (o ∷ ns)) ∙ e in
    names_cons L y m (without_last (z ∷ xs)) (without_last (o ∷ ns))
    ∙ and_both NamedB (open_names_fit L (without_last (z ∷ xs)) (without_last (o ∷ ns))) (and_left NamedB (open_names_fit L (z ∷ xs) (o ∷ ns)) f)
    (names_drop L (z ∷ xs) (o ∷ ns) (and_right NamedB (open_names_fit L (z ∷ xs) (o ∷ ns)) f) (omega arith))
  where
    NamedB : Bool
    NamedB = not (eqb (num y 0) 0) || unknown_fits L y m

-- ---- the last row taken away

pub All-drop : (P : Row → Type 0) (rs : Table) → All P rs → All P (without_last rs)
unfolding without_last
All-drop P [] a = tt
All-drop P (r ∷ []) a = tt
All-drop P (r ∷ s ∷ rs) a = (a.0, All-drop P (s ∷ rs) a.1)

pub length_drop_last : (xs ns : Table) → length ns ≡ length xs → length (without_last ns) ≡ length (without_last xs)
unfolding without_last
length_drop_last [] [] e = refl
length_drop_last [] (n ∷ ns) e = absurd (omega arith)
length_drop_last (x ∷ xs) [] e = absurd (omega arith)
length_drop_last (x ∷ []) (n ∷ []) e = refl
length_drop_last (x ∷ []) (n ∷ m ∷ ns) e = absurd (omega arith)
length_drop_last (x ∷ y ∷ xs) (n ∷ []) e = absurd (omega arith)
length_drop_last (x ∷ y ∷ xs) (n ∷ m ∷ ns) e = ap suc (length_drop_last (y ∷ xs) (m ∷ ns) (omega arith))

pub drop_shorter : (rs : Table) → length (without_last rs) ≤ length rs
unfolding without_last
drop_shorter [] = omega arith
drop_shorter (r ∷ []) = omega arith
drop_shorter (r ∷ s ∷ rs) = omega (arith, drop_shorter (s ∷ rs))

pub blocks_last : (rs : Table) → blocks_in 0 rs - room (num (last_of [] rs) 0) ≤ blocks_in 0 (without_last rs)
unfolding without_last last_of blocks_in
blocks_last [] = omega arith
blocks_last (r ∷ []) = omega arith
blocks_last (r ∷ s ∷ rs) =
    let ih : blocks_in 0 (s ∷ rs) - room (num (last_of s rs) 0) ≤ blocks_in 0 (without_last (s ∷ rs)) = blocks_last (s ∷ rs) in
    omega (arith, ih, blocks_append 0 (r ∷ []) (s ∷ rs), blocks_append 0 (r ∷ []) (without_last (s ∷ rs)))
