-- What the loops of this crate need: each test of a table at the rows from i on.
use mathlib.Core.Path.{◌≡◌, refl, sym, ap, ◌∙◌}
use mathlib.Core.Bool.{Bool, true, false, ◌&&◌, ◌||◌, not}
use mathlib.Core.List.{List, [], ◌∷◌}
use Prim.Native.Nat.{ℕ, zero, suc, ◌+◌, ◌*◌, ◌%◌, ◌≤◌, ◌<◌}
use native.Mathlib.Numerals.{add-one}
use native.Mathlib.Omega.{arith}
use lib.Dec.{eqb, ltb}
use lib.ListN.{length, get_or, drop, take, set, drop_of_length-le, length-set, length-drop}
use lib.Seq.{drop-cons, get_or-take, get_or-drop, get_or-set_same, get_or-set_other, length-take-le}
use borrow.Author.Tests.{lt-ltb, le-ltb, ltb-true, ltb-false, eq-eqb, ne_eqb, eqb-true, eqb-false, leb-true, le-leb, lt-leb}
use Rattle.definition.specs.Limits.{limits01}
use Rattle.definition.specs.Elements.{among, tag_of}
use Rattle.definition.specs.Text.{same}
use Rattle.definition.specs.Rows.{Row, Table, num, Cell, cell_at, text_from, text_at}
use Rattle.definition.specs.Look.{find_name, name_cells, open_name}
use Rattle.definition.specs.Actions.{place_of_number}
use Rattle.definition.specs.Rules.{rises, none_in, names_lead, is_block, blocks_in, open_tags_fit, unknown_fits, open_names_fit}
use Rattle.definition.proofs.Base.{same_refl, same_eq}
use Rattle.columns.specs.Rising.{Rising}
use Rattle.columns.proofs.Numbers.{number_at, place_none, place_some}
use Rattle.std.specs.Prelude.{count_by}
use Rattle.std.proofs.lemmas.List.Recursion.{is_count_by}
use mathlib.Core.Bool.{cond}
use Rattle.order.specs.Hash.{hash_from, hash_of, name_of, Hashed}

both : (a b : Bool) → elim a [ true ↦ b | false ↦ false ] ≡ true → (a ≡ true) × (b ≡ true)
both true b e = (refl, e)
both false b e = (e, let z : ◌≡◌ {A = ℕ} 0 1 = cc in let w : ⊥ = omega arith in absurd w)

-- ---- numbers rise

module _ (t : Table) (i low : ℕ) where
  pub rises_more : i < length t → low < number_at t i → rises (number_at t i) (drop (i + 1) t) ≡ rises low (drop i t)
  unfolding rises
  rises_more h k = rw (add-one, drop-cons t i [] h, lt-ltb low (number_at t i) k, rises)

  pub rises_stop : i < length t → number_at t i ≤ low → false ≡ rises low (drop i t)
  unfolding rises
  rises_stop h k = rw (drop-cons t i [] h, le-ltb low (number_at t i) k, rises)

  pub rises_end : length t ≤ i → true ≡ rises low (drop i t)
  unfolding rises
  rises_end h = rw (drop_of_length-le t h)

over : (low : ℕ) (t : Table) → rises low t ≡ true → (j : ℕ) → j < length t → low < number_at t j
unfolding rises
over low [] e j h = let z : ⊥ = omega arith in absurd z
over low (r ∷ rs) e zero h = ltb-true low (num r 0) (both (ltb low (num r 0)) (rises (num r 0) rs) e).0
over low (r ∷ rs) e (suc j) h =
    let k : low < num r 0 = ltb-true low (num r 0) (both (ltb low (num r 0)) (rises (num r 0) rs) e).0 in
    let m : num r 0 < number_at rs j = over (num r 0) rs (both (ltb low (num r 0)) (rises (num r 0) rs) e).1 j (omega arith) in
    omega arith

rising_from : (low : ℕ) (t : Table) → rises low t ≡ true → (i j : ℕ) → i < j → j < length t → number_at t i < number_at t j
unfolding rises
rising_from low [] e i j h k = let z : ⊥ = omega arith in absurd z
rising_from low (r ∷ rs) e i zero h k = let z : ⊥ = omega arith in absurd z
rising_from low (r ∷ rs) e zero (suc j) h k = over (num r 0) rs (both (ltb low (num r 0)) (rises (num r 0) rs) e).1 j (omega arith)
rising_from low (r ∷ rs) e (suc i) (suc j) h k = rising_from (num r 0) rs (both (ltb low (num r 0)) (rises (num r 0) rs) e).1 i j (omega arith) (omega arith)

pub rising : (t : Table) → rises 0 t ≡ true → Rising t
rising t e = rising_from 0 t e

-- ---- numbers that others have: one walk along two rising tables

-- No number before i is one of the others', and the others before j are below the number at i.
pub record Walk (us t : Table) (i j : ℕ) : Type 0 where
  pub along : i ≤ length t
  pub beside : j ≤ length us
  pub rest : none_in us (drop i t) ≡ none_in us t
  pub below : (k : ℕ) → k < j → i < length t → number_at us k < number_at t i

none_all : (us t : Table) → ((k : ℕ) → k < length t → place_of_number us (number_at t k) ≡ 0) → true ≡ none_in us t
unfolding none_in
none_all us [] f = refl
none_all us (r ∷ t) f = rw (eq-eqb _ _ (f 0 (omega arith)), none_in) (none_all us t (λ k h. f (suc k) (omega arith)))

-- Along a rising table a later number is not below an earlier one.
not_below : (t : Table) → Rising t → (j k : ℕ) → j ≤ k → k < length t → number_at t j ≤ number_at t k
not_below t up j k h l = go (eqb j k) refl
  where
    go : (b : Bool) → eqb j k ≡ b → number_at t j ≤ number_at t k
    go true q = rw (eqb-true j k q) (omega arith)
    go false q = let z : j ≡ k → ⊥ = eqb-false j k q in let m : j < k = omega (arith, z) in omega (arith, up j k m l)

pub walk_start : (us t : Table) → Walk us t 0 0
walk_start us t = record { along = omega arith; beside = omega arith; rest = refl; below = λ k h l. let z : ⊥ = omega arith in absurd z }

module _ (us t : Table) (upper : Rising us) (up : Rising t) (i j : ℕ) (w : Walk us t i j) where
  pub walk_end : length t ≤ i → true ≡ none_in us t
  unfolding none_in
  walk_end h = rw (← w.rest, drop_of_length-le t h)

  pub walk_met : i < length t → j < length us → number_at us j ≡ number_at t i → false ≡ none_in us t
  unfolding none_in
  walk_met h l e =
      let z : 1 ≤ place_of_number us (number_at t i) = leb-true 1 _ (place_some us (number_at t i) j l e) in
      rw (← w.rest, drop-cons t i [] h, ne_eqb (place_of_number us (number_at t i)) 0 (λ q. omega arith), none_in)

  pub walk_done : length us ≤ j → true ≡ none_in us t
  walk_done h = none_all us (drop i t) past ∙ w.rest
    where
      past : (k : ℕ) → k < length (drop i t) → place_of_number us (number_at (drop i t) k) ≡ 0
      past k l = rw (get_or-drop i t k []) (place_none us (number_at t (i + k)) (λ m b e. omega (arith, w.below m (omega arith) (omega (arith, length-drop i t)), not_below t up i (i + k) (omega arith) (omega (arith, length-drop i t)))))

  module _ (h : i < length t) (l : j < length us) where
    pub walk_beside : number_at us j < number_at t i → Walk us t i (j + 1)
    walk_beside e = record { along = w.along; beside = omega arith; rest = w.rest; below = under }
      where
        under : (k : ℕ) → k < j + 1 → i < length t → number_at us k < number_at t i
        under k m n = omega (arith, not_below us upper k j (omega arith) l)

    pub walk_along : (number_at us j ≡ number_at t i → ⊥) → number_at t i ≤ number_at us j → Walk us t (i + 1) j
    unfolding none_in
    walk_along f e = record { along = omega arith; beside = w.beside; rest = passed ∙ w.rest; below = under }
      where
        none : place_of_number us (number_at t i) ≡ 0
        none = place_none us (number_at t i) (λ k m q. side (ltb k j) refl k refl m q)
          where
            side : (b : Bool) {x : ℕ} → ltb x j ≡ b → (k : ℕ) → x ≡ k → k < length us → number_at us k ≡ number_at t i → ⊥
            side true {x} s k x≡k m q = omega (arith, w.below k (rw (← x≡k) (ltb-true x j s)) h)
            side false {x} s k x≡k m q = let n : j ≤ k = rw (← x≡k) (ltb-false x j s) in let o : number_at us j ≤ number_at us k = not_below us upper j k n m in f (omega arith)

        passed : none_in us (drop (i + 1) t) ≡ none_in us (drop i t)
        passed = rw (add-one, drop-cons t i [] h, eq-eqb _ _ none, none_in)

        under : (k : ℕ) → k < j → i + 1 < length t → number_at us k < number_at t (i + 1)
        under k m n = omega (arith, w.below k m h, up i (i + 1) (omega arith) n)

-- ---- hashes

module _ (name : List ℕ) (i h : ℕ) where
  pub hash_more : {b : ℕ} → b ≡ get_or name i 0 → i < length name → hash_from (h % 16777216 * 31 + b) (drop (i + 1) name) ≡ hash_from h (drop i name)
  unfolding hash_from
  hash_more e l = rw (e, add-one, drop-cons name i 0 l)

  pub hash_end : length name ≤ i → h ≡ hash_from h (drop i name)
  unfolding hash_from
  hash_end l = rw (drop_of_length-le name l)

pub hash_differs : (a b : List ℕ) {x y : ℕ} → x ≡ hash_of a → y ≡ hash_of b → (x ≡ y → ⊥) → false ≡ same a b
hash_differs a b e f d = go (same a b) refl
  where
    go : (c : Bool) → same a b ≡ c → false ≡ same a b
    go true q = let z : ⊥ = d (e ∙ ap hash_of (same_eq a b q) ∙ sym f) in absurd z
    go false q = sym q

hashed_start : (t : List ℕ) (st : Table) (hs : List ℕ) → Hashed t (take 0 st) hs
hashed_start t st hs = record { room = omega arith; right = λ j h. let z : ⊥ = omega arith in absurd z }

hashed_more : (t : List ℕ) (st : Table) (hs : List ℕ) (i h : ℕ) → i < length st → i < length hs → h ≡ hash_of (name_of t st i) → Hashed t (take i st) hs → Hashed t (take (i + 1) st) (set hs i h)
hashed_more t st hs i h l m e w = record { room = omega (arith, length-set hs i h, taken); right = right }
  where
    taken : length (take (i + 1) st) ≡ i + 1
    taken = length-take-le (i + 1) st (omega arith)

    right : (j : ℕ) → j < length (take (i + 1) st) → get_or (set hs i h) j 0 ≡ hash_of (name_of t (take (i + 1) st) j)
    right j n = go (eqb j i) refl
      where
        go : (b : Bool) → eqb j i ≡ b → get_or (set hs i h) j 0 ≡ hash_of (name_of t (take (i + 1) st) j)
        go true q = rw (get_or-take (i + 1) st j [] (omega (arith, taken)), eqb-true j i q) (get_or-set_same hs i h 0 m ∙ e)
        go false q =
            let z : j ≡ i → ⊥ = eqb-false j i q in
            let k : j < i = omega (arith, z, taken) in
            let o : j < length (take i st) = omega (arith, length-take-le i st (omega arith)) in
            rw (get_or-take (i + 1) st j [] (omega (arith, taken))) (get_or-set_other hs i j h 0 z ∙ w.right j o ∙ rw (get_or-take i st j [] k))

-- ---- names

module _ (t : List ℕ) (st : Table) (i : ℕ) (h : i < length st) where
  cells_at_lem : name_cells (drop i st) ≡ cell_at (get_or st i []) 0 ∷ name_cells (drop (i + 1) st)
  unfolding name_cells
  cells_at_lem = rw (add-one, drop-cons st i [] h)

  module _ (w : List ℕ) {b : Bool} (e : b ≡ same (name_of t st i) w) where
    pub find_more : b ≡ false → find_name t (name_cells (drop i st)) w ≡ suc (find_name t (name_cells (drop (i + 1) st)) w)
    unfolding find_name text_at cell_at
    find_more f = rw (cells_at_lem, find_name, ← e, f, find_name)

    pub find_here : b ≡ true → find_name t (name_cells (drop i st)) w ≡ 0
    unfolding find_name text_at cell_at
    find_here f = rw (cells_at_lem, find_name, ← e, f, find_name)

  module _ (all : List Cell) {k : ℕ} {w : List ℕ} (n : w ≡ name_of t st i) (e : k ≡ find_name t all w) where
    lead_more : k ≡ i → names_lead t all (i + 1) (name_cells (drop (i + 1) st)) ≡ names_lead t all i (name_cells (drop i st))
    unfolding names_lead text_at cell_at
    lead_more f = let z : find_name t all (name_of t st i) ≡ i = rw (← n, ← e) f in rw (cells_at_lem, names_lead, eq-eqb _ _ z, names_lead, add-one)

    lead_stop : (k ≡ i → ⊥) → false ≡ names_lead t all i (name_cells (drop i st))
    unfolding names_lead text_at cell_at
    lead_stop f = let z : find_name t all (name_of t st i) ≡ k = rw (← n, ← e) in rw (cells_at_lem, names_lead, ne_eqb (find_name t all (name_of t st i)) i (λ q. f (sym z ∙ q)), names_lead)

pub find_end : (t : List ℕ) (st : Table) (i : ℕ) (w : List ℕ) → length st ≤ i → find_name t (name_cells (drop i st)) w ≡ 0
unfolding find_name name_cells
find_end t st i w h = rw (drop_of_length-le st h)

lead_end : (t : List ℕ) (all : List Cell) (st : Table) (i : ℕ) → length st ≤ i → true ≡ names_lead t all i (name_cells (drop i st))
unfolding names_lead name_cells
lead_end t all st i h = rw (drop_of_length-le st h)

-- Where the first state with state i's name stands is told by the states before i.
find_before : (t : List ℕ) (st : Table) (i : ℕ) (w : List ℕ) → i < length st → same (name_of t st i) w ≡ true → find_name t (name_cells st) w ≡ find_name t (name_cells (take i st)) w
unfolding find_name name_cells text_at cell_at
find_before t [] i w h e = let z : ⊥ = omega arith in absurd z
find_before t (r ∷ st) zero w h e = rw (e, find_name)
find_before t (r ∷ st) (suc i) w h e = go (same (text_from t (num r 0) (num r 1)) w) refl (find_before t st i w (omega arith) e)
  where
    go : (b : Bool) → same (text_from t (num r 0) (num r 1)) w ≡ b → find_name t (name_cells st) w ≡ find_name t (name_cells (take i st)) w → find_name t (name_cells (r ∷ st)) w ≡ find_name t (name_cells (take (suc i) (r ∷ st))) w
    go true q ih = rw (q, find_name)
    go false q ih = rw (q, find_name) (ap suc ih)

-- The names before i lead to their states, and their hashes are known.
pub record Leading (t : List ℕ) (st : Table) (hs : List ℕ) (i : ℕ) : Type 0 where
  pub along : i ≤ length st
  pub room : length hs ≡ 256
  pub hashed : Hashed t (take i st) hs
  pub rest : names_lead t (name_cells st) i (name_cells (drop i st)) ≡ names_lead t (name_cells st) 0 (name_cells st)

pub leading_start : (t : List ℕ) (st : Table) (hs : List ℕ) → length hs ≡ 256 → Leading t st hs 0
leading_start t st hs e = record { along = omega arith; room = e; hashed = hashed_start t st hs; rest = refl }

module _ (t : List ℕ) (st : Table) (hs : List ℕ) (i : ℕ) (w : Leading t st hs i) where
  pub leading_end : length st ≤ i → true ≡ names_lead t (name_cells st) 0 (name_cells st)
  leading_end h = lead_end t (name_cells st) st i h ∙ w.rest

  module _ (h : i < length st) {name : List ℕ} {k : ℕ} (n : name ≡ name_of t st i) (e : k ≡ find_name t (name_cells (take i st)) name) where
    found : k ≡ find_name t (name_cells st) name
    found = e ∙ sym (find_before t st i name h (rw n (same_refl (name_of t st i))))

    pub leading_stop : (k ≡ i → ⊥) → false ≡ names_lead t (name_cells st) 0 (name_cells st)
    leading_stop f = lead_stop t st i h (name_cells st) n found f ∙ w.rest

    pub leading_more : length st ≤ 256 → {x : ℕ} → x ≡ hash_of name → k ≡ i → Leading t st (set hs i x) (i + 1)
    leading_more m {x} o f =
        record {
          along = omega arith;
          room = length-set hs i x ∙ w.room;
          hashed = hashed_more t st hs i x h (omega (arith, w.room)) (o ∙ ap hash_of n) w.hashed;
          rest = lead_more t st i h (name_cells st) n found f ∙ w.rest;
        }

-- ---- open elements

pub block_is : (g : ℕ) → (eqb g 24 || eqb g 25) ≡ is_block g
unfolding is_block among
block_is g = go (eqb g 24) (eqb g 25)
  where
    go : (a b : Bool) → (a || b) ≡ elim a [ true ↦ true | false ↦ elim b [ true ↦ true | false ↦ false ] ]
    go true b = refl
    go false true = refl
    go false false = refl

pub blocks_by : (c : ℕ) (t : Table) → count_by (λ (r : List ℕ). is_block (num r c)) t ≡ blocks_in c t
unfolding blocks_in
blocks_by c t = sym (is_count_by (blocks_in c) (λ (r : List ℕ). is_block (num r c)) refl (λ r rs. go (is_block (num r c)) (blocks_in c rs)) t)
  where
    go : (b : Bool) (n : ℕ) → elim b [ true ↦ suc n | false ↦ n ] ≡ cond b (1 + n) n
    go true n = omega arith
    go false n = refl

module _ (g : ℕ) (t : Table) (i : ℕ) {b : Bool} (e : b ≡ is_block (num (get_or t i []) 1)) (h : i < length t) where
  pub tags_more : (b || (eqb (num (get_or t i []) 1) 13 && eqb g 24)) ≡ true → open_tags_fit (num (get_or t i []) 1) (drop (i + 1) t) ≡ open_tags_fit g (drop i t)
  unfolding open_tags_fit
  tags_more f = rw (add-one, drop-cons t i [] h, open_tags_fit, ← e, f, open_tags_fit)

  pub tags_stop : (b || (eqb (num (get_or t i []) 1) 13 && eqb g 24)) ≡ false → false ≡ open_tags_fit g (drop i t)
  unfolding open_tags_fit
  tags_stop f = rw (drop-cons t i [] h, open_tags_fit, ← e, f, open_tags_fit)

pub tags_end : (g : ℕ) (t : Table) (i : ℕ) → length t ≤ i → true ≡ open_tags_fit g (drop i t)
unfolding open_tags_fit
tags_end g t i h = rw (drop_of_length-le t h)

module _ (xs ns : Table) (i : ℕ) {b : Bool} (e : b ≡ (not (eqb (num (get_or xs i []) 0) 0) || unknown_fits limits01 (get_or xs i []) (get_or ns i []))) (h : i < length xs) (k : i < length ns) where
  pub opened_more : b ≡ true → open_names_fit limits01 (drop (i + 1) xs) (drop (i + 1) ns) ≡ open_names_fit limits01 (drop i xs) (drop i ns)
  unfolding open_names_fit
  opened_more f = rw (add-one, drop-cons xs i [] h, drop-cons ns i [] k, open_names_fit, ← e, f, open_names_fit)

  pub opened_stop : b ≡ false → false ≡ open_names_fit limits01 (drop i xs) (drop i ns)
  unfolding open_names_fit
  opened_stop f = rw (drop-cons xs i [] h, drop-cons ns i [] k, open_names_fit, ← e, f, open_names_fit)

pub opened_end : (xs ns : Table) (i : ℕ) → length xs ≡ length ns → length xs ≤ i → true ≡ open_names_fit limits01 (drop i xs) (drop i ns)
unfolding open_names_fit
opened_end xs ns i e h = let k : length ns ≤ i = omega arith in rw (drop_of_length-le xs h, drop_of_length-le ns k)

module _ (x n : Row) {m : ℕ} (e : m ≡ num x 3) where
  pub unknown_short : m < 1 → false ≡ unknown_fits limits01 x n
  unfolding unknown_fits
  unknown_short h = let k : num x 3 < 1 = omega arith in rw (lt-leb 1 (num x 3) k)

  pub unknown_long : (m < 1 → ⊥) → 64 < m → false ≡ unknown_fits limits01 x n
  unfolding unknown_fits
  unknown_long h l = let k : 1 ≤ num x 3 = omega arith in let j : 64 < num x 3 = omega arith in rw (le-leb 1 (num x 3) k, lt-leb (num x 3) 64 j)

  pub unknown_rest : 1 ≤ m → m ≤ 64 → {g : ℕ} → g ≡ tag_of (take m n) → eqb g 0 ≡ unknown_fits limits01 x n
  unfolding unknown_fits open_name
  unknown_rest h l f = let k : 1 ≤ num x 3 = omega arith in let j : num x 3 ≤ 64 = omega arith in rw (f, e, le-leb 1 (num x 3) k, le-leb (num x 3) 64 j)

pub opened_uneven : (xs ns : Table) → (length xs ≡ length ns → ⊥) → false ≡ open_names_fit limits01 xs ns
unfolding open_names_fit
opened_uneven [] [] h = let z : ⊥ = h refl in absurd z
opened_uneven [] (n ∷ ns) h = refl
opened_uneven (x ∷ xs) [] h = refl
opened_uneven (x ∷ xs) (n ∷ ns) h = go (not (eqb (num x 0) 0) || unknown_fits limits01 x n) refl (opened_uneven xs ns (λ e. h (ap suc e)))
  where
    go : (b : Bool) → (not (eqb (num x 0) 0) || unknown_fits limits01 x n) ≡ b → false ≡ open_names_fit limits01 xs ns → false ≡ open_names_fit limits01 (x ∷ xs) (n ∷ ns)
    go true q ih = rw (q, open_names_fit) ih
    go false q ih = rw (q, open_names_fit)
