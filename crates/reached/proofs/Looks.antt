-- What a look at an event tells: its own state exists once the names are entered; the innermost element at an end.
use Prim.Native.Nat.{ℕ, zero, suc, ◌+◌, ◌≤◌}
use mathlib.Core.Path.{◌≡◌, refl, sym, ap, ◌∙◌, subst}
use mathlib.Core.Bool.{Bool, true, false, false≢true}
use mathlib.Core.List.{List, [], ◌∷◌, ◌++◌, map, reverse}
use lib.ListN.{length, get_or, set, drop, length-append, length-drop, length-map}
use lib.Seq.{get_or-set_same}
use lib.Dec.{eqb, ltb}
use borrow.Author.Tests.{eqb-true, ltb-true}
use native.Mathlib.Omega.{arith}
use Rattle.definition.specs.Text.{Piece}
use Rattle.definition.specs.Elements.{Role, name, role_of, is_masked, is_name, among, names_state, tag_of}
use Rattle.definition.specs.Event.{Event}
use Rattle.definition.specs.Rows.{Row, Table, num, blank, Cell, Numbers, Store, innermost, parent_tag, last_of}
use Rattle.definition.specs.Look.{Load, Look, look, has_load, is_generated, name_loads, text_loads, value_loads, loads_of, own_name, word_names, names_from, names_brought, find_name, enter, piece_cell, resolve, is_named, is_innermost}
use Rattle.definition.specs.Change.{on_table, state_row, entered}
use Rattle.definition.specs.States.{own_state}
use Rattle.definition.proofs.Changes.{cell_length}
use Rattle.definition.proofs.Finds.{find_le}
use Rattle.reached.proofs.Tables.{AllRows, and_left}
use Rattle.reached.proofs.Stack.{Place}
use Rattle.reached.proofs.Growth.{RootOf, HasState, Grows, fact_grows, solid_grows, states_grow, set_other}
use Rattle.reached.proofs.Reached.{Reached, FactOf, tags_of, root_back}
use Rattle.reached.proofs.Tables.{all_map}

-- ---- the element's own name is brought first

Filled : {A : Type 0} → List A → Type 0
Filled [] = ⊥
Filled (x ∷ xs) = Unit {0}

filled_left : {A : Type 0} (xs ys : List A) → Filled xs → Filled (xs ++ ys)
unfolding Filled
filled_left [] ys h = absurd h
filled_left (x ∷ xs) ys h = tt

filled_right : {A : Type 0} (xs ys : List A) → Filled ys → Filled (xs ++ ys)
unfolding Filled
filled_right [] ys h = h
filled_right (x ∷ xs) ys h = tt

own_role : (g k : ℕ) → names_state g ≡ true → k ≡ 1 → role_of g k ≡ name
unfolding role_of is_masked is_name among
own_role g k h e = subst (λ (x : ℕ). role_of g x ≡ name) (sym e) (rw (h, role_of) refl)

own_brought : (g o : ℕ) (is : List Load) → names_state g ≡ true → has_load 1 is ≡ true → Filled (names_from own_name g o is)
unfolding names_from has_load own_name Filled
own_brought g o [] h e = absurd (false≢true e)
own_brought g o (i ∷ is) h e = go (eqb i.key 1) refl (own_brought g (o + length i.bytes) is h)
  where
    go : (b : Bool) → eqb i.key 1 ≡ b → (has_load 1 is ≡ true → Filled (names_from own_name g (o + length i.bytes) is))
        → Filled (own_name (role_of g i.key) o i.bytes ++ names_from own_name g (o + length i.bytes) is)
    go true f ih = filled_left (own_name (role_of g i.key) o i.bytes) (names_from own_name g (o + length i.bytes) is) (subst (λ (r : Role). Filled (own_name r o i.bytes)) (sym (own_role g i.key h (eqb-true i.key 1 f))) tt)
    go false f ih = filled_right (own_name (role_of g i.key) o i.bytes) (names_from own_name g (o + length i.bytes) is) (ih (rw (f, has_load) at e))

has_left_lem : (is js : List Load) → has_load 1 is ≡ true → has_load 1 (is ++ js) ≡ true
unfolding has_load
has_left_lem [] js e = absurd (false≢true e)
has_left_lem (i ∷ is) js e = go (eqb i.key 1) refl (has_left_lem is js)
  where
    go : (b : Bool) → eqb i.key 1 ≡ b → (has_load 1 is ≡ true → has_load 1 (is ++ js) ≡ true) → elim b [ true ↦ true | false ↦ has_load 1 (is ++ js) ] ≡ true
    go true f ih = refl
    go false f ih = ih (rw (f, has_load) at e)

has_right : (is js : List Load) → has_load 1 js ≡ true → has_load 1 (is ++ js) ≡ true
unfolding has_load
has_right [] js e = e
has_right (i ∷ is) js e = go (eqb i.key 1) (has_right is js e)
  where
    go : (b : Bool) → has_load 1 (is ++ js) ≡ true → elim b [ true ↦ true | false ↦ has_load 1 (is ++ js) ] ≡ true
    go true ih = refl
    go false ih = ih

is_made : (k g : ℕ) (is : List Load) → eqb k 3 ≡ false → names_state g ≡ true → has_load 1 is ≡ false → is_generated k g is ≡ true
unfolding is_generated
is_made k g is a b c = rw (a, b, c) refl

has_id : (g n : ℕ) (e : Event) → names_state g ≡ true → eqb e.kind 3 ≡ false → has_load 1 (loads_of g n e) ≡ true
unfolding loads_of
has_id g n e h k = go (has_load 1 (value_loads e.attributes)) refl
  where
    go : (b : Bool) → has_load 1 (value_loads e.attributes) ≡ b
        → has_load 1 (value_loads e.attributes ++ text_loads g e.text ++ name_loads (is_generated e.kind g (value_loads e.attributes)) (suc n)) ≡ true
    go true f =
        has_left_lem (value_loads e.attributes ++ text_loads g e.text) (name_loads (is_generated e.kind g (value_loads e.attributes)) (suc n)) (
        has_left_lem (value_loads e.attributes) (text_loads g e.text) f)
    go false f =
        has_right (value_loads e.attributes ++ text_loads g e.text) (name_loads (is_generated e.kind g (value_loads e.attributes)) (suc n)) (
        subst (λ (b : Bool). has_load 1 (name_loads b (suc n)) ≡ true) (sym (is_made e.kind g (value_loads e.attributes) k h f)) (unfold name_loads has_load in refl))

-- ---- names resolved

enter_bound : (cs : List Cell) (k : ℕ) (c : Cell) → k ≤ length cs → (suc k ≤ length (enter cs k c)) × (length cs ≤ length (enter cs k c))
unfolding enter
enter_bound cs k c h = go (ltb k (length cs)) refl
  where
    go : (b : Bool) → ltb k (length cs) ≡ b → (suc k ≤ length {A = Cell} (elim b [ true ↦ cs | false ↦ cs ++ c ∷ [] ])) × (length cs ≤ length {A = Cell} (elim b [ true ↦ cs | false ↦ cs ++ c ∷ [] ]))
    go true e = (ltb-true k (length cs) e, omega arith)
    go false e = (omega (arith, length-append cs (c ∷ [])), omega (arith, length-append cs (c ∷ [])))

resolve_grows : (t : List ℕ) (cs : List Cell) (ps : List Piece) → length cs ≤ length (resolve t cs ps).known
unfolding resolve
resolve_grows t cs [] = omega arith
resolve_grows t cs (p ∷ ps) =
    let k : ℕ = find_name t cs p.word in
    omega (arith, (enter_bound cs k (piece_cell p) (find_le t cs p.word)).1, resolve_grows t (enter cs k (piece_cell p)) ps)

resolve_first : (t : List ℕ) (cs : List Cell) (ps : List Piece) → Filled ps → ¬ (get_or (resolve t cs ps).refs 0 0 ≡ 0) × (get_or (resolve t cs ps).refs 0 0 ≤ length (resolve t cs ps).known)
unfolding resolve Filled
resolve_first t cs [] h = absurd h
resolve_first t cs (p ∷ ps) h =
    let k : ℕ = find_name t cs p.word in
    (omega arith, omega (arith, (enter_bound cs k (piece_cell p) (find_le t cs p.word)).0, resolve_grows t (enter cs k (piece_cell p)) ps))

look_first : (s : Store) (e : Event) → names_state (tag_of e.name) ≡ true → eqb e.kind 3 ≡ false → ¬ (own_state (look s e) ≡ 0) × (own_state (look s e) ≤ length (look s e).known)
unfolding look own_state
look_first s e h k =
    resolve_first _ _ _ (unfold names_brought in filled_left _ (names_from word_names (tag_of e.name) (length s.text) (loads_of (tag_of e.name) s.numbers.names e)) (
    own_brought (tag_of e.name) (length s.text) (loads_of (tag_of e.name) s.numbers.names e) h (has_id (tag_of e.name) s.numbers.names e h k)))

-- ---- names entered

rows_long : (cs : List Cell) → AllRows (λ r. length r ≡ length (blank 1)) (map state_row cs)
unfolding AllRows state_row
rows_long [] = tt
rows_long (c ∷ cs) = (cell_length 0 c (blank 1), rows_long cs)

entered_long : (l : Look) (n : Numbers) → length n.tables ≡ 12 → length l.known ≤ length (get_or (entered l n).tables 1 [])
unfolding entered on_table
entered_long l n z =
    let T : Table = get_or n.tables 1 [] in
    let q : Table = map state_row (drop (length T) l.known) in
    rw (get_or-set_same n.tables 1 (T ++ q) [] (omega arith)) (
    omega (arith, length-append T q, length-map (drop (length T) l.known) state_row, length-drop (length T) l.known))

pub own_exists : (s : Store) (e : Event) → length s.numbers.tables ≡ 12 → eqb e.kind 3 ≡ false → names_state (tag_of e.name) ≡ true → HasState (entered (look s e) s.numbers).tables (own_state (look s e))
own_exists s e z k h =
    ((look_first s e h k).0, omega (arith, (look_first s e h k).1, entered_long (look s e) s.numbers z))

pub entered_reached : (l : Look) (n : Numbers) → Reached n → Reached (entered l n)
unfolding entered on_table
entered_reached l n R =
    let T : Table = get_or n.tables 1 [] in
    let q : Table = map state_row (drop (length T) l.known) in
    let G : Grows n.tables (set n.tables 1 (T ++ q)) = states_grow n.tables q (rows_long (drop (length T) l.known)) in
    record {
      os = R.os;
      opened = set_other n.tables 1 9 (T ++ q) (omega arith) ∙ R.opened;
      solid = solid_grows n.tables (set n.tables 1 (T ++ q)) G R.solid;
      facts = all_map (FactOf n.tables) (FactOf (set n.tables 1 (T ++ q))) R.os (λ r x. fact_grows n.tables (set n.tables 1 (T ++ q)) (num r 0) (num r 1) (num r 2) G x) R.facts;
      begun = λ z. R.begun (root_back n.tables (set n.tables 1 (T ++ q)) G z);
      place =
          subst (λ (x : Table). Place x (tags_of R.os) (reverse (get_or (set n.tables 1 (T ++ q)) 11 [])) n.current) (sym (set_other n.tables 1 4 (T ++ q) (omega arith))) (
          subst (λ (x : Table). Place (get_or n.tables 4 []) (tags_of R.os) (reverse x) n.current) (sym (set_other n.tables 1 11 (T ++ q) (omega arith))) R.place);
    }

pub entered_parent : (l : Look) (n : Numbers) → parent_tag (entered l n) ≡ parent_tag n
unfolding parent_tag innermost entered on_table
entered_parent l n = ap (λ (x : Table). num (last_of [] x) 0) (set_other n.tables 1 9 _ (omega arith))

pub entered_root : (l : Look) (n : Numbers) → RootOf (entered l n).tables ≡ RootOf n.tables
unfolding entered on_table
entered_root l n = ap (λ (x : Table). num (get_or x 0 []) 0) (set_other n.tables 1 0 _ (omega arith))

-- ---- the innermost

named_tag : (x m : Row) (g : ℕ) (w : List ℕ) → is_named x m g w ≡ true → num x 0 ≡ g
unfolding is_named
named_tag x m zero w e = eqb-true (num x 0) 0 (and_left (eqb (num x 0) 0) _ e)
named_tag x m (suc g) w e = eqb-true (num x 0) (suc g) e

innermost_tag : (d : Row) (xs ns : Table) (g : ℕ) (w : List ℕ) → is_innermost xs ns g w ≡ true → num (last_of d xs) 0 ≡ g
unfolding is_innermost last_of
innermost_tag d [] ns g w e = absurd (false≢true e)
innermost_tag d (x ∷ xs) [] g w e = absurd (false≢true e)
innermost_tag d (x ∷ []) (m ∷ ns) g w e = named_tag x m g w e
innermost_tag d (x ∷ y ∷ xs) (m ∷ ns) g w e = innermost_tag x (y ∷ xs) ns g w e

pub look_innermost : (s : Store) (e : Event) → (look s e).innermost ≡ true → parent_tag s.numbers ≡ (look s e).tag
unfolding look parent_tag innermost
look_innermost s e h = innermost_tag [] (get_or s.numbers.tables 9 []) (get_or s.numbers.tables 10 []) (tag_of e.name) e.name h

pub look_kind : (s : Store) (e : Event) → (look s e).kind ≡ e.kind
unfolding look
look_kind s e = refl

pub look_tag : (s : Store) (e : Event) → (look s e).tag ≡ tag_of e.name
unfolding look
look_tag s e = refl
