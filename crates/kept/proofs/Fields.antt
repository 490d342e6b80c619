-- What is read of an event lies inside the text; codes; the charge covers the payload.
use Prim.Native.Nat.{ℕ, suc, ◌+◌, ◌≤◌}
use mathlib.Core.Path.{◌≡◌, refl, sym, ap, ◌∙◌, subst}
use mathlib.Core.Bool.{Bool, true, false, ◌&&◌, not}
use mathlib.Core.List.{List, [], ◌∷◌, ◌++◌, map, append_assoc}
use lib.ListN.{length, drop, length-append}
use lib.Dec.{eqb}
use native.Mathlib.Omega.{arith}
use Rattle.definition.specs.Text.{Span}
use Rattle.definition.specs.Elements.{key, Role, name, names, masked, plain, role_of, names_state}
use Rattle.definition.specs.Event.{Event, kind}
use Rattle.definition.specs.Look.{Load, value_loads, text_loads, has_load, is_generated, name_loads, payload, word_spans, shift, words_by_role, field_by, fields_from, own_name, word_names, names_from, names_brought, loads_of}
use Rattle.definition.specs.Rules.{is_inside}
use Rattle.definition.proofs.Places.{drop_past, past}
use Rattle.definition.proofs.Parts.{Inside, parts_inside}
use Rattle.definition.proofs.Roles.{id_name}
use Rattle.kept.proofs.Base.{leb_of, eq_of, and_both, false_is_true, test, All}
use Rattle.kept.proofs.RowCells.{CellIn}
use Rattle.kept.proofs.RowTexts.{FieldIn}

-- ---- fields

shifted : (m o : ℕ) (v : List ℕ) (ss : List Span) → o + length v ≤ m → All (Inside v) ss → All (CellIn m) (map (shift o) ss)
unfolding shift is_inside
shifted m o v [] k a = tt
shifted m o v (s ∷ ss) k a = (leb_of (o + s.off + s.len) m (omega (arith, a.0, k)), shifted m o v ss k a.1)

words_in_lem : (m : ℕ) (r : Role) (g o k : ℕ) (v : List ℕ) → o + length v ≤ m → All (CellIn m) (words_by_role r g o k v)
unfolding words_by_role
words_in_lem m name g o k v h = tt
words_in_lem m names g o k v h = tt
words_in_lem m masked g o k v h = tt
words_in_lem m plain g o k v h = shifted m o v (word_spans g k v) h (parts_inside g k v)

pub fields_in : (t : List ℕ) (g o : ℕ) (is : List Load) (x : List ℕ) → o ≤ length t → drop o t ≡ payload is ++ x → All (FieldIn (length t)) (fields_from g o is)
unfolding fields_from payload field_by is_inside
fields_in t g o [] x k h = tt
fields_in t g o (i ∷ is) x k h =
    let h' : drop o t ≡ i.bytes ++ (payload is ++ x) = rw append_assoc at h in
    let p : o + length i.bytes ≤ length t = past t o i.bytes (payload is ++ x) k h' in (
      record { cell = leb_of (o + length i.bytes) (length t) p; words = words_in_lem (length t) (role_of g i.key) g o i.key i.bytes p },
      fields_in t g (o + length i.bytes) is x p (drop_past t o i.bytes (payload is ++ x) h'),
    )

-- ---- an element that names a state brings its own name

own_first_lem : (g o : ℕ) (is : List Load) → names_state g ≡ true → has_load key.id is ≡ true → 1 ≤ length (names_from own_name g o is)
unfolding names_from has_load
own_first_lem g o [] n e = false_is_true e
own_first_lem g o (i ∷ is) n e = go (eqb i.key key.id) refl (own_first_lem g (o + length i.bytes) is n)
  where
    named : (r : Role) → r ≡ name → 1 ≤ length (own_name r o i.bytes)
    named r z = subst (λ (q : Role). 1 ≤ length (own_name q o i.bytes)) (sym z) (unfold own_name in omega arith)

    go : (b : Bool) → eqb i.key key.id ≡ b → (has_load key.id is ≡ true → 1 ≤ length (names_from own_name g (o + length i.bytes) is)) → 1 ≤ length (names_from own_name g o (i ∷ is))
    go true f ih =
        let z : role_of g i.key ≡ name = ap (role_of g) (eq_of i.key key.id f) ∙ id_name g n in
        omega (arith, named (role_of g i.key) z, length-append (own_name (role_of g i.key) o i.bytes) (names_from own_name g (o + length i.bytes) is))
    go false f ih =
        let z : has_load key.id is ≡ true = rw (f, has_load) at e in
        omega (arith, ih z, length-append (own_name (role_of g i.key) o i.bytes) (names_from own_name g (o + length i.bytes) is))

has_left_lem : (k : ℕ) (is js : List Load) → has_load k is ≡ true → has_load k (is ++ js) ≡ true
unfolding has_load
has_left_lem k [] js e = false_is_true e
has_left_lem k (i ∷ is) js e = go (eqb i.key k) refl (has_left_lem k is js)
  where
    go : (b : Bool) → eqb i.key k ≡ b → (has_load k is ≡ true → has_load k (is ++ js) ≡ true) → has_load k (i ∷ is ++ js) ≡ true
    go true f ih = rw (f, has_load)
    go false f ih = rw (f, has_load) (ih (rw (f, has_load) at e))

has_right : (k : ℕ) (is js : List Load) → has_load k js ≡ true → has_load k (is ++ js) ≡ true
unfolding has_load
has_right k [] js e = e
has_right k (i ∷ is) js e = go (eqb i.key k) refl (has_right k is js e)
  where
    go : (b : Bool) → eqb i.key k ≡ b → has_load k (is ++ js) ≡ true → has_load k (i ∷ is ++ js) ≡ true
    go true f ih = rw (f, has_load)
    go false f ih = rw (f, has_load) ih

pub id_there : (g n : ℕ) (e : Event) → names_state g ≡ true → not (eqb e.kind kind.ends) ≡ true → has_load key.id (loads_of g n e) ≡ true
unfolding loads_of
id_there g n e s k =
    let vs : List Load = value_loads e.attributes in
    test (has_load key.id vs) (λ h. has_left_lem key.id (vs ++ text_loads g e.text) (name_loads (is_generated e.kind g vs) (suc n)) (has_left_lem key.id vs (text_loads g e.text) h)) (λ h.
    has_right key.id (vs ++ text_loads g e.text) (name_loads (is_generated e.kind g vs) (suc n)) (generated vs h))
  where
    generated : (vs : List Load) → has_load key.id vs ≡ false → has_load key.id (name_loads (is_generated e.kind g vs) (suc n)) ≡ true
    generated vs h =
        let z : is_generated e.kind g vs ≡ true = unfold is_generated in and_both (not (eqb e.kind kind.ends) && names_state g) (not (has_load key.id vs)) (and_both (not (eqb e.kind kind.ends)) (names_state g) k s) (ap not h) in
        unfold name_loads has_load in rw z

pub own_brought : (g o : ℕ) (is : List Load) → names_state g ≡ true → has_load key.id is ≡ true → 1 ≤ length (names_brought g o is)
unfolding names_brought
own_brought g o is n e = omega (arith, own_first_lem g o is n e, length-append (names_from own_name g o is) (names_from word_names g o is))
