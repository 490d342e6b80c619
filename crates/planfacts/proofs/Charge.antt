-- The charge of an event in form, and how many texts it brings.
use Prim.Native.Nat.{ℕ, suc, ◌+◌, ◌*◌, ◌≤◌}
use mathlib.Core.Path.{◌≡◌, refl, ap}
use mathlib.Core.Bool.{Bool, true, false, ◌&&◌}
use mathlib.Core.Option.{Option, none, some}
use mathlib.Core.List.{List, [], ◌∷◌, ◌++◌}
use native.Mathlib.Omega.{arith}
use lib.Dec.{eqb, leb}
use lib.ListN.{length, length-append}
use Rattle.definition.specs.Limits.{limits01}
use Rattle.definition.specs.Text.{generated_name, quoted}
use Rattle.definition.specs.Elements.{tag, key}
use Rattle.definition.specs.Event.{Event, Attribute, between, attributes_fit, text_fits, kind_fits, in_form}
use Rattle.definition.specs.Look.{Load, value_loads, text_loads, name_loads, is_generated, loads_of, payload, text_charge, values_length, event_charge}
use Rattle.kept.proofs.Base.{test as by, le_of, and_left, and_right, false_is_true}
use Rattle.definition.proofs.Charges.{generated_le}

made_le : (b : Bool) (n : ℕ) → length (payload (name_loads b n)) ≤ 24
unfolding payload name_loads
made_le true n = omega (arith, generated_le n, length-append (generated_name n) [])
made_le false n = omega arith

values_le : (ats : List Attribute) → attributes_fit limits01 ats ≡ true → values_length ats ≤ 1024 * length ats
unfolding attributes_fit values_length between
values_le [] e = omega arith
values_le (a ∷ ats) e = by fits (λ f. let v : leb (length a.value) 1024 ≡ true = and_right (leb 0 (length a.value)) (leb (length a.value) 1024) (and_right (between 1 64 a.key) (between 0 1024 a.value) f) in
    omega (arith, le_of (length a.value) 1024 v, values_le ats (rw (f, attributes_fit) at e))) (λ f. false_is_true (rw (f, attributes_fit) at e))
  where
    fits : Bool
    fits = between 1 64 a.key && between 0 1024 a.value

text_le : (g : ℕ) (o : Option (List ℕ)) → text_fits limits01 o ≡ true → text_charge g o ≤ 8194
unfolding text_fits text_charge between
text_le g none e = omega arith
text_le g (some v) e = go (eqb g tag.assign) (le_of (length v) 4096 (and_right (leb 0 (length v)) (leb (length v) 4096) e))
  where
    go : (b : Bool) → length v ≤ 4096 → elim b [ true ↦ length v + length v + 2 | false ↦ length v ] ≤ 8194
    go true h = omega (arith, h)
    go false h = omega (arith, h)

loads_le : (g : ℕ) (o : Option (List ℕ)) → length (text_loads g o) ≤ 1
unfolding text_loads
loads_le g none = omega arith
loads_le g (some v) = go (eqb g tag.assign) where
  go : (b : Bool) → length {A = Load} (elim b [ true ↦ record { key = key.quoted; bytes = quoted v } ∷ [] | false ↦ record { key = key.text; bytes = v } ∷ [] ]) ≤ 1
  go true = omega arith
  go false = omega arith

made_one : (b : Bool) (n : ℕ) → length (name_loads b n) ≤ 1
unfolding name_loads
made_one true n = omega arith
made_one false n = omega arith

values_length_lem : (ats : List Attribute) → length (value_loads ats) ≡ length ats
unfolding value_loads
values_length_lem [] = refl
values_length_lem (a ∷ ats) = ap suc (values_length_lem ats)

-- What an event in form is: at most 16 attributes of 1,024 bytes, and 4,096 bytes of text.
pub record Modest (e : Event) : Type 0 where
  pub attributes : length e.attributes ≤ 16
  pub values : attributes_fit limits01 e.attributes ≡ true
  pub text : text_fits limits01 e.text ≡ true

pub modest : (e : Event) → in_form limits01 e ≡ true → Modest e
unfolding in_form
modest e form =
    let a = kind_fits e.kind e && between 1 64 e.name in
    let b = leb (length e.attributes) 16 in
    let c = attributes_fit limits01 e.attributes in
    let abc : (a && b && c) ≡ true = and_left (a && b && c) (text_fits limits01 e.text) form in
    record {
      attributes = le_of (length e.attributes) 16 (and_right a b (and_left (a && b) c abc));
      values = and_right (a && b) c abc;
      text = and_right (a && b && c) (text_fits limits01 e.text) form;
    }

pub charge_le : (e : Event) (g n : ℕ) → Modest e → event_charge g n e ≤ 24602
unfolding event_charge
charge_le e g n m =
    omega (arith, values_le e.attributes m.values, m.attributes, text_le g e.text m.text, made_le (is_generated e.kind g (value_loads e.attributes)) (suc n))

pub loads_few : (e : Event) (g n : ℕ) → Modest e → length (loads_of g n e) ≤ 18
unfolding loads_of
loads_few e g n m =
    let vs : List Load = value_loads e.attributes in
    let ts : List Load = text_loads g e.text in
    let gs : List Load = name_loads (is_generated e.kind g vs) (suc n) in
    omega (arith, m.attributes, values_length_lem e.attributes, loads_le g e.text, made_one (is_generated e.kind g vs) (suc n), length-append (vs ++ ts) gs, length-append vs ts)
