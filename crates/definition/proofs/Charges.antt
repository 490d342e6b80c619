-- The charge of an event covers what it adds to the text.
use Prim.Native.Nat.{ℕ, zero, suc, ◌+◌, ◌/◌, ◌%◌, ◌≤◌}
use mathlib.Core.Path.{◌≡◌, refl}
use mathlib.Core.Bool.{Bool, true, false}
use mathlib.Core.Option.{Option, none, some}
use mathlib.Core.List.{List, [], ◌∷◌, ◌++◌}
use lib.ListN.{length, drop, length-append, length-drop, length-take}
use lib.Dec.{eqb, ltb}
use native.Mathlib.Omega.{arith}
use Rattle.definition.specs.Text.{str, bytes_at, trim, trimmed, escaped_quotes, quoted, digits, decimal, generated_name}
use Rattle.definition.specs.Elements.{tag}
use Rattle.definition.specs.Event.{Attribute, Event}
use Rattle.definition.specs.Look.{Load, value_loads, text_loads, name_loads, is_generated, payload, text_charge, loads_of, values_length, event_charge}

-- ---- texts that are made

escaped_le : (v : List ℕ) → length (escaped_quotes v) ≤ length v + length v
unfolding escaped_quotes
escaped_le [] = omega arith
escaped_le (b ∷ bs) = go (eqb b 34) (eqb b 10) refl refl (escaped_le bs)
  where
    go : (p q : Bool) → eqb b 34 ≡ p → eqb b 10 ≡ q → length (escaped_quotes bs) ≤ length bs + length bs → length (escaped_quotes (b ∷ bs)) ≤ suc (length bs) + suc (length bs)
    go true q e f ih = rw (e, escaped_quotes) (omega (arith, ih))
    go false true e f ih = rw (e, escaped_quotes, f, escaped_quotes) (omega (arith, ih))
    go false false e f ih = rw (e, escaped_quotes, f, escaped_quotes) (omega (arith, ih))

pub trimmed_le : (v : List ℕ) → length (trimmed v) ≤ length v
unfolding trimmed bytes_at
trimmed_le v = omega (arith, length-take (trim v).len (drop (trim v).off v), length-drop (trim v).off v)

pub quoted_le : (v : List ℕ) → length (quoted v) ≤ length v + length v + 2
unfolding quoted
quoted_le v = omega (arith, length-append (escaped_quotes (trimmed v)) (34 ∷ []), escaped_le (trimmed v), trimmed_le v)

digits_le : (f n : ℕ) → length (digits f n) ≤ f
unfolding digits
digits_le zero n = omega arith
digits_le (suc f) n = go (ltb n 10) (digits_le f (n / 10))
  where
    go : (b : Bool) → length (digits f (n / 10)) ≤ f → length {A = ℕ} (elim b [ true ↦ (48 + n) ∷ [] | false ↦ digits f (n / 10) ++ (48 + n % 10) ∷ [] ]) ≤ suc f
    go true h = omega arith
    go false h = omega (arith, h, length-append (digits f (n / 10)) ((48 + n % 10) ∷ []))

pub generated_le : (n : ℕ) → length (generated_name n) ≤ 24
unfolding generated_name decimal str
generated_le n = omega (arith, digits_le 20 n)

-- ---- loads

pub payload_append : (is js : List Load) → length (payload (is ++ js)) ≡ length (payload is) + length (payload js)
unfolding payload
payload_append [] js = omega arith
payload_append (i ∷ is) js = omega (arith, length-append i.bytes (payload (is ++ js)), length-append i.bytes (payload is), payload_append is js)

pub values_charge : (ats : List Attribute) → length (payload (value_loads ats)) ≡ values_length ats
unfolding payload value_loads values_length
values_charge [] = refl
values_charge (a ∷ ats) = omega (arith, length-append a.value (payload (value_loads ats)), values_charge ats)

pub text_charge_lem : (g : ℕ) (o : Option (List ℕ)) → length (payload (text_loads g o)) ≤ text_charge g o
unfolding payload text_loads text_charge
text_charge_lem g none = omega arith
text_charge_lem g (some v) = go (eqb g tag.assign) refl
  where
    go : (b : Bool) → eqb g tag.assign ≡ b → length (payload (text_loads g (some v))) ≤ text_charge g (some v)
    go true e = rw (e, text_loads, text_charge) (omega (arith, length-append (quoted v) [], quoted_le v))
    go false e = rw (e, text_loads, text_charge) (omega (arith, length-append v []))

pub charge_covers : (g n : ℕ) (e : Event) → length (payload (loads_of g n e)) ≤ event_charge g n e
unfolding loads_of event_charge
charge_covers g n e =
    let vs : List Load = value_loads e.attributes in
    let ts : List Load = text_loads g e.text in
    let gs : List Load = name_loads (is_generated e.kind g vs) (suc n) in
    omega (arith, payload_append (vs ++ ts) gs, payload_append vs ts, values_charge e.attributes, text_charge_lem g e.text)
