-- THE LAWS: what is laid and charged is what the definition says of the event.
use Prim.Native.Nat.{ℕ, suc, ◌+◌, ◌≤◌}
use mathlib.Core.Path.{◌≡◌, refl, sym, ap, ap₂, ◌∙◌}
use mathlib.Core.List.{List, ◌++◌, append_assoc}
use native.Mathlib.Omega.{arith}
use lib.ListN.{length, take, drop, length-append}
use lib.Seq.{take_at}
use Rattle.definition.specs.Elements.{tag_of}
use Rattle.definition.specs.Event.{Event}
use Rattle.definition.specs.Rows.{Store}
use Rattle.definition.specs.Look.{value_loads, text_loads, payload, name_loads, is_generated, loads_of, text_charge, event_charge, text_after, look, one_if}
use Rattle.definition.proofs.Charges.{text_charge_lem, values_charge, payload_append}
use Rattle.plain.specs.Plain.{Parsed, parsed_of}
use Rattle.payload.specs.Laid.{laid}
use Rattle.payload.specs.Payload.{made_in, all_loads, payload_in, charge_in}

-- WHAT IS ADDED TO THE TEXT
pub payload_law : (e : Event) (n : ℕ) → payload_in (parsed_of e) n ≡ payload (loads_of (tag_of e.name) n e)
unfolding payload_in all_loads made_in parsed_of loads_of
payload_law e n = refl

pub text_law : (s : Store) (e : Event) (t : List ℕ) (used : ℕ) → take used t ≡ s.text → used ≡ length s.text
    → take (used + length (payload_in (parsed_of e) s.numbers.names)) (laid t used (payload_in (parsed_of e) s.numbers.names)) ≡ text_after s e
unfolding laid text_after
text_law s e t used h k =
    let w : List ℕ = payload_in (parsed_of e) s.numbers.names in
    let r : List ℕ = drop (used + length w) t in
    take_front used w (take used t) r (ap length h ∙ sym k) ∙ ap₂ ◌++◌ h (payload_law e s.numbers.names)
  where
    take_front : (used : ℕ) (w f r : List ℕ) → length f ≡ used → take (used + length w) (f ++ (w ++ r)) ≡ f ++ w
    take_front used w f r n = ap (take (used + length w)) (sym (append_assoc f w r)) ∙ take_at (f ++ w) r (used + length w) (length-append f w ∙ ap (λ (m : ℕ). m + length w) n)

pub charge_law : (s : Store) (e : Event) → charge_in (parsed_of e) s.numbers.names ≡ (look s e).charge
unfolding charge_in made_in parsed_of event_charge look
charge_law s e =
    ap (λ (n : ℕ). n + text_charge (tag_of e.name) e.text + length (payload (name_loads (is_generated e.kind (tag_of e.name) (value_loads e.attributes)) (suc s.numbers.names)))) (values_charge e.attributes)

pub made_law : (s : Store) (e : Event) → one_if (made_in (parsed_of e)) ≡ (look s e).generated
unfolding made_in parsed_of look
made_law s e = refl

pub covered : (v : Parsed) (n : ℕ) → length (payload_in v n) ≤ charge_in v n
unfolding payload_in all_loads charge_in
covered v n =
    omega (arith, payload_append (v.values ++ text_loads v.tag v.text) (name_loads (made_in v) (suc n)), payload_append v.values (text_loads v.tag v.text), text_charge_lem v.tag v.text)
