-- What an accepted event adds to the text, by what is seen of it.
use Rattle.std.specs.Prelude.{ℕ, suc, ◌+◌, Bool, true, false, List, ◌++◌, length, eqb}
use Rattle.definition.specs.Text.{quoted}
use Rattle.definition.specs.Elements.{tag}
use Rattle.definition.specs.Look.{Load, payload, text_loads, name_loads, is_generated, text_charge}
use Rattle.plain.specs.Plain.{Parsed}
use Rattle.payload.specs.declared.Ends.{Ends}

-- A text as it is kept: an assign's in quotes.
unfoldable pub text_bytes : ℕ → List ℕ → List ℕ
text_bytes g v = elim (eqb g tag.assign) [ true ↦ quoted v | false ↦ v ]

unfoldable pub made_in : Parsed → Bool
unfolding is_generated
made_in v = is_generated v.kind v.tag v.values

unfoldable pub all_loads : Parsed → ℕ → List Load
unfolding made_in
all_loads v n = v.values ++ text_loads v.tag v.text ++ name_loads (made_in v) (suc n)

-- n names were generated before.
unfoldable pub payload_in : Parsed → ℕ → List ℕ
unfolding all_loads
payload_in v n = payload (all_loads v n)

unfoldable pub charge_in : Parsed → ℕ → ℕ
unfolding made_in
charge_in v n = length (payload v.values) + text_charge v.tag v.text + length (payload (name_loads (made_in v) (suc n)))

-- Where the values, the text and a generated name end; the payload begins at b.
unfoldable pub ends_in : ℕ → Parsed → ℕ → Ends
unfolding made_in
ends_in b v n =
    let one : ℕ = b + length (payload v.values) in
    let two : ℕ = one + length (payload (text_loads v.tag v.text)) in
    record { values = one; text = two; all = two + length (payload (name_loads (made_in v) (suc n))) }
