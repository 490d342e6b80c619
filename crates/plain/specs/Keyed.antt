-- The values of an event by the number of their key, among its slots and among its loads.
use Rattle.std.specs.Prelude.{ℕ, ◌+◌, Bool, true, false, not, List, [], ◌∷◌, length, get_or, set, replicate, eqb, ltb, None}
use Rattle.definition.specs.Codes.{key_code}
use Rattle.definition.specs.Look.{Load}
use Rattle.lines.specs.Parts.{part}
use Rattle.plain.specs.declared.Slot.{Slot}
use Rattle.plain.specs.declared.Keyed.{Keyed}

unfoldable pub key_place : ℕ → ℕ
key_place k = elim (ltb k 31) [ true ↦ k | false ↦ 31 ]

-- What f says of the first slot of each key.
unfoldable pub by_key : (Slot → ℕ) → List Slot → List ℕ
unfolding key_place
by_key f [] = replicate 32 0
by_key f (s ∷ ss) = set (by_key f ss) (key_place (key_code s.code)) (f s)

unfoldable pub keyed_of : List Slot → Keyed
unfolding by_key
keyed_of ss = record { there = by_key (λ (s : Slot). 1) ss; at = by_key (λ (s : Slot). s.at) ss; len = by_key (λ (s : Slot). s.len) ss }

unfoldable pub is_marked : Keyed → ℕ → Bool
is_marked ix k = not (eqb (get_or ix.there k 0) 0)

-- The bytes of a key's first value in a slice; none without it.
unfoldable pub keyed_bytes : List ℕ → Keyed → ℕ → List ℕ
unfolding part
keyed_bytes src ix k = part src (get_or ix.at k 0) (get_or ix.len k 0)

abbrev pub no_slot : Slot
no_slot = record { code = None; at = 0; len = 0 }

unfoldable pub has_slot : ℕ → List Slot → Bool
has_slot k [] = false
has_slot k (s ∷ ss) = elim (eqb (key_code s.code) k) [ true ↦ true | false ↦ has_slot k ss ]

unfoldable pub slot_for : ℕ → List Slot → Slot
slot_for k [] = no_slot
slot_for k (s ∷ ss) = elim (eqb (key_code s.code) k) [ true ↦ s | false ↦ slot_for k ss ]

-- The first value of a key; no bytes without it.
unfoldable pub value_in : ℕ → List Load → List ℕ
value_in k [] = []
value_in k (i ∷ is) = elim (eqb i.key k) [ true ↦ i.bytes | false ↦ value_in k is ]

-- Where it stands in the payload.
unfoldable pub offset_in : ℕ → List Load → ℕ
offset_in k [] = 0
offset_in k (i ∷ is) = elim (eqb i.key k) [ true ↦ 0 | false ↦ length i.bytes + offset_in k is ]
