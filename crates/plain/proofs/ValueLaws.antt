-- A key's value among loads, and what is kept of it by key.
use Prim.Native.Nat.{ℕ, ◌+◌, ◌<◌}
use mathlib.Core.Path.{◌≡◌, refl, sym, ap, ap₂, ◌∙◌}
use mathlib.Core.Bool.{Bool, true, false}
use mathlib.Core.List.{List, [], ◌∷◌, ◌++◌}
use native.Mathlib.Omega.{arith}
use lib.Dec.{eqb}
use lib.ListN.{length, drop, length-take}
use Rattle.definition.specs.Codes.{key_code}
use Rattle.definition.specs.Look.{Load, has_load}
use Rattle.definition.proofs.Base.{true_is_false}
use Rattle.lines.specs.Parts.{part}
use Rattle.words.proofs.Laws.{by}
use Rattle.plain.specs.declared.Slot.{Slot}
use Rattle.plain.specs.declared.Keyed.{Keyed}
use Rattle.plain.specs.Plain.{slot_bytes, loads_in}
use Rattle.plain.specs.Keyed.{keyed_of, is_marked, keyed_bytes, has_slot, slot_for, value_in, offset_in}
use Rattle.plain.proofs.KeyLaws as K

module _ (k : ℕ) (i : Load) (is : List Load) where
  pub has_here : eqb i.key k ≡ true → has_load k (i ∷ is) ≡ true
  unfolding has_load
  has_here e = rw (e, has_load)

  pub has_past : eqb i.key k ≡ false → has_load k (i ∷ is) ≡ has_load k is
  unfolding has_load
  has_past e = rw (e, has_load)

  pub value_here : eqb i.key k ≡ true → value_in k (i ∷ is) ≡ i.bytes
  unfolding value_in
  value_here e = rw (e, value_in)

  pub value_past : eqb i.key k ≡ false → value_in k (i ∷ is) ≡ value_in k is
  unfolding value_in
  value_past e = rw (e, value_in)

  pub offset_here : eqb i.key k ≡ true → offset_in k (i ∷ is) ≡ 0
  unfolding offset_in
  offset_here e = rw (e, offset_in)

  pub offset_past : eqb i.key k ≡ false → offset_in k (i ∷ is) ≡ length i.bytes + offset_in k is
  unfolding offset_in
  offset_past e = rw (e, offset_in)

module _ (k : ℕ) where
  pub value_none : (is : List Load) → has_load k is ≡ false → value_in k is ≡ []
  unfolding value_in
  value_none [] e = refl
  value_none (i ∷ is) e =
      by (eqb i.key k) (λ q. true_is_false (sym (has_here k i is q) ∙ e)) (λ q. value_past k i is q ∙ value_none is (sym (has_past k i is q) ∙ e))

  -- before loads without the key
  pub has_append : (is js : List Load) → has_load k js ≡ false → has_load k (is ++ js) ≡ has_load k is
  unfolding has_load
  has_append [] js h = h
  has_append (i ∷ is) js h = by (eqb i.key k) (λ q. rw (q, has_load)) (λ q. rw (q, has_load) (has_append is js h))

  pub value_append : (is js : List Load) → has_load k js ≡ false → value_in k (is ++ js) ≡ value_in k is
  unfolding value_in
  value_append [] js h = value_none js h
  value_append (i ∷ is) js h =
      by (eqb i.key k) (λ q. value_here k i (is ++ js) q ∙ sym (value_here k i is q)) (λ q. value_past k i (is ++ js) q ∙ value_append is js h ∙ sym (value_past k i is q))

  -- behind them
  pub has_behind : (is js : List Load) → has_load k is ≡ false → has_load k (is ++ js) ≡ has_load k js
  has_behind [] js h = refl
  has_behind (i ∷ is) js h =
      by (eqb i.key k) (λ q. true_is_false (sym (has_here k i is q) ∙ h)) (λ q. has_past k i (is ++ js) q ∙ has_behind is js (sym (has_past k i is q) ∙ h))

  pub value_behind : (is js : List Load) → has_load k is ≡ false → value_in k (is ++ js) ≡ value_in k js
  value_behind [] js h = refl
  value_behind (i ∷ is) js h =
      by (eqb i.key k) (λ q. true_is_false (sym (has_here k i is q) ∙ h)) (λ q. value_past k i (is ++ js) q ∙ value_behind is js (sym (has_past k i is q) ∙ h))

-- ---- slots and loads

module _ (src : List ℕ) (k : ℕ) (low : k < 32) where
  slot_value : (ss : List Slot) → slot_bytes src (slot_for k ss) ≡ value_in k (loads_in src ss)
  unfolding slot_for value_in loads_in part
  slot_value [] = refl
  slot_value (s ∷ ss) =
      by (eqb (key_code s.code) k) (λ q. ap (slot_bytes src) (K.slot_here k low s ss q) ∙ sym (value_here k (record { key = key_code s.code; bytes = slot_bytes src s }) (loads_in src ss) q))
      (λ q. ap (slot_bytes src) (K.slot_past k low s ss q) ∙ slot_value ss ∙ sym (value_past k (record { key = key_code s.code; bytes = slot_bytes src s }) (loads_in src ss) q))

  slot_has : (ss : List Slot) → has_slot k ss ≡ has_load k (loads_in src ss)
  unfolding has_slot has_load loads_in part
  slot_has [] = refl
  slot_has (s ∷ ss) = by (eqb (key_code s.code) k) (λ q. rw (q, has_slot, has_load)) (λ q. rw (q, has_slot, has_load) (slot_has ss))

  -- WHETHER A KEY IS THERE, by what is kept of it.
  pub marked_has : (ss : List Slot) (ix : Keyed) → ix ≡ keyed_of ss → (r : Bool) → r ≡ is_marked ix k → r ≡ has_load k (loads_in src ss)
  marked_has ss ix e r h = h ∙ ap (λ (x : Keyed). is_marked x k) e ∙ K.marked_is k low ss ∙ slot_has ss

  -- ITS VALUE
  pub keyed_value : (ss : List Slot) (ix : Keyed) → ix ≡ keyed_of ss → (v : List ℕ) → v ≡ keyed_bytes src ix k → v ≡ value_in k (loads_in src ss)
  unfolding keyed_bytes keyed_of
  keyed_value ss ix e v h =
      h ∙ ap (λ (x : Keyed). keyed_bytes src x k) e
      ∙ ap₂ (part src) (K.kept_is k low (λ (s : Slot). s.at) refl ss) (K.kept_is k low (λ (s : Slot). s.len) refl ss)
      ∙ slot_value ss

pub part_short : (src : List ℕ) (at len : ℕ) → len < 65536 → (v : List ℕ) → v ≡ part src at len → length v < 65536
unfolding part
part_short src at len h v e = omega (arith, ap length e, length-take len (drop at src))
