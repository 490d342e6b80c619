-- What an event adds to the text has bytes 0 to 127 only, and so has every text that a row holds.
use Prim.Native.Nat.{ℕ, zero, suc, ◌+◌, ◌<◌, ◌/◌, ◌%◌}
use mathlib.Core.Path.{◌≡◌, refl}
use mathlib.Core.Bool.{Bool, true, false}
use mathlib.Core.Option.{Option, none, some}
use mathlib.Core.List.{List, [], ◌∷◌, ◌++◌}
use lib.ListN.{take, drop}
use lib.Dec.{eqb, ltb, lt→ltb, ltb→lt}
use native.Mathlib.Omega.{arith}
use Rattle.definition.specs.Text.{str, is_allowed, all_allowed, bytes_at, trim, trimmed, digits, decimal, generated_name, escaped_quotes, quoted}
use Rattle.definition.specs.Elements.{tag, tag_of}
use Rattle.definition.specs.Event.{Attribute, Event}
use Rattle.definition.specs.Rows.{Cell, text_from, text_at}
use Rattle.definition.specs.Look.{Load, value_loads, text_loads, name_loads, is_generated, payload, loads_of}
use Rattle.definition.proofs.Base.{is_true_lem, T_of, All, All-append}
use Rattle.renaming.proofs.Words.{Total}
use Rattle.renaming.proofs.OnAllowed.{allowed_head, allowed_tail, allowed_cons, allowed_append}
use Rattle.renaming.proofs.Loads.{TextAllowed, AttributesRel, EventRel}

pub allowed_take : (n : ℕ) (v : List ℕ) → all_allowed v ≡ true → all_allowed (take n v) ≡ true
unfolding all_allowed
allowed_take zero v e = refl
allowed_take (suc n) [] e = refl
allowed_take (suc n) (b ∷ v) e = allowed_cons b (take n v) (allowed_head b v e) (allowed_take n v (allowed_tail b v e))

pub allowed_drop : (n : ℕ) (v : List ℕ) → all_allowed v ≡ true → all_allowed (drop n v) ≡ true
unfolding all_allowed
allowed_drop zero v e = e
allowed_drop (suc n) [] e = refl
allowed_drop (suc n) (b ∷ v) e = allowed_drop n v (allowed_tail b v e)

pub allowed_text : (t : List ℕ) → all_allowed t ≡ true → (c : Cell) → all_allowed (text_at t c) ≡ true
unfolding text_at text_from bytes_at all_allowed
allowed_text t e c = go c.at
  where
    go : (i : ℕ) → all_allowed (text_from t i c.len) ≡ true
    go zero = refl
    go (suc i) = allowed_take c.len (drop i t) (allowed_drop i t e)

-- ---- names that the reader makes

small : (b : ℕ) → b < 128 → is_allowed b ≡ true
unfolding is_allowed
small b h = is_true_lem (ltb b 128) (lt→ltb b 128 h)

digits_allowed : (fuel n : ℕ) → all_allowed (digits fuel n) ≡ true
unfolding digits all_allowed
digits_allowed zero n = refl
digits_allowed (suc fuel) n = go (ltb n 10) refl (digits_allowed fuel (n / 10))
  where
    go : (c : Bool) → ltb n 10 ≡ c → all_allowed (digits fuel (n / 10)) ≡ true → all_allowed (digits (suc fuel) n) ≡ true
    go true e ih =
        let h : n < 10 = ltb→lt n 10 (T_of (ltb n 10) e) in
        rw (e, digits) (allowed_cons (48 + n) [] (small (48 + n) (omega arith)) refl)
    go false e ih = rw (e, digits) (allowed_append (digits fuel (n / 10)) ((48 + n % 10) ∷ []) ih (allowed_cons (48 + n % 10) [] (small (48 + n % 10) (omega arith)) refl))

generated_allowed : (n : ℕ) → all_allowed (generated_name n) ≡ true
unfolding generated_name str all_allowed is_allowed decimal
generated_allowed n = digits_allowed 20 n

-- ---- an assign's text

escaped_allowed : (v : List ℕ) → all_allowed v ≡ true → all_allowed (escaped_quotes v) ≡ true
unfolding escaped_quotes all_allowed is_allowed
escaped_allowed [] e = refl
escaped_allowed (b ∷ v) e = go (eqb b 34) (eqb b 10) refl refl (escaped_allowed v (allowed_tail b v e))
  where
    go : (c d : Bool) → eqb b 34 ≡ c → eqb b 10 ≡ d → all_allowed (escaped_quotes v) ≡ true → all_allowed (escaped_quotes (b ∷ v)) ≡ true
    go true d p q ih = rw (p, escaped_quotes) ih
    go false true p q ih = rw (p, escaped_quotes, q, escaped_quotes) ih
    go false false p q ih = rw (p, escaped_quotes, q, escaped_quotes) (allowed_cons b (escaped_quotes v) (allowed_head b v e) ih)

quoted_allowed : (v : List ℕ) → all_allowed v ≡ true → all_allowed (quoted v) ≡ true
unfolding quoted trimmed bytes_at all_allowed is_allowed
quoted_allowed v e =
    allowed_append (escaped_quotes (trimmed v)) (34 ∷ []) (escaped_allowed (trimmed v) (allowed_take (trim v).len (drop (trim v).off v) (allowed_drop (trim v).off v e))) refl

-- ---- the payload

abbrev LoadAllowed : Load → Type 0
LoadAllowed i = all_allowed i.bytes ≡ true

payload_allowed : (is : List Load) → All LoadAllowed is → all_allowed (payload is) ≡ true
unfolding payload all_allowed
payload_allowed [] a = refl
payload_allowed (i ∷ is) a = allowed_append i.bytes (payload is) a.0 (payload_allowed is a.1)

text_loads_lem : (g : ℕ) (x : Option (List ℕ)) → TextAllowed x → All LoadAllowed (text_loads g x)
unfolding text_loads
text_loads_lem g none h = tt
text_loads_lem g (some v) h = go (eqb g tag.assign) refl
  where
    go : (c : Bool) → eqb g tag.assign ≡ c → All LoadAllowed (text_loads g (some v))
    go true e = rw (e, text_loads) (quoted_allowed v h, tt)
    go false e = rw (e, text_loads) (h, tt)

generated_loads : (c : Bool) (n : ℕ) → All LoadAllowed (name_loads c n)
unfolding name_loads
generated_loads false n = tt
generated_loads true n = (generated_allowed n, tt)

module _ (ρ : List ℕ → List ℕ) (R : Total ρ) where
  value_loads_lem : (g : ℕ) {as₁ bs : List Attribute} → AttributesRel ρ R g as₁ bs → All LoadAllowed (value_loads as₁)
  unfolding value_loads
  value_loads_lem g AttributesRel.stop = tt
  value_loads_lem g (AttributesRel.more h m) = (h.allowed, value_loads_lem g m)

  pub added_allowed : (e f : Event) → EventRel ρ R e f → (n : ℕ) → all_allowed (payload (loads_of (tag_of e.name) n e)) ≡ true
  unfolding loads_of
  added_allowed e f h n =
      let g : ℕ = tag_of e.name in
      let vs : List Load = value_loads e.attributes in
      payload_allowed (loads_of g n e)
      (All-append LoadAllowed (vs ++ text_loads g e.text) (name_loads (is_generated e.kind g vs) (suc n))
      (All-append LoadAllowed vs (text_loads g e.text) (value_loads_lem g h.attributes) (text_loads_lem g e.text h.allowed))
      (generated_loads (is_generated e.kind g vs) (suc n)))
