-- Texts and names laid behind the text in use.
use Prim.Native.Nat.{ℕ, suc, ◌+◌, ◌-◌, ◌≤◌}
use mathlib.Core.Path.{◌≡◌, refl, sym, ap, ap₂, ◌∙◌}
use mathlib.Core.Bool.{Bool, true, false, not}
use mathlib.Core.Option.{Option, none, some}
use mathlib.Core.List.{List, [], ◌∷◌, ◌++◌, append_assoc, append-nil}
use native.Mathlib.Omega.{arith}
use native.Mathlib.Numerals.{add-one}
use lib.Dec.{eqb, leb}
use lib.ListN.{length, take, drop, length-append, length-drop, drop_of_length-le}
use lib.Seq.{drop-drop, take_all}
use borrow.Author.Tests.{eq-eqb, ne_eqb, le-leb}
use Rattle.definition.specs.Text.{quoted, generated_name}
use Rattle.definition.specs.Elements.{names_state}
use Rattle.definition.specs.Codes.{kind_number, tag_number}
use Rattle.definition.specs.Look.{Load, payload, text_loads, name_loads, is_generated, has_load, text_charge}
use Rattle.words.proofs.Laws.{by}
use Rattle.written.specs.Written.{written, written_length}
use Rattle.written.proofs.GeneratedLaw.{made_length, made_fits}
use Rattle.plain.specs.declared.Plain.{Plain}
use Rattle.plain.specs.Plain.{Parsed, slot_bytes, loads_in, parsed_in, text_if}
use Rattle.payload.specs.Laid.{laid}
use Rattle.payload.proofs.Laws.{laid_behind, laid_nothing, laid_length}
use Rattle.payload.specs.Payload.{text_bytes, made_in, all_loads, payload_in, charge_in, ends_in}

-- ---- written into what is left

module _ (t : List ℕ) (pos : ℕ) (w : List ℕ) (fits : pos + length w ≤ length t) where
  abbrev mid : List ℕ
  mid = take (length t - pos) (drop pos t)

  mid_is : mid ≡ drop pos t
  mid_is = take_all (length t - pos) (drop pos t) (omega (arith, length-drop pos t))

  ok : leb (length w) (length mid) ≡ true
  ok = le-leb (length w) (length mid) (omega (arith, fits, ap length mid_is, length-drop pos t))

  pub written_length_lem : (n : ℕ) → n ≡ written_length w mid → n ≡ length w
  unfolding written_length
  written_length_lem n e = let z : written_length w mid ≡ length w = rw (ok, written_length) in e ∙ z

  pub written_laid : (x : List ℕ) → x ≡ written w mid → take pos t ++ (x ++ drop (length t - pos) (drop pos t)) ≡ laid t pos w
  unfolding written laid
  written_laid x e =
      let z : written w mid ≡ w ++ drop (length w) mid = rw (ok, written) in
      let y : x ≡ w ++ drop (pos + length w) t = e ∙ z ∙ ap (λ (y : List ℕ). w ++ y) (ap (drop (length w)) mid_is ∙ drop-drop (length w) pos t) in
      let h : length (drop pos t) ≤ length t - pos = omega (arith, length-drop pos t) in
      let r : drop (length t - pos) (drop pos t) ≡ [] = drop_of_length-le (drop pos t) h in
      ap₂ (λ (a b : List ℕ). take pos t ++ (a ++ b)) y r ∙ ap (λ (a : List ℕ). take pos t ++ a) (append-nil (w ++ drop (pos + length w) t))

-- ---- a text and a name as loads

module _ (g : ℕ) (v : List ℕ) where
  pub bytes_quoted : g ≡ 23 → text_bytes g v ≡ quoted v
  unfolding text_bytes
  bytes_quoted e = rw (eq-eqb g 23 e, text_bytes)

  pub bytes_plain : (g ≡ 23 → ⊥) → text_bytes g v ≡ v
  unfolding text_bytes
  bytes_plain e = rw (ne_eqb g 23 e, text_bytes)

  text_bytes_lem : payload (text_loads g (some v)) ≡ text_bytes g v
  unfolding payload text_loads text_bytes
  text_bytes_lem = by (eqb g 23) (λ q. rw (q, text_loads, text_bytes) (append-nil (quoted v))) (λ q. rw (q, text_loads, text_bytes) (append-nil v))

module _ (src : List ℕ) (p : Plain) where
  abbrev text : Option (List ℕ)
  text = (parsed_in src p).text

  text_no : ((kind_number p.kind) ≡ 2 → ⊥) → text ≡ none
  unfolding parsed_in text_if
  text_no h = rw (ne_eqb (kind_number p.kind) 2 h, text_if)

  pub text_none : ((kind_number p.kind) ≡ 2 → ⊥) → payload (text_loads (tag_number p.tag) text) ≡ []
  unfolding text_loads payload
  text_none h = ap (λ (o : Option (List ℕ)). payload (text_loads (tag_number p.tag) o)) (text_no h)

  pub charge_none : ((kind_number p.kind) ≡ 2 → ⊥) → 0 ≡ text_charge (tag_number p.tag) text
  unfolding text_charge
  charge_none h = sym (ap (text_charge (tag_number p.tag)) (text_no h))

  module _ (h : (kind_number p.kind) ≡ 2) (v : List ℕ) (ev : v ≡ slot_bytes src p.text) where
    text_is : text ≡ some v
    unfolding parsed_in text_if
    text_is =
        let y : text ≡ some (slot_bytes src p.text) = rw (eq-eqb (kind_number p.kind) 2 h, text_if) in
        y ∙ ap some (sym ev)

    pub text_some : payload (text_loads (tag_number p.tag) text) ≡ text_bytes (tag_number p.tag) v
    text_some = ap (λ (o : Option (List ℕ)). payload (text_loads (tag_number p.tag) o)) text_is ∙ text_bytes_lem (tag_number p.tag) v

    pub charge_quoted : (tag_number p.tag) ≡ 23 → length v + length v + 2 ≡ text_charge (tag_number p.tag) text
    unfolding text_charge
    charge_quoted e = sym (ap (text_charge (tag_number p.tag)) text_is ∙ rw (eq-eqb (tag_number p.tag) 23 e, text_charge))

    pub charge_plain : ((tag_number p.tag) ≡ 23 → ⊥) → length v ≡ text_charge (tag_number p.tag) text
    unfolding text_charge
    charge_plain e = sym (ap (text_charge (tag_number p.tag)) text_is ∙ rw (ne_eqb (tag_number p.tag) 23 e, text_charge))

module _ (made : Bool) (n : ℕ) where
  pub name_some : made ≡ true → payload (name_loads made (suc n)) ≡ generated_name (n + 1)
  unfolding payload name_loads
  name_some e = ap (λ (b : Bool). payload (name_loads b (suc n))) e ∙ append-nil (generated_name (suc n)) ∙ ap generated_name (sym (add-one n))

  pub name_none : made ≡ false → payload (name_loads made (suc n)) ≡ []
  unfolding payload name_loads
  name_none e = ap (λ (b : Bool). payload (name_loads b (suc n))) e

-- What was laid at pos, under another name.
pub laid_as : (t : List ℕ) (pos : ℕ) (v w : List ℕ) → v ≡ w → (r : ℕ) (t' : List ℕ) → (r ≡ pos + length v) × (t' ≡ laid t pos v) → (r ≡ pos + length w) × (t' ≡ laid t pos w)
laid_as t pos v w e r t' h = (h.0 ∙ ap (λ (x : List ℕ). pos + length x) e, h.1 ∙ ap (laid t pos) e)

pub laid_empty : (t : List ℕ) (pos : ℕ) (w : List ℕ) → w ≡ [] → (pos ≡ pos + length w) × (t ≡ laid t pos w)
laid_empty t pos w e = (omega (arith, ap length e), laid_nothing t pos ∙ ap (laid t pos) (sym e))

pub name_long : (made : Bool) (n : ℕ) → made ≡ true → (out : List ℕ) → length out ≡ 24 → (k : ℕ) → k ≡ written_length (generated_name (n + 1)) out
    → (k ≡ length (payload (name_loads made (suc n)))) × (k ≤ 24)
name_long made n e out room k ek = (made_length (n + 1) out room k ek ∙ sym (ap length (name_some made n e)), made_fits (n + 1) out room k ek)

-- ---- whether a name is made

module _ (src : List ℕ) (p : Plain) where
  pub made_never : (kind_number p.kind) ≡ 3 → false ≡ made_in (parsed_in src p)
  unfolding made_in is_generated parsed_in
  made_never e = rw (eq-eqb (kind_number p.kind) 3 e)

  pub made_unnamed : ¬ ((kind_number p.kind) ≡ 3) → false ≡ names_state (tag_number p.tag) → false ≡ made_in (parsed_in src p)
  unfolding made_in is_generated parsed_in
  made_unnamed e f = rw (ne_eqb (kind_number p.kind) 3 e, ← f)

  pub made_without : ¬ ((kind_number p.kind) ≡ 3) → true ≡ names_state (tag_number p.tag) → (given : Bool) → given ≡ has_load 1 (loads_in src (take p.count p.slots)) → not given ≡ made_in (parsed_in src p)
  unfolding made_in is_generated parsed_in
  made_without e f given g = rw (ne_eqb (kind_number p.kind) 3 e, ← f) (ap not g)

-- ---- all of it

payload_append : (is js : List Load) → payload (is ++ js) ≡ payload is ++ payload js
unfolding payload
payload_append [] js = refl
payload_append (i ∷ is) js = ap (λ (x : List ℕ). i.bytes ++ x) (payload_append is js) ∙ sym (append_assoc i.bytes (payload is) (payload js))

module _ (src : List ℕ) (p : Plain) (made : Bool) (n : ℕ) (em : made ≡ made_in (parsed_in src p)) where
  abbrev A : List ℕ
  A = payload (loads_in src (take p.count p.slots))

  abbrev B : List ℕ
  B = payload (text_loads (tag_number p.tag) (parsed_in src p).text)

  abbrev C : List ℕ
  C = payload (name_loads made (suc n))

  pub payload_is : payload_in (parsed_in src p) n ≡ A ++ B ++ C
  unfolding payload_in all_loads parsed_in
  payload_is =
      let v : Parsed = parsed_in src p in
      payload_append (v.values ++ text_loads v.tag v.text) (name_loads (made_in v) (suc n))
      ∙ ap₂ ◌++◌ (payload_append v.values (text_loads v.tag v.text)) (ap (λ (b : Bool). payload (name_loads b (suc n))) (sym em))

  sizes : length (payload_in (parsed_in src p) n) ≡ length A + length B + length C
  sizes = ap length payload_is ∙ length-append (A ++ B) C ∙ ap (λ (k : ℕ). k + length C) (length-append A B)

  pub charge_is : (x y z : ℕ) → x ≡ length A → y ≡ text_charge (tag_number p.tag) (parsed_in src p).text → z ≡ length C → x + y + z ≡ charge_in (parsed_in src p) n
  unfolding charge_in parsed_in
  charge_is x y z ex ey ez = ap₂ ◌+◌ (ap₂ ◌+◌ ex ey) (ez ∙ ap (λ (b : Bool). length (payload (name_loads b (suc n)))) em)

  module _ (t : List ℕ) (used : ℕ) (fits : used + length (payload_in (parsed_in src p) n) ≤ length t) where
    pub fits_one : used + length A ≤ length t
    fits_one = omega (arith, fits, sizes)

    module _ (one : ℕ) (t₁ : List ℕ) (e₁ : one ≡ used + length A) (l₁ : t₁ ≡ laid t used A) where
      size_one : length t₁ ≡ length t
      size_one = ap length l₁ ∙ laid_length t used A fits_one

      pub fits_two : one + length B ≤ length t₁
      fits_two = omega (arith, fits, sizes, e₁, size_one)

      module _ (two : ℕ) (t₂ : List ℕ) (e₂ : two ≡ one + length B) (l₂ : t₂ ≡ laid t₁ one B) where
        both : t₂ ≡ laid t used (A ++ B)
        both = l₂ ∙ ap₂ (λ (x : List ℕ) (k : ℕ). laid x k B) l₁ e₁ ∙ laid_behind t used A B fits_one

        pub fits_three : two + length C ≤ length t₂
        fits_three = omega (arith, fits, sizes, e₁, e₂, size_one, ap length l₂, laid_length t₁ one B fits_two)

        pub all_laid : (r : ℕ) (t₃ : List ℕ) → (r ≡ two + length C) × (t₃ ≡ laid t₂ two C)
            → (record { values = one; text = two; all = r } ≡ ends_in used (parsed_in src p) n) × (t₃ ≡ laid t used (payload_in (parsed_in src p) n))
        unfolding ends_in parsed_in
        all_laid r t₃ h =
            let k : two ≡ used + length (A ++ B) = omega (arith, e₁, e₂, length-append A B) in
            let f : used + length (A ++ B) ≤ length t = omega (arith, fits, sizes, length-append A B) in
            let m : two ≡ used + length A + length B = omega (arith, e₁, e₂) in
            let a : r ≡ used + length A + length B + length C = omega (arith, h.0, m) in
            let c : used + length A + length B + length C ≡ used + length A + length B + length (payload (name_loads (made_in (parsed_in src p)) (suc n))) = ap (λ (b : Bool). used + length A + length B + length (payload (name_loads b (suc n)))) em in
            ((λ j. record { values = e₁ j; text = m j; all = (a ∙ c) j }), h.1 ∙ ap₂ (λ (x : List ℕ) (m : ℕ). laid x m C) both k ∙ laid_behind t used (A ++ B) C f ∙ ap (laid t used) (sym payload_is))
