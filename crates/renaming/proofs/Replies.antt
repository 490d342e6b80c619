-- An event and its partner get the same number, and the stores after them are related.
use Prim.Native.Nat.{ℕ, zero, suc}
use mathlib.Core.Path.{◌≡◌, refl, sym, ap, ap₂, ◌∙◌, subst}
use mathlib.Core.Bool.{Bool, true, false, ◌&&◌}
use mathlib.Core.Option.{Option, some}
use mathlib.Core.List.{List, [], ◌∷◌, ◌++◌, append-nil}
use lib.ListN.{length, length-append}
use lib.Dec.{leb}
use native.Mathlib.Omega.{arith}
use Rattle.definition.specs.declared.Limits.{Limits}
use Rattle.definition.specs.Text.{same, all_allowed}
use Rattle.definition.specs.Elements.{role_of, tag_of, key_of}
use Rattle.definition.specs.Event.{Attribute, Event, no_attributes, kind_fits, between, text_fits, attributes_fit, in_form, has_key, keys_differ}
use Rattle.definition.specs.Rows.{Numbers, Store}
use Rattle.definition.specs.Look.{Look, look, text_after, payload, loads_of}
use Rattle.definition.specs.Reader.{Verdict, accept, reject, decided, Reply, settled, reply_to}
use Rattle.renaming.proofs.Words.{Total}
use Rattle.renaming.proofs.OnAllowed.{allowed_append}
use Rattle.renaming.proofs.Loads.{moved_length, AttributesRel, EventRel}
use Rattle.renaming.proofs.Edits.{TablesOk}
use Rattle.renaming.proofs.Steps.{VerdictOk, decided_ok}
use Rattle.renaming.proofs.Looks.{tables_grow, size₂, ok₂, held, known_held, look_same}
use Rattle.renaming.proofs.Parse.{OptRel}
use Rattle.renaming.proofs.Allowed.{added_allowed}

module _ (ρ : List ℕ → List ℕ) (R : Total ρ) where
  -- ---- questions 3 and 4: lengths and keys only

  between_same : (a b : ℕ) (v w : List ℕ) → length w ≡ length v → between a b w ≡ between a b v
  unfolding between
  between_same a b v w e = rw e

  attributes_fit_lem : (L : Limits) (g : ℕ) {as₁ bs : List Attribute} → AttributesRel ρ R g as₁ bs → attributes_fit L bs ≡ attributes_fit L as₁
  unfolding attributes_fit
  attributes_fit_lem L g AttributesRel.stop = refl
  attributes_fit_lem L g (AttributesRel.more {a = a} {b = b} {as₁ = as₁} {bs = bs} h m) =
      go (between 1 L.key a.key && between 0 L.value a.value) refl (attributes_fit_lem L g m)
    where
      fits : (between 1 L.key b.key && between 0 L.value b.value) ≡ (between 1 L.key a.key && between 0 L.value a.value)
      fits =
          ap₂ ◌&&◌ (ap (between 1 L.key) h.key)
          (between_same 0 L.value a.value b.value (moved_length ρ R (role_of g (key_of a.key)) a.value b.value h.value))

      go : (c : Bool) → (between 1 L.key a.key && between 0 L.value a.value) ≡ c → attributes_fit L bs ≡ attributes_fit L as₁
          → attributes_fit L (b ∷ bs) ≡ attributes_fit L (a ∷ as₁)
      go true e ih = rw (fits ∙ e, attributes_fit, e, attributes_fit) ih
      go false e ih = rw (fits ∙ e, attributes_fit, e, attributes_fit)

  count_same : (g : ℕ) {as₁ bs : List Attribute} → AttributesRel ρ R g as₁ bs → length bs ≡ length as₁
  count_same g AttributesRel.stop = refl
  count_same g (AttributesRel.more h m) = ap suc (count_same g m)

  none_same : (g : ℕ) {as₁ bs : List Attribute} → AttributesRel ρ R g as₁ bs → no_attributes bs ≡ no_attributes as₁
  unfolding no_attributes
  none_same g AttributesRel.stop = refl
  none_same g (AttributesRel.more h m) = refl

  kind_fits_lem : (k : ℕ) (e f : Event) → EventRel ρ R e f → kind_fits k f ≡ kind_fits k e
  unfolding kind_fits
  kind_fits_lem zero e f h = rw (h.text, h.name)
  kind_fits_lem (suc zero) e f h = rw h.text
  kind_fits_lem (suc (suc zero)) e f h = rw (h.text, h.name)
  kind_fits_lem (suc (suc (suc zero))) e f h = rw (h.text, none_same (tag_of e.name) h.attributes)
  kind_fits_lem (suc (suc (suc (suc k)))) e f h = refl

  in_form_lem : (L : Limits) (e f : Event) → EventRel ρ R e f → in_form L f ≡ in_form L e
  unfolding in_form
  in_form_lem L e f h =
      let g : ℕ = tag_of e.name in
      let a : kind_fits f.kind f ≡ kind_fits e.kind e = ap (λ (k : ℕ). kind_fits k f) h.kind ∙ kind_fits_lem e.kind e f h in
      ap₂ ◌&&◌ (ap₂ ◌&&◌ (ap₂ ◌&&◌ (ap₂ ◌&&◌ a (ap (between 1 L.name) h.name)) (ap (λ (k : ℕ). leb k L.attributes) (count_same g h.attributes)))
      (attributes_fit_lem L g h.attributes)) (ap (text_fits L) h.text)

  key_same : (g : ℕ) (k : List ℕ) {as₁ bs : List Attribute} → AttributesRel ρ R g as₁ bs → has_key k bs ≡ has_key k as₁
  unfolding has_key
  key_same g k AttributesRel.stop = refl
  key_same g k (AttributesRel.more {a = a} {b = b} {as₁ = as₁} {bs = bs} h m) = go (same a.key k) refl (key_same g k m)
    where
      go : (c : Bool) → same a.key k ≡ c → has_key k bs ≡ has_key k as₁ → has_key k (b ∷ bs) ≡ has_key k (a ∷ as₁)
      go true e ih = rw (h.key, e, has_key)
      go false e ih = rw (h.key, e, has_key) ih

  keys_differ_lem : (g : ℕ) {as₁ bs : List Attribute} → AttributesRel ρ R g as₁ bs → keys_differ bs ≡ keys_differ as₁
  unfolding keys_differ
  keys_differ_lem g AttributesRel.stop = refl
  keys_differ_lem g (AttributesRel.more {a = a} {b = b} {as₁ = as₁} {bs = bs} h m) = go (has_key a.key as₁) refl (keys_differ_lem g m)
    where
      there : has_key b.key bs ≡ has_key a.key as₁
      there = ap (λ (k : List ℕ). has_key k bs) h.key ∙ key_same g a.key m

      go : (c : Bool) → has_key a.key as₁ ≡ c → keys_differ bs ≡ keys_differ as₁ → keys_differ (b ∷ bs) ≡ keys_differ (a ∷ as₁)
      go true e ih = rw (there ∙ e, keys_differ, e, keys_differ)
      go false e ih = rw (there ∙ e, keys_differ, e, keys_differ) ih

  -- ---- stores

  pub record StoreRel (s r : Store) : Type 0 where
    pub numbers : r.numbers ≡ s.numbers
    pub size : length r.text ≡ length s.text
    pub ok : TablesOk ρ R s.text r.text size s.numbers.tables
    pub allowed : all_allowed s.text ≡ true

  -- What follows an event: both texts have grown by a part of their own.
  pub record ReplyRel (s r : Store) (a b : Reply) : Type 0 where
    pub number : b.number ≡ a.number
    pub numbers : b.store.numbers ≡ a.store.numbers
    pub more : List ℕ
    pub more₂ : List ℕ
    pub text : a.store.text ≡ s.text ++ more
    pub text₂ : b.store.text ≡ r.text ++ more₂
    pub size : length (r.text ++ more₂) ≡ length (s.text ++ more)
    pub ok : TablesOk ρ R (s.text ++ more) (r.text ++ more₂) size a.store.numbers.tables
    pub allowed : all_allowed (s.text ++ more) ≡ true

  unchanged : (k : ℕ) (s r : Store) → StoreRel s r → ReplyRel s r (record { number = k; store = s }) (record { number = k; store = r })
  unfolding all_allowed
  unchanged k s r h =
      let z : length (r.text ++ []) ≡ length (s.text ++ []) = omega (arith, length-append r.text [], length-append s.text [], h.size) in
      record {
        number = refl;
        numbers = h.numbers;
        more = [];
        more₂ = [];
        text = sym (append-nil s.text);
        text₂ = sym (append-nil r.text);
        size = z;
        ok = tables_grow ρ R s.text r.text [] [] h.size z s.numbers.tables h.ok;
        allowed = allowed_append s.text [] h.allowed refl;
      }

  module _ (L : Limits) (n : Numbers) (t u : List ℕ) (size : length u ≡ length t) (ok : TablesOk ρ R t u size n.tables) (free : all_allowed t ≡ true) where
    abbrev s : Store
    s = record { numbers = n; text = t }

    abbrev r : Store
    r = record { numbers = n; text = u }

    related : StoreRel s r
    related = record { numbers = refl; size = size; ok = ok; allowed = free }

    module _ (e f : Event) (h : EventRel ρ R e f) where
      abbrev added : List ℕ
      added = payload (loads_of (tag_of e.name) n.names e)

      abbrev added₂ : List ℕ
      added₂ = payload (loads_of (tag_of f.name) n.names f)

      grown : length (u ++ added₂) ≡ length (t ++ added)
      grown = size₂ ρ R n t u size ok e f h

      settled-ρ : (v : Verdict) → VerdictOk ρ R (t ++ added) (u ++ added₂) grown v → ReplyRel s r (settled s (t ++ added) v) (settled r (u ++ added₂) v)
      unfolding settled
      settled-ρ (accept m) k =
          record {
            number = refl;
            numbers = refl;
            more = added;
            more₂ = added₂;
            text = refl;
            text₂ = refl;
            size = grown;
            ok = k;
            allowed = allowed_append t added free (added_allowed ρ R e f h n.names);
          }
      settled-ρ (reject k) x = unchanged k s r related

      verdict_ok : VerdictOk ρ R (t ++ added) (u ++ added₂) grown (decided L n (look s e))
      unfolding look grown
      verdict_ok =
          decided_ok ρ R (t ++ added) (u ++ added₂) grown (look s e) (held ρ R n t u size ok e f h) (rw length-append (omega arith)) (known_held ρ R n t u size ok e f h) L n
          (ok₂ ρ R n t u size ok e f h)

      accepted-ρ : ReplyRel s r (settled s (text_after s e) (decided L n (look s e))) (settled r (text_after r f) (decided L n (look r f)))
      unfolding text_after
      accepted-ρ =
          subst (λ (l : Look). ReplyRel s r (settled s (t ++ added) (decided L n (look s e))) (settled r (u ++ added₂) (decided L n l)))
          (sym (look_same ρ R n t u size ok e f h)) (settled-ρ (decided L n (look s e)) verdict_ok)

      -- AN EVENT AND ITS PARTNER
      some-ρ : ReplyRel s r (reply_to L s (some e)) (reply_to L r (some f))
      unfolding reply_to
      some-ρ = go (in_form L e) (keys_differ e.attributes) refl refl
        where
          form : in_form L f ≡ in_form L e
          form = in_form_lem L e f h

          keys : keys_differ f.attributes ≡ keys_differ e.attributes
          keys = keys_differ_lem (tag_of e.name) h.attributes

          go : (c d : Bool) → in_form L e ≡ c → keys_differ e.attributes ≡ d → ReplyRel s r (reply_to L s (some e)) (reply_to L r (some f))
          go false d p q = rw (p, reply_to, form ∙ p, reply_to) (unchanged 3 s r related)
          go true false p q = rw (p, reply_to, form ∙ p, reply_to, q, reply_to, keys ∙ q, reply_to) (unchanged 4 s r related)
          go true true p q = rw (p, reply_to, form ∙ p, reply_to, q, reply_to, keys ∙ q, reply_to) accepted-ρ

    reply_of : {x y : Option Event} → OptRel (EventRel ρ R) x y → ReplyRel s r (reply_to L s x) (reply_to L r y)
    unfolding reply_to
    reply_of OptRel.neither = unchanged 3 s r related
    reply_of (OptRel.both {a = e} {b = f} h) = some-ρ e f h

  pub reply-ρ : (L : Limits) (s r : Store) → StoreRel s r → {x y : Option Event} → OptRel (EventRel ρ R) x y → ReplyRel s r (reply_to L s x) (reply_to L r y)
  reply-ρ L s r h {x} {y} m =
      subst (λ (n : Numbers). ReplyRel s (record { numbers = n; text = r.text }) (reply_to L s x) (reply_to L (record { numbers = n; text = r.text }) y))
      (sym h.numbers) (reply_of L s.numbers s.text r.text h.size h.ok h.allowed m)
