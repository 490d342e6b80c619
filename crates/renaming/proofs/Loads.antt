-- An event and its partner: stage 1 reads the same numbers of their values, and what it reads lies in both texts.
use Prim.Native.Nat.{ℕ, suc}
use mathlib.Core.Path.{◌≡◌, refl, sym, ap, ◌∙◌, subst}
use mathlib.Core.Bool.{Bool, true, false, ◌&&◌, not}
use mathlib.Core.Option.{Option, none, some}
use mathlib.Core.List.{List, [], ◌∷◌, ◌++◌}
use lib.ListN.{length}
use lib.Dec.{T, eqb}
use native.Mathlib.Omega.{arith}
use Rattle.definition.specs.Text.{all_allowed, quoted, str, starts_generated, generated_name}
use Rattle.definition.specs.Elements.{tag, key, Role, name, names, masked, plain, role_of, names_state, tag_of, key_of}
use Rattle.definition.specs.Event.{Attribute, Event}
use Rattle.definition.specs.Look.{Load, value_loads, text_loads, has_load, is_generated, name_loads, loads_of}
use Rattle.definition.proofs.Roles.{id_name, quoted_plain, text_plain}
use Rattle.renaming.specs.Renaming.{Moved}
use Rattle.renaming.proofs.Words.{Total, length_rename}

pub generated_starts : (n : ℕ) → T (starts_generated (generated_name n))
unfolding starts_generated generated_name str
generated_starts n = tt

abbrev pub TextAllowed : Option (List ℕ) → Type 0
TextAllowed none = Unit {0}
TextAllowed (some v) = all_allowed v ≡ true

module _ (ρ : List ℕ → List ℕ) (R : Total ρ) where
  pub moved_length : (q : Role) (v w : List ℕ) → Moved ρ q v w → length w ≡ length v
  moved_length name v w m = rw m (R.len v)
  moved_length names v w m = rw m (length_rename ρ R [] v ∙ omega arith)
  moved_length masked v w m = rw m
  moved_length plain v w m = rw m

  pub record AttributeRel (g : ℕ) (a b : Attribute) : Type 0 where
    pub key : b.key ≡ a.key
    pub value : Moved ρ (role_of g (key_of a.key)) a.value b.value
    pub allowed : all_allowed a.value ≡ true

  pub data AttributesRel (g : ℕ) : List Attribute → List Attribute → Type 0 where
    stop : AttributesRel g [] []
    more : {a b : Attribute} {as₁ bs : List Attribute} → AttributeRel g a b → AttributesRel g as₁ bs → AttributesRel g (a ∷ as₁) (b ∷ bs)

  pub record EventRel (e f : Event) : Type 0 where
    pub kind : f.kind ≡ e.kind
    pub name : f.name ≡ e.name
    pub attributes : AttributesRel (tag_of e.name) e.attributes f.attributes
    pub text : f.text ≡ e.text
    pub allowed : TextAllowed e.text

  -- ---- the payload's loads

  pub record LoadRel (g : ℕ) (i j : Load) : Type 0 where
    pub key : j.key ≡ i.key
    pub bytes : Moved ρ (role_of g i.key) i.bytes j.bytes

  pub data LoadsRel (g : ℕ) : List Load → List Load → Type 0 where
    stop : LoadsRel g [] []
    more : {i j : Load} {is js : List Load} → LoadRel g i j → LoadsRel g is js → LoadsRel g (i ∷ is) (j ∷ js)

  loads_append : (g : ℕ) {is js ks ls : List Load} → LoadsRel g is js → LoadsRel g ks ls → LoadsRel g (is ++ ks) (js ++ ls)
  loads_append g LoadsRel.stop k = k
  loads_append g (LoadsRel.more h m) k = LoadsRel.more h (loads_append g m k)

  values-ρ : (g : ℕ) {as₁ bs : List Attribute} → AttributesRel g as₁ bs → LoadsRel g (value_loads as₁) (value_loads bs)
  unfolding value_loads
  values-ρ g AttributesRel.stop = LoadsRel.stop
  values-ρ g (AttributesRel.more h m) = LoadsRel.more (record { key = ap key_of h.key; bytes = h.value }) (values-ρ g m)

  plain_load : (g k : ℕ) (v : List ℕ) → role_of g k ≡ plain → LoadRel g (record { key = k; bytes = v }) (record { key = k; bytes = v })
  plain_load g k v h = record { key = refl; bytes = subst (λ (q : Role). Moved ρ q v v) (sym h) refl }

  text-ρ : (g h : ℕ) (x : Option (List ℕ)) → LoadsRel g (text_loads h x) (text_loads h x)
  unfolding text_loads
  text-ρ g h none = LoadsRel.stop
  text-ρ g h (some v) = go (eqb h tag.assign) refl
    where
      go : (c : Bool) → eqb h tag.assign ≡ c → LoadsRel g (text_loads h (some v)) (text_loads h (some v))
      go true q = rw (q, text_loads) (LoadsRel.more (plain_load g key.quoted (quoted v) (quoted_plain g)) LoadsRel.stop)
      go false q = rw (q, text_loads) (LoadsRel.more (plain_load g key.text v (text_plain g)) LoadsRel.stop)

  has-ρ : (g k : ℕ) {is js : List Load} → LoadsRel g is js → has_load k js ≡ has_load k is
  unfolding has_load
  has-ρ g k LoadsRel.stop = refl
  has-ρ g k (LoadsRel.more {i = i} {j = j} {is = is} {js = js} h m) = go (eqb i.key k) refl (has-ρ g k m)
    where
      go : (c : Bool) → eqb i.key k ≡ c → has_load k js ≡ has_load k is → has_load k (j ∷ js) ≡ has_load k (i ∷ is)
      go true e f = rw (h.key, e, has_load)
      go false e f = rw (h.key, e, has_load) f

  pub generated-ρ : (x g : ℕ) {as₁ bs : List Attribute} → AttributesRel g as₁ bs → is_generated x g (value_loads bs) ≡ is_generated x g (value_loads as₁)
  unfolding is_generated
  generated-ρ x g m = rw (has-ρ g key.id (values-ρ g m))

  generated_load : (g n : ℕ) (c : Bool) → (c ≡ true → names_state g ≡ true) → LoadsRel g (name_loads c n) (name_loads c n)
  unfolding name_loads
  generated_load g n true h =
      LoadsRel.more (record { key = refl; bytes = subst (λ (q : Role). Moved ρ q (generated_name n) (generated_name n)) (sym (id_name g (h refl))) (sym (R.keeps (generated_name n) (generated_starts n))) })
      LoadsRel.stop
  generated_load g n false h = LoadsRel.stop

  generated_names : (x g : ℕ) (is : List Load) → is_generated x g is ≡ true → names_state g ≡ true
  unfolding is_generated
  generated_names x g is e = go (names_state g) refl
    where
      go : (c : Bool) → names_state g ≡ c → names_state g ≡ true
      go true q = q
      go false q = absurd (no (not (eqb x 3)) (not (has_load 1 is)) (rw q at e))
        where
          no : (p r : Bool) → (p && false && r) ≡ true → ⊥
          no true r h = let z : false ≡ true = h in let y : ◌≡◌ {A = ℕ} 0 1 = cc in omega arith
          no false r h = let z : false ≡ true = h in let y : ◌≡◌ {A = ℕ} 0 1 = cc in omega arith

  -- THE DATA OF AN EVENT AND OF ITS PARTNER
  pub loads-ρ : (e f : Event) → EventRel e f → (n : ℕ) → LoadsRel (tag_of e.name) (loads_of (tag_of e.name) n e) (loads_of (tag_of f.name) n f)
  unfolding loads_of
  loads-ρ e f h n =
      let g : ℕ = tag_of e.name in
      let as₁ : List Load = value_loads e.attributes in
      rw (h.name, h.kind, h.text, generated-ρ e.kind g h.attributes)
      (loads_append g
      (loads_append g (values-ρ g h.attributes) (text-ρ g g e.text))
      (generated_load g (suc n) (is_generated e.kind g as₁) (generated_names e.kind g as₁)))
