-- An event's loads: beside its values a text (29, 30) or a generated name (1). What stands among the values alone is found there.
use Prim.Native.Nat.{ℕ, suc}
use mathlib.Core.Path.{◌≡◌, refl, ap, ◌∙◌}
use mathlib.Core.Bool.{Bool, true, false, not, ◌&&◌}
use mathlib.Core.Option.{Option, none, some}
use mathlib.Core.List.{List, ◌++◌}
use lib.Dec.{eqb}
use Rattle.definition.specs.Elements.{tag, names_state}
use Rattle.definition.specs.Event.{Event, kind}
use Rattle.definition.specs.Look.{Load, value_loads, text_loads, name_loads, is_generated, loads_of, has_load}
use Rattle.words.proofs.Laws.{by}
use Rattle.plain.specs.Keyed.{value_in}
use Rattle.plain.proofs.ValueLaws.{has_append, value_append}

module _ (k : ℕ) where
  pub no_text : (g : ℕ) (o : Option (List ℕ)) → eqb 29 k ≡ false → eqb 30 k ≡ false → has_load k (text_loads g o) ≡ false
  unfolding text_loads has_load
  no_text g none a b = refl
  no_text g (some v) a b = by (eqb g tag.assign) (λ q. rw (q, text_loads, b, has_load)) (λ q. rw (q, text_loads, a, has_load))

  no_made : (b : Bool) (n : ℕ) → eqb 1 k ≡ false → has_load k (name_loads b n) ≡ false
  unfolding name_loads has_load
  no_made true n a = rw (a, has_load)
  no_made false n a = refl

-- A key that stands among the values alone: no text's, and an id only where no name is generated.
pub data Own (g : ℕ) : ℕ → Type 0 where
  other : {k : ℕ} → eqb 29 k ≡ false → eqb 30 k ≡ false → eqb 1 k ≡ false → Own g k
  id : names_state g ≡ false → Own g 1

module _ (g n : ℕ) (e : Event) where
  abbrev vs : List Load
  vs = value_loads e.attributes

  pub made_none : names_state g ≡ false → is_generated e.kind g vs ≡ false
  unfolding is_generated
  made_none h = rw h (and_no (not (eqb e.kind kind.ends)))
    where
      and_no : (b : Bool) → (b && false && not (has_load 1 vs)) ≡ false
      and_no true = refl
      and_no false = refl

  pub rest_none : (k : ℕ) → Own g k → (has_load k (name_loads (is_generated e.kind g vs) (suc n)) ≡ false) × (has_load k (text_loads g e.text) ≡ false)
  rest_none k (other a b c) = (no_made k (is_generated e.kind g vs) (suc n) c, no_text k g e.text a b)
  rest_none k (id h) = (unfold name_loads has_load in ap (λ (b : Bool). has_load 1 (name_loads b (suc n))) (made_none h), no_text 1 g e.text refl refl)

  pub own_has : (k : ℕ) → Own g k → has_load k (loads_of g n e) ≡ has_load k vs
  unfolding loads_of
  own_has k h =
      let r = rest_none k h in
      has_append k (vs ++ text_loads g e.text) (name_loads (is_generated e.kind g vs) (suc n)) r.0 ∙ has_append k vs (text_loads g e.text) r.1

  pub own_value : (k : ℕ) → Own g k → value_in k (loads_of g n e) ≡ value_in k vs
  unfolding loads_of
  own_value k h =
      let r = rest_none k h in
      value_append k (vs ++ text_loads g e.text) (name_loads (is_generated e.kind g vs) (suc n)) r.0 ∙ value_append k vs (text_loads g e.text) r.1
