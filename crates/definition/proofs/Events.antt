-- What a line, a legible text and an event are made of.
use Prim.Native.Nat.{ℕ}
use mathlib.Core.Path.{◌≡◌, refl}
use mathlib.Core.Bool.{Bool, true, false}
use mathlib.Core.Option.{Option, none, some}
use mathlib.Core.List.{List, [], ◌∷◌, ◌++◌}
use lib.Dec.{eqb}
use borrow.Author.Tests.{eqb-true}
use Rattle.definition.specs.Text.{all_allowed}
use Rattle.definition.specs.Event.{after, if_allowed, Event, Body, event_with}
use Rattle.definition.proofs.Base.{none_is_some, some_inj}

pub after_split : (h l v : List ℕ) → after h l ≡ some v → l ≡ h ++ v
unfolding after
after_split [] l v e = some_inj l l v e
after_split (x ∷ h) [] v e = none_is_some v e
after_split (x ∷ h) (b ∷ l) v e = go (eqb x b) refl (after_split h l v)
  where
    go : (p : Bool) → eqb x b ≡ p → (after h l ≡ some v → l ≡ h ++ v) → b ∷ l ≡ x ∷ (h ++ v)
    go true q ih = let y : x ≡ b = eqb-true x b q in let w : l ≡ h ++ v = ih (rw (q, after) at e) in cc
    go false q ih = none_is_some v (rw (q, after) at e)

pub allowed_same : (o : Option (List ℕ)) (x : List ℕ) → if_allowed o ≡ some x → o ≡ some x
unfolding if_allowed
allowed_same none x e = none_is_some x e
allowed_same (some v) x e = go (all_allowed v) refl
  where
    go : (p : Bool) → all_allowed v ≡ p → some v ≡ some x
    go true q = rw (q, if_allowed) at e
    go false q = none_is_some x (rw (q, if_allowed) at e)

pub with_split : (k : ℕ) (n : Option (List ℕ)) (o : Option Body) (e : Event) → event_with k n o ≡ some e
    → (x : List ℕ) × (b : Body) × (n ≡ some x) × (o ≡ some b) × (record { kind = k; name = x; attributes = b.attributes; text = b.text } ≡ e)
unfolding event_with
with_split k none o e q = none_is_some e q
with_split k (some x) none e q = none_is_some e q
with_split k (some x) (some b) e q = (x, b, refl, refl, some_inj e _ e q)
