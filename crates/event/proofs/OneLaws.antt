-- Bytes that hold no event, or a second one, and bytes that are one.
use Prim.Native.Nat.{ℕ, ◌≤◌, ◌<◌}
use mathlib.Core.Path.{◌≡◌, refl, ap}
use mathlib.Core.Bool.{Bool, true, false}
use mathlib.Core.List.{List, [], ◌∷◌}
use native.Mathlib.Omega.{arith}
use lib.ListN.{length}
use lib.Dec.{ltb}
use borrow.Author.Tests.{ltb-true, ltb-false, lt-ltb, le-ltb}
use Rattle.lines.specs.Lines.{event_length}
use Rattle.walk.proofs.StreamLaws.{event_within}
use Rattle.event.specs.Description.{Described}
use Rattle.event.specs.Described.{blank, described}
use Rattle.event.specs.One.{one_event}
use Rattle.event.proofs.DescribeLaws.{out_of_one}

pub none_there : (l : List ℕ) → length l ≡ 0 → 3 ≡ one_event l
unfolding one_event
none_there [] e = refl
none_there (b ∷ bs) e = absurd (omega (arith, e))

pub two_there : (l : List ℕ) → event_length l < length l → 3 ≡ one_event l
unfolding one_event
two_there [] h = refl
two_there (b ∷ bs) h = rw (lt-ltb (event_length (b ∷ bs)) (length (b ∷ bs)) h, one_event)

pub one_there : (l : List ℕ) → (length l ≡ 0 → ⊥) → length l ≤ event_length l → 0 ≡ one_event l
unfolding one_event
one_there [] n h = absurd (n refl)
one_there (b ∷ bs) n h = rw (le-ltb (event_length (b ∷ bs)) (length (b ∷ bs)) h, one_event)

pub is_one_lem : (l : List ℕ) → one_event l ≡ 0 → (0 < length l) × (event_length l ≡ length l)
unfolding one_event
is_one_lem [] e = absurd (omega (arith, e))
is_one_lem (b ∷ bs) e = go (ltb (event_length (b ∷ bs)) (length (b ∷ bs))) refl e
  where
    go : (q : Bool) → ltb (event_length (b ∷ bs)) (length (b ∷ bs)) ≡ q → ◌≡◌ {A = ℕ} (elim q [ true ↦ 3 | false ↦ 0 ]) 0 → (0 < length (b ∷ bs)) × (event_length (b ∷ bs) ≡ length (b ∷ bs))
    go true f h = absurd (omega (arith, h))
    go false f h = (omega arith, omega (arith, ltb-false (event_length (b ∷ bs)) (length (b ∷ bs)) f, event_within (b ∷ bs)))

-- Such bytes are out of form.
pub out_of_form : (l : List ℕ) → (one_event l ≡ 0 → ⊥) → one_event l ≡ (described l).number
unfolding one_event described blank
out_of_form [] n = refl
out_of_form (b ∷ bs) n = go (ltb (event_length (b ∷ bs)) (length (b ∷ bs))) refl n
  where
    go : (q : Bool) → ltb (event_length (b ∷ bs)) (length (b ∷ bs)) ≡ q → (◌≡◌ {A = ℕ} (elim q [ true ↦ 3 | false ↦ 0 ]) 0 → ⊥) → ◌≡◌ {A = ℕ} (elim q [ true ↦ 3 | false ↦ 0 ]) (described (b ∷ bs)).number
    go true f m = ap (λ (d : Described). d.number) (out_of_one (b ∷ bs) (ltb-true (event_length (b ∷ bs)) (length (b ∷ bs)) f))
    go false f m = absurd (m refl)
