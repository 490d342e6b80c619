-- A plan goes by a kind past the last as by `end`, and by an element past the last as by `unknown`.
use Prim.Native.Nat.{ℕ, zero, suc, ◌-◌, ◌<◌}
use mathlib.Core.Path.{◌≡◌, refl, sym, ap, ◌∙◌}
use mathlib.Core.Bool.{Bool, true, false}
use lib.Dec.{leb}
use Rattle.std.proofs.lemmas.Bool.{leb-false, lt-leb}
use native.Mathlib.Omega.{arith}
use Rattle.plan.specs.declared.Seen.{Seen}
use Rattle.plan.specs.declared.Heard.{Heard}
use Rattle.plan.specs.Ids.{kind_counted, tag_counted}
use Rattle.plan.specs.Plans.{plan_by, start_p, starts_p, both_p, boths_p, end_p, ends_p, plain_p}

-- What the code comes to past its arms.
pub kind_past : (k : ℕ) → 2 < k → 3 ≡ kind_counted k
unfolding kind_counted
kind_past zero h = absurd (omega arith)
kind_past (suc zero) h = absurd (omega arith)
kind_past (suc (suc zero)) h = absurd (omega arith)
kind_past (suc (suc (suc k))) h = refl

pub tag_past : (g : ℕ) → 27 < g → 0 ≡ tag_counted g
unfolding tag_counted
tag_past g h = rw (tag_counted, lt-leb g 27 h)

abbrev pub suc28 : ℕ → ℕ
suc28 g = suc (suc (suc (suc (suc (suc (suc (suc (suc (suc (suc (suc (suc (suc (suc (suc (suc (suc (suc (suc (suc (suc (suc (suc (suc (suc (suc (suc g)))))))))))))))))))))))))))

-- What is the same for every number past the last element's.
pub by_tag {ℓ} : {A : Type ℓ} (P : ℕ → A) → ((h : ℕ) → P (suc28 h) ≡ P 0) → (g : ℕ) → P (tag_counted g) ≡ P g
unfolding tag_counted
by_tag P h g = go (leb g 27) refl
  where
    go : (b : Bool) → leb g 27 ≡ b → P (elim b [ true ↦ g | false ↦ 0 ]) ≡ P g
    go true e = refl
    go false e = let z : suc28 (g - 28) ≡ g = omega (arith, leb-false g 27 e) in sym (h (g - 28)) ∙ ap P z

kinds : (k g : ℕ) (v : Seen) (q : Heard) → plan_by (kind_counted k) g v q ≡ plan_by k g v q
unfolding plan_by kind_counted
kinds zero g v q = refl
kinds (suc zero) g v q = refl
kinds (suc (suc zero)) g v q = refl
kinds (suc (suc (suc k))) g v q = refl

none : (k h : ℕ) (v : Seen) (q : Heard) → plan_by k (suc28 h) v q ≡ plan_by k 0 v q
unfolding plan_by start_p starts_p both_p boths_p end_p ends_p plain_p
none zero h v q = refl
none (suc zero) h v q = refl
none (suc (suc zero)) h v q = refl
none (suc (suc (suc k))) h v q = refl

pub plan_counted : (k g : ℕ) {a b : ℕ} (v : Seen) (q : Heard) → a ≡ kind_counted k → b ≡ tag_counted g → plan_by a b v q ≡ plan_by k g v q
plan_counted k g v q ek eg = (λ z. plan_by (ek z) (eg z) v q) ∙ kinds k (tag_counted g) v q ∙ by_tag (λ h. plan_by k h v q) (λ h. none k h v q) g
