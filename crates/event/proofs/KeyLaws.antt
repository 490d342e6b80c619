-- The keys of the attributes, one after another.
use Prim.Native.Nat.{ℕ}
use mathlib.Core.Path.{◌≡◌, refl, sym, ap, ◌∙◌, subst}
use mathlib.Core.Bool.{Bool, true, false}
use mathlib.Core.List.{List, [], ◌∷◌}
use native.Mathlib.Omega.{arith}
use lib.ListN.{length}
use Rattle.definition.specs.Text.{same}
use Rattle.definition.specs.Elements.{key_of}
use Rattle.definition.proofs.Base.{same_eq}
use Rattle.parts.specs.declared.Pair as code
use Rattle.parts.specs.Parts.{pair_of, pairs_of}
use Rattle.event.specs.Described.{Coded, IsCoded, read, pair_keys, is_among, all_differ}

-- Keys with different numbers are different.
pub other_code : (x y : List ℕ) (c d : ℕ) → c ≡ key_of x → d ≡ key_of y → (c ≡ d → ⊥) → false ≡ same y x
other_code x y c d e f n = go (same y x) refl
  where
    go : (p : Bool) → same y x ≡ p → false ≡ p
    go true q = absurd (n (e ∙ ap key_of (sym (same_eq y x q)) ∙ sym f))
    go false q = refl

-- A slice of attributes, as code takes it apart.
module _ (raw : List ℕ) (ps : List code.Pair) where
  pub coded_first : (p : code.Pair) (left : List code.Pair) → ps ≡ p ∷ left → Coded raw (pairs_of ps) → IsCoded raw (pair_of p) × Coded raw (pairs_of left)
  unfolding pairs_of Coded
  coded_first p left e h = subst (λ (x : List code.Pair). Coded raw (pairs_of x)) e h

  module _ (k : List ℕ) where
    pub among_none : length ps ≡ 0 → false ≡ is_among k (pair_keys raw (pairs_of ps))
    unfolding pairs_of pair_keys is_among
    among_none h = go ps h
      where
        go : (x : List code.Pair) → length x ≡ 0 → false ≡ is_among k (pair_keys raw (pairs_of x))
        go [] e = refl
        go (y ∷ x) e = absurd (omega arith)

    module _ (p : code.Pair) (left : List code.Pair) (e : ps ≡ p ∷ left) {r : Bool} (er : r ≡ same (read raw p.key) k) where
      among_step : is_among k (pair_keys raw (pairs_of ps)) ≡ elim r [ true ↦ true | false ↦ is_among k (pair_keys raw (pairs_of left)) ]
      unfolding pairs_of pair_keys is_among pair_of
      among_step = ap (λ (x : List code.Pair). is_among k (pair_keys raw (pairs_of x))) e ∙ ap (λ (b : Bool). elim b [ true ↦ true | false ↦ is_among k (pair_keys raw (pairs_of left)) ]) (sym er)

      pub among_stop : r ≡ true → true ≡ is_among k (pair_keys raw (pairs_of ps))
      among_stop f = sym (among_step ∙ ap (λ (b : Bool). elim b [ true ↦ true | false ↦ is_among k (pair_keys raw (pairs_of left)) ]) f)

      pub among_more : r ≡ false → is_among k (pair_keys raw (pairs_of left)) ≡ is_among k (pair_keys raw (pairs_of ps))
      among_more f = sym (among_step ∙ ap (λ (b : Bool). elim b [ true ↦ true | false ↦ is_among k (pair_keys raw (pairs_of left)) ]) f)

  pub differ_none : length ps ≡ 0 → true ≡ all_differ (pair_keys raw (pairs_of ps))
  unfolding pairs_of pair_keys all_differ
  differ_none h = go ps h
    where
      go : (x : List code.Pair) → length x ≡ 0 → true ≡ all_differ (pair_keys raw (pairs_of x))
      go [] e = refl
      go (y ∷ x) e = absurd (omega arith)

  module _ (p : code.Pair) (left : List code.Pair) (e : ps ≡ p ∷ left) {r : Bool} (er : r ≡ is_among (read raw p.key) (pair_keys raw (pairs_of left))) where
    differ_step : all_differ (pair_keys raw (pairs_of ps)) ≡ elim r [ true ↦ false | false ↦ all_differ (pair_keys raw (pairs_of left)) ]
    unfolding pairs_of pair_keys all_differ pair_of
    differ_step = ap (λ (x : List code.Pair). all_differ (pair_keys raw (pairs_of x))) e ∙ ap (λ (b : Bool). elim b [ true ↦ false | false ↦ all_differ (pair_keys raw (pairs_of left)) ]) (sym er)

    pub differ_stop : r ≡ true → false ≡ all_differ (pair_keys raw (pairs_of ps))
    differ_stop f = sym (differ_step ∙ ap (λ (b : Bool). elim b [ true ↦ false | false ↦ all_differ (pair_keys raw (pairs_of left)) ]) f)

    pub differ_more : r ≡ false → all_differ (pair_keys raw (pairs_of left)) ≡ all_differ (pair_keys raw (pairs_of ps))
    differ_more f = sym (differ_step ∙ ap (λ (b : Bool). elim b [ true ↦ false | false ↦ all_differ (pair_keys raw (pairs_of left)) ]) f)
