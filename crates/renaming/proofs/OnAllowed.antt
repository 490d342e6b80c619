-- A renaming of strings of bytes 0 to 127 that leaves all others alone is a renaming of all strings.
use Prim.Native.Nat.{ℕ}
use mathlib.Core.Path.{◌≡◌, refl, sym, ap, ap₂, ◌∙◌, subst}
use mathlib.Core.Bool.{Bool, true, false}
use mathlib.Core.List.{List, [], ◌∷◌, ◌++◌}
use lib.ListN.{length}
use lib.Dec.{T}
use Rattle.definition.specs.Text.{is_allowed, all_allowed, is_separator, is_word, starts_generated}
use Rattle.definition.specs.Elements.{Role, name, names, masked, plain}
use Rattle.renaming.specs.Renaming.{Renaming, rename_words, Moved}
use Rattle.definition.proofs.Base.{true_is_false, T_of}
use Rattle.renaming.proofs.Words.{Total}

not_both : {X : Type 0} (c : Bool) → T c → c ≡ false → X
not_both true t e = true_is_false e
not_both false t e = absurd t

unfoldable pub on_allowed : (List ℕ → List ℕ) → List ℕ → List ℕ
unfolding all_allowed
on_allowed ρ v = elim (all_allowed v) [ true ↦ ρ v | false ↦ v ]

pub on_allowed-in : (ρ : List ℕ → List ℕ) (v : List ℕ) → all_allowed v ≡ true → on_allowed ρ v ≡ ρ v
unfolding on_allowed
on_allowed-in ρ v e = rw (e, on_allowed)

pub on_allowed-out : (ρ : List ℕ → List ℕ) (v : List ℕ) → all_allowed v ≡ false → on_allowed ρ v ≡ v
unfolding on_allowed
on_allowed-out ρ v e = rw (e, on_allowed)

-- ---- bytes 0 to 127 only

pub allowed_head : (b : ℕ) (v : List ℕ) → all_allowed (b ∷ v) ≡ true → is_allowed b ≡ true
unfolding all_allowed
allowed_head b v e = go (is_allowed b) refl
  where
    go : (c : Bool) → is_allowed b ≡ c → is_allowed b ≡ true
    go true q = q
    go false q = true_is_false (sym (rw (q, all_allowed) at e))

pub allowed_tail : (b : ℕ) (v : List ℕ) → all_allowed (b ∷ v) ≡ true → all_allowed v ≡ true
unfolding all_allowed
allowed_tail b v e = rw (allowed_head b v e, all_allowed) at e

pub allowed_cons : (b : ℕ) (v : List ℕ) → is_allowed b ≡ true → all_allowed v ≡ true → all_allowed (b ∷ v) ≡ true
unfolding all_allowed
allowed_cons b v e f = rw (e, all_allowed) f

pub allowed_append : (v w : List ℕ) → all_allowed v ≡ true → all_allowed w ≡ true → all_allowed (v ++ w) ≡ true
allowed_append [] w e f = f
allowed_append (b ∷ v) w e f = allowed_cons b (v ++ w) (allowed_head b v e) (allowed_append v w (allowed_tail b v e) f)

module _ (ρ : List ℕ → List ℕ) (R : Renaming ρ) where
  pub total : Total (on_allowed ρ)
  total = record { inj = inj; len = len; word = word; other = other; keeps = keeps }
    where
      inj : (a b : List ℕ) → on_allowed ρ a ≡ on_allowed ρ b → a ≡ b
      inj a b h = go (all_allowed a) (all_allowed b) refl refl
        where
          go : (c d : Bool) → all_allowed a ≡ c → all_allowed b ≡ d → a ≡ b
          go true true e f = R.inj a b (T_of (all_allowed a) e) (T_of (all_allowed b) f) (sym (on_allowed-in ρ a e) ∙ h ∙ on_allowed-in ρ b f)
          go true false e f =
              let q : ρ a ≡ b = sym (on_allowed-in ρ a e) ∙ h ∙ on_allowed-out ρ b f in
              not_both (all_allowed b) (subst (λ (x : List ℕ). T (all_allowed x)) q (R.allowed a (T_of (all_allowed a) e))) f
          go false true e f =
              let q : ρ b ≡ a = sym (on_allowed-in ρ b f) ∙ sym h ∙ on_allowed-out ρ a e in
              not_both (all_allowed a) (subst (λ (x : List ℕ). T (all_allowed x)) q (R.allowed b (T_of (all_allowed b) f))) e
          go false false e f = sym (on_allowed-out ρ a e) ∙ h ∙ on_allowed-out ρ b f

      len : (a : List ℕ) → length (on_allowed ρ a) ≡ length a
      len a = go (all_allowed a) refl
        where
          go : (c : Bool) → all_allowed a ≡ c → length (on_allowed ρ a) ≡ length a
          go true e = ap length (on_allowed-in ρ a e) ∙ R.len a (T_of (all_allowed a) e)
          go false e = ap length (on_allowed-out ρ a e)

      word : (a : List ℕ) → T (is_word a) → T (is_word (on_allowed ρ a))
      word a t = go (all_allowed a) refl
        where
          go : (c : Bool) → all_allowed a ≡ c → T (is_word (on_allowed ρ a))
          go true e = rw (on_allowed-in ρ a e) (R.word a (T_of (all_allowed a) e) t)
          go false e = rw (on_allowed-out ρ a e) t

      other : (a : List ℕ) → (T (is_word a) → ⊥) → on_allowed ρ a ≡ a
      other a t = go (all_allowed a) refl
        where
          go : (c : Bool) → all_allowed a ≡ c → on_allowed ρ a ≡ a
          go true e = on_allowed-in ρ a e ∙ R.other a (T_of (all_allowed a) e) t
          go false e = on_allowed-out ρ a e

      keeps : (a : List ℕ) → T (starts_generated a) → on_allowed ρ a ≡ a
      keeps a t = go (all_allowed a) refl
        where
          go : (c : Bool) → all_allowed a ≡ c → on_allowed ρ a ≡ a
          go true e = on_allowed-in ρ a e ∙ R.keeps a (T_of (all_allowed a) e) t
          go false e = on_allowed-out ρ a e

  -- ---- on such strings it is the renaming itself

  words_allowed : (w v : List ℕ) → all_allowed w ≡ true → all_allowed v ≡ true → rename_words ρ w v ≡ rename_words (on_allowed ρ) w v
  unfolding rename_words all_allowed
  words_allowed w [] e f = sym (on_allowed-in ρ w e)
  words_allowed w (b ∷ v) e f = go (is_separator b) refl (λ x q. words_allowed x v q (allowed_tail b v f))
    where
      go : (c : Bool) → is_separator b ≡ c → ((x : List ℕ) → all_allowed x ≡ true → rename_words ρ x v ≡ rename_words (on_allowed ρ) x v)
          → rename_words ρ w (b ∷ v) ≡ rename_words (on_allowed ρ) w (b ∷ v)
      go true q ih = rw (q, rename_words) (ap₂ (λ (x y : List ℕ). x ++ b ∷ y) (sym (on_allowed-in ρ w e)) (ih [] refl))
      go false q ih = rw (q, rename_words) (ih (w ++ b ∷ []) (allowed_append w (b ∷ []) e (allowed_cons b [] (allowed_head b v f) refl)))

  pub moved_allowed : (q : Role) (v w : List ℕ) → all_allowed v ≡ true → Moved ρ q v w → Moved (on_allowed ρ) q v w
  unfolding all_allowed
  moved_allowed name v w e m = m ∙ sym (on_allowed-in ρ v e)
  moved_allowed names v w e m = m ∙ words_allowed [] v refl e
  moved_allowed masked v w e m = m
  moved_allowed plain v w e m = m

  -- and back
  pub moved_back : (q : Role) (v w : List ℕ) → all_allowed v ≡ true → Moved (on_allowed ρ) q v w → Moved ρ q v w
  unfolding all_allowed
  moved_back name v w e m = m ∙ on_allowed-in ρ v e
  moved_back names v w e m = m ∙ sym (words_allowed [] v refl e)
  moved_back masked v w e m = m
  moved_back plain v w e m = m
