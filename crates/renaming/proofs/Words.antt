-- The words of a renamed text are the renamed words, at the same places.
use Prim.Native.Nat.{ℕ, suc, ◌+◌}
use mathlib.Core.Path.{◌≡◌, refl, ◌∙◌}
use mathlib.Core.Bool.{Bool, true, false}
use mathlib.Core.List.{List, [], ◌∷◌, ◌++◌, map, map-append, append_assoc, append-nil}
use lib.ListN.{length, length-append}
use lib.Dec.{T}
use native.Mathlib.Omega.{arith}
use Rattle.definition.specs.Text.{is_separator, no_separator, is_word, starts_generated, Piece, emit, pieces}
use Rattle.renaming.specs.Renaming.{rename_words}
use Rattle.definition.proofs.Places.{pieces_in_lem, pieces_sep}

-- A renaming of all strings; OnAllowed makes one of a renaming of strings of bytes 0 to 127.
pub record Total (ρ : List ℕ → List ℕ) : Type 0 where
  pub inj : (a b : List ℕ) → ρ a ≡ ρ b → a ≡ b
  pub len : (a : List ℕ) → length (ρ a) ≡ length a
  pub word : (a : List ℕ) → T (is_word a) → T (is_word (ρ a))
  pub other : (a : List ℕ) → (T (is_word a) → ⊥) → ρ a ≡ a
  pub keeps : (a : List ℕ) → T (starts_generated a) → ρ a ≡ a

no_head : (b : ℕ) (bs : List ℕ) → T (no_separator (b ∷ bs)) → is_separator b ≡ false
unfolding no_separator
no_head b bs t = go (is_separator b) refl
  where
    go : (c : Bool) → is_separator b ≡ c → is_separator b ≡ false
    go true e = absurd (rw (e, no_separator) at t)
    go false e = e

no_tail : (b : ℕ) (bs : List ℕ) → T (no_separator (b ∷ bs)) → T (no_separator bs)
unfolding no_separator
no_tail b bs t = rw (no_head b bs t, no_separator) at t

no_snoc : (w : List ℕ) (b : ℕ) → T (no_separator w) → is_separator b ≡ false → T (no_separator (w ++ b ∷ []))
unfolding no_separator
no_snoc [] b t e = rw (e, no_separator) tt
no_snoc (a ∷ w) b t e = rw (no_head a w t, no_separator) (no_snoc w b (no_tail a w t) e)

pieces_word : (s : ℕ) (u w rest : List ℕ) → T (no_separator w) → pieces is_separator s u (w ++ rest) ≡ pieces is_separator s (u ++ w) rest
pieces_word s u [] rest t = rw append-nil
pieces_word s u (b ∷ w) rest t =
    pieces_in_lem is_separator s u b (w ++ rest) (no_head b w t) ∙ pieces_word s (u ++ b ∷ []) w rest (no_tail b w t) ∙ rw append_assoc

abbrev pub rename_piece : (List ℕ → List ℕ) → Piece → Piece
rename_piece ρ p = record { off = p.off; word = ρ p.word }

emit_full : (s n : ℕ) (w : List ℕ) → length w ≡ suc n → emit s w ≡ record { off = s; word = w } ∷ []
unfolding emit
emit_full s n [] e = absurd (omega arith)
emit_full s n (b ∷ w) e = refl

word_no : (w : List ℕ) → T (is_word w) → T (no_separator w)
unfolding is_word
word_no [] t = absurd t
word_no (b ∷ w) t = t

module _ (ρ : List ℕ → List ℕ) (R : Total ρ) where
  pub ρ-nil : ρ [] ≡ []
  unfolding is_word
  ρ-nil = R.other [] (λ t. t)

  ρ-no : (w : List ℕ) → T (no_separator w) → T (no_separator (ρ w))
  unfolding is_word
  ρ-no [] t = rw ρ-nil t
  ρ-no (b ∷ w) t = word_no (ρ (b ∷ w)) (R.word (b ∷ w) t)

  emit-ρ : (s : ℕ) (w : List ℕ) → emit s (ρ w) ≡ map (rename_piece ρ) (emit s w)
  unfolding emit
  emit-ρ s [] = rw ρ-nil
  emit-ρ s (b ∷ w) = emit_full s (length w) (ρ (b ∷ w)) (R.len (b ∷ w))

  rename_in : (w : List ℕ) (b : ℕ) (bs : List ℕ) → is_separator b ≡ false → rename_words ρ w (b ∷ bs) ≡ rename_words ρ (w ++ b ∷ []) bs
  unfolding rename_words
  rename_in w b bs e = rw (e, rename_words)

  rename_sep : (w : List ℕ) (b : ℕ) (bs : List ℕ) → is_separator b ≡ true → rename_words ρ w (b ∷ bs) ≡ ρ w ++ b ∷ rename_words ρ [] bs
  unfolding rename_words
  rename_sep w b bs e = rw (e, rename_words)

  -- THE WORDS OF A RENAMED TEXT
  pub pieces-ρ : (s : ℕ) (w v : List ℕ) → T (no_separator w) → pieces is_separator s [] (rename_words ρ w v) ≡ map (rename_piece ρ) (pieces is_separator s w v)
  unfolding rename_words pieces no_separator
  pieces-ρ s w [] t = rw (← append-nil (ρ w)) (pieces_word s [] (ρ w) [] (ρ-no w t) ∙ emit-ρ s w)
  pieces-ρ s w (b ∷ bs) t = go (is_separator b) refl (λ s' w' t'. pieces-ρ s' w' bs t')
    where
      go : (c : Bool) → is_separator b ≡ c
          → ((s' : ℕ) (w' : List ℕ) → T (no_separator w') → pieces is_separator s' [] (rename_words ρ w' bs) ≡ map (rename_piece ρ) (pieces is_separator s' w' bs))
          → pieces is_separator s [] (rename_words ρ w (b ∷ bs)) ≡ map (rename_piece ρ) (pieces is_separator s w (b ∷ bs))
      go true e ih =
          rw (rename_sep w b bs e, pieces_sep is_separator s w b bs e)
          (pieces_word s [] (ρ w) (b ∷ rename_words ρ [] bs) (ρ-no w t)
          ∙ pieces_sep is_separator s (ρ w) b (rename_words ρ [] bs) e
          ∙ rw (R.len w, emit-ρ s w, ih (suc (s + length w)) [] tt, map-append (rename_piece ρ)))
      go false e ih = rw (rename_in w b bs e, pieces_in_lem is_separator s w b bs e) (ih s (w ++ b ∷ []) (no_snoc w b t e))

  pub length_rename : (w v : List ℕ) → length (rename_words ρ w v) ≡ length w + length v
  unfolding rename_words
  length_rename w [] = R.len w ∙ omega arith
  length_rename w (b ∷ bs) = go (is_separator b) refl (λ w'. length_rename w' bs)
    where
      go : (c : Bool) → is_separator b ≡ c → ((w' : List ℕ) → length (rename_words ρ w' bs) ≡ length w' + length bs)
          → length (rename_words ρ w (b ∷ bs)) ≡ length w + suc (length bs)
      go true e ih = rw (rename_sep w b bs e, length-append) (omega (arith, R.len w, ih []))
      go false e ih = rw (rename_in w b bs e) (omega (arith, ih (w ++ b ∷ []), length-append w (b ∷ [])))
