-- What the next word of a text is, and what a walk from word to word finds.
use Rattle.std.specs.Prelude.{ℕ, zero, suc, ◌≡◌, ◌+◌, ◌-◌, Bool, true, false, ◌&&◌, ◌<◌, List, [], ◌∷◌, reverse, length, take, drop, eqb, ltb}
use Rattle.definition.specs.Text.{is_space, is_separator, Span, Piece, stripped}
use Rattle.words.specs.declared.Word.{Word}
use Rattle.words.specs.declared.Part.{Part}

-- Event words are parted by white space, other words by separators.
unfoldable pub parted_by : Bool → ℕ → Bool
parted_by true = is_space
parted_by false = is_separator

-- What a test may answer is what `p` says.
abbrev pub Tells : (ℕ → Bool) → (ℕ → Bool → Type 0) → Type 0
Tells p post = (b : ℕ) (r : Bool) → post b r → r ≡ p b

-- How many bytes at the start part words.
unfoldable pub gap : (ℕ → Bool) → List ℕ → ℕ
gap parts [] = 0
gap parts (b ∷ bs) = elim (parts b) [ true ↦ suc (gap parts bs) | false ↦ 0 ]

-- How many bytes at the start are a word's.
unfoldable pub run : (ℕ → Bool) → List ℕ → ℕ
run parts [] = 0
run parts (b ∷ bs) = elim (parts b) [ true ↦ 0 | false ↦ suc (run parts bs) ]

unfoldable pub word_at : (ℕ → Bool) → List ℕ → ℕ → Word
unfolding run
word_at parts v s = record { start = s; end = s + run parts (drop s v) }

-- The next word at or after `from`; from the end on, an empty one.
unfoldable pub next_word : (ℕ → Bool) → List ℕ → ℕ → Word
unfolding gap word_at
next_word parts v from = word_at parts v (from + gap parts (drop from v))

unfoldable pub piece_at : List ℕ → Word → Piece
piece_at v w = record { off = w.start; word = take (w.end - w.start) (drop w.start v) }

-- The words from `from` on, at most n, each searched where the one before it ends.
unfoldable pub walk : (ℕ → Bool) → List ℕ → ℕ → ℕ → List Piece
unfolding next_word piece_at
walk parts v from zero = []
walk parts v from (suc n) =
    let w : Word = next_word parts v from in elim (ltb w.start w.end) [ true ↦ piece_at v w ∷ walk parts v w.end n | false ↦ [] ]

-- A piece of a value, in a text in which the value begins at o.
unfoldable pub moved : ℕ → Piece → Piece
moved o p = record { off = o + p.off; word = p.word }

unfoldable pub as_span : Part → Span
as_span p = record { off = p.off; len = p.len }

-- How many bytes an event word loses at once; its bytes stand last first.
unfoldable pub goes : List ℕ → ℕ
goes [] = 0
goes (b ∷ []) = elim (eqb b 46) [ true ↦ 1 | false ↦ 0 ]
goes (b ∷ c ∷ r) = elim (eqb b 46) [ true ↦ 1 | false ↦ elim (eqb b 42 && eqb c 46) [ true ↦ 2 | false ↦ 0 ] ]

-- It is an event word without what that loses at once: shorter, and stripped the same.
abbrev pub IsShorter : List ℕ → List ℕ → Type 0
IsShorter r w = (stripped r ≡ stripped w) × (length r < length w) × (reverse r ≡ drop (goes (reverse w)) (reverse w))
