-- Document 01, module 1: Text. Bytes, white space, words, trimming. A text is a list of bytes.
use Rattle.std.specs.Prelude.{ℕ, zero, suc, ◌+◌, ◌/◌, ◌%◌, Bool, true, false, ◌||◌, ◌&&◌, List, [], ◌∷◌, ◌++◌, map, reverse, length, take, drop, eqb, leb, ltb}
use Prim.Native.Char.{code}
use Prim.Native.String as S
use Prim.Native.String.{String}

-- A quoted text as bytes.
unfoldable pub str : String → List ℕ
str S.[] = []
str (S.◌∷◌ c s) = code c ∷ str s

unfoldable pub same : List ℕ → List ℕ → Bool
same [] [] = true
same [] (y ∷ ys) = false
same (x ∷ xs) [] = false
same (x ∷ xs) (y ∷ ys) = elim (eqb x y) [ true ↦ same xs ys | false ↦ false ]

-- The place of a word in a table, from 0; the table's length if it is not there.
unfoldable pub place_in : List (List ℕ) → List ℕ → ℕ
unfolding same
place_in [] w = 0
place_in (x ∷ xs) w = elim (same x w) [ true ↦ 0 | false ↦ suc (place_in xs w) ]

-- "Bytes 0 to 127."
unfoldable pub is_allowed : ℕ → Bool
is_allowed b = ltb b 128

unfoldable pub all_allowed : List ℕ → Bool
unfolding is_allowed
all_allowed [] = true
all_allowed (b ∷ bs) = elim (is_allowed b) [ true ↦ all_allowed bs | false ↦ false ]

-- "Event words split and contents trim at bytes 9 to 13 and 32."
unfoldable pub is_space : ℕ → Bool
is_space b = (leb 9 b && leb b 13) || eqb b 32

-- "Targets, `initial` and namelists split at 9, 10, 12, 13, 32 only."
unfoldable pub is_separator : ℕ → Bool
is_separator b = eqb b 9 || eqb b 10 || eqb b 12 || eqb b 13 || eqb b 32

-- ---- spans

-- Where a part of a text lies.
pub record Span : Type 0 where
  pub off : ℕ
  pub len : ℕ

unfoldable pub bytes_at : List ℕ → Span → List ℕ
bytes_at t sp = take sp.len (drop sp.off t)

-- ---- words

-- A word and where it begins.
pub record Piece : Type 0 where
  pub off : ℕ
  pub word : List ℕ

unfoldable pub emit : ℕ → List ℕ → List Piece
emit s [] = []
emit s (b ∷ w) = record { off = s; word = b ∷ w } ∷ []

-- The words of a text, parted by the bytes that hold of `parts`; the word w, which begins at s, is already read.
unfoldable pub pieces : (ℕ → Bool) → ℕ → List ℕ → List ℕ → List Piece
unfolding emit
pieces parts s w [] = emit s w
pieces parts s w (b ∷ bs) = elim (parts b) [ true ↦ emit s w ++ pieces parts (suc (s + length w)) [] bs | false ↦ pieces parts s (w ++ b ∷ []) bs ]

unfoldable pub words_by : (ℕ → Bool) → List ℕ → List Piece
unfolding pieces
words_by parts v = pieces parts 0 [] v

unfoldable pub no_separator : List ℕ → Bool
unfolding is_separator
no_separator [] = true
no_separator (b ∷ bs) = elim (is_separator b) [ true ↦ false | false ↦ no_separator bs ]

-- "A word of demand 3 is a non-empty value without these five."
unfoldable pub is_word : List ℕ → Bool
unfolding no_separator
is_word [] = false
is_word (b ∷ bs) = no_separator (b ∷ bs)

-- "An event word loses a trailing `.*`, then a trailing `.`, repeated until neither is left." The word's bytes stand last first.
unfoldable pub strip_last : List ℕ → List ℕ
strip_last [] = []
strip_last (b ∷ []) = elim (eqb b 46) [ true ↦ [] | false ↦ b ∷ [] ]
strip_last (b ∷ c ∷ r) =
    elim (eqb b 46) [
      | true ↦ strip_last (c ∷ r)
      | false ↦ elim (eqb b 42 && eqb c 46) [ true ↦ strip_last r | false ↦ b ∷ c ∷ r ]
    ]

unfoldable pub stripped : List ℕ → List ℕ
unfolding strip_last
stripped w = reverse (strip_last (reverse w))

unfoldable pub stripped_piece : Piece → Piece
unfolding stripped
stripped_piece p = record { off = p.off; word = stripped p.word }

unfoldable pub event_words : List ℕ → List Piece
unfolding stripped_piece words_by is_space
event_words v = map stripped_piece (words_by is_space v)

-- The words of a value that begins at o in a text.
unfoldable pub state_words_at : ℕ → List ℕ → List Piece
unfolding pieces is_separator
state_words_at o v = pieces is_separator o [] v

unfoldable pub state_words : List ℕ → List Piece
unfolding words_by is_separator
state_words v = words_by is_separator v

-- "`wildcard` holds when some resulting word is `*`."
unfoldable pub wildcard : List Piece → Bool
unfolding same
wildcard [] = false
wildcard (p ∷ ps) = elim (same p.word (42 ∷ [])) [ true ↦ true | false ↦ wildcard ps ]

-- ---- trimming

unfoldable pub leading : List ℕ → ℕ
unfolding is_space
leading [] = 0
leading (b ∷ bs) = elim (is_space b) [ true ↦ suc (leading bs) | false ↦ 0 ]

-- The length without white space at the end.
unfoldable pub body_length : List ℕ → ℕ
unfolding is_space
body_length [] = 0
body_length (b ∷ bs) = let n : ℕ = body_length bs in elim (is_space b && eqb n 0) [ true ↦ 0 | false ↦ suc n ]

unfoldable pub trim : List ℕ → Span
unfolding leading body_length
trim v = record { off = leading v; len = body_length (drop (leading v) v) }

unfoldable pub trimmed : List ℕ → List ℕ
unfolding trim bytes_at
trimmed v = bytes_at v (trim v)

-- ---- letter case

unfoldable pub lower : ℕ → ℕ
lower b = elim (leb 65 b && leb b 90) [ true ↦ b + 32 | false ↦ b ]

unfoldable pub lowered : List ℕ → List ℕ
unfolding lower
lowered v = map lower v

-- "Only `true`, in any letter case, is true."
unfoldable pub is_true : List ℕ → Bool
unfolding same lowered str
is_true v = same (lowered v) (str "true")

-- ---- names that the reader makes

-- Twenty digits are more than any counter has.
unfoldable pub digits : ℕ → ℕ → List ℕ
digits zero n = []
digits (suc fuel) n = elim (ltb n 10) [ true ↦ (48 + n) ∷ [] | false ↦ digits fuel (n / 10) ++ (48 + n % 10) ∷ [] ]

unfoldable pub decimal : ℕ → List ℕ
unfolding digits
decimal n = digits 20 n

-- "Without `id` the name is `__id` and a count from 1."
unfoldable pub generated_name : ℕ → List ℕ
unfolding str decimal
generated_name n = str "__id" ++ decimal n

-- It begins with `__id`.
unfoldable pub starts_generated : List ℕ → Bool
unfolding same str
starts_generated w = same (take 4 w) (str "__id")

-- ---- an assign's text

-- "A `whole` assign stores its trimmed text in quotes, `"` as `\"`, byte 10 as a space."
unfoldable pub escaped_quotes : List ℕ → List ℕ
escaped_quotes [] = []
escaped_quotes (b ∷ bs) =
    elim (eqb b 34) [
      | true ↦ 92 ∷ 34 ∷ escaped_quotes bs
      | false ↦ elim (eqb b 10) [ true ↦ 32 ∷ escaped_quotes bs | false ↦ b ∷ escaped_quotes bs ]
    ]

unfoldable pub quoted : List ℕ → List ℕ
unfolding escaped_quotes trimmed
quoted v = 34 ∷ escaped_quotes (trimmed v) ++ 34 ∷ []
