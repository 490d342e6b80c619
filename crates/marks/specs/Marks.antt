-- A mark of a name, and the marks of the known names.
use Rattle.std.specs.Prelude.{ℕ, ◌≡◌, ◌≤◌, ◌<◌, ◌+◌, ◌-◌, ◌*◌, ◌%◌, List, [], ◌∷◌, length, get_or}

-- A number below 128 by a name's length, second and last byte.
unfoldable pub mark : List ℕ → ℕ
mark w = (length w + get_or w (length w - 1) 0 * 5 + get_or w 1 0) % 128

abbrev pub element_marks : List ℕ
element_marks = 4 ∷ 114 ∷ 5 ∷ 6 ∷ 10 ∷ 77 ∷ 17 ∷ 109 ∷ 74 ∷ 92 ∷ 106 ∷ 105 ∷ 112 ∷ 7 ∷ 58 ∷ 34 ∷ 82 ∷ 56 ∷ 93 ∷ 95 ∷ 3 ∷ 117 ∷ 31 ∷ 102 ∷ 126 ∷ 45 ∷ 110 ∷ []

abbrev pub key_marks : List ℕ
key_marks = 90 ∷ 17 ∷ 94 ∷ 6 ∷ 115 ∷ 18 ∷ 118 ∷ 59 ∷ 100 ∷ 51 ∷ 20 ∷ 45 ∷ 116 ∷ 63 ∷ 57 ∷ 103 ∷ 43 ∷ 37 ∷ 54 ∷ 84 ∷ 25 ∷ 75 ∷ 95 ∷ 41 ∷ 71 ∷ 40 ∷ 29 ∷ 2 ∷ []

-- A mark that is none of these.
abbrev pub NotAny : ℕ → List ℕ → Type 0
NotAny h [] = Unit {0}
NotAny h (v ∷ vs) = (h ≡ v → ⊥) × NotAny h vs

-- Every known name has 2 to 11 bytes.
abbrev pub IsSized : List ℕ → Type 0
IsSized w = (2 ≤ length w) × (length w ≤ 11)

-- Name number `n` of a table, from 1, is `w`.
abbrev pub IsName : List (List ℕ) → ℕ → List ℕ → Type 0
IsName names n w = (0 < n) × (n ≤ length names) × (w ≡ get_or names (n - 1) [])
