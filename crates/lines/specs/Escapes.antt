-- What is written on a line: its legibility and unescaped length, and the unescaped text in a lent buffer.
use Rattle.std.specs.Prelude.{ℕ, ◌≡◌, ◌+◌, ◌<◌, true, false, List, [], ◌∷◌, ◌++◌, length, take, drop, leb, Some, None}
use Rattle.std.specs.Prelude as std
use Rattle.std.proofs.Math.Option.{Option, none, some}
use Rattle.definition.specs.Event.{legible, prepend}

-- Of a text that can be read: n more than its length.
unfoldable pub counted : ℕ → Option (List ℕ) → std.Option ℕ
counted n none = None
counted n (some v) = Some (n + length v)

-- The unescaped length of what is written, if it is legible.
unfoldable pub scanned : List ℕ → std.Option ℕ
unfolding counted legible
scanned raw = counted 0 (legible raw)

-- What is written reads as a byte, and then as a shorter rest.
abbrev pub IsFirst : List ℕ → ℕ → List ℕ → Type 0
IsFirst s b t = (legible s ≡ prepend b (legible t)) × (length t < length s)

-- A buffer with a text in it from n on, if it can be read.
unfoldable pub placed : ℕ → Option (List ℕ) → List ℕ → List ℕ
placed n none out = out
placed n (some v) out = take n out ++ (v ++ drop (n + length v) out)

-- How much is written into a buffer of some length, and the buffer: nothing where the text is illegible or too long.
unfoldable pub fitting : Option (List ℕ) → ℕ → Option (List ℕ)
fitting none room = none
fitting (some v) room = elim (leb (length v) room) [ true ↦ some v | false ↦ none ]

unfoldable pub length_of : Option (List ℕ) → ℕ
length_of none = 0
length_of (some v) = length v
