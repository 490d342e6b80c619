-- Document 01, module 7: "rows cross there as bytes, lowest byte first."
use Rattle.std.specs.Prelude.{ℕ, ◌*◌, ◌/◌, ◌%◌, true, false, List, [], ◌∷◌, ◌++◌, length, drop, leb}
use Rattle.definition.specs.Rows.{Row, shown}
use Rattle.definition.specs.Reader.{Answer}

unfoldable pub number_bytes : ℕ → List ℕ
number_bytes v = (v % 256) ∷ (v / 256 % 256) ∷ (v / 65536 % 256) ∷ (v / 16777216 % 256) ∷ []

unfoldable pub row_bytes : Row → List ℕ
unfolding number_bytes
row_bytes [] = []
row_bytes (v ∷ r) = number_bytes v ++ row_bytes r

-- A row as it is read has 50 numbers.
abbrev pub row_length : ℕ
row_length = shown.width * 4

-- What C gets: the number, and the asker's buffer.
pub record Out : Type 0 where
  pub number : ℕ
  pub bytes : List ℕ

abbrev pub out_of : ℕ → List ℕ → Out
out_of k bs = record { number = k; bytes = bs }

-- The row's bytes at the start of the buffer, and what lies past them as it was. Too short a buffer gets 1 and is left as it was.
unfoldable pub row_out : Answer → List ℕ → Out
unfolding row_bytes
row_out a out =
    elim (leb row_length (length out)) [
      | true ↦ record { number = a.number; bytes = row_bytes a.row ++ drop row_length out }
      | false ↦ record { number = 1; bytes = out }
    ]
