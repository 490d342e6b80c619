-- Numbers that rise along a table, and how one is compared with another in a search.
use Rattle.std.specs.Prelude.{◌≡◌, ℕ, ◌≤◌, ◌<◌, [], length, get_or}
use Rattle.definition.specs.Rows.{Table, num}

-- Numbers rise along the rows.
abbrev pub Rising : Table → Type 0
Rising t = (i j : ℕ) → i < j → j < length t → num (get_or t i []) 0 < num (get_or t j []) 0

-- 1 where n is at least m, else 0.
abbrev pub Reaches : ℕ → ℕ → ℕ → Type 0
Reaches n m r = (m ≤ n → r ≡ 1) × (n < m → r ≡ 0)
