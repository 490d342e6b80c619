-- A name's hash: equal names have equal hashes, and that is all that is used of it.
use Rattle.std.specs.Prelude.{◌≡◌, List, [], ◌∷◌, ℕ, ◌+◌, ◌*◌, ◌%◌, ◌≤◌, ◌<◌, length, get_or}
use Rattle.definition.specs.Rows.{Table, num, text_from}

unfoldable pub hash_from : ℕ → List ℕ → ℕ
hash_from h [] = h
hash_from h (b ∷ bs) = hash_from (h % 16777216 * 31 + b) bs

abbrev pub hash_of : List ℕ → ℕ
hash_of name = hash_from 0 name

abbrev pub name_of : List ℕ → Table → ℕ → List ℕ
name_of t st i = text_from t (num (get_or st i []) 0) (num (get_or st i []) 1)

-- The states' hashes stand at their places.
pub record Hashed (t : List ℕ) (st : Table) (hashes : List ℕ) : Type 0 where
  pub room : length st ≤ length hashes
  pub right : (j : ℕ) → j < length st → get_or hashes j 0 ≡ hash_of (name_of t st j)
