-- The row with a number, of a table of any width.
use Rattle.std.specs.Prelude.{ℕ, zero, suc, List, [], ◌∷◌, Option, None, slice_get}

-- From 1; of 0 there is none.
abbrev pub row_at : {A : Type 0} → List A → ℕ → Option A
row_at rs zero = None
row_at rs (suc i) = slice_get rs i

-- With that row changed.
unfoldable pub altered : {A : Type 0} → ℕ → (A → A) → List A → List A
altered zero f rs = rs
altered (suc i) f [] = []
altered (suc zero) f (r ∷ rs) = f r ∷ rs
altered (suc (suc i)) f (r ∷ rs) = r ∷ altered (suc i) f rs
