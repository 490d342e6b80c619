-- What a test says of each row of a table.
use Rattle.std.specs.Prelude.{◌≡◌, Bool, List}
use Rattle.std.specs.List.{list_all}

-- r says whether each x passes, whichever test p it is that `test` agrees with.
abbrev pub Each : {A : Type 0} → (A → Bool → Type 0) → List A → Bool → Type 0
Each {A} test xs r = (p : A → Bool) → ((x : A) (b : Bool) → test x b → b ≡ p x) → r ≡ list_all p xs
