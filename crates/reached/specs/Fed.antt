-- Raw events fed one after another: a refused one leaves the store as it was.
use Rattle.std.specs.Prelude.{ℕ, List, [], ◌∷◌}
use Rattle.definition.specs.declared.Limits.{Limits}
use Rattle.definition.specs.Rows.{Store}
use Rattle.definition.specs.Reader.{event_reply}

unfoldable pub fed : Limits → Store → List (List ℕ) → Store
fed L s [] = s
fed L s (r ∷ rs) = fed L (event_reply L s r).store rs
