-- A value is taken unescaped: one that is written with an escape, as it is read.
use mathlib.Core.Path.{◌≡◌, refl}
use mathlib.Core.Option.{none, some}
use mathlib.Core.List.{[], ◌∷◌, ◌++◌}
use Rattle.definition.specs.Text.{str}
use Rattle.definition.specs.Event.{read_event}

-- A backslash and an n in the line, a line feed in the value.
pub escaped_value : read_event (str "event=empty" ++ 10 ∷ str "name=log" ++ 10 ∷ str "key=expr" ++ 10 ∷ str "value=a" ++ 92 ∷ 110 ∷ 98 ∷ 10 ∷ [])
    ≡ some (record {
      kind = 1;
      name = str "log";
      attributes = record { key = str "expr"; value = 97 ∷ 10 ∷ 98 ∷ [] } ∷ [];
      text = none;
    })
unfolding read_event str
escaped_value = refl
