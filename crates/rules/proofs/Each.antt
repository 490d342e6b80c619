-- A test of each row as the definition asks it of a table.
use mathlib.Core.Path.{◌≡◌, refl, sym, ◌∙◌}
use mathlib.Core.Bool.{Bool}
use mathlib.Core.List.{List, [], ◌∷◌}
use Rattle.std.specs.List.{list_all}
use Rattle.definition.specs.Rows.{Row, Table, Class, Store}
use Rattle.definition.specs.Rules.{columns_keep, rows_keep}
use Rattle.definition.proofs.Base.{elim_and}
use Rattle.rules.specs.Each.{Each}

all_rows : (s : Store) (cs : List Class) (t : Table) → list_all (λ (x : Row). columns_keep s x cs x) t ≡ rows_keep s cs t
unfolding rows_keep
all_rows s cs [] = refl
all_rows s cs (x ∷ t) = rw (all_rows s cs t) (sym (elim_and (columns_keep s x cs x) (rows_keep s cs t)))

pub each_row : (s : Store) (cs : List Class) (t : Table) {test : Row → Bool → Type 0} {r : Bool} → Each test t r → ((x : Row) (b : Bool) → test x b → b ≡ columns_keep s x cs x) → r ≡ rows_keep s cs t
each_row s cs t f g = f (λ (x : Row). columns_keep s x cs x) g ∙ all_rows s cs t
