-- Which values are plain, names or masked; and that of a name and of a masked text its length is all that stage 1 takes.
use Prim.Native.Nat.{ℕ}
use mathlib.Core.Path.{◌≡◌, refl}
use mathlib.Core.Bool.{true, false}
use lib.ListN.{length}
use Rattle.definition.specs.Elements.{key, Role, name, names, masked, plain, role_of, is_masked, is_name, is_names, names_state}
use Rattle.definition.specs.Shapes.{rank, same_role}
use Rattle.definition.specs.Look.{Load, words_by_role, code_by_role, field_by}
use Rattle.definition.proofs.Base.{true_is_false}

-- The event's text and an assign's quoted text are plain.
pub text_plain : (g : ℕ) → role_of g key.text ≡ plain
unfolding role_of is_masked is_name is_names
text_plain g = refl

pub quoted_plain : (g : ℕ) → role_of g key.quoted ≡ plain
unfolding role_of is_masked is_name is_names
quoted_plain g = refl

pub id_name : (g : ℕ) → names_state g ≡ true → role_of g key.id ≡ name
unfolding role_of is_masked is_name is_names
id_name g e = rw (e, role_of)

-- "cond, expr and array mean the values of these keys on all elements."
pub masked_everywhere : (g k : ℕ) → is_masked k ≡ true → role_of g k ≡ masked
unfolding role_of
masked_everywhere g k e = rw (e, role_of)

-- OF ALL BUT PLAIN VALUES THE LENGTH IS ALL THAT IS TAKEN
pub field_by_length : (q : Role) → same_role q plain ≡ false → (g o : ℕ) (i j : Load) → j.key ≡ i.key → length j.bytes ≡ length i.bytes
    → field_by q g o j ≡ field_by q g o i
unfolding same_role rank field_by code_by_role words_by_role
field_by_length name d g o i j e l = rw (e, l)
field_by_length names d g o i j e l = rw (e, l)
field_by_length masked d g o i j e l = rw (e, l)
field_by_length plain d g o i j e l = true_is_false d
