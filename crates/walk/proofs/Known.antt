-- Only an unknown element, and no key, has the number 0.
use mathlib.Core.Path.{◌≡◌, sym}
use mathlib.Core.Bool.{true, not}
use native.Mathlib.Omega.{arith}
use denote.Enum.Bare.{sameb}
use Rattle.std.proofs.Common.{Option, Some, None}
use Rattle.std.specs.Option.{is_some}
use Rattle.definition.specs.declared.codes.Tag.{Tag}
use Rattle.definition.specs.declared.codes.Tag.TheVariants as T
use Rattle.definition.specs.contracts.codes.Tag.{the_type}
use Rattle.definition.specs.declared.codes.Key.{Key}
use Rattle.definition.specs.declared.codes.Key.TheVariants as Y
use Rattle.definition.specs.Codes.{tag_number, key_number, key_code}
use Rattle.definition.proofs.Base.{true_is_false}

pub tag_named : (g : Tag) → not (sameb the_type g T.Unknown) ≡ true → tag_number g ≡ 0 → ⊥
tag_named T.Unknown h e = true_is_false (sym h)
tag_named T.Scxml h e = omega (arith, e)
tag_named T.State h e = omega (arith, e)
tag_named T.Parallel h e = omega (arith, e)
tag_named T.Datamodel h e = omega (arith, e)
tag_named T.Final h e = omega (arith, e)
tag_named T.History h e = omega (arith, e)
tag_named T.Initial h e = omega (arith, e)
tag_named T.Invoke h e = omega (arith, e)
tag_named T.Data h e = omega (arith, e)
tag_named T.Donedata h e = omega (arith, e)
tag_named T.Finalize h e = omega (arith, e)
tag_named T.Else h e = omega (arith, e)
tag_named T.Elseif h e = omega (arith, e)
tag_named T.Param h e = omega (arith, e)
tag_named T.Content h e = omega (arith, e)
tag_named T.Transition h e = omega (arith, e)
tag_named T.Onentry h e = omega (arith, e)
tag_named T.Onexit h e = omega (arith, e)
tag_named T.Send h e = omega (arith, e)
tag_named T.Raise h e = omega (arith, e)
tag_named T.Cancel h e = omega (arith, e)
tag_named T.Log h e = omega (arith, e)
tag_named T.Assign h e = omega (arith, e)
tag_named T.If h e = omega (arith, e)
tag_named T.Foreach h e = omega (arith, e)
tag_named T.Script h e = omega (arith, e)
tag_named T.Include h e = omega (arith, e)

key_numbered : (k : Key) → key_number k ≡ 0 → ⊥
key_numbered Y.Id e = omega (arith, e)
key_numbered Y.Initial e = omega (arith, e)
key_numbered Y.Name e = omega (arith, e)
key_numbered Y.Datamodel e = omega (arith, e)
key_numbered Y.Binding e = omega (arith, e)
key_numbered Y.Version e = omega (arith, e)
key_numbered Y.Type e = omega (arith, e)
key_numbered Y.Typeexpr e = omega (arith, e)
key_numbered Y.Src e = omega (arith, e)
key_numbered Y.Srcexpr e = omega (arith, e)
key_numbered Y.Idlocation e = omega (arith, e)
key_numbered Y.Namelist e = omega (arith, e)
key_numbered Y.Autoforward e = omega (arith, e)
key_numbered Y.Event e = omega (arith, e)
key_numbered Y.Eventexpr e = omega (arith, e)
key_numbered Y.Cond e = omega (arith, e)
key_numbered Y.Target e = omega (arith, e)
key_numbered Y.Targetexpr e = omega (arith, e)
key_numbered Y.Expr e = omega (arith, e)
key_numbered Y.Array e = omega (arith, e)
key_numbered Y.Item e = omega (arith, e)
key_numbered Y.Index e = omega (arith, e)
key_numbered Y.Sendid e = omega (arith, e)
key_numbered Y.Sendidexpr e = omega (arith, e)
key_numbered Y.Delay e = omega (arith, e)
key_numbered Y.Delayexpr e = omega (arith, e)
key_numbered Y.Location e = omega (arith, e)
key_numbered Y.Label e = omega (arith, e)

pub key_named : (o : Option Key) → is_some o ≡ true → key_code o ≡ 0 → ⊥
key_named None h e = true_is_false (sym h)
key_named (Some k) h e = key_numbered k e
