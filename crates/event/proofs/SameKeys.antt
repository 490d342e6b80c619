-- Keys with the same number are the same.
use Prim.Native.Nat.{ℕ}
use mathlib.Core.Path.{◌≡◌, refl, sym, ap, ◌∙◌, subst}
use mathlib.Core.Bool.{true}
use mathlib.Core.List.{List, [], ◌∷◌}
use lib.ListN.{get_or}
use denote.Enum.Bare.{sameb, true_same}
use Rattle.std.proofs.Common.{Option, Some, None}
use Rattle.std.specs.Option.{option_eq}
use Rattle.definition.specs.declared.codes.Key.{Key}
use Rattle.definition.specs.declared.codes.Key.TheVariants as Y
use Rattle.definition.specs.contracts.codes.Key.{the_type}
use Rattle.definition.specs.Codes.{key_number, key_code}

-- All keys by their numbers.
keys : List (Option Key)
keys = None ∷ Some Y.Id ∷ Some Y.Initial ∷ Some Y.Name ∷ Some Y.Datamodel ∷ Some Y.Binding ∷ Some Y.Version ∷ Some Y.Type ∷ Some Y.Typeexpr ∷ Some Y.Src ∷ Some Y.Srcexpr ∷ Some Y.Idlocation ∷ Some Y.Namelist ∷ Some Y.Autoforward ∷ Some Y.Event ∷ Some Y.Eventexpr ∷ Some Y.Cond ∷ Some Y.Target ∷ Some Y.Targetexpr ∷ Some Y.Expr ∷ Some Y.Array ∷ Some Y.Item ∷ Some Y.Index ∷ Some Y.Sendid ∷ Some Y.Sendidexpr ∷ Some Y.Delay ∷ Some Y.Delayexpr ∷ Some Y.Location ∷ Some Y.Label ∷ []

key_at : (k : Key) → get_or keys (key_number k) None ≡ Some k
unfolding keys
key_at Y.Id = refl
key_at Y.Initial = refl
key_at Y.Name = refl
key_at Y.Datamodel = refl
key_at Y.Binding = refl
key_at Y.Version = refl
key_at Y.Type = refl
key_at Y.Typeexpr = refl
key_at Y.Src = refl
key_at Y.Srcexpr = refl
key_at Y.Idlocation = refl
key_at Y.Namelist = refl
key_at Y.Autoforward = refl
key_at Y.Event = refl
key_at Y.Eventexpr = refl
key_at Y.Cond = refl
key_at Y.Target = refl
key_at Y.Targetexpr = refl
key_at Y.Expr = refl
key_at Y.Array = refl
key_at Y.Item = refl
key_at Y.Index = refl
key_at Y.Sendid = refl
key_at Y.Sendidexpr = refl
key_at Y.Delay = refl
key_at Y.Delayexpr = refl
key_at Y.Location = refl
key_at Y.Label = refl

code_at : (o : Option Key) → get_or keys (key_code o) None ≡ o
unfolding keys
code_at None = refl
code_at (Some k) = key_at k

pub same_codes : (a b : Option Key) → key_code a ≡ key_code b → option_eq (sameb the_type) a b ≡ true
same_codes a b e = subst (λ (x : Option Key). option_eq (sameb the_type) a x ≡ true) (sym (code_at a) ∙ ap (λ (n : ℕ). get_or keys n None) e ∙ code_at b) (self a)
  where
    self : (o : Option Key) → option_eq (sameb the_type) o o ≡ true
    self None = refl
    self (Some k) = true_same the_type k k refl
