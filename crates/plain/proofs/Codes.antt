-- Kinds and elements that are compared as they are, by their numbers.
use mathlib.Core.Path.{◌≡◌, refl, sym, ap₂, ◌∙◌}
use mathlib.Core.Bool.{true, false, not}
use lib.Dec.{eqb}
use denote.Enum.Bare.{sameb, same_true}
use denote.Enum.Declared.{tag_of}
use borrow.Author.Tests.{eq-eqb, eqb-true, eqb-false, not-true, not-false}
use Rattle.definition.specs.declared.codes.Kind.{Kind}
use Rattle.definition.specs.declared.codes.Kind.TheVariants as K
use Rattle.definition.specs.contracts.codes.Kind as DK
use Rattle.definition.specs.declared.codes.Tag.{Tag}
use Rattle.definition.specs.declared.codes.Tag.TheVariants as T
use Rattle.definition.specs.contracts.codes.Tag as DT
use Rattle.definition.specs.Codes.{kind_number, tag_number}

kind_place : (k : Kind) → tag_of DK.the_type k ≡ kind_number k
kind_place K.Open = refl
kind_place K.Empty = refl
kind_place K.Whole = refl
kind_place K.End = refl

tag_place : (g : Tag) → tag_of DT.the_type g ≡ tag_number g
tag_place T.Unknown = refl
tag_place T.Scxml = refl
tag_place T.State = refl
tag_place T.Parallel = refl
tag_place T.Datamodel = refl
tag_place T.Final = refl
tag_place T.History = refl
tag_place T.Initial = refl
tag_place T.Invoke = refl
tag_place T.Data = refl
tag_place T.Donedata = refl
tag_place T.Finalize = refl
tag_place T.Else = refl
tag_place T.Elseif = refl
tag_place T.Param = refl
tag_place T.Content = refl
tag_place T.Transition = refl
tag_place T.Onentry = refl
tag_place T.Onexit = refl
tag_place T.Send = refl
tag_place T.Raise = refl
tag_place T.Cancel = refl
tag_place T.Log = refl
tag_place T.Assign = refl
tag_place T.If = refl
tag_place T.Foreach = refl
tag_place T.Script = refl
tag_place T.Include = refl

pub kind_same : (a b : Kind) → sameb DK.the_type a b ≡ eqb (kind_number a) (kind_number b)
kind_same a b = ap₂ eqb (kind_place a) (kind_place b)

pub tag_same : (a b : Tag) → sameb DT.the_type a b ≡ eqb (tag_number a) (tag_number b)
tag_same a b = ap₂ eqb (tag_place a) (tag_place b)

pub kind_apart : (a b : Kind) → (a ≡ b → ⊥) → kind_number a ≡ kind_number b → ⊥
kind_apart a b h e = h (same_true DK.the_type tt a b (kind_same a b ∙ eq-eqb (kind_number a) (kind_number b) e))

pub tag_apart : (a b : Tag) → (a ≡ b → ⊥) → tag_number a ≡ tag_number b → ⊥
tag_apart a b h e = h (same_true DT.the_type tt a b (tag_same a b ∙ eq-eqb (tag_number a) (tag_number b) e))

-- ---- what a test says of the numbers

module _ (a b : Kind) where
  -- `==`
  pub kind_is : true ≡ sameb DK.the_type a b → kind_number a ≡ kind_number b
  kind_is h = eqb-true (kind_number a) (kind_number b) (sym (h ∙ kind_same a b))

  pub kind_not : false ≡ sameb DK.the_type a b → kind_number a ≡ kind_number b → ⊥
  kind_not h = eqb-false (kind_number a) (kind_number b) (sym (h ∙ kind_same a b))

  -- `!=`
  pub kind_differs : true ≡ not (sameb DK.the_type a b) → kind_number a ≡ kind_number b → ⊥
  kind_differs h = kind_not (sym (not-true (sameb DK.the_type a b) (sym h)))

  pub kind_agrees : false ≡ not (sameb DK.the_type a b) → kind_number a ≡ kind_number b
  kind_agrees h = kind_is (sym (not-false (sameb DK.the_type a b) (sym h)))

module _ (a b : Tag) where
  -- `==`
  pub tag_is : true ≡ sameb DT.the_type a b → tag_number a ≡ tag_number b
  tag_is h = eqb-true (tag_number a) (tag_number b) (sym (h ∙ tag_same a b))

  pub tag_not : false ≡ sameb DT.the_type a b → tag_number a ≡ tag_number b → ⊥
  tag_not h = eqb-false (tag_number a) (tag_number b) (sym (h ∙ tag_same a b))

  -- `!=`
  pub tag_differs : true ≡ not (sameb DT.the_type a b) → tag_number a ≡ tag_number b → ⊥
  tag_differs h = tag_not (sym (not-true (sameb DT.the_type a b) (sym h)))

  pub tag_agrees : false ≡ not (sameb DT.the_type a b) → tag_number a ≡ tag_number b
  tag_agrees h = tag_is (sym (not-false (sameb DT.the_type a b) (sym h)))
