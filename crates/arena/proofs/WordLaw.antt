-- THE LAW OF WORDS: the look's words of a key are those of its value where it lies.
use Prim.Native.Nat.{ℕ, ◌+◌}
use mathlib.Core.Path.{◌≡◌, refl, sym, ap, ap₂, ◌∙◌}
use mathlib.Core.Bool.{Bool, true, false}
use mathlib.Core.List.{List, [], ◌∷◌, map}
use native.Mathlib.Omega.{arith}
use lib.Dec.{eqb}
use lib.ListN.{length}
use borrow.Author.Tests.{eqb-true}
use Rattle.definition.specs.Text.{words_by, pieces, emit}
use Rattle.definition.specs.Elements.{Role, plain, role_of, is_masked, is_name, is_names, names_state, among}
use Rattle.definition.specs.Look.{Load, Field, field_by, fields_from, words_by_role, word_spans, is_events, is_namelist, shift}
use Rattle.definition.specs.Change.{field_in, field_words}
use Rattle.words.proofs.Laws.{by}
use Rattle.plain.specs.Keyed.{value_in, offset_in}
use Rattle.plain.proofs.ValueLaws.{value_here, value_past, offset_here, offset_past}
use Rattle.wordlists.specs.Words.{list_cells}
use Rattle.wordlists.proofs.Clean.{event_cells, name_cells_lem}
use Rattle.texts.proofs.LookLaw.{field_here, field_past}

module _ (g k : ℕ) (e : Bool) (role : role_of g k ≡ plain) (cells : (o : ℕ) (v : List ℕ) → map (shift o) (word_spans g k v) ≡ list_cells e o v) where
  of_role : (j o : ℕ) (v : List ℕ) → j ≡ k → words_by_role (role_of g j) g o j v ≡ list_cells e o v
  unfolding words_by_role
  of_role j o v h = ap (λ (x : ℕ). words_by_role (role_of g x) g o x v) h ∙ ap (λ (r : Role). words_by_role r g o k v) role ∙ cells o v

  pub fields_words : (b : ℕ) (is : List Load) → field_words (field_in (fields_from g b is) k) ≡ list_cells e (b + offset_in k is) (value_in k is)
  unfolding fields_from field_by field_in field_words list_cells words_by pieces emit value_in
  fields_words b [] = refl
  fields_words b (i ∷ is) =
      let f : Field = field_by (role_of g i.key) g b i in
      let fs : List Field = fields_from g (b + length i.bytes) is in
      by (eqb i.key k)
      (λ q.
      let z : b ≡ b + offset_in k (i ∷ is) = omega (arith, offset_here k i is q) in
      ap field_words (field_here f fs k q) ∙ of_role i.key b i.bytes (eqb-true i.key k q) ∙ ap₂ (list_cells e) z (sym (value_here k i is q)))
      (λ q.
      let z : b + length i.bytes + offset_in k is ≡ b + offset_in k (i ∷ is) = omega (arith, offset_past k i is q) in
      ap field_words (field_past f fs k q) ∙ fields_words (b + length i.bytes) is ∙ ap₂ (list_cells e) z (sym (value_past k i is q)))

-- A transition's event words.
pub event_words_lem : (b : ℕ) (is : List Load) → field_words (field_in (fields_from 16 b is) 14) ≡ list_cells true (b + offset_in 14 is) (value_in 14 is)
unfolding role_of is_masked is_name is_names names_state among word_spans is_events
event_words_lem b is = fields_words 16 14 true refl event_cells b is

-- The names of a send and of an invoke.
pub send_words : (b : ℕ) (is : List Load) → field_words (field_in (fields_from 19 b is) 12) ≡ list_cells false (b + offset_in 12 is) (value_in 12 is)
unfolding role_of is_masked is_name is_names names_state among word_spans is_events is_namelist
send_words b is = fields_words 19 12 false refl name_cells_lem b is

pub invoke_words : (b : ℕ) (is : List Load) → field_words (field_in (fields_from 8 b is) 12) ≡ list_cells false (b + offset_in 12 is) (value_in 12 is)
unfolding role_of is_masked is_name is_names names_state among word_spans is_events is_namelist
invoke_words b is = fields_words 8 12 false refl name_cells_lem b is
