-- The questions 5 to 12 by what an event's values say. f tells which keys are there.
use Rattle.std.specs.Prelude.{ℕ, Bool, true, false, not, ◌&&◌, ◌||◌, List, [], ◌∷◌, ◌++◌, length, eqb, leb, ltb}
use Rattle.std.proofs.Math.Option.{Option, none, some}
use Rattle.definition.specs.Limits.{limits01}
use Rattle.definition.specs.Text.{trim}
use Rattle.definition.specs.Elements.{tag, key, left_out_keys, Apart, requirements, required_in, exclusions}
use Rattle.definition.specs.Event.{kind}
use Rattle.definition.specs.Nesting.{parent_allowed}
use Rattle.definition.specs.Look.{has_load}
use Rattle.definition.specs.Reader.{Question, ◌otherwise◌}
use Rattle.plain.specs.Plain.{Parsed}
use Rattle.plain.specs.Keyed.{value_in}
use Rattle.plan.specs.declared.Heard.{Heard}

unfoldable pub one_by : (ℕ → Bool) → List ℕ → Bool
one_by f [] = false
one_by f (k ∷ ks) = f k || one_by f ks

unfoldable pub all_by : (ℕ → Bool) → List (List ℕ) → Bool
unfolding one_by
all_by f [] = true
all_by f (ks ∷ kss) = one_by f ks && all_by f kss

unfoldable pub pairs_by : (ℕ → Bool) → ℕ → List Apart → Bool
pairs_by f g [] = true
pairs_by f g (a ∷ as') = not (eqb a.element g && f a.one && f a.other) && pairs_by f g as'

unfoldable pub left_out_by : (ℕ → Bool) → ℕ → Bool
unfolding one_by left_out_keys
left_out_by f g = eqb g tag.include || one_by f (left_out_keys g)

unfoldable pub complete_by : (ℕ → Bool) → ℕ → Bool
unfolding all_by required_in requirements
complete_by f g = all_by f (required_in requirements g)

unfoldable pub apart_by : (ℕ → Bool) → ℕ → Bool
unfolding pairs_by exclusions
apart_by f g = pairs_by f g exclusions

-- The length of a text without white space around it.
unfoldable pub trimmed_in : Option (List ℕ) → ℕ
unfolding trim
trimmed_in none = 0
trimmed_in (some v) = (trim v).len

unfoldable pub text_apart_in : Parsed → Bool
unfolding trimmed_in
text_apart_in v =
    not (eqb v.tag tag.datum && has_load key.expr v.values && leb 1 (trimmed_in v.text)) && not (eqb v.tag tag.content && has_load key.expr v.values && eqb v.kind kind.whole)
    && not (eqb v.tag tag.assign && leb 1 (length (value_in key.expr v.values)) && eqb v.kind kind.whole)

abbrev pub there : Parsed → ℕ → Bool
there v k = has_load k v.values

-- start: whether it is no end, and tag: its element. omitted: question 6. complete: 10. apart: 11.
pub record Asked : Type 0 where
  pub start : Bool
  pub tag : ℕ
  pub omitted : Bool
  pub complete : Bool
  pub apart : Bool

unfoldable pub asked_in : Parsed → Asked
unfolding left_out_by complete_by apart_by text_apart_in
asked_in v =
    record {
      start = not (eqb v.kind kind.ends);
      tag = v.tag;
      omitted = left_out_by (there v) v.tag;
      complete = complete_by (there v) v.tag;
      apart = apart_by (there v) v.tag && text_apart_in v;
    }

-- The questions 7 to 10, which an end is not asked.
unfoldable pub start_by : Bool → ℕ → Bool → ℕ → ℕ → ℕ → List Question
unfolding parent_allowed
start_by start g complete depth parent root =
    ((not start || ltb depth limits01.opened) otherwise 7)
    ∷ ((not start || parent_allowed g parent) otherwise 8)
    ∷ ((not start || not (eqb g tag.scxml) || eqb root 0) otherwise 9)
    ∷ ((not start || complete) otherwise 10)
    ∷ []

unfoldable pub questions_by : Heard → Asked → Bool → ℕ → ℕ → ℕ → List Question
unfolding start_by
questions_by h a innermost depth parent root =
    ((a.start || innermost) otherwise 5)
    ∷ (not a.omitted otherwise 6)
    ∷ (start_by a.start a.tag a.complete depth parent root
    ++ ((a.apart otherwise 11)
    ∷ ((ltb h.binding 2 && ltb h.history 3) otherwise 12)
    ∷ []))
