-- Codes and counts of words.
use Prim.Native.Nat.{ℕ}
use mathlib.Core.Path.{◌≡◌, refl, sym, ap, ◌∙◌}
use mathlib.Core.Bool.{Bool, true, false, ◌||◌}
use mathlib.Core.List.{List, []}
use lib.Dec.{eqb}
use lib.ListN.{length, length-map}
use borrow.Author.Tests.{ne_eqb, eqb-true, eqb-false}
use Rattle.definition.specs.Text.{pieces, emit, is_space, is_separator, place_in, lowered, event_words, state_words, words_by, stripped_piece, wildcard, is_true, same, str}
use Rattle.definition.specs.Elements.{words_taken, codings}
use Rattle.definition.specs.Actions.{type_of}
use mir.Val.{bool_byte}
use Rattle.definition.specs.Look.{Load, has_load, one_if, code_of, word_spans, is_events, is_namelist, span_of}
use Rattle.definition.proofs.Base.{and_no}
use Rattle.words.specs.Left.{words_left}
use Rattle.words.proofs.Laws.{by}
use Rattle.plain.specs.Plain.{Parsed}
use Rattle.plain.specs.Keyed.{value_in}
use Rattle.plan.specs.declared.Heard.{Heard}
use Rattle.plan.specs.Ids.{state_id}
use Rattle.heard.specs.Heard.{or_else, code_in, words_in, heard_in}

-- ---- codes

pub flip : (a b : ℕ) → (a ≡ b → ⊥) → eqb b a ≡ false
flip a b h = ne_eqb b a (λ e. h (sym e))

module _ (v : List ℕ) where
  pub binding_here : (g : ℕ) → g ≡ 1 → (r : ℕ) → r ≡ place_in (words_taken codings 1 5) (lowered v) → r ≡ code_of g 5 v
  unfolding code_of is_events
  binding_here g e r h = h ∙ ap (λ (x : ℕ). code_of x 5 v) (sym e)

  pub binding_other : (g : ℕ) → (g ≡ 1 → ⊥) → 0 ≡ code_of g 5 v
  unfolding code_of is_events words_taken codings place_in
  binding_other g e = rw (and_no (eqb g 16), code_of, flip g 1 e, words_taken, and_no (eqb 6 g), words_taken, and_no (eqb 16 g), words_taken)

  pub history_here : (g : ℕ) → g ≡ 6 → (r : ℕ) → r ≡ place_in (words_taken codings 6 7) (lowered v) → r ≡ code_of g 7 v
  unfolding code_of is_events
  history_here g e r h = h ∙ ap (λ (x : ℕ). code_of x 7 v) (sym e)

  pub transition_here : (g : ℕ) → g ≡ 16 → (r : ℕ) → r ≡ place_in (words_taken codings 16 7) (lowered v) → r ≡ code_of g 7 v
  unfolding code_of is_events
  transition_here g e r h = h ∙ ap (λ (x : ℕ). code_of x 7 v) (sym e)

  pub type_other : (g : ℕ) → (g ≡ 6 → ⊥) → (g ≡ 16 → ⊥) → 0 ≡ code_of g 7 v
  unfolding code_of is_events words_taken codings place_in
  type_other g e f = rw (and_no (eqb g 16), code_of, and_no (eqb 1 g), words_taken, flip g 6 e, words_taken, flip g 16 f, words_taken)

  pub wildcard_here : (g : ℕ) → g ≡ 16 → (b : Bool) (r : ℕ) → b ≡ wildcard (event_words v) → r ≡ one_if b → r ≡ code_of g 14 v
  unfolding code_of is_events
  wildcard_here g e b r h k = k ∙ ap one_if h ∙ ap (λ (x : ℕ). code_of x 14 v) (sym e)

  pub wildcard_other : (g : ℕ) → (g ≡ 16 → ⊥) → 0 ≡ code_of g 14 v
  unfolding code_of is_events words_taken codings place_in
  wildcard_other g e = rw (ne_eqb g 16 e, code_of, and_no (eqb 1 g), words_taken, and_no (eqb 6 g), words_taken, and_no (eqb 16 g), words_taken)

  pub forward_is : (g : ℕ) (b : Bool) (r : ℕ) → b ≡ is_true v → r ≡ one_if b → r ≡ code_of g 13 v
  unfolding code_of is_events
  forward_is g b r h k = k ∙ ap one_if h ∙ sym (rw (and_no (eqb g 16), code_of))

  -- ---- counts

  pub events_here : (g : ℕ) → g ≡ 16 → (r : ℕ) → r ≡ length (event_words v) → r ≡ length (word_spans g 14 v)
  unfolding word_spans is_events
  events_here g e r h = h ∙ sym (length-map (event_words v) span_of) ∙ ap (λ (x : ℕ). length (word_spans x 14 v)) (sym e)

  pub events_other : (g : ℕ) → (g ≡ 16 → ⊥) → 0 ≡ length (word_spans g 14 v)
  unfolding word_spans is_events is_namelist
  events_other g e = rw (ne_eqb g 16 e, word_spans, and_no (eqb g 19 || eqb g 8), word_spans)

  pub names_here : (g : ℕ) → (eqb g 19 || eqb g 8) ≡ true → (r : ℕ) → r ≡ length (state_words v) → r ≡ length (word_spans g 12 v)
  unfolding word_spans is_events is_namelist
  names_here g e r h = h ∙ sym (length-map (state_words v) span_of) ∙ sym (rw (and_no (eqb g 16), word_spans, e, word_spans))

  pub names_other : (g : ℕ) → (eqb g 19 || eqb g 8) ≡ false → 0 ≡ length (word_spans g 12 v)
  unfolding word_spans is_events is_namelist
  names_other g e = rw (and_no (eqb g 16), word_spans, e, word_spans)

-- ---- no words in no bytes

pub events_empty : (g : ℕ) → 0 ≡ length (word_spans g 14 [])
unfolding event_words words_by pieces emit
events_empty g = by (eqb g 16) (λ q. events_here [] g (eqb-true g 16 q) 0 refl) (λ q. events_other [] g (eqb-false g 16 q))

pub names_empty : (g : ℕ) → 0 ≡ length (word_spans g 12 [])
unfolding state_words words_by pieces emit
names_empty g = by (eqb g 19 || eqb g 8) (λ q. names_here [] g q 0 refl) (λ q. names_other [] g q)

pub wildcard_empty : (g : ℕ) → 0 ≡ code_of g 14 []
unfolding event_words words_by pieces emit wildcard one_if
wildcard_empty g = by (eqb g 16) (λ q. wildcard_here [] g (eqb-true g 16 q) false 0 refl refl) (λ q. wildcard_other [] g (eqb-false g 16 q))

pub forward_empty : (g : ℕ) → 0 ≡ code_of g 13 []
unfolding is_true one_if lowered same str
forward_empty g = forward_is [] g false 0 refl refl

-- ---- counting words

pub event_count : (v : List ℕ) (n : ℕ) → n ≡ length (words_left is_space v 0) → n ≡ length (event_words v)
unfolding event_words words_by words_left
event_count v n h = h ∙ sym (length-map (words_left is_space v 0) stripped_piece)

pub state_count : (v : List ℕ) (n : ℕ) → n ≡ length (words_left is_separator v 0) → n ≡ length (state_words v)
unfolding state_words words_by words_left
state_count v n h = h

-- ---- of a key that is there, and of one that is not

module _ (d g k : ℕ) (is : List Load) where
  pub code_none : has_load k is ≡ false → d ≡ code_in d g k is
  unfolding code_in or_else
  code_none e = sym (ap (λ (b : Bool). or_else b (code_of g k (value_in k is)) d) e)

  pub code_some : has_load k is ≡ true → (c : ℕ) → c ≡ code_of g k (value_in k is) → c ≡ code_in d g k is
  unfolding code_in or_else
  code_some e c h = h ∙ sym (ap (λ (b : Bool). or_else b (code_of g k (value_in k is)) d) e)

pub words_are : (g k : ℕ) (is : List Load) (r : ℕ) → r ≡ length (word_spans g k (value_in k is)) → r ≡ words_in g k is
unfolding words_in
words_are g k is r h = h

-- ---- all of it

pub heard_is : (v : Parsed) (own found : ℕ) (h : Heard) → h.whole ≡ eqb v.kind 2 → h.own.0 ≡ own → h.initial ≡ has_load 2 v.values → h.expr ≡ has_load 19 v.values → h.binds ≡ has_load 5 v.values
    → h.binding ≡ code_in 0 v.tag 5 v.values → h.mode ≡ type_of (code_in 0 v.tag 7 v.values) → h.history ≡ code_in 1 v.tag 7 v.values → h.wildcard ≡ code_of v.tag 14 (value_in 14 v.values)
    → h.forward ≡ code_of v.tag 13 (value_in 13 v.values) → h.events ≡ words_in v.tag 14 v.values → h.names ≡ words_in v.tag 12 v.values → h.found ≡ found → h ≡ heard_in own found v
unfolding heard_in
heard_is v own found h a c d f g j k l m n o q r =
    λ i.
    record {
      whole = a i;
      own = state_id (c i);
      initial = d i;
      expr = f i;
      binds = g i;
      binding = j i;
      mode = k i;
      history = l i;
      wildcard = m i;
      forward = n i;
      events = o i;
      names = q i;
      found = r i;
    }

-- A yes as a number.
pub yes_is : (b : Bool) → bool_byte b ≡ one_if b
unfolding one_if
yes_is true = refl
yes_is false = refl
