-- THE LAW OF NAMES: what `look_names` counts in the event's own bytes, before anything is stored, is what the definition's look finds in the text after it.
use Prim.Native.Nat.{ℕ, suc, ◌+◌}
use mathlib.Core.Path.{◌≡◌, refl, sym, ap, ap₂, ◌∙◌}
use mathlib.Core.Bool.{Bool, true, false, not}
use mathlib.Core.Option.{Option, none, some}
use mathlib.Core.List.{List, [], ◌∷◌, ◌++◌, map, append-nil}
use native.Mathlib.Omega.{arith}
use lib.Dec.{eqb}
use lib.ListN.{length, get_or, length-append}
use lib.Seq.{drop-append_seam}
use borrow.Author.Tests.{eqb-true}
use Rattle.definition.specs.Limits.{limits01}
use Rattle.definition.specs.Text.{same, Piece, state_words, state_words_at}
use Rattle.definition.specs.Elements.{tag_of, names_state}
use Rattle.definition.specs.Event.{Attribute, Event, keys_differ, in_form, kind_fits, has_text, no_attributes}
use Rattle.definition.specs.Rows.{Cell, table, table_of, Store}
use Rattle.definition.specs.Look.{Load, look, value_loads, text_loads, name_loads, is_generated, loads_of, payload, names_brought, names_from, resolve, name_cells, find_name}
use Rattle.definition.specs.States.{own_state}
use Rattle.definition.proofs.Base.{All, true_is_false, and_left, and_right}
use Rattle.definition.proofs.Places.{Located, brought_located}
use Rattle.definition.proofs.Finds.{refs_length}
use Rattle.words.specs.Next.{moved}
use Rattle.words.proofs.Laws.{by}
use Rattle.plain.specs.Plain.{Parsed, parsed_of}
use Rattle.plain.specs.Keyed.{value_in, offset_in}
use Rattle.plain.proofs.PlainLaw.{form}
use Rattle.plain.proofs.LoadLaw.{other, own_value}
use Rattle.names.specs.declared.Names.{Names}
use Rattle.names.specs.Names.{Inside, occurs, is_known, new_if, new_in, first_of, counted, state_names, brought_in, names_in}
use Rattle.names.proofs.Laws.{occurs_here, occurs_later}
use Rattle.names.proofs.NewLaw.{known_length, find_grow, new_grow, words_at}
use Rattle.names.proofs.FoundNames.{brought_end, brought_state, brought_transition, brought_other}
use Rattle.names.proofs.BroughtLaw.{own_named, state_stands, transition_stands, others_bring}

-- ---- names by their bytes alone

unfoldable pub spelled : List Piece → List (List ℕ)
spelled [] = []
spelled (p ∷ ps) = p.word ∷ spelled ps

-- Two lists of names that are spelled alike have equally many new ones.
occurs_alike : (w : List ℕ) (ps qs : List Piece) → spelled ps ≡ spelled qs → occurs w ps ≡ occurs w qs
unfolding spelled
occurs_alike w [] [] e = refl
occurs_alike w [] (q ∷ qs) e = let z : ◌≡◌ {A = ℕ} 0 1 = cc in absurd (omega arith)
occurs_alike w (p ∷ ps) [] e = let z : ◌≡◌ {A = ℕ} 0 1 = cc in absurd (omega arith)
occurs_alike w (p ∷ ps) (q ∷ qs) e =
    let h : p.word ≡ q.word = cc in
    let t : spelled ps ≡ spelled qs = cc in
    by (same p.word w) (λ f. occurs_here w p ps f ∙ sym (occurs_here w q qs (ap (λ (x : List ℕ). same x w) (sym h) ∙ f)))
    (λ f. occurs_later w p ps f ∙ occurs_alike w ps qs t ∙ sym (occurs_later w q qs (ap (λ (x : List ℕ). same x w) (sym h) ∙ f)))

pub new_alike : (t : List ℕ) (cs : List Cell) (ps qs : List Piece) → spelled ps ≡ spelled qs → new_in t cs ps ≡ new_in t cs qs
unfolding spelled new_in
new_alike t cs [] [] e = refl
new_alike t cs [] (q ∷ qs) e = let z : ◌≡◌ {A = ℕ} 0 1 = cc in absurd (omega arith)
new_alike t cs (p ∷ ps) [] e = let z : ◌≡◌ {A = ℕ} 0 1 = cc in absurd (omega arith)
new_alike t cs (p ∷ ps) (q ∷ qs) e =
    let h : p.word ≡ q.word = cc in
    let r : spelled ps ≡ spelled qs = cc in
    ap₂ ◌+◌ (ap (λ (x : List ℕ). new_if (is_known t cs x) x ps) h ∙ unfold new_if in ap (λ (b : Bool). elim (is_known t cs q.word) [ true ↦ 0 | false ↦ elim b [ true ↦ 0 | false ↦ 1 ] ]) (occurs_alike q.word ps qs r)) (new_alike t cs ps qs r)

spelled_length : (ps : List Piece) → length (spelled ps) ≡ length ps
unfolding spelled
spelled_length [] = refl
spelled_length (p ∷ ps) = ap suc (spelled_length ps)

first_alike : (t : List ℕ) (cs : List Cell) (ps qs : List Piece) → spelled ps ≡ spelled qs → get_or (resolve t cs ps).refs 0 0 ≡ first_of t cs qs
unfolding spelled resolve first_of
first_alike t cs [] [] h = refl
first_alike t cs [] (q ∷ qs) h = let z : ◌≡◌ {A = ℕ} 0 1 = cc in absurd (omega arith)
first_alike t cs (p ∷ ps) [] h = let z : ◌≡◌ {A = ℕ} 0 1 = cc in absurd (omega arith)
first_alike t cs (p ∷ ps) (q ∷ qs) h = let w : p.word ≡ q.word = cc in ap (λ (x : List ℕ). suc (find_name t cs x)) w

first_grow : (t x : List ℕ) (cs : List Cell) (ps : List Piece) → All (Inside t) cs → first_of (t ++ x) cs ps ≡ first_of t cs ps
unfolding first_of
first_grow t x cs [] a = refl
first_grow t x cs (p ∷ ps) a = ap suc (find_grow t x cs p.word a)

spelled_moved : (o : ℕ) (ps : List Piece) → spelled (map (moved o) ps) ≡ spelled ps
unfolding spelled moved
spelled_moved o [] = refl
spelled_moved o (p ∷ ps) = ap (λ (ws : List (List ℕ)). p.word ∷ ws) (spelled_moved o ps)

spelled_at : (o : ℕ) (v : List ℕ) → spelled (state_words_at o v) ≡ spelled (state_words v)
spelled_at o v = ap spelled (words_at o v) ∙ spelled_moved o (state_words v)

-- ---- of an event

pub record Brings (s : Store) (e : Event) (r : Names) : Type 0 where
  pub own : r.own ≡ own_state (look s e)
  pub refs : r.refs ≡ length (look s e).refs
  pub known : length (name_cells (table_of s.numbers table.states)) + r.new ≡ length (look s e).known

module _ (s : Store) (e : Event) (fit : in_form limits01 e ≡ true) (differ : keys_differ e.attributes ≡ true) (inside : All (Inside s.text) (name_cells (table_of s.numbers table.states))) where
  abbrev g : ℕ
  g = tag_of e.name

  abbrev cells : List Cell
  cells = name_cells (table_of s.numbers table.states)

  abbrev n : ℕ
  n = s.numbers.names

  abbrev vs : List Load
  vs = value_loads e.attributes

  abbrev is : List Load
  is = loads_of g n e

  abbrev t : List ℕ
  t = s.text ++ payload is

  abbrev o : ℕ
  o = length s.text

  abbrev ps : List Piece
  ps = names_brought g o is

  located : All (Located t) ps
  located =
      brought_located t g o is [] (omega (arith, length-append s.text (payload is))) (drop-append_seam s.text (payload is) ∙ sym (append-nil (payload is)))

  -- What is found depends on the names' bytes alone, and is found in the text before the event.
  brings : (qs : List Piece) → spelled ps ≡ spelled qs → Brings s e (counted s.text cells qs)
  unfolding look own_state counted
  brings qs h =
      record {
        own = sym (first_alike t cells ps qs h ∙ first_grow s.text (payload is) cells qs inside);
        refs = sym (refs_length t cells ps ∙ sym (spelled_length ps) ∙ ap length h ∙ spelled_length qs);
        known = sym (known_length t cells ps located ∙ ap (λ (k : ℕ). length cells + k) (new_grow s.text (payload is) cells ps inside ∙ new_alike s.text cells ps qs h));
      }

  -- `end` has no pairs and no text, and no name is made
  pub no_loads : e.kind ≡ 3 → is ≡ []
  unfolding loads_of is_generated name_loads
  no_loads k =
      let f : kind_fits 3 e ≡ true = ap (λ (m : ℕ). kind_fits m e) (sym k) ∙ (form e fit).kind in
      let a : e.attributes ≡ [] = empty e.attributes (ends f).1 in
      let b : e.text ≡ none = quiet e.text (ends f).0 in
      ap₂ (λ (x : List Attribute) (y : Option (List ℕ)). value_loads x ++ text_loads g y ++ name_loads (is_generated e.kind g (value_loads x)) (suc n)) a b
      ∙ gone
    where
      ends : kind_fits 3 e ≡ true → (not (has_text e.text) ≡ true) × (no_attributes e.attributes ≡ true)
      ends f = unfold kind_fits in (and_left (not (has_text e.text)) (no_attributes e.attributes) f, and_right (not (has_text e.text)) (no_attributes e.attributes) f)

      empty : (x : List Attribute) → no_attributes x ≡ true → x ≡ []
      empty [] h = refl
      empty (a ∷ as') h = unfold no_attributes in true_is_false (sym h)

      quiet : (x : Option (List ℕ)) → not (has_text x) ≡ true → x ≡ none
      quiet none h = refl
      quiet (some v) h = unfold has_text in true_is_false (sym h)

      gone : value_loads [] ++ text_loads g none ++ name_loads (is_generated e.kind g (value_loads [])) (suc n) ≡ []
      gone = unfold value_loads text_loads is_generated name_loads in ap (λ (m : ℕ). name_loads (is_generated m g []) (suc n)) k

  abbrev v : Parsed
  v = parsed_of e

  spelled_alike : spelled ps ≡ spelled (brought_in n v)
  unfolding parsed_of
  spelled_alike =
      by (eqb e.kind 3)
      (λ q. ap spelled (ended (eqb-true e.kind 3 q) ∙ sym (brought_end n v q)))
      (λ q.
      by (names_state g)
      (λ a. of_state a q ∙ sym (ap spelled (brought_state n v q a)))
      (λ a.
      by (eqb g 16) (λ b. of_transition (eqb-true g 16 b) ∙ sym (ap spelled (brought_transition n v q a b)))
      (λ b. ap spelled (others_bring e g n differ a b o ∙ sym (brought_other n v q a b)))))
    where
      ended : e.kind ≡ 3 → ps ≡ []
      ended k = unfold names_brought names_from in ap (λ (js : List Load). names_brought g o js) (no_loads k)

      of_state : names_state g ≡ true → eqb e.kind 3 ≡ false → spelled ps ≡ spelled (state_names n vs)
      of_state a q =
          unfold spelled state_names in
          ap spelled (state_stands e g n differ a q o)
          ∙ ap₂ (λ (w : List ℕ) (ws : List (List ℕ)). w ∷ ws) (own_named e g n differ a q)
          (spelled_at (o + offset_in 2 is) (value_in 2 is) ∙ ap (λ (w : List ℕ). spelled (state_words w)) (own_value g n e 2 (other refl refl refl)))

      of_transition : g ≡ 16 → spelled ps ≡ spelled (state_words (value_in 17 vs))
      of_transition b =
          ap spelled (transition_stands e g n differ b o)
          ∙ spelled_at (o + offset_in 17 is) (value_in 17 is)
          ∙ ap (λ (w : List ℕ). spelled (state_words w)) (own_value g n e 17 (other refl refl refl))

  pub names_law : Brings s e (names_in s.text cells n (parsed_of e))
  unfolding names_in
  names_law = brings (brought_in n (parsed_of e)) spelled_alike
