-- For the proofs of the functions on texts.
use Prim.Native.Nat.{ℕ, suc, ◌+◌, ◌-◌, ◌≤◌}
use mathlib.Core.Path.{◌≡◌, sym, ap, ap₂, ◌∙◌}
use mathlib.Core.Bool.{Bool, true, false}
use mathlib.Core.Option.{Option, none, some}
use mathlib.Core.List.{List, [], ◌∷◌, ◌++◌, append-nil, append_assoc}
use native.Mathlib.Omega.{arith}
use lib.ListN.{length, get_or, take, replicate}
use borrow.Author.Tests.{eq-eqb, ne_eqb}
use Rattle.definition.specs.Text.{Span, quoted, trim, generated_name}
use Rattle.definition.specs.Codes.{kind_number, tag_number}
use Rattle.definition.specs.Rows.{Cell, no_cell, cell_at}
use Rattle.definition.specs.Look.{Load, payload, text_loads, name_loads, shift}
use Rattle.lines.specs.Parts.{part}
use Rattle.words.specs.declared.Part.{Part}
use Rattle.words.specs.Next.{as_span}
use Rattle.words.proofs.Ends.{trim_fits}
use Rattle.plain.specs.declared.Plain.{Plain}
use Rattle.plain.specs.Plain.{Parsed, loads_in, parsed_in, text_if}
use Rattle.payload.specs.declared.Ends.{Ends}
use Rattle.payload.specs.Payload.{made_in, all_loads, ends_in}
use Rattle.fill.specs.Fill.{cell, as_cell}
use Rattle.texts.specs.Texts.{text_put, texts_in, closed}
use Rattle.texts.proofs.LookLaw.{texts_append}
use Rattle.fill.specs.declared.TextCell.{TextCell}
use Rattle.texts.specs.EventTexts.{trimmed_of, quoted_of, event_texts, Ended, Named, Texts}

pub key_is : (t : List ℕ) (k a n : ℕ) → a ≡ get_or t (k + k) 0 → n ≡ get_or t (k + k + 1) 0 → as_cell (record { at = a; len = n }) ≡ cell_at t (k + k)
unfolding as_cell cell cell_at
key_is t k a n ea en =
    let e : k + k + 1 ≡ suc (k + k) = omega arith in
    λ j. cell (ea j) ((en ∙ ap (λ (i : ℕ). get_or t i 0) e) j)

-- One load among the texts.
put_load : (c at end : ℕ) (w t : List ℕ) (ls : List Load) → ls ≡ record { key = c; bytes = w } ∷ [] → end ≡ at + length (payload ls) → text_put c (cell (at + 1) (end - at)) t ≡ texts_in at ls t
unfolding texts_in payload cell
put_load c at end w t ls l h =
    let a : at + 1 ≡ suc at = omega arith in
    let n : length (payload ls) ≡ length w = ap (λ (x : List Load). length (payload x)) l ∙ ap length (append-nil w) in
    let b : end - at ≡ length w = omega (arith, h, n) in
    (λ j. text_put c (cell (a j) (b j)) t) ∙ sym (ap (λ (x : List Load). texts_in at x t) l)

-- ---- a text, if the event has one

module _ (k g : ℕ) (v : List ℕ) where
  abbrev o : Option (List ℕ)
  o = text_if k v

  text_yes : k ≡ 2 → o ≡ some v
  unfolding text_if
  text_yes e = rw (eq-eqb k 2 e, text_if)

  text_no : (k ≡ 2 → ⊥) → o ≡ none
  unfolding text_if
  text_no e = rw (ne_eqb k 2 e, text_if)

  loads_text : k ≡ 2 → (g ≡ 23 → ⊥) → text_loads g o ≡ record { key = 29; bytes = v } ∷ []
  unfolding text_loads
  loads_text e q = ap (text_loads g) (text_yes e) ∙ rw (ne_eqb g 23 q, text_loads)

  loads_quoted : k ≡ 2 → g ≡ 23 → text_loads g o ≡ record { key = 30; bytes = quoted v } ∷ []
  unfolding text_loads
  loads_quoted e q = ap (text_loads g) (text_yes e) ∙ rw (eq-eqb g 23 q, text_loads)

  loads_none : (k ≡ 2 → ⊥) → text_loads g o ≡ []
  unfolding text_loads
  loads_none e = ap (text_loads g) (text_no e)

  -- ---- trimmed

  trimmed_no : (at : ℕ) (d : Cell) → (k ≡ 2 → ⊥) → d ≡ trimmed_of g at o d
  unfolding trimmed_of
  trimmed_no at d e = sym (ap (λ (x : Option (List ℕ)). trimmed_of g at x d) (text_no e))

  pub trimmed_none : (at : ℕ) (d : TextCell) → (k ≡ 2 → ⊥) → as_cell d ≡ trimmed_of g at o (as_cell d)
  trimmed_none at d e = trimmed_no at (as_cell d) e

  pub trimmed_quoted : (at : ℕ) (d : TextCell) → k ≡ 2 → g ≡ 23 → as_cell d ≡ trimmed_of g at o (as_cell d)
  unfolding trimmed_of
  trimmed_quoted at d e q = sym (ap (λ (x : Option (List ℕ)). trimmed_of g at x (as_cell d)) (text_yes e) ∙ rw (eq-eqb g 23 q, trimmed_of))

  pub trimmed_text : (at : ℕ) (d : Cell) (r : Part) → k ≡ 2 → (g ≡ 23 → ⊥) → as_span r ≡ trim v
      → as_cell (record { at = at + r.off + 1; len = r.len }) ≡ trimmed_of g at o d
  unfolding trimmed_of as_cell cell shift as_span
  trimmed_text at d r e q h =
      let z : trimmed_of g at o d ≡ shift at (trim v) = ap (λ (x : Option (List ℕ)). trimmed_of g at x d) (text_yes e) ∙ rw (ne_eqb g 23 q, trimmed_of) in
      let a : at + r.off + 1 ≡ suc (at + r.off) = omega arith in
      (λ j. cell (a j) r.len) ∙ ap (shift at) h ∙ sym z

  -- ---- in quotes

  pub quoted_none : (at : ℕ) → (k ≡ 2 → ⊥) → as_cell (record { at = 0; len = 0 }) ≡ quoted_of g at o
  unfolding quoted_of as_cell
  quoted_none at e = sym (ap (quoted_of g at) (text_no e))

  pub quoted_text : (at : ℕ) → k ≡ 2 → (g ≡ 23 → ⊥) → as_cell (record { at = 0; len = 0 }) ≡ quoted_of g at o
  unfolding quoted_of as_cell
  quoted_text at e q = sym (ap (quoted_of g at) (text_yes e) ∙ rw (ne_eqb g 23 q, quoted_of))

  length_quoted : k ≡ 2 → g ≡ 23 → length (payload (text_loads g o)) ≡ length (quoted v)
  unfolding payload
  length_quoted e q = ap (λ (x : List Load). length (payload x)) (loads_quoted e q) ∙ ap length (append-nil (quoted v))

  length_text : k ≡ 2 → (g ≡ 23 → ⊥) → length (payload (text_loads g o)) ≡ length v
  unfolding payload
  length_text e q = ap (λ (x : List Load). length (payload x)) (loads_text e q) ∙ ap length (append-nil v)

  pub quoted_here : (at end : ℕ) → end ≡ at + length (payload (text_loads g o)) → k ≡ 2 → g ≡ 23 → as_cell (record { at = at + 1; len = end - at }) ≡ quoted_of g at o
  unfolding quoted_of as_cell cell
  quoted_here at end h e q =
      let z : quoted_of g at o ≡ cell (suc at) (length (quoted v)) = ap (quoted_of g at) (text_yes e) ∙ rw (eq-eqb g 23 q, quoted_of) in
      let a : at + 1 ≡ suc at = omega arith in
      let b : end - at ≡ length (quoted v) = omega (arith, h, length_quoted e q) in
      (λ j. cell (a j) (b j)) ∙ sym z

  -- ---- among the texts

  pub own_none : (at : ℕ) (t : List ℕ) → (k ≡ 2 → ⊥) → t ≡ texts_in at (text_loads g o) t
  unfolding texts_in
  own_none at t e = sym (ap (λ (x : List Load). texts_in at x t) (loads_none e))

  pub own_quoted : (at end : ℕ) (t u : List ℕ) → u ≡ text_put 30 (cell (at + 1) (end - at)) t → end ≡ at + length (payload (text_loads g o)) → k ≡ 2 → g ≡ 23 → u ≡ texts_in at (text_loads g o) t
  own_quoted at end t u x h e q = x ∙ put_load 30 at end (quoted v) t (text_loads g o) (loads_quoted e q) h

  pub own_plain : (at end : ℕ) (t u : List ℕ) → u ≡ text_put 29 (cell (at + 1) (end - at)) t → end ≡ at + length (payload (text_loads g o)) → k ≡ 2 → (g ≡ 23 → ⊥) → u ≡ texts_in at (text_loads g o) t
  own_plain at end t u x h e q = x ∙ put_load 29 at end v t (text_loads g o) (loads_text e q) h

  -- ---- small

  trim_inside : (r : Part) → as_span r ≡ trim v → r.off + r.len ≤ length v
  unfolding as_span
  trim_inside r h = omega (arith, trim_fits v, ap (λ (x : Span). x.off) h, ap (λ (x : Span). x.len) h)

  pub trimmed_small : (at : ℕ) (r : Part) → at + length (payload (text_loads g o)) ≤ 65535 → k ≡ 2 → (g ≡ 23 → ⊥) → as_span r ≡ trim v → at + r.off + r.len ≤ 65535
  trimmed_small at r b e q h = omega (arith, b, length_text e q, trim_inside r h)

-- ---- a generated name

pub made_none : (made : Bool) (at end : ℕ) (t : List ℕ) → made ≡ false → Named made at end t t
unfolding name_loads texts_in
made_none made at end t q n h = sym (ap (λ (b : Bool). texts_in at (name_loads b n) t) q)

pub made_some : (made : Bool) (at end : ℕ) (t u : List ℕ) → u ≡ text_put 1 (cell (at + 1) (end - at)) t → made ≡ true → Named made at end t u
unfolding name_loads
made_some made at end t u x q n h = x ∙ put_load 1 at end (generated_name n) t (name_loads made n) (ap (λ (b : Bool). name_loads b n) q) h

-- ---- all of it

pub texts_made : (b : ℕ) (v : Parsed) (made : Bool) (e : Ends) (t₁ t₂ t₃ r : List ℕ) (a q c : Cell)
    → t₁ ≡ texts_in b v.values (replicate 64 0) → Ended b v e → t₂ ≡ texts_in e.values (text_loads v.tag v.text) t₁ → Named made e.text e.all t₂ t₃
    → a ≡ trimmed_of v.tag e.values v.text no_cell → q ≡ quoted_of v.tag e.values v.text → c ≡ trimmed_of v.tag e.values v.text (cell (suc b) 0) → r ≡ closed a q c t₃
    → Texts b v made e r
unfolding event_texts all_loads ends_in payload
texts_made b v made e t₁ t₂ t₃ r a q c h₁ E h₂ h₃ ea eq ec hr n em ee =
    let at : ℕ = b + length (payload v.values) in
    let w : e.all ≡ e.text + length (payload (name_loads made (suc n))) =
    ap (λ (x : Ends). x.all) ee ∙ ap₂ (λ (x : ℕ) (m : Bool). x + length (payload (name_loads m (suc n)))) (sym (ap (λ (x : Ends). x.text) ee)) (sym em) in
    let z : t₃ ≡ texts_in b (all_loads v n) (replicate 64 0) =
    h₃ (suc n) w ∙ ap₂ (λ (x : ℕ) (m : Bool). texts_in x (name_loads m (suc n)) t₂) (E.text ∙ ap (λ (y : ℕ). y + length (payload (text_loads v.tag v.text))) E.values) em
    ∙ ap (texts_in (at + length (payload (text_loads v.tag v.text))) (name_loads (made_in v) (suc n))) (h₂ ∙ ap₂ (λ (x : ℕ) (y : List ℕ). texts_in x (text_loads v.tag v.text) y) E.values h₁)
    ∙ sym (
    ap (λ (x : List Load). texts_in b x (replicate 64 0)) (append_assoc v.values (text_loads v.tag v.text) (name_loads (made_in v) (suc n)))
    ∙ texts_append b v.values (text_loads v.tag v.text ++ name_loads (made_in v) (suc n)) (replicate 64 0)
    ∙ texts_append at (text_loads v.tag v.text) (name_loads (made_in v) (suc n)) (texts_in b v.values (replicate 64 0))) in
    hr
    ∙ (λ j. closed ((ea ∙ ap (λ (x : ℕ). trimmed_of v.tag x v.text no_cell) E.values) j) ((eq ∙ ap (λ (x : ℕ). quoted_of v.tag x v.text) E.values) j) ((ec ∙ ap (λ (x : ℕ). trimmed_of v.tag x v.text (cell (suc b) 0)) E.values) j) (z j))

-- The same of a slice and its slots; w is the text as it stands there.
module _ (src : List ℕ) (p : Plain) (b : ℕ) (e : Ends) (E : Ended b (parsed_in src p) e) where
  pub ended_values : b + length (payload (loads_in src (take p.count p.slots))) ≤ 65535
  unfolding parsed_in
  ended_values = omega (arith, E.values, E.text, E.made, E.small)

  module _ (w : List ℕ) (is : w ≡ part src p.text.at p.text.len) where
    text_end : e.text ≡ e.values + length (payload (text_loads (tag_number p.tag) (text_if (kind_number p.kind) w)))
    unfolding parsed_in
    text_end = E.text ∙ ap (λ (x : List ℕ). e.values + length (payload (text_loads (tag_number p.tag) (text_if (kind_number p.kind) x)))) (sym is)

    pub ended_text : (e.text ≡ e.values + length (payload (text_loads (tag_number p.tag) (text_if (kind_number p.kind) w)))) × (e.text ≤ 65535)
    ended_text = (text_end, omega (arith, E.made, E.small))

    pub ended_small : e.values + length (payload (text_loads (tag_number p.tag) (text_if (kind_number p.kind) w))) ≤ 65535
    ended_small = omega (arith, text_end, E.made, E.small)

    pub texts_all : (made : Bool) (t₁ t₂ t₃ r : List ℕ) (a q c : TextCell)
        → t₁ ≡ texts_in b (loads_in src (take p.count p.slots)) (replicate 64 0) → t₂ ≡ texts_in e.values (text_loads (tag_number p.tag) (text_if (kind_number p.kind) w)) t₁ → Named made e.text e.all t₂ t₃
        → as_cell a ≡ trimmed_of (tag_number p.tag) e.values (text_if (kind_number p.kind) w) (cell 0 0) → as_cell q ≡ quoted_of (tag_number p.tag) e.values (text_if (kind_number p.kind) w)
        → as_cell c ≡ trimmed_of (tag_number p.tag) e.values (text_if (kind_number p.kind) w) (cell (b + 1) 0) → r ≡ closed (as_cell a) (as_cell q) (as_cell c) t₃ → Texts b (parsed_in src p) made e r
    unfolding parsed_in no_cell cell
    texts_all made t₁ t₂ t₃ r a q c h₁ h₂ h₃ ea eq ec hr =
        let s : b + 1 ≡ suc b = omega arith in
        texts_made b (parsed_in src p) made e t₁ t₂ t₃ r (as_cell a) (as_cell q) (as_cell c) h₁ E (h₂ ∙ ap (λ (x : List ℕ). texts_in e.values (text_loads (tag_number p.tag) (text_if (kind_number p.kind) x)) t₁) is) h₃
        (ea ∙ ap (λ (x : List ℕ). trimmed_of (tag_number p.tag) e.values (text_if (kind_number p.kind) x) no_cell) is) (eq ∙ ap (λ (x : List ℕ). quoted_of (tag_number p.tag) e.values (text_if (kind_number p.kind) x)) is)
        (ec ∙ ap₂ (λ (x : List ℕ) (n : ℕ). trimmed_of (tag_number p.tag) e.values (text_if (kind_number p.kind) x) (cell n 0)) is s) hr
