-- THE LAW OF PLAIN PARTS: where a part is as long as it is written, what is written is what is read.
use Prim.Native.Nat.{ℕ, zero, suc, ◌≤◌}
use mathlib.Core.Path.{◌≡◌, refl, sym, ap, ap₂, ◌∙◌}
use mathlib.Core.Bool.{Bool, true, false, ◌&&◌, not}
use mathlib.Core.Option.{Option, none, some}
use mathlib.Core.List.{List, [], ◌∷◌, map}
use native.Mathlib.Omega.{arith}
use lib.Dec.{eqb, leb}
use lib.ListN.{length, take, drop, length-take}
use borrow.Author.Tests.{eqb-true, leb-true, not-true}
use Rattle.definition.specs.Limits.{limits01}
use Rattle.definition.specs.Event.{prepend, unescape_from, legible, Attribute, Event, has_text, kind_fits, between, attributes_fit, text_fits, in_form}
use Rattle.definition.specs.Look.{Load, value_loads}
use Rattle.definition.proofs.Base.{true_is_false, none_is_some, some_inj, and_left, and_right}
use Rattle.definition.proofs.Events.{allowed_same}
use Rattle.lines.specs.Parts.{part, or_nothing}
use Rattle.words.proofs.Laws.{by}
use Rattle.parts.specs.declared.Part.{Part}
use Rattle.parts.specs.Walked.{Pair}
use Rattle.walk.specs.Reads.{Reads, Pairs, no_pairs_lem, pair}
use Rattle.event.specs.Description.{Described}
use Rattle.event.specs.Described.{read}
use Rattle.event.specs.Agrees.{TextDescribed, no_text, a_text, Describes}
use Rattle.plain.specs.declared.Plain.{Plain}
use Rattle.plain.specs.declared.Slot.{Slot}
use Rattle.plain.specs.Plain.{Parsed, parsed_of, text_if, loads_in, parsed_in, read_loads, parsed_raw, is_plain, all_plain, plainly, Span, span_of, slot_of, span_in, PlainOf}

-- ---- escapes

record Prepended (b : ℕ) (o : Option (List ℕ)) (v : List ℕ) : Type 0 where
  rest : List ℕ
  read : o ≡ some rest
  all : v ≡ b ∷ rest

prepended : (b : ℕ) (o : Option (List ℕ)) (v : List ℕ) → prepend b o ≡ some v → Prepended b o v
unfolding prepend
prepended b none v e = none_is_some v e
prepended b (some r) v e = record { rest = r; read = refl; all = sym (some_inj [] (b ∷ r) v e) }

module _ (b : ℕ) (bs : List ℕ) where
  un_escape : eqb b 92 ≡ true → unescape_from false (b ∷ bs) ≡ unescape_from true bs
  unfolding unescape_from
  un_escape e = rw (e, unescape_from)

  un_plain : eqb b 92 ≡ false → unescape_from false (b ∷ bs) ≡ prepend b (unescape_from false bs)
  unfolding unescape_from
  un_plain e = rw (e, unescape_from)

  un_line : eqb b 110 ≡ true → unescape_from true (b ∷ bs) ≡ prepend 10 (unescape_from false bs)
  unfolding unescape_from
  un_line e = rw (e, unescape_from)

  un_back : eqb b 110 ≡ false → eqb b 92 ≡ true → unescape_from true (b ∷ bs) ≡ prepend 92 (unescape_from false bs)
  unfolding unescape_from
  un_back e f = rw (e, unescape_from, f, unescape_from)

  un_none : eqb b 110 ≡ false → eqb b 92 ≡ false → unescape_from true (b ∷ bs) ≡ none
  unfolding unescape_from
  un_none e f = rw (e, unescape_from, f, unescape_from)

-- What is read is at most as long as what is written.
shorter : (b : Bool) (x v : List ℕ) → unescape_from b x ≡ some v → length v ≤ length x
unfolding unescape_from
shorter false [] v e = omega (arith, ap length (some_inj [] [] v e))
shorter true [] v e = none_is_some v e
shorter false (b ∷ bs) v e =
    by (eqb b 92) (λ q. omega (arith, shorter true bs v (sym (un_escape b bs q) ∙ e))) (λ q.
    let p : Prepended b (unescape_from false bs) v = prepended b (unescape_from false bs) v (sym (un_plain b bs q) ∙ e) in
    omega (arith, shorter false bs p.rest p.read, ap length p.all))
shorter true (b ∷ bs) v e =
    by (eqb b 110)
    (λ q.
    let p : Prepended 10 (unescape_from false bs) v = prepended 10 (unescape_from false bs) v (sym (un_line b bs q) ∙ e) in
    omega (arith, shorter false bs p.rest p.read, ap length p.all))
    (λ q.
    by (eqb b 92)
    (λ r.
    let p : Prepended 92 (unescape_from false bs) v = prepended 92 (unescape_from false bs) v (sym (un_back b bs q r) ∙ e) in
    omega (arith, shorter false bs p.rest p.read, ap length p.all))
    (λ r. none_is_some v (sym (un_none b bs q r) ∙ e)))

same_text : (x v : List ℕ) → unescape_from false x ≡ some v → length x ≤ length v → x ≡ v
unfolding unescape_from
same_text [] v e h = some_inj [] [] v e
same_text (b ∷ bs) v e h =
    by (eqb b 92) (λ q. absurd (omega (arith, h, shorter true bs v (sym (un_escape b bs q) ∙ e)))) (λ q.
    let p : Prepended b (unescape_from false bs) v = prepended b (unescape_from false bs) v (sym (un_plain b bs q) ∙ e) in
    ap (λ (r : List ℕ). b ∷ r) (same_text bs p.rest p.read (omega (arith, h, ap length p.all))) ∙ sym p.all)

-- A PART WITHOUT ESCAPES IS WHAT IT READS AS
pub plain_part : (raw : List ℕ) (p : Part) (v : List ℕ) → Reads raw p v → is_plain p ≡ true → part raw p.at p.len ≡ v
unfolding legible is_plain part
plain_part raw p v r e =
    same_text (part raw p.at p.len) v (allowed_same (unescape_from false (part raw p.at p.len)) v r.shown)
    (omega (arith, length-take p.len (drop p.at raw), eqb-true p.len p.size e, r.long))

-- ---- what is seen

pub parsed_eq : {a b c d : ℕ} {n m : List ℕ} {is js : List Load} {t u : Option (List ℕ)} → a ≡ b → c ≡ d → n ≡ m → is ≡ js → t ≡ u
    → ◌≡◌ {A = Parsed} (record { kind = a; tag = c; name = n; values = is; text = t }) (record { kind = b; tag = d; name = m; values = js; text = u })
parsed_eq p q r s u = λ i. record { kind = p i; tag = q i; name = r i; values = s i; text = u i }

pub read_is : (raw : List ℕ) (p : Part) (v : List ℕ) → Reads raw p v → read raw p ≡ v
unfolding read or_nothing
read_is raw p v r = ap or_nothing r.shown

loads_read : {raw : List ℕ} {ps : List Pair} {ats : List Attribute} → Pairs raw ps ats → read_loads raw ps ≡ value_loads ats
unfolding read_loads value_loads
loads_read no_pairs_lem = refl
loads_read {raw} (pair {p} {a} r h) = ap₂ (λ (i : Load) (is : List Load). i ∷ is) (λ i. record { key = r.code i; bytes = read_is raw p.value a.value r.value i }) (loads_read h)

pub fits_text : (k : ℕ) (e : Event) → kind_fits k e ≡ true → eqb k 2 ≡ has_text e.text
unfolding kind_fits
fits_text zero e h = sym (not-true (has_text e.text) (and_left (not (has_text e.text)) _ h))
fits_text (suc zero) e h = sym (not-true (has_text e.text) h)
fits_text (suc (suc zero)) e h = sym (and_left (has_text e.text) _ h)
fits_text (suc (suc (suc zero))) e h = sym (not-true (has_text e.text) (and_left (not (has_text e.text)) _ h))
fits_text (suc (suc (suc (suc k)))) e h = true_is_false (sym h)

text_read : {raw : List ℕ} {p : Part} {o : Option (List ℕ)} (k : ℕ) → eqb k 2 ≡ has_text o → TextDescribed raw p o → text_if k (read raw p) ≡ o
unfolding text_if has_text
text_read k e no_text = rw (e, text_if)
text_read {raw} {p} k e (a_text v r) = rw (e, text_if) (ap some (read_is raw p v r))

-- What the form says of an event.
pub record Form (e : Event) : Type 0 where
  pub kind : kind_fits e.kind e ≡ true
  pub name : length e.name ≤ 64
  pub few : length e.attributes ≤ 16
  pub attributes : attributes_fit limits01 e.attributes ≡ true
  pub text : text_fits limits01 e.text ≡ true

pub form : (e : Event) → in_form limits01 e ≡ true → Form e
unfolding in_form between
form e h =
    let k = kind_fits e.kind e in
    let n = leb 1 (length e.name) && leb (length e.name) 64 in
    let l = leb (length e.attributes) 16 in
    let a = attributes_fit limits01 e.attributes in
    let t = text_fits limits01 e.text in
    let h₁ : (k && n && l && a) ≡ true = and_left (k && n && l && a) t h in
    let h₂ : (k && n && l) ≡ true = and_left (k && n && l) a h₁ in
    let h₃ : (k && n) ≡ true = and_left (k && n) l h₂ in
    record {
      kind = and_left k n h₃;
      name = leb-true (length e.name) 64 (and_right (leb 1 (length e.name)) (leb (length e.name) 64) (and_right k n h₃));
      few = leb-true (length e.attributes) 16 (and_right (k && n) l h₂);
      attributes = and_right (k && n && l) a h₁;
      text = and_right (k && n && l && a) t h;
    }

-- WHAT IS READ OF A DESCRIPTION IS WHAT THE DEFINITION SEES OF THE EVENT
pub parsed_law : (raw : List ℕ) (d : Described) (e : Event) → Describes raw d e → in_form limits01 e ≡ true → parsed_raw raw d ≡ parsed_of e
unfolding parsed_raw parsed_of
parsed_law raw d e h f =
    parsed_eq h.kind h.tag (read_is raw d.name e.name h.name) (loads_read h.pairs)
    (ap (λ (k : ℕ). text_if k (read raw d.text)) h.kind ∙ text_read e.kind (fits_text e.kind e (form e f).kind) h.text)

-- ---- plain descriptions

all_head : (p : Pair) (ps : List Pair) → all_plain (p ∷ ps) ≡ true → is_plain p.value ≡ true
unfolding all_plain
all_head p ps e = by (is_plain p.value) (λ q. q) (λ q. true_is_false (sym (rw (q, all_plain) at e)))

all_tail : (p : Pair) (ps : List Pair) → all_plain (p ∷ ps) ≡ true → all_plain ps ≡ true
unfolding all_plain
all_tail p ps e = rw (all_head p ps e, all_plain) at e

abbrev pub bytes_by : List ℕ → Span → List ℕ
bytes_by raw s = part raw s.at s.len

loads_by : List ℕ → List Span → List Load
loads_by raw [] = []
loads_by raw (s ∷ ss) = record { key = s.code; bytes = bytes_by raw s } ∷ loads_by raw ss

-- Values are read by numbers alone.
loads_same : (raw : List ℕ) (ss : List Slot) → loads_in raw ss ≡ loads_by raw (map span_in ss)
unfolding loads_in span_in loads_by part
loads_same raw [] = refl
loads_same raw (s ∷ ss) = ap (λ (is : List Load). record { key = (span_in s).code; bytes = part raw s.at s.len } ∷ is) (loads_same raw ss)

loads_plain : {raw : List ℕ} {ps : List Pair} {ats : List Attribute} → Pairs raw ps ats → all_plain ps ≡ true → loads_by raw (map slot_of ps) ≡ value_loads ats
unfolding value_loads slot_of span_of loads_by part
loads_plain no_pairs_lem e = refl
loads_plain {raw} (pair {p} {a} {ps} r h) e =
    ap₂ (λ (i : Load) (is : List Load). i ∷ is) (λ i. record { key = r.code i; bytes = plain_part raw p.value a.value r.value (all_head p ps e) i })
    (loads_plain h (all_tail p ps e))

text_plain : {raw : List ℕ} {p : Part} {o : Option (List ℕ)} (k : ℕ) → eqb k 2 ≡ has_text o → TextDescribed raw p o → is_plain p ≡ true → text_if k (part raw p.at p.len) ≡ o
unfolding text_if has_text
text_plain k e no_text q = rw (e, text_if)
text_plain {raw} {p} k e (a_text v r) q = rw (e, text_if) (ap some (plain_part raw p v r q))

record AllPlain (d : Described) : Type 0 where
  name : is_plain d.name ≡ true
  text : is_plain d.text ≡ true
  pairs : all_plain (take d.count d.pairs) ≡ true

plain_all : (d : Described) → plainly d ≡ true → AllPlain d
unfolding plainly
plain_all d e =
    by (is_plain d.name)
    (λ p.
    let e₁ : elim (is_plain d.text) as (λ b. Bool) [ true ↦ all_plain (take d.count d.pairs) | false ↦ false ] ≡ true = rw (p, plainly) at e in
    go p (is_plain d.text) refl e₁)
    (λ p. true_is_false (sym (rw (p, plainly) at e)))
  where
    go : is_plain d.name ≡ true → (b : Bool) → is_plain d.text ≡ b → elim b as (λ b. Bool) [ true ↦ all_plain (take d.count d.pairs) | false ↦ false ] ≡ true → AllPlain d
    go p true q f = record { name = p; text = q; pairs = f }
    go p false q f = true_is_false (sym f)

-- THE EVENT'S OWN BYTES, WHERE NO PART HAS AN ESCAPE
pub plain_law : (raw : List ℕ) (d : Described) (e : Event) → Describes raw d e → in_form limits01 e ≡ true → plainly d ≡ true → (r : Plain) → PlainOf d r → parsed_in raw r ≡ parsed_of e
unfolding parsed_in parsed_of span_of span_in part
plain_law raw d e h f p r s =
    let a : AllPlain d = plain_all d p in
    parsed_eq (s.kind ∙ h.kind) (s.tag ∙ h.tag) (ap (bytes_by raw) s.name ∙ plain_part raw d.name e.name h.name a.name)
    (ap (loads_in raw) (ap (λ (c : ℕ). take c r.slots) s.count) ∙ loads_same raw (take d.count r.slots) ∙ ap (loads_by raw) s.slots ∙ loads_plain h.pairs a.pairs)
    (ap₂ text_if (s.kind ∙ h.kind) (ap (bytes_by raw) s.text) ∙ text_plain e.kind (fits_text e.kind e (form e f).kind) h.text a.text)
