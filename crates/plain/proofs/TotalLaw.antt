-- Both ways give what is read of the description, for any bytes.
use Prim.Native.Nat.{ℕ, ◌*◌, ◌≤◌, ◌<◌}
use mathlib.Core.Path.{◌≡◌, refl, sym, ap, ap₂, ◌∙◌, subst}
use mathlib.Core.Bool.{true, ◌&&◌}
use mathlib.Core.Option.{Option, some}
use mathlib.Core.List.{List, [], ◌∷◌}
use native.Mathlib.Omega.{arith}
use lib.Dec.{eqb, leb}
use lib.ListN.{length, take}
use borrow.Author.Tests.{leb-true}
use Rattle.definition.specs.Limits.{limits01}
use Rattle.definition.specs.Text.{all_allowed}
use Rattle.definition.specs.Event.{unescape_from, if_allowed, legible, Attribute, Event, between, has_text, attributes_fit, text_fits, in_form, read_event, keys_differ}
use Rattle.definition.proofs.Base.{true_is_false, and_right}
use Rattle.lines.specs.Parts.{part, or_nothing}
use Rattle.words.proofs.Laws.{by}
use Rattle.parts.specs.declared.Part.{Part}
use Rattle.parts.specs.Walked.{Pair}
use Rattle.parts.specs.Parts.{part_at}
use Rattle.walk.specs.Reads.{Pairs, no_pairs_lem, pair}
use Rattle.event.specs.Description.{Described}
use Rattle.event.specs.Described.{blank, read, described}
use Rattle.event.specs.Agrees.{TextDescribed, no_text, a_text, Describes, Agrees, out_of_form, keys_repeat, in_form_lem}
use Rattle.event.proofs.EventLaw.{agrees}
use Rattle.plain.specs.declared.Plain.{Plain}
use Rattle.plain.specs.Plain.{parsed_of, text_if, text_part, loads_in, parsed_in, read_loads, parsed_raw, plainly, span_of, span_in, PlainOf, length_read, copy_size, Space}
use Rattle.plain.proofs.PlainLaw.{bytes_by, read_is, parsed_eq, fits_text, form, Form, parsed_law, plain_law}

-- ---- a description that is refused has no parts

nothing_read : (raw : List ℕ) → read raw (part_at 0 0 0) ≡ []
unfolding read or_nothing part legible unescape_from if_allowed all_allowed
nothing_read raw = refl

module _ (raw : List ℕ) (n : ℕ) where
  blank_plain : (r : Plain) → PlainOf (blank n) r → parsed_in raw r ≡ parsed_raw raw (blank n)
  unfolding parsed_in parsed_raw blank loads_in read_loads span_of span_in part
  blank_plain r s =
      parsed_eq s.kind s.tag (ap (bytes_by raw) s.name ∙ sym (nothing_read raw)) (ap (λ (c : ℕ). loads_in raw (take c r.slots)) s.count)
      (ap₂ text_if s.kind (ap (bytes_by raw) s.text ∙ sym (nothing_read raw)))

  blank_space : (size : ℕ) → size < 65536 → Space raw (blank n) size
  unfolding blank text_part length_read
  blank_space size h = record { short = h; fits = omega (arith, ap length (nothing_read raw)) }

-- ---- what is within its limits

value_long : (a : Attribute) (ats : List Attribute) → attributes_fit limits01 (a ∷ ats) ≡ true → (length a.value ≤ 1024) × (attributes_fit limits01 ats ≡ true)
unfolding attributes_fit between
value_long a ats e =
    let k = leb 1 (length a.key) && leb (length a.key) 64 in
    let v = leb 0 (length a.value) && leb (length a.value) 1024 in
    by (k && v)
    (λ q. (leb-true (length a.value) 1024 (and_right (leb 0 (length a.value)) (leb (length a.value) 1024) (and_right k v q)), rw (q, attributes_fit) at e))
    (λ q. true_is_false (sym (rw (q, attributes_fit) at e)))

values_long : {raw : List ℕ} {ps : List Pair} {ats : List Attribute} → Pairs raw ps ats → attributes_fit limits01 ats ≡ true → length_read raw ps ≤ 1024 * length ats
unfolding length_read
values_long no_pairs_lem e = omega arith
values_long {raw} (pair {p} {a} {ps} {ats} r h) e =
    let f = value_long a ats e in
    omega (arith, f.0, values_long h f.1, ap length (read_is raw p.value a.value r.value))

text_long : {raw : List ℕ} {p : Part} {o : Option (List ℕ)} (k : ℕ) → eqb k 2 ≡ has_text o → TextDescribed raw p o → text_fits limits01 o ≡ true → length (read raw (text_part k p)) ≤ 4096
unfolding text_part has_text text_fits between
text_long {raw} {p} k e no_text f = let z : read raw (text_part k p) ≡ [] = rw (e, text_part) (nothing_read raw) in omega (arith, ap length z)
text_long {raw} {p} k e (a_text v r) f =
    let z : read raw (text_part k p) ≡ v = rw (e, text_part) (read_is raw p v r) in
    omega (arith, ap length z, leb-true (length v) 4096 (and_right (leb 0 (length v)) (leb (length v) 4096) f))

form_space : (raw : List ℕ) (d : Described) (e : Event) → Describes raw d e → in_form limits01 e ≡ true → (size : ℕ) → copy_size ≤ size → size < 65536 → Space raw d size
form_space raw d e h f size big small =
    let w : Form e = form e f in
    let t : length (read raw (text_part d.kind d.text)) ≤ 4096 =
    text_long d.kind (ap (λ (k : ℕ). eqb k 2) h.kind ∙ fits_text e.kind e w.kind) h.text w.text in
    record {
      short = small;
      fits = omega (arith, big, t, w.name, ap length (read_is raw d.name e.name h.name), values_long h.pairs w.attributes, w.few);
    }

-- ---- THE LAWS for a caller of `describe`

pub plain_total : (raw : List ℕ) (r : Plain) → plainly (described raw) ≡ true → PlainOf (described raw) r → parsed_in raw r ≡ parsed_raw raw (described raw)
plain_total raw r = go (described raw) (agrees raw)
  where
    go : (d : Described) → Agrees raw d → plainly d ≡ true → PlainOf d r → parsed_in raw r ≡ parsed_raw raw d
    go d (out_of_form e f) q s = subst (λ (x : Described). PlainOf x r → parsed_in raw r ≡ parsed_raw raw x) (sym e) (blank_plain raw 3 r) s
    go d (keys_repeat w e g f k) q s = subst (λ (x : Described). PlainOf x r → parsed_in raw r ≡ parsed_raw raw x) (sym e) (blank_plain raw 4 r) s
    go d (in_form_lem e g f k h) q s = plain_law raw d e h f q r s ∙ sym (parsed_law raw d e h f)

pub space_total : (raw : List ℕ) (size : ℕ) → copy_size ≤ size → size < 65536 → Space raw (described raw) size
space_total raw size big small = go (described raw) (agrees raw)
  where
    go : (d : Described) → Agrees raw d → Space raw d size
    go d (out_of_form e f) = subst (λ (x : Described). Space raw x size) (sym e) (blank_space raw 3 size small)
    go d (keys_repeat w e g f k) = subst (λ (x : Described). Space raw x size) (sym e) (blank_space raw 4 size small)
    go d (in_form_lem e g f k h) = form_space raw d e h f size big small

-- Of an event in form with different keys it is what the definition sees.
pub record InForm (raw : List ℕ) (d : Described) : Type 0 where
  pub event : Event
  pub reads : read_event raw ≡ some event
  pub form : in_form limits01 event ≡ true
  pub differ : keys_differ event.attributes ≡ true
  pub parsed : parsed_raw raw d ≡ parsed_of event

number : (n : ℕ) (d : Described) → d ≡ blank n → d.number ≡ n
unfolding blank
number n d e = ap (λ (x : Described). x.number) e

pub parsed_total : (raw : List ℕ) → (described raw).number ≡ 0 → InForm raw (described raw)
parsed_total raw = go (described raw) (agrees raw)
  where
    go : (d : Described) → Agrees raw d → d.number ≡ 0 → InForm raw d
    go d (out_of_form e f) z = absurd (omega (arith, z, number 3 d e))
    go d (keys_repeat w e g f k) z = absurd (omega (arith, z, number 4 d e))
    go d (in_form_lem e g f k h) z = record { event = e; reads = g; form = f; differ = k; parsed = parsed_law raw d e h f }
