-- An event in form and within document 01's limits has at most 43,352 bytes as it is written, so the 49,152 of document 01 never decides.
use Prim.Native.Nat.{ℕ, suc, ◌+◌, ◌*◌, ◌≤◌}
use mathlib.Core.Path.{◌≡◌, refl, sym, ap, ◌∙◌, subst}
use mathlib.Core.Bool.{Bool, true, false, ◌&&◌}
use mathlib.Core.Option.{Option, none, some}
use mathlib.Core.List.{List, [], ◌∷◌, ◌++◌, map}
use lib.ListN.{length, length-append}
use lib.Dec.{eqb, leb, leb→le}
use native.Mathlib.Omega.{arith}
use Rattle.definition.specs.Limits.{limits01}
use Rattle.definition.specs.Text.{str, same, place_in}
use Rattle.definition.specs.Event.{Line, event, name, key, value, text, junk, after, headed, line_of, lines_from, tail_from, is_nil, lines_of, unescape_from, prepend, legible, Attribute, Event, Body, with_pair, last_text, body_of, named_event, event_of_lines, kind_names, read_event, between, attributes_fit, text_fits, kind_fits, in_form}
use Rattle.definition.proofs.Base.{and_left, and_right, T_of, none_is_some, some_inj, true_is_false, same_eq}
use Rattle.definition.proofs.Events.{allowed_same, with_split}

-- ---- an escaped text is at most twice as long

prepended : (b : ℕ) (o : Option (List ℕ)) (x : List ℕ) → prepend b o ≡ some x → (y : List ℕ) × (o ≡ some y) × (length x ≡ suc (length y))
unfolding prepend
prepended b none x e = none_is_some x e
prepended b (some y) x e = (y, refl, ap length (sym (some_inj x (b ∷ y) x e)))

-- c: the byte before escapes.
abbrev pending : Bool → ℕ
pending true = 1
pending false = 0

unescaped_le : (v : List ℕ) (c : Bool) (x : List ℕ) → unescape_from c v ≡ some x → length v + pending c ≤ length x + length x
unfolding unescape_from
unescaped_le [] false x e = omega arith
unescaped_le [] true x e = none_is_some x e
unescaped_le (b ∷ bs) false x e = go (eqb b 92) refl (λ d y f. unescaped_le bs d y f)
  where
    go : (p : Bool) → eqb b 92 ≡ p → ((d : Bool) (y : List ℕ) → unescape_from d bs ≡ some y → length bs + pending d ≤ length y + length y) → suc (length bs) + 0 ≤ length x + length x
    go true q ih = omega (arith, ih true x (rw (q, unescape_from) at e))
    go false q ih =
        let z = prepended b (unescape_from false bs) x (rw (q, unescape_from) at e) in
        omega (arith, ih false z.0 z.1, z.2)
unescaped_le (b ∷ bs) true x e = go (eqb b 110) (eqb b 92) refl refl (λ d y f. unescaped_le bs d y f)
  where
    go : (p r : Bool) → eqb b 110 ≡ p → eqb b 92 ≡ r → ((d : Bool) (y : List ℕ) → unescape_from d bs ≡ some y → length bs + pending d ≤ length y + length y)
        → suc (length bs) + 1 ≤ length x + length x
    go true r q s ih =
        let z = prepended 10 (unescape_from false bs) x (rw (q, unescape_from) at e) in
        omega (arith, ih false z.0 z.1, z.2)
    go false true q s ih =
        let z = prepended 92 (unescape_from false bs) x (rw (q, unescape_from, s, unescape_from) at e) in
        omega (arith, ih false z.0 z.1, z.2)
    go false false q s ih = none_is_some x (rw (q, unescape_from, s, unescape_from) at e)

legible_le : (v x : List ℕ) → legible v ≡ some x → length v ≤ length x + length x
unfolding legible
legible_le v x e = omega (arith, unescaped_le v false x (allowed_same (unescape_from false v) x e))

-- ---- lines

total : List (List ℕ) → ℕ
total [] = 0
total (l ∷ ls) = suc (length l) + total ls

lines_total : (w t : List ℕ) → length w + length t ≡ total (lines_from w t) + length (tail_from w t)
unfolding lines_from tail_from total
lines_total w [] = omega arith
lines_total w (b ∷ bs) = go (eqb b 10) refl (λ v. lines_total v bs)
  where
    go : (p : Bool) → eqb b 10 ≡ p → ((v : List ℕ) → length v + length bs ≡ total (lines_from v bs) + length (tail_from v bs))
        → length w + suc (length bs) ≡ total (lines_from w (b ∷ bs)) + length (tail_from w (b ∷ bs))
    go true q ih = rw (q, lines_from, tail_from) (omega (arith, ih []))
    go false q ih = rw (q, lines_from, tail_from) (omega (arith, ih (w ++ b ∷ []), length-append w (b ∷ [])))

-- A decoded line's length, as it is written.
written : Line → ℕ
written (event x) = 6 + length x
written (name x) = 5 + length x
written (key x) = 4 + length x
written (value x) = 6 + length x
written (text x) = 5 + length x
written junk = 0

is_junk : Line → Bool
is_junk junk = true
is_junk (event x) = false
is_junk (name x) = false
is_junk (key x) = false
is_junk (value x) = false
is_junk (text x) = false

after_length : (h l v : List ℕ) → after h l ≡ some v → length l ≡ length h + length v
unfolding after
after_length [] l v e = ap length (some_inj l l v e) ∙ omega arith
after_length (a ∷ h) [] v e = none_is_some v e
after_length (a ∷ h) (b ∷ l) v e = go (eqb a b) refl (after_length h l v)
  where
    go : (p : Bool) → eqb a b ≡ p → (after h l ≡ some v → length l ≡ length h + length v) → suc (length l) ≡ suc (length h) + length v
    go true q ih = omega (arith, ih (rw (q, after) at e))
    go false q ih = none_is_some v (rw (q, after) at e)

-- A line of some head, or else another line of which the same is known.
headed_length : (h : List ℕ) (make : List ℕ → Line) (other : Line) (l : List ℕ) → ((v : List ℕ) → written (make v) ≡ length h + length v)
    → (is_junk other ≡ false → length l ≡ written other) → is_junk (headed h make other l) ≡ false → length l ≡ written (headed h make other l)
unfolding headed
headed_length h make other l k d = go (after h l) refl
  where
    go : (o : Option (List ℕ)) → after h l ≡ o → is_junk (headed h make other l) ≡ false → length l ≡ written (headed h make other l)
    go none q = rw (q, headed) d
    go (some v) q = rw (q, headed) (λ f. after_length h l v q ∙ sym (k v))

line_length_lem : (l : List ℕ) → is_junk (line_of l) ≡ false → length l ≡ written (line_of l)
unfolding line_of written str is_junk
line_length_lem l =
    headed_length (str "value=") value _ l (λ v. refl)
    (headed_length (str "key=") key _ l (λ v. refl)
    (headed_length (str "event=") event _ l (λ v. refl)
    (headed_length (str "name=") name _ l (λ v. refl)
    (headed_length (str "text=") text junk l (λ v. refl) (λ f. true_is_false f)))))

-- ---- the body

paid : List Line → ℕ
paid [] = 0
paid (q ∷ qs) = suc (written q) + paid qs

no_junk : List Line → Bool
no_junk [] = true
no_junk (q ∷ qs) = elim (is_junk q) [ true ↦ false | false ↦ no_junk qs ]

total_paid : (ls : List (List ℕ)) → no_junk (map line_of ls) ≡ true → total ls ≡ paid (map line_of ls)
unfolding total paid no_junk
total_paid [] e = refl
total_paid (l ∷ ls) e = go (is_junk (line_of l)) refl (total_paid ls)
  where
    go : (p : Bool) → is_junk (line_of l) ≡ p → (no_junk (map line_of ls) ≡ true → total ls ≡ paid (map line_of ls)) → suc (length l) + total ls ≡ suc (written (line_of l)) + paid (map line_of ls)
    go true q ih = true_is_false (sym (rw (q, no_junk) at e))
    go false q ih = omega (arith, line_length_lem l q, ih (rw (q, no_junk) at e))

cost : List Attribute → ℕ
cost [] = 0
cost (a ∷ as₁) = 12 + (length a.key + length a.key) + (length a.value + length a.value) + cost as₁

text_cost : Option (List ℕ) → ℕ
text_cost none = 0
text_cost (some v) = 6 + (length v + length v)

-- The lines of a body, the key that waits among them, are paid for by its attributes and its text.
abbrev waiting : Option (List ℕ) → ℕ
waiting none = 0
waiting (some k) = 5 + length k

record Paid (p : Option (List ℕ)) (ls : List Line) (b : Body) : Type 0 where
  clean : no_junk ls ≡ true
  enough : waiting p + paid ls ≤ cost b.attributes + text_cost b.text

pair_split : (k v : Option (List ℕ)) (o : Option Body) (b : Body) → with_pair k v o ≡ some b
    → (x : List ℕ) × (y : List ℕ) × (c : Body) × (k ≡ some x) × (v ≡ some y) × (o ≡ some c)
    × (record { attributes = record { key = x; value = y } ∷ c.attributes; text = c.text } ≡ b)
unfolding with_pair
pair_split none v o b e = none_is_some b e
pair_split (some x) none o b e = none_is_some b e
pair_split (some x) (some y) none b e = none_is_some b e
pair_split (some x) (some y) (some c) b e = (x, y, c, refl, refl, refl, some_inj b _ b e)

last_paid : (o : Option (List ℕ)) (v : List ℕ) → legible v ≡ o → (ls : List Line) (b : Body) → last_text o ls ≡ some b → Paid none (text v ∷ ls) b
unfolding last_text no_junk is_junk paid written cost text_cost
last_paid none v q ls b e = none_is_some b e
last_paid (some x) v q [] b e =
    let z : record { attributes = []; text = some x } ≡ b = some_inj b _ b e in
    subst (Paid none (text v ∷ [])) z (record { clean = refl; enough = omega (arith, legible_le v x q) })
last_paid (some x) v q (l ∷ ls) b e = none_is_some b e

body_paid : (ls : List Line) (p : Option (List ℕ)) (b : Body) → body_of p ls ≡ some b → Paid p ls b
unfolding body_of no_junk is_junk paid written cost text_cost
body_paid [] none b e = record { clean = refl; enough = omega arith }
body_paid [] (some k) b e = none_is_some b e
body_paid (key k ∷ ls) none b e =
    let ih = body_paid ls (some k) b e in
    record { clean = ih.clean; enough = omega (arith, ih.enough) }
body_paid (key k ∷ ls) (some j) b e = none_is_some b e
body_paid (value v ∷ ls) none b e = none_is_some b e
body_paid (value v ∷ ls) (some k) b e =
    let z = pair_split (legible k) (legible v) (body_of none ls) b e in
    let ih = body_paid ls none z.2 z.5 in
    subst (Paid (some k) (value v ∷ ls)) z.6 (record { clean = ih.clean; enough = omega (arith, ih.enough, legible_le k z.0 z.3, legible_le v z.1 z.4) })
body_paid (text v ∷ ls) none b e = last_paid (legible v) v refl ls b e
body_paid (text v ∷ ls) (some k) b e = none_is_some b e
body_paid (event x ∷ ls) none b e = none_is_some b e
body_paid (event x ∷ ls) (some k) b e = none_is_some b e
body_paid (name x ∷ ls) none b e = none_is_some b e
body_paid (name x ∷ ls) (some k) b e = none_is_some b e
body_paid (junk ∷ ls) none b e = none_is_some b e
body_paid (junk ∷ ls) (some k) b e = none_is_some b e

-- ---- the limits

between_le : (a b : ℕ) (v : List ℕ) → between a b v ≡ true → length v ≤ b
unfolding between
between_le a b v e = leb→le (length v) b (T_of (leb (length v) b) (and_right (leb a (length v)) (leb (length v) b) e))

cost_le : (as₁ : List Attribute) → attributes_fit limits01 as₁ ≡ true → cost as₁ ≤ length as₁ * 2188
unfolding attributes_fit cost
cost_le [] e = omega arith
cost_le (a ∷ as₁) e = go (between 1 64 a.key && between 0 1024 a.value) refl (cost_le as₁)
  where
    go : (p : Bool) → (between 1 64 a.key && between 0 1024 a.value) ≡ p → (attributes_fit limits01 as₁ ≡ true → cost as₁ ≤ length as₁ * 2188)
        → 12 + (length a.key + length a.key) + (length a.value + length a.value) + cost as₁ ≤ suc (length as₁) * 2188
    go true q ih =
        omega (
          arith,
          ih (rw (q, attributes_fit) at e),
          between_le 1 64 a.key (and_left (between 1 64 a.key) (between 0 1024 a.value) q),
          between_le 0 1024 a.value (and_right (between 1 64 a.key) (between 0 1024 a.value) q),
        )
    go false q ih = true_is_false (sym (rw (q, attributes_fit) at e))

text_le : (x : Option (List ℕ)) → text_fits limits01 x ≡ true → text_cost x ≤ 8198
unfolding text_fits text_cost
text_le none e = omega arith
text_le (some v) e = omega (arith, between_le 0 4096 v e)

-- The kinds' words have at most five bytes.
kind_le : (k : List ℕ) (e : Event) → kind_fits (place_in kind_names k) e ≡ true → length k ≤ 5
unfolding kind_names str place_in kind_fits
kind_le k e f = go (same (str "open") k) (same (str "empty") k) (same (str "whole") k) (same (str "end") k) refl refl refl refl
  where
    of : (w : List ℕ) → same w k ≡ true → length w ≤ 5 → length k ≤ 5
    of w q h = subst (λ (x : List ℕ). length x ≤ 5) (same_eq w k q) h

    go : (a b c d : Bool) → same (str "open") k ≡ a → same (str "empty") k ≡ b → same (str "whole") k ≡ c → same (str "end") k ≡ d → length k ≤ 5
    go true b c d p q r s = of (str "open") p (omega arith)
    go false true c d p q r s = of (str "empty") q (omega arith)
    go false false true d p q r s = of (str "whole") r (omega arith)
    go false false false true p q r s = of (str "end") s (omega arith)
    go false false false false p q r s = true_is_false (sym (rw (p, place_in, q, place_in, r, place_in, s, place_in) at f))

-- ---- the event

record Within (w : Event) : Type 0 where
  kind : kind_fits w.kind w ≡ true
  name : length w.name ≤ 64
  rest : cost w.attributes + text_cost w.text ≤ 43206

within : (w : Event) → in_form limits01 w ≡ true → Within w
unfolding in_form
within w f =
    let a : Bool = kind_fits w.kind w in
    let b : Bool = between 1 64 w.name in
    let c : Bool = leb (length w.attributes) 16 in
    let d : Bool = attributes_fit limits01 w.attributes in
    let e : Bool = text_fits limits01 w.text in
    let f₁ : (a && b && c && d) ≡ true = and_left (a && b && c && d) e f in
    let f₂ : (a && b && c) ≡ true = and_left (a && b && c) d f₁ in
    let f₃ : (a && b) ≡ true = and_left (a && b) c f₂ in
    record {
      kind = and_left a b f₃;
      name = between_le 1 64 w.name (and_right a b f₃);
      rest =
          omega (
            arith,
            leb→le (length w.attributes) 16 (T_of c (and_right (a && b) c f₂)),
            cost_le w.attributes (and_right (a && b && c) d f₁),
            text_le w.text (and_right (a && b && c && d) e f),
          );
    }

record Short (ls : List Line) : Type 0 where
  clean : no_junk ls ≡ true
  enough : paid ls ≤ 43352

lines_short : (k n : List ℕ) (ls : List Line) (e : Event) → named_event (place_in kind_names k) (name n ∷ ls) ≡ some e → in_form limits01 e ≡ true → Short (event k ∷ name n ∷ ls)
unfolding named_event no_junk is_junk paid written
lines_short k n ls e q f =
    let z = with_split (place_in kind_names k) (legible n) (body_of none ls) e q in
    let b : Body = z.1 in
    let w : Event = record { kind = place_in kind_names k; name = z.0; attributes = b.attributes; text = b.text } in
    let i : Within w = within w (subst (λ (x : Event). in_form limits01 x ≡ true) (sym z.4) f) in
    let p : Paid none ls b = body_paid ls none b z.3 in
    record { clean = p.clean; enough = omega (arith, kind_le k w i.kind, legible_le n z.0 z.2, i.name, p.enough, i.rest) }

event_short : (ls : List Line) (e : Event) → event_of_lines ls ≡ some e → in_form limits01 e ≡ true → Short ls
unfolding event_of_lines named_event
event_short [] e q f = none_is_some e q
event_short (event k ∷ []) e q f = none_is_some e q
event_short (event k ∷ name n ∷ ls) e q f = lines_short k n ls e q f
event_short (event k ∷ event x ∷ ls) e q f = none_is_some e q
event_short (event k ∷ key x ∷ ls) e q f = none_is_some e q
event_short (event k ∷ value x ∷ ls) e q f = none_is_some e q
event_short (event k ∷ text x ∷ ls) e q f = none_is_some e q
event_short (event k ∷ junk ∷ ls) e q f = none_is_some e q
event_short (name x ∷ ls) e q f = none_is_some e q
event_short (key x ∷ ls) e q f = none_is_some e q
event_short (value x ∷ ls) e q f = none_is_some e q
event_short (text x ∷ ls) e q f = none_is_some e q
event_short (junk ∷ ls) e q f = none_is_some e q

nil_length : (t : List ℕ) → is_nil t ≡ true → length t ≡ 0
unfolding is_nil
nil_length [] e = refl
nil_length (b ∷ bs) e = true_is_false (sym e)

-- THE LAW: "event lines 49,152 bytes" follows from the other limits.
pub event_length_lem : (raw : List ℕ) (e : Event) → read_event raw ≡ some e → in_form limits01 e ≡ true → length raw ≤ 43352
unfolding read_event lines_of
event_length_lem raw e q f = go (is_nil (tail_from [] raw)) refl
  where
    go : (b : Bool) → is_nil (tail_from [] raw) ≡ b → length raw ≤ 43352
    go true p =
        let s : Short (map line_of (lines_from [] raw)) = event_short (map line_of (lines_from [] raw)) e (rw (p, read_event) at q) f in
        omega (arith, lines_total [] raw, total_paid (lines_from [] raw) s.clean, nil_length (tail_from [] raw) p, s.enough)
    go false p = none_is_some e (rw (p, read_event) at q)
