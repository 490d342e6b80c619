-- Parsing keeps the relation, in form or not.
use Prim.Native.Nat.{ℕ}
use mathlib.Core.Path.{◌≡◌, refl, sym, ◌∙◌, subst, subst₂}
use mathlib.Core.Bool.{Bool, true, false}
use mathlib.Core.Option.{Option, none, some}
use mathlib.Core.List.{List, [], ◌∷◌, ◌++◌, map, append-nil}
use Rattle.definition.specs.Text.{str, all_allowed, place_in}
use Rattle.definition.specs.Elements.{role_of, tag_of, key_of}
use Rattle.definition.specs.Event as E
use Rattle.definition.specs.Event.{Line, line_of, lines_from, tail_from, is_nil, lines_of, unescape_from, if_allowed, legible, Body, with_pair, last_text, body_of, event_with, named_event, event_of_lines, kind_names, read_event}
use Rattle.renaming.specs.Renaming.{Renaming, Moved, ValueRel, LinesRel, last_line, all_lines, tag_written, key_written, element_in, key_before, is_free}
use Rattle.definition.proofs.Base.{true_is_false, none_is_some, some_inj}
use Rattle.renaming.proofs.OnAllowed.{on_allowed, total, moved_allowed}
use Rattle.renaming.proofs.Loads.{TextAllowed, AttributesRel, EventRel}

-- Both are out of form, or both in form and related.
pub data OptRel {A : Type 0} (P : A → A → Type 0) : Option A → Option A → Type 0 where
  neither : OptRel P none none
  both : {a b : A} → P a b → OptRel P (some a) (some b)

-- What is legible has bytes to 127.
allowed_if : (o : Option (List ℕ)) (x : List ℕ) → if_allowed o ≡ some x → all_allowed x ≡ true
unfolding if_allowed
allowed_if none x e = none_is_some x e
allowed_if (some v) x e = go (all_allowed v) refl
  where
    go : (c : Bool) → all_allowed v ≡ c → all_allowed x ≡ true
    go true q = subst (λ (l : List ℕ). all_allowed l ≡ true) (some_inj v v x (rw (q, if_allowed) at e)) q
    go false q = none_is_some x (rw (q, if_allowed) at e)

pub legible_allowed : (v x : List ℕ) → legible v ≡ some x → all_allowed x ≡ true
unfolding legible
legible_allowed v x e = allowed_if (unescape_from false v) x e

text_allowed : (v : List ℕ) (o : Option (List ℕ)) → legible v ≡ o → TextAllowed o
text_allowed v none e = tt
text_allowed v (some x) e = legible_allowed v x e

nil_eq : (x : List ℕ) → is_nil x ≡ true → last_line x ≡ []
unfolding is_nil last_line
nil_eq [] e = refl
nil_eq (b ∷ bs) e = true_is_false (sym e)

all_ended : (c : List ℕ) → is_nil (tail_from [] c) ≡ true → all_lines c ≡ lines_from [] c
unfolding all_lines
all_ended c e = rw (nil_eq (tail_from [] c) e) (append-nil (lines_from [] c))

value_line : (v : List ℕ) → line_of (str "value=" ++ v) ≡ E.value v
unfolding line_of str
value_line v = refl

key_of_lem : (k x : List ℕ) → legible k ≡ some x → key_written k ≡ key_of x
unfolding key_written
key_of_lem k x e = rw (e, key_written)

tag_of_lem : (n x : List ℕ) → legible n ≡ some x → tag_written n ≡ tag_of x
unfolding tag_written
tag_of_lem n x e = rw (e, tag_written)

module _ (ρ : List ℕ → List ℕ) (R : Renaming ρ) where
  -- The same, of decoded lines.
  data KindsRel (g : ℕ) : Option (List ℕ) → List Line → List Line → Type 0 where
    done : {p : Option (List ℕ)} → KindsRel g p [] []
    kept : {p : Option (List ℕ)} (q : Line) {ls ms : List Line} → is_free p q ≡ true → KindsRel g (key_before q) ls ms → KindsRel g p (q ∷ ls) (q ∷ ms)
    moved : {k : List ℕ} (v w : List ℕ) {ls ms : List Line} → ValueRel ρ (role_of g (key_written k)) v w → KindsRel g none ls ms
        → KindsRel g (some k) (E.value v ∷ ls) (E.value w ∷ ms)

  kinds : {g : ℕ} {p : Option (List ℕ)} {ls ms : List (List ℕ)} → LinesRel ρ g p ls ms → KindsRel g p (map line_of ls) (map line_of ms)
  kinds LinesRel.done = KindsRel.done
  kinds (LinesRel.kept l f h) = KindsRel.kept (line_of l) f (kinds h)
  kinds (LinesRel.moved v w m h) = rw (value_line v, value_line w) (KindsRel.moved v w m (kinds h))

  record BodyRel (g : ℕ) (a b : Body) : Type 0 where
    attributes : AttributesRel (on_allowed ρ) (total ρ R) g a.attributes b.attributes
    text : b.text ≡ a.text
    allowed : TextAllowed a.text

  -- ---- the form

  pair_same : (g : ℕ) (k x y : List ℕ) → all_allowed x ≡ true → Moved (on_allowed ρ) (role_of g (key_of k)) x y → {a b : Option Body} → OptRel (BodyRel g) a b
      → OptRel (BodyRel g) (with_pair (some k) (some x) a) (with_pair (some k) (some y) b)
  unfolding with_pair
  pair_same g k x y l m OptRel.neither = OptRel.neither
  pair_same g k x y l m (OptRel.both h) = OptRel.both (record { attributes = AttributesRel.more (record { key = refl; value = m; allowed = l }) h.attributes; text = h.text; allowed = h.allowed })

  no_value : (g : ℕ) (k : Option (List ℕ)) (a b : Option Body) → OptRel (BodyRel g) (with_pair k none a) (with_pair k none b)
  unfolding with_pair
  no_value g none a b = OptRel.neither
  no_value g (some k) a b = OptRel.neither

  pair_key : (g : ℕ) (k : List ℕ) (o : Option (List ℕ)) → legible k ≡ o → (v w x y : List ℕ) → legible v ≡ some x → Moved ρ (role_of g (key_written k)) x y
      → {a b : Option Body} → OptRel (BodyRel g) a b → OptRel (BodyRel g) (with_pair o (some x) a) (with_pair o (some y) b)
  unfolding with_pair
  pair_key g k none q v w x y f m h = OptRel.neither
  pair_key g k (some z) q v w x y f m h =
      pair_same g z x y (legible_allowed v x f) (moved_allowed ρ R (role_of g (key_of z)) x y (legible_allowed v x f) (subst (λ (n : ℕ). Moved ρ (role_of g n) x y) (key_of_lem k z q) m)) h

  pair-ρ : (g : ℕ) (k v w : List ℕ) → ValueRel ρ (role_of g (key_written k)) v w → {a b : Option Body} → OptRel (BodyRel g) a b
      → OptRel (BodyRel g) (with_pair (legible k) (legible v) a) (with_pair (legible k) (legible w) b)
  pair-ρ g k v w (ValueRel.illegible n q) {a} {b} h = rw (q, n) (no_value g (legible k) a b)
  pair-ρ g k v w (ValueRel.legibly x y f e m) h = rw (f, e) (pair_key g k (legible k) refl v w x y f m h)

  last-ρ : (g : ℕ) (x : Option (List ℕ)) → TextAllowed x → {p : Option (List ℕ)} {ls ms : List Line} → KindsRel g p ls ms
      → OptRel (BodyRel g) (last_text x ls) (last_text x ms)
  unfolding last_text
  last-ρ g none l h = OptRel.neither
  last-ρ g (some v) l KindsRel.done = OptRel.both (record { attributes = AttributesRel.stop; text = refl; allowed = l })
  last-ρ g (some v) l (KindsRel.kept q f h) = OptRel.neither
  last-ρ g (some v) l (KindsRel.moved a b m h) = OptRel.neither

  body-ρ : (g : ℕ) {p : Option (List ℕ)} {ls ms : List Line} → KindsRel g p ls ms → OptRel (BodyRel g) (body_of p ls) (body_of p ms)
  unfolding body_of key_before is_free
  body-ρ g {p = none} KindsRel.done = OptRel.both (record { attributes = AttributesRel.stop; text = refl; allowed = tt })
  body-ρ g {p = some k} KindsRel.done = OptRel.neither
  body-ρ g {p = none} (KindsRel.kept (E.key k) f h) = body-ρ g h
  body-ρ g {p = some j} (KindsRel.kept (E.key k) f h) = OptRel.neither
  body-ρ g {p = none} (KindsRel.kept (E.value v) f h) = OptRel.neither
  body-ρ g {p = some k} (KindsRel.kept (E.value v) f h) = true_is_false (sym f)
  body-ρ g {p = none} (KindsRel.kept (E.text v) f h) = last-ρ g (legible v) (text_allowed v (legible v) refl) h
  body-ρ g {p = some k} (KindsRel.kept (E.text v) f h) = OptRel.neither
  body-ρ g (KindsRel.kept (E.event x) f h) = OptRel.neither
  body-ρ g (KindsRel.kept (E.name x) f h) = OptRel.neither
  body-ρ g (KindsRel.kept E.junk f h) = OptRel.neither
  body-ρ g (KindsRel.moved {k = k} v w m h) = pair-ρ g k v w m (body-ρ g h)

  with-ρ : (k : ℕ) (n : List ℕ) {a b : Option Body} → OptRel (BodyRel (tag_of n)) a b
      → OptRel (EventRel (on_allowed ρ) (total ρ R)) (event_with k (some n) a) (event_with k (some n) b)
  unfolding event_with
  with-ρ k n OptRel.neither = OptRel.neither
  with-ρ k n (OptRel.both h) = OptRel.both (record { kind = refl; name = refl; attributes = h.attributes; text = h.text; allowed = h.allowed })

  name-ρ : (k : ℕ) (n : List ℕ) (o : Option (List ℕ)) → legible n ≡ o → {a b : Option Body} → OptRel (BodyRel (tag_written n)) a b
      → OptRel (EventRel (on_allowed ρ) (total ρ R)) (event_with k o a) (event_with k o b)
  unfolding event_with
  name-ρ k n none q h = OptRel.neither
  name-ρ k n (some x) q {a} {b} h = with-ρ k x (subst (λ (g : ℕ). OptRel (BodyRel g) a b) (tag_of_lem n x q) h)

  named-ρ : (g k : ℕ) {p : Option (List ℕ)} {ls ms : List Line} → g ≡ element_in ls → KindsRel g p ls ms
      → OptRel (EventRel (on_allowed ρ) (total ρ R)) (named_event k ls) (named_event k ms)
  unfolding named_event element_in key_before
  named-ρ g k q KindsRel.done = OptRel.neither
  named-ρ g k q (KindsRel.kept (E.name n) {ls = ls} {ms = ms} f h) =
      name-ρ k n (legible n) refl (subst (λ (x : ℕ). OptRel (BodyRel x) (body_of none ls) (body_of none ms)) q (body-ρ g h))
  named-ρ g k q (KindsRel.kept (E.event x) f h) = OptRel.neither
  named-ρ g k q (KindsRel.kept (E.key x) f h) = OptRel.neither
  named-ρ g k q (KindsRel.kept (E.value x) f h) = OptRel.neither
  named-ρ g k q (KindsRel.kept (E.text x) f h) = OptRel.neither
  named-ρ g k q (KindsRel.kept E.junk f h) = OptRel.neither
  named-ρ g k q (KindsRel.moved v w m h) = OptRel.neither

  event-ρ : (g : ℕ) {p : Option (List ℕ)} {ls ms : List Line} → g ≡ element_in ls → KindsRel g p ls ms
      → OptRel (EventRel (on_allowed ρ) (total ρ R)) (event_of_lines ls) (event_of_lines ms)
  unfolding event_of_lines element_in key_before
  event-ρ g q KindsRel.done = OptRel.neither
  event-ρ g q (KindsRel.kept (E.event x) f h) = named-ρ g (place_in kind_names x) q h
  event-ρ g q (KindsRel.kept (E.name x) f h) = OptRel.neither
  event-ρ g q (KindsRel.kept (E.key x) f h) = OptRel.neither
  event-ρ g q (KindsRel.kept (E.value x) f h) = OptRel.neither
  event-ρ g q (KindsRel.kept (E.text x) f h) = OptRel.neither
  event-ρ g q (KindsRel.kept E.junk f h) = OptRel.neither
  event-ρ g q (KindsRel.moved v w m h) = OptRel.neither

  -- PARSING KEEPS THE RELATION
  pub read-ρ : (c d : List ℕ) → LinesRel ρ (element_in (map line_of (all_lines c))) none (all_lines c) (all_lines d) → is_nil (tail_from [] d) ≡ is_nil (tail_from [] c)
      → OptRel (EventRel (on_allowed ρ) (total ρ R)) (read_event c) (read_event d)
  unfolding read_event lines_of
  read-ρ c d h q = go (is_nil (tail_from [] c)) refl
    where
      go : (b : Bool) → is_nil (tail_from [] c) ≡ b → OptRel (EventRel (on_allowed ρ) (total ρ R)) (read_event c) (read_event d)
      go true e =
          rw (e, read_event, q ∙ e, read_event)
          (event-ρ (element_in (map line_of (lines_from [] c))) refl
          (kinds (subst₂ (λ (x y : List (List ℕ)). LinesRel ρ (element_in (map line_of x)) none x y) (all_ended c e) (all_ended d (q ∙ e)) h)))
      go false e = rw (e, read_event, q ∙ e, read_event) OptRel.neither
