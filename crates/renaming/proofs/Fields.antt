-- Stage 1 over the loads of an event and of its partner: the same fields, in places that hold the texts in both; the names renamed, at the same places.
use Prim.Native.Nat.{ℕ, suc, ◌+◌, ◌≤◌}
use mathlib.Core.Path.{◌≡◌, refl, sym, ap, ap₂, ◌∙◌, subst, subst₂}
use mathlib.Core.List.{List, [], ◌∷◌, ◌++◌, map, map-append, append_assoc}
use lib.ListN.{length, drop, length-append}
use native.Mathlib.Omega.{arith}
use Rattle.definition.specs.Text.{Span, bytes_at, no_separator, Piece, state_words_at}
use Rattle.definition.specs.Elements.{Role, name, names, masked, plain, role_of}
use Rattle.definition.specs.Shapes.{same_role}
use Rattle.definition.specs.Rows.{text_from, text_at}
use Rattle.definition.specs.Look.{Load, payload, Field, shift, word_spans, words_by_role, field_by, fields_from, span_of, own_name, word_names, names_from, names_brought}
use Rattle.renaming.specs.Renaming.{Moved}
use Rattle.definition.proofs.Base.{All}
use Rattle.definition.proofs.Roles.{field_by_length}
use Rattle.definition.proofs.Places.{Located, brought_located, drop_past, located_at, past}
use Rattle.renaming.proofs.Words.{Total, rename_piece, pieces-ρ}
use Rattle.renaming.proofs.Names.{Held, Both}
use Rattle.definition.proofs.Parts.{Inside, parts_inside, part_bytes}
use Rattle.renaming.proofs.Loads.{moved_length, LoadRel, LoadsRel}

module _ (ρ : List ℕ → List ℕ) (R : Total ρ) where
  load_length : (g : ℕ) {i j : Load} → LoadRel ρ R g i j → length j.bytes ≡ length i.bytes
  load_length g {i} {j} h = moved_length ρ R (role_of g i.key) i.bytes j.bytes h.bytes

  pub payload_length : (g : ℕ) {is js : List Load} → LoadsRel ρ R g is js → length (payload js) ≡ length (payload is)
  unfolding payload
  payload_length g LoadsRel.stop = refl
  payload_length g (LoadsRel.more {i = i} {j = j} {is = is} {js = js} h m) =
      omega (arith, length-append i.bytes (payload is), length-append j.bytes (payload js), load_length g h, payload_length g m)

  -- ---- the same numbers

  field-ρ : (q : Role) (g o : ℕ) (i j : Load) → j.key ≡ i.key → Moved ρ q i.bytes j.bytes → field_by q g o j ≡ field_by q g o i
  unfolding same_role field_by
  field-ρ name g o i j e m = field_by_length name refl g o i j e (moved_length ρ R name i.bytes j.bytes m)
  field-ρ names g o i j e m = field_by_length names refl g o i j e (moved_length ρ R names i.bytes j.bytes m)
  field-ρ masked g o i j e m = field_by_length masked refl g o i j e (moved_length ρ R masked i.bytes j.bytes m)
  field-ρ plain g o i j e m = rw (e, m)

  pub fields-ρ : (g o : ℕ) {is js : List Load} → LoadsRel ρ R g is js → fields_from g o js ≡ fields_from g o is
  unfolding fields_from
  fields-ρ g o LoadsRel.stop = refl
  fields-ρ g o (LoadsRel.more {i = i} {j = j} {is = is} {js = js} h m) =
      ap₂ ◌∷◌
      (ap (λ (k : ℕ). field_by (role_of g k) g o j) h.key ∙ field-ρ (role_of g i.key) g o i j h.key h.bytes)
      (ap (λ (n : ℕ). fields_from g (o + n) js) (load_length g h) ∙ fields-ρ g (o + length i.bytes) m)

  -- ---- the names

  own-ρ : (q : Role) (o : ℕ) (v w : List ℕ) → Moved ρ q v w → own_name q o w ≡ map (rename_piece ρ) (own_name q o v)
  unfolding own_name
  own-ρ name o v w m = rw m
  own-ρ names o v w m = refl
  own-ρ masked o v w m = refl
  own-ρ plain o v w m = refl

  words-ρ : (q : Role) (o : ℕ) (v w : List ℕ) → Moved ρ q v w → word_names q o w ≡ map (rename_piece ρ) (word_names q o v)
  unfolding word_names state_words_at no_separator
  words-ρ name o v w m = refl
  words-ρ names o v w m = rw m (pieces-ρ ρ R o [] v tt)
  words-ρ masked o v w m = refl
  words-ρ plain o v w m = refl

  from-ρ : (f : Role → ℕ → List ℕ → List Piece) → ((q : Role) (o : ℕ) (v w : List ℕ) → Moved ρ q v w → f q o w ≡ map (rename_piece ρ) (f q o v))
      → (g o : ℕ) {is js : List Load} → LoadsRel ρ R g is js → names_from f g o js ≡ map (rename_piece ρ) (names_from f g o is)
  unfolding names_from
  from-ρ f F g o LoadsRel.stop = refl
  from-ρ f F g o (LoadsRel.more {i = i} {j = j} {is = is} {js = js} h m) =
      ap₂ ◌++◌
      (ap (λ (k : ℕ). f (role_of g k) o j.bytes) h.key ∙ F (role_of g i.key) o i.bytes j.bytes h.bytes)
      (ap (λ (n : ℕ). names_from f g (o + n) js) (load_length g h) ∙ from-ρ f F g (o + length i.bytes) m)
      ∙ sym (map-append (rename_piece ρ) (f (role_of g i.key) o i.bytes) (names_from f g (o + length i.bytes) is))

  pub brought-ρ : (g o : ℕ) {is js : List Load} → LoadsRel ρ R g is js → names_brought g o js ≡ map (rename_piece ρ) (names_brought g o is)
  unfolding names_brought
  brought-ρ g o {is} {js} m =
      ap₂ ◌++◌ (from-ρ own_name own-ρ g o m) (from-ρ word_names words-ρ g o m)
      ∙ sym (map-append (rename_piece ρ) (names_from own_name g o is) (names_from word_names g o is))

  -- ---- in two texts that both hold the payload from o on

  module _ (t u : List ℕ) (size : length u ≡ length t) where
    pair_pieces : (ps : List Piece) → All (Located t) ps → All (Located u) (map (rename_piece ρ) ps) → All (Both ρ R t u) ps
    pair_pieces [] a b = tt
    pair_pieces (p ∷ ps) a b = (record { here = a.0; there = b.0 }, pair_pieces ps a.1 b.1)

    pub brought_both : (g o : ℕ) {is js : List Load} → LoadsRel ρ R g is js → (x y : List ℕ) → o ≤ length t
        → drop o t ≡ payload is ++ x → drop o u ≡ payload js ++ y → All (Both ρ R t u) (names_brought g o is)
    brought_both g o {is} {js} m x y k h h' =
        pair_pieces (names_brought g o is) (brought_located t g o is x k h)
        (subst (All (Located u)) (brought-ρ g o m) (brought_located u g o js y (omega arith) h'))

    -- What a field says lies in both texts.
    pub record FieldHeld (g : ℕ) (f : Field) : Type 0 where
      pub cell : Held ρ R t u (role_of g f.key) f.cell
      pub words : All (Held ρ R t u plain) f.words

    spans_held : (o : ℕ) (v x y : List ℕ) → o ≤ length t → drop o t ≡ v ++ x → drop o u ≡ v ++ y
        → (sps : List Span) → All (Inside v) sps → All (Held ρ R t u plain) (map (shift o) sps)
    unfolding shift text_at text_from
    spans_held o v x y k h h' [] a = tt
    spans_held o v x y k h h' (sp ∷ sps) a = (
      record {
        inside = omega (arith, past t o v x k h, a.0);
        moved = part_bytes u o v y h' sp a.0 ∙ sym (part_bytes t o v x h sp a.0);
      },
      spans_held o v x y k h h' sps a.1,
    )

    words_held : (q : Role) (g o k : ℕ) (v w x y : List ℕ) → o ≤ length t → drop o t ≡ v ++ x → drop o u ≡ w ++ y → Moved ρ q v w
        → All (Held ρ R t u plain) (words_by_role q g o k v)
    unfolding words_by_role
    words_held name g o k v w x y l h h' m = tt
    words_held names g o k v w x y l h h' m = tt
    words_held masked g o k v w x y l h h' m = tt
    words_held plain g o k v w x y l h h' m = spans_held o v x y l h (rw m at h') (word_spans g k v) (parts_inside g k v)

    cell_held : (q : Role) (o : ℕ) (v w x y : List ℕ) → o ≤ length t → drop o t ≡ v ++ x → drop o u ≡ w ++ y → Moved ρ q v w
        → Held ρ R t u q (record { at = suc o; len = length v })
    unfolding text_at text_from span_of
    cell_held q o v w x y l h h' m =
        let there : bytes_at u (record { off = o; len = length v }) ≡ w =
        subst (λ (n : ℕ). bytes_at u (record { off = o; len = n }) ≡ w) (moved_length ρ R q v w m) (located_at u o w y (omega arith) h').bytes in
        record { inside = past t o v x l h; moved = subst₂ (Moved ρ q) (sym (located_at t o v x l h).bytes) (sym there) m }

    -- EACH FIELD'S PLACES HOLD ITS TEXTS, in both
    pub fields_held : (g o : ℕ) {is js : List Load} → LoadsRel ρ R g is js → (x y : List ℕ) → o ≤ length t
        → drop o t ≡ payload is ++ x → drop o u ≡ payload js ++ y → All (FieldHeld g) (fields_from g o is)
    unfolding fields_from payload field_by
    fields_held g o LoadsRel.stop x y l h h' = tt
    fields_held g o (LoadsRel.more {i = i} {j = j} {is = is} {js = js} m ms) x y l h h' =
        let q : Role = role_of g i.key in
        let h₁ : drop o t ≡ i.bytes ++ (payload is ++ x) = rw append_assoc at h in
        let h₂ : drop o u ≡ j.bytes ++ (payload js ++ y) = rw append_assoc at h' in (
          record {
            cell = cell_held q o i.bytes j.bytes (payload is ++ x) (payload js ++ y) l h₁ h₂ m.bytes;
            words = words_held q g o i.key i.bytes j.bytes (payload is ++ x) (payload js ++ y) l h₁ h₂ m.bytes;
          },
          fields_held g (o + length i.bytes) ms x y (past t o i.bytes (payload is ++ x) l h₁) (drop_past t o i.bytes (payload is ++ x) h₁)
              (subst (λ (n : ℕ). drop (o + n) u ≡ payload js ++ y) (load_length g m) (drop_past u o j.bytes (payload js ++ y) h₂)),
        )
