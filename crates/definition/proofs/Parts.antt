-- The words of a plain value and its trimmed part lie inside it.
use Prim.Native.Nat.{ℕ, suc, ◌+◌, ◌≤◌}
use mathlib.Core.Path.{◌≡◌, refl, sym}
use mathlib.Core.Bool.{Bool, true, false, ◌&&◌}
use mathlib.Core.List.{List, [], ◌∷◌, ◌++◌, map, reverse, append-nil}
use lib.ListN.{length, drop, length-drop, length-reverse}
use lib.Dec.{eqb}
use lib.Seq.{drop-drop}
use native.Mathlib.Omega.{arith}
use Rattle.definition.specs.Text.{Span, bytes_at, is_space, Piece, words_by, strip_last, stripped, stripped_piece, event_words, state_words, leading, body_length, trim}
use Rattle.definition.specs.Elements.{key}
use Rattle.definition.specs.Look.{span_of, is_events, is_namelist, word_spans}
use Rattle.definition.proofs.Base.{All}
use Rattle.definition.proofs.Places.{bytes_at-append, Located, pieces_located}

abbrev pub Inside : List ℕ → Span → Type 0
Inside v sp = sp.off + sp.len ≤ length v

-- ---- trimming

leading_le : (v : List ℕ) → leading v ≤ length v
unfolding leading
leading_le [] = omega arith
leading_le (b ∷ bs) = go (is_space b) refl (leading_le bs)
  where
    go : (c : Bool) → is_space b ≡ c → leading bs ≤ length bs → leading (b ∷ bs) ≤ suc (length bs)
    go true e h = rw (e, leading) (omega arith)
    go false e h = rw (e, leading) (omega arith)

body_le : (v : List ℕ) → body_length v ≤ length v
unfolding body_length
body_le [] = omega arith
body_le (b ∷ bs) = go (is_space b && eqb (body_length bs) 0) refl (body_le bs)
  where
    go : (c : Bool) → (is_space b && eqb (body_length bs) 0) ≡ c → body_length bs ≤ length bs → body_length (b ∷ bs) ≤ suc (length bs)
    go true e h = rw (e, body_length) (omega arith)
    go false e h = rw (e, body_length) (omega arith)

trim_inside : (v : List ℕ) → Inside v (trim v)
unfolding trim
trim_inside v = omega (arith, leading_le v, body_le (drop (leading v) v), length-drop (leading v) v)

-- ---- words

pick_le : (p : Bool) (x y : List ℕ) (n : ℕ) → length x ≤ n → length y ≤ n → length {A = ℕ} (elim p as (λ z. List ℕ) [ true ↦ x | false ↦ y ]) ≤ n
pick_le true x y n h k = h
pick_le false x y n h k = k

-- However often it is stripped.
strip_le : (w : List ℕ) → length (strip_last w) ≤ length w
unfolding strip_last
strip_le [] = omega arith
strip_le (b ∷ []) = pick_le (eqb b 46) _ _ 1 (omega arith) (omega arith)
strip_le (b ∷ c ∷ r) =
    let h : length (strip_last (c ∷ r)) ≤ suc (length r) = strip_le (c ∷ r) in
    let k : length (strip_last r) ≤ length r = strip_le r in
    pick_le (eqb b 46) _ _ (suc (suc (length r))) (omega (arith, h)) (pick_le (eqb b 42 && eqb c 46) _ _ (suc (suc (length r))) (omega (arith, k)) (omega arith))

stripped_le : (w : List ℕ) → length (stripped w) ≤ length w
unfolding stripped
stripped_le w = rw (length-reverse (strip_last (reverse w))) (omega (arith, strip_le (reverse w), length-reverse w))

pieces_inside : (v : List ℕ) (ps : List Piece) → All (Located v) ps → All (Inside v) (map span_of ps)
unfolding span_of
pieces_inside v [] a = tt
pieces_inside v (p ∷ ps) a = (a.0.fits, pieces_inside v ps a.1)

stripped_inside : (v : List ℕ) (ps : List Piece) → All (Located v) ps → All (Inside v) (map span_of (map stripped_piece ps))
unfolding span_of stripped_piece
stripped_inside v [] a = tt
stripped_inside v (p ∷ ps) a = (omega (arith, stripped_le p.word, a.0.fits), stripped_inside v ps a.1)

words_located : (f : ℕ → Bool) (v : List ℕ) → All (Located v) (words_by f v)
unfolding words_by
words_located f v = pieces_located f v 0 [] v [] (sym (append-nil v))

-- By whatever bytes words are parted.
events_inside : (v : List ℕ) → All (Inside v) (map span_of (event_words v))
unfolding event_words
events_inside v = stripped_inside v (words_by _ v) (words_located _ v)

states_inside : (v : List ℕ) → All (Inside v) (map span_of (state_words v))
unfolding state_words
states_inside v = pieces_inside v (words_by _ v) (words_located _ v)

-- ALL PARTS LIE INSIDE
pub parts_inside : (g k : ℕ) (v : List ℕ) → All (Inside v) (word_spans g k v)
unfolding word_spans
parts_inside g k v = go (is_events g k) (is_namelist g k) (eqb k key.text) refl refl refl
  where
    go : (p q r : Bool) → is_events g k ≡ p → is_namelist g k ≡ q → eqb k key.text ≡ r → All (Inside v) (word_spans g k v)
    go true q r e f h = rw (e, word_spans) (events_inside v)
    go false true r e f h = rw (e, word_spans, f, word_spans) (states_inside v)
    go false false true e f h = rw (e, word_spans, f, word_spans, h, word_spans) (trim_inside v, tt)
    go false false false e f h = rw (e, word_spans, f, word_spans, h, word_spans) tt

-- A part's bytes in any text that holds the value.
pub part_bytes : (t : List ℕ) (o : ℕ) (v x : List ℕ) → drop o t ≡ v ++ x → (sp : Span) → Inside v sp
    → bytes_at t (record { off = o + sp.off; len = sp.len }) ≡ bytes_at v sp
unfolding bytes_at
part_bytes t o v x h sp k = rw (← drop-drop sp.off o t, h) (bytes_at-append v x sp k)
