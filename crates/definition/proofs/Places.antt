-- Words, names and cells lie where they say.
use Prim.Native.Nat.{ℕ, zero, suc, ◌+◌, ◌≤◌}
use mathlib.Core.Path.{◌≡◌, refl, ap}
use mathlib.Core.Bool.{Bool, true, false}
use mathlib.Core.List.{List, [], ◌∷◌, ◌++◌, append_assoc}
use lib.ListN.{length, drop, length-append, length-drop}
use lib.Seq.{drop-drop, drop-append_seam, take-append_seam, take-append-le, drop-append-le}
use native.Mathlib.Omega.{arith}
use native.Mathlib.Nat.{add-suc}
use native.Mathlib.Numerals.{add-one}
use Rattle.definition.specs.Text.{Span, bytes_at, is_separator, Piece, emit, pieces, state_words_at}
use Rattle.definition.specs.Elements.{Role, name, names, masked, plain, role_of}
use Rattle.definition.specs.Rows.{text_from}
use Rattle.definition.specs.Look.{Load, payload, span_of, own_name, word_names, names_from, names_brought}
use Rattle.definition.proofs.Base.{All, All-append}

-- ---- cells

pub bytes_at-append : (t x : List ℕ) (sp : Span) → sp.off + sp.len ≤ length t → bytes_at (t ++ x) sp ≡ bytes_at t sp
unfolding bytes_at
bytes_at-append t x sp k = rw (drop-append-le sp.off t x (omega arith), take-append-le sp.len (drop sp.off t) x (rw length-drop (omega arith)))

-- A cell lies inside a text of n bytes.
abbrev pub Fits : ℕ → ℕ → ℕ → Type 0
Fits n zero k = Unit {0}
Fits n (suc i) k = i + k ≤ n

pub fits_grow : (n m i k : ℕ) → n ≤ m → Fits n i k → Fits m i k
fits_grow n m zero k l h = tt
fits_grow n m (suc i) k l h = omega arith

pub text_from-append : (t x : List ℕ) (i k : ℕ) → Fits (length t) i k → text_from (t ++ x) i k ≡ text_from t i k
unfolding text_from
text_from-append t x zero k h = refl
text_from-append t x (suc i) k h = bytes_at-append t x (record { off = i; len = k }) h

-- What stands at o, after a value.
pub past : (t : List ℕ) (o : ℕ) (v x : List ℕ) → o ≤ length t → drop o t ≡ v ++ x → o + length v ≤ length t
past t o v x k h = omega (arith, ap length h, length-drop o t, length-append v x)

-- ---- the pieces that a text falls into

-- A step at a byte that parts no words, and at one that does.
pub pieces_in_lem : (f : ℕ → Bool) (s : ℕ) (w : List ℕ) (b : ℕ) (bs : List ℕ) → f b ≡ false → pieces f s w (b ∷ bs) ≡ pieces f s (w ++ b ∷ []) bs
unfolding pieces
pieces_in_lem f s w b bs e = rw (e, pieces)

pub pieces_sep : (f : ℕ → Bool) (s : ℕ) (w : List ℕ) (b : ℕ) (bs : List ℕ) → f b ≡ true → pieces f s w (b ∷ bs) ≡ emit s w ++ pieces f (suc (s + length w)) [] bs
unfolding pieces
pieces_sep f s w b bs e = rw (e, pieces)

-- A piece lies where it says, in the text t.
pub record Located (t : List ℕ) (p : Piece) : Type 0 where
  pub fits : p.off + length p.word ≤ length t
  pub bytes : bytes_at t (span_of p) ≡ p.word

pub drop_past : (t : List ℕ) (s : ℕ) (w x : List ℕ) → drop s t ≡ w ++ x → drop (s + length w) t ≡ x
drop_past t s w x h = rw (← drop-drop (length w) s t, h, drop-append_seam)

pub located_at : (t : List ℕ) (s : ℕ) (w x : List ℕ) → s ≤ length t → drop s t ≡ w ++ x → Located t (record { off = s; word = w })
unfolding bytes_at span_of
located_at t s w x k h = record { fits = omega (arith, ap length h, length-drop s t, length-append w x); bytes = rw (h, take-append_seam) }

emit_located : (t : List ℕ) (s : ℕ) (w x : List ℕ) → drop s t ≡ w ++ x → All (Located t) (emit s w)
unfolding emit
emit_located t s [] x h = tt
emit_located t s (b ∷ w) x h = (located_at t s (b ∷ w) x (omega (arith, ap length h, length-drop s t)) h, tt)

-- EACH PIECE LIES WHERE IT SAYS
pub pieces_located : (f : ℕ → Bool) (t : List ℕ) (s : ℕ) (w v x : List ℕ) → drop s t ≡ w ++ (v ++ x) → All (Located t) (pieces f s w v)
unfolding pieces
pieces_located f t s w [] x h = emit_located t s w x h
pieces_located f t s w (b ∷ bs) x h = go (f b) refl (λ s' w' h'. pieces_located f t s' w' bs x h')
  where
    snoc : drop s t ≡ (w ++ b ∷ []) ++ (bs ++ x)
    snoc = rw append_assoc h

    go : (c : Bool) → f b ≡ c → ((s' : ℕ) (w' : List ℕ) → drop s' t ≡ w' ++ (bs ++ x) → All (Located t) (pieces f s' w' bs))
        → All (Located t) (pieces f s w (b ∷ bs))
    go true e ih =
        rw (pieces_sep f s w b bs e)
        (All-append (Located t) (emit s w) _ (emit_located t s w (b ∷ bs ++ x) h)
        (ih (suc (s + length w)) [] (rw (length-append, add-one, add-suc) at (drop_past t s (w ++ b ∷ []) (bs ++ x) snoc))))
    go false e ih = rw (pieces_in_lem f s w b bs e) (ih s (w ++ b ∷ []) snoc)

-- ---- the names that an event brings, in a text that holds the payload from o on

own_located : (t : List ℕ) (q : Role) (o : ℕ) (v x : List ℕ) → o ≤ length t → drop o t ≡ v ++ x → All (Located t) (own_name q o v)
unfolding own_name
own_located t name o v x k h = (located_at t o v x k h, tt)
own_located t names o v x k h = tt
own_located t masked o v x k h = tt
own_located t plain o v x k h = tt

words_located : (t : List ℕ) (q : Role) (o : ℕ) (v x : List ℕ) → o ≤ length t → drop o t ≡ v ++ x → All (Located t) (word_names q o v)
unfolding word_names state_words_at
words_located t name o v x k h = tt
words_located t names o v x k h = pieces_located is_separator t o [] v x h
words_located t masked o v x k h = tt
words_located t plain o v x k h = tt

from_located : (t : List ℕ) (f : Role → ℕ → List ℕ → List Piece)
    → ((q : Role) (o : ℕ) (v x : List ℕ) → o ≤ length t → drop o t ≡ v ++ x → All (Located t) (f q o v))
    → (g o : ℕ) (is : List Load) (x : List ℕ) → o ≤ length t → drop o t ≡ payload is ++ x → All (Located t) (names_from f g o is)
unfolding names_from payload
from_located t f F g o [] x k h = tt
from_located t f F g o (i ∷ is) x k h =
    let h₁ : drop o t ≡ i.bytes ++ (payload is ++ x) = rw append_assoc at h in
    All-append (Located t) (f (role_of g i.key) o i.bytes) _ (F (role_of g i.key) o i.bytes (payload is ++ x) k h₁)
    (from_located t f F g (o + length i.bytes) is x (past t o i.bytes (payload is ++ x) k h₁) (drop_past t o i.bytes (payload is ++ x) h₁))

pub brought_located : (t : List ℕ) (g o : ℕ) (is : List Load) (x : List ℕ) → o ≤ length t → drop o t ≡ payload is ++ x → All (Located t) (names_brought g o is)
unfolding names_brought
brought_located t g o is x k h =
    All-append (Located t) (names_from own_name g o is) _ (from_located t own_name (own_located t) g o is x k h)
    (from_located t word_names (words_located t) g o is x k h)
