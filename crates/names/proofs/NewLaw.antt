-- THE LAW OF COUNTING: the definition's `resolve`, in the text after the event, adds as many names as are counted in the value's own bytes.
use Prim.Native.Nat.{ℕ, suc, ◌+◌}
use mathlib.Core.Path.{◌≡◌, refl, sym, ap, ap₂, ◌∙◌}
use mathlib.Core.Bool.{Bool, true, false, ◌||◌}
use mathlib.Core.List.{List, [], ◌∷◌, ◌++◌, map}
use native.Mathlib.Omega.{arith}
use native.Mathlib.Nat.{add-zero}
use lib.Dec.{ltb}
use lib.ListN.{length, length-append}
use borrow.Author.Tests.{ltb-true, ltb-false, lt-ltb, le-ltb}
use Rattle.definition.specs.Text.{same, Piece, pieces, words_by, is_separator, state_words, state_words_at}
use Rattle.definition.specs.Rows.{Cell, text_at}
use Rattle.definition.specs.Look.{find_name, piece_cell, enter, resolve, one_if}
use Rattle.definition.proofs.Base.{All, same_refl, same_eq, or_no}
use Rattle.definition.proofs.Places.{text_from-append, Located}
use Rattle.definition.proofs.Finds.{find_hit, find_miss, cell_word}
use Rattle.text.proofs.Laws.{same_sym}
use Rattle.words.specs.Next.{moved}
use Rattle.words.proofs.Laws.{by, pieces_moved}
use Rattle.names.specs.Names.{Inside, occurs, is_known, new_if, new_in}
use Rattle.names.proofs.Laws.{occurs_here, occurs_later}

-- ---- one name more is known

known_here : (t : List ℕ) (c : Cell) (cs : List Cell) (w : List ℕ) → same (text_at t c) w ≡ true → is_known t (c ∷ cs) w ≡ true
unfolding is_known
known_here t c cs w e = lt-ltb (find_name t (c ∷ cs) w) (suc (length cs)) (omega (arith, find_hit t c cs w e))

known_past : (t : List ℕ) (c : Cell) (cs : List Cell) (w : List ℕ) → same (text_at t c) w ≡ false → is_known t (c ∷ cs) w ≡ is_known t cs w
unfolding is_known
known_past t c cs w e =
    by (ltb (find_name t cs w) (length cs))
    (λ h. lt-ltb (find_name t (c ∷ cs) w) (suc (length cs)) (omega (arith, ltb-true (find_name t cs w) (length cs) h, find_miss t c cs w e)) ∙ sym h)
    (λ h. le-ltb (find_name t (c ∷ cs) w) (suc (length cs)) (omega (arith, ltb-false (find_name t cs w) (length cs) h, find_miss t c cs w e)) ∙ sym h)

known_snoc : (t : List ℕ) (cs : List Cell) (c : Cell) (w : List ℕ) → is_known t (cs ++ c ∷ []) w ≡ (is_known t cs w || same (text_at t c) w)
known_snoc t [] c w =
    by (same (text_at t c) w) (λ e. known_here t c [] w e ∙ sym (ap (λ (b : Bool). is_known t [] w || b) e ∙ none)) (λ e. known_past t c [] w e ∙ sym (ap (λ (b : Bool). is_known t [] w || b) e ∙ or_no (is_known t [] w)))
  where
    none : (is_known t [] w || true) ≡ true
    none = by (is_known t [] w) (λ e. rw e) (λ e. rw e)
known_snoc t (d ∷ cs) c w =
    by (same (text_at t d) w)
    (λ e. known_here t d (cs ++ c ∷ []) w e ∙ ap (λ (b : Bool). b || same (text_at t c) w) (sym (known_here t d cs w e)))
    (λ e. known_past t d (cs ++ c ∷ []) w e ∙ known_snoc t cs c w ∙ ap (λ (b : Bool). b || same (text_at t c) w) (sym (known_past t d cs w e)))

-- ---- a name that is counted

module _ (t : List ℕ) (cs : List Cell) (w : List ℕ) (ps : List Piece) where
  one_known : is_known t cs w ≡ true → new_if (is_known t cs w) w ps ≡ 0
  unfolding new_if
  one_known e = rw (e, new_if)

  one_new : is_known t cs w ≡ false → new_if (is_known t cs w) w ps + one_if (occurs w ps) ≡ 1
  unfolding new_if one_if
  one_new e = by (occurs w ps) (λ f. rw (e, new_if, f, new_if)) (λ f. rw (e, new_if, f, new_if))

  one_alike : (ds : List Cell) → is_known t ds w ≡ is_known t cs w → new_if (is_known t ds w) w ps ≡ new_if (is_known t cs w) w ps
  unfolding new_if
  one_alike ds e = rw (e, new_if)

-- With a name more known, the words have one new name less, if they have it at all.
module _ (t : List ℕ) (cs : List Cell) (c : Cell) (w : List ℕ) (new : is_known t cs w ≡ false) (spelled : text_at t c ≡ w) where
  abbrev ds : List Cell
  ds = cs ++ c ∷ []

  known_then : (x : List ℕ) → is_known t ds x ≡ (is_known t cs x || same w x)
  known_then x = known_snoc t cs c x ∙ ap (λ (y : List ℕ). is_known t cs x || same y x) spelled

  less : (ps : List Piece) → new_in t cs ps ≡ new_in t ds ps + one_if (occurs w ps)
  unfolding new_in occurs one_if
  less [] = refl
  less (p ∷ ps) =
      let x : List ℕ = p.word in
      let ih : new_in t cs ps ≡ new_in t ds ps + one_if (occurs w ps) = less ps in
      by (same x w)
      (λ e.
      let y : x ≡ w = same_eq x w e in
      let z : is_known t cs x ≡ false = ap (is_known t cs) y ∙ new in
      let u : is_known t ds x ≡ true = known_then x ∙ ap₂ ◌||◌ z (ap (same w) y ∙ same_refl w) in
      let o : one_if (occurs w (p ∷ ps)) ≡ 1 = ap one_if (occurs_here w p ps e) in
      let q : one_if (occurs x ps) ≡ one_if (occurs w ps) = ap (λ (a : List ℕ). one_if (occurs a ps)) y in
      omega (arith, ih, o, q, one_known t ds x ps u, one_new t cs x ps z))
      (λ e.
      let z : is_known t ds x ≡ is_known t cs x = known_then x ∙ ap (λ (b : Bool). is_known t cs x || b) (same_sym w x ∙ e) ∙ or_no (is_known t cs x) in
      let o : one_if (occurs w (p ∷ ps)) ≡ one_if (occurs w ps) = ap one_if (occurs_later w p ps e) in
      omega (arith, ih, o, one_alike t cs x ps ds z))

-- ---- resolving

enter_known : (t : List ℕ) (cs : List Cell) (w : List ℕ) (c : Cell) → is_known t cs w ≡ true → enter cs (find_name t cs w) c ≡ cs
unfolding enter is_known
enter_known t cs w c e = rw (e, enter)

enter_new : (t : List ℕ) (cs : List Cell) (w : List ℕ) (c : Cell) → is_known t cs w ≡ false → enter cs (find_name t cs w) c ≡ cs ++ c ∷ []
unfolding enter is_known
enter_new t cs w c e = rw (e, enter)

-- AS MANY NAMES ARE ADDED AS ARE NEW
pub known_length : (t : List ℕ) (cs : List Cell) (ps : List Piece) → All (Located t) ps → length (resolve t cs ps).known ≡ length cs + new_in t cs ps
unfolding resolve new_in
known_length t cs [] a = omega arith
known_length t cs (p ∷ ps) a =
    let w : List ℕ = p.word in
    let c : Cell = piece_cell p in
    let ih : length (resolve t (enter cs (find_name t cs w) c) ps).known ≡ length (enter cs (find_name t cs w) c) + new_in t (enter cs (find_name t cs w) c) ps =
    known_length t (enter cs (find_name t cs w) c) ps a.1 in
    by (is_known t cs w)
    (λ e.
    let z : length (enter cs (find_name t cs w) c) + new_in t (enter cs (find_name t cs w) c) ps ≡ length cs + new_in t cs ps = ap (λ (es : List Cell). length es + new_in t es ps) (enter_known t cs w c e) in
    omega (arith, ih, z, one_known t cs w ps e))
    (λ e.
    let z : length (enter cs (find_name t cs w) c) + new_in t (enter cs (find_name t cs w) c) ps ≡ length (cs ++ c ∷ []) + new_in t (cs ++ c ∷ []) ps =
    ap (λ (es : List Cell). length es + new_in t es ps) (enter_new t cs w c e) in
    omega (arith, ih, z, length-append cs (c ∷ []), less t cs c w e (cell_word t p a.0) ps, one_new t cs w ps e))

-- ---- the text before the event and the text after it

pub cell_grow : (t x : List ℕ) (c : Cell) → Inside t c → text_at (t ++ x) c ≡ text_at t c
unfolding text_at
cell_grow t x c h = text_from-append t x c.at c.len h

pub find_grow : (t x : List ℕ) (cs : List Cell) (w : List ℕ) → All (Inside t) cs → find_name (t ++ x) cs w ≡ find_name t cs w
unfolding find_name
find_grow t x [] w a = refl
find_grow t x (c ∷ cs) w a =
    let e : same (text_at (t ++ x) c) w ≡ same (text_at t c) w = ap (λ (y : List ℕ). same y w) (cell_grow t x c a.0) in
    by (same (text_at t c) w) (λ f. find_hit (t ++ x) c cs w (e ∙ f) ∙ sym (find_hit t c cs w f)) (λ f.
    find_miss (t ++ x) c cs w (e ∙ f) ∙ ap suc (find_grow t x cs w a.1) ∙ sym (find_miss t c cs w f))

known_grow : (t x : List ℕ) (cs : List Cell) (w : List ℕ) → All (Inside t) cs → is_known (t ++ x) cs w ≡ is_known t cs w
unfolding is_known
known_grow t x cs w a = ap (λ (k : ℕ). ltb k (length cs)) (find_grow t x cs w a)

one_grow : (t x : List ℕ) (cs : List Cell) (w : List ℕ) (ps : List Piece) → All (Inside t) cs → new_if (is_known (t ++ x) cs w) w ps ≡ new_if (is_known t cs w) w ps
unfolding new_if
one_grow t x cs w ps a = rw (known_grow t x cs w a, new_if)

pub new_grow : (t x : List ℕ) (cs : List Cell) (ps : List Piece) → All (Inside t) cs → new_in (t ++ x) cs ps ≡ new_in t cs ps
unfolding new_in
new_grow t x cs [] a = refl
new_grow t x cs (p ∷ ps) a = ap₂ ◌+◌ (one_grow t x cs p.word ps a) (new_grow t x cs ps a)

pub words_at : (o : ℕ) (v : List ℕ) → state_words_at o v ≡ map (moved o) (state_words v)
unfolding state_words_at state_words words_by
words_at o v = ap (λ (s : ℕ). pieces is_separator s [] v) (sym (add-zero o)) ∙ pieces_moved is_separator o 0 [] v
