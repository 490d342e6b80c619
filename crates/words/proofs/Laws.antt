-- The walk from word to word finds the words of the definition.
use mathlib.Core.Path.{◌≡◌, refl, ap, sym, ◌∙◌, subst}
use mathlib.Core.List.{List, [], ◌∷◌, ◌++◌, map, append-nil, append_assoc}
use mathlib.Core.Bool.{Bool, true, false, not}
use Prim.Native.Nat.{ℕ, zero, suc, ◌+◌, ◌-◌, ◌≤◌, ◌<◌, max}
use native.Mathlib.Nat.{add-zero, zero-add}
use native.Mathlib.Numerals.{add-one}
use native.Mathlib.Omega.{arith}
use lib.Dec.{ltb}
use lib.ListN.{length, get_or, take, drop, drop_of_length-le, length-append, length-drop}
use lib.Seq.{drop-cons, drop-drop, length-take-le}
use borrow.Author.Tests.{ltb-true, ltb-false}
use Rattle.definition.specs.Text.{Piece, emit, pieces, words_by, is_space, is_separator, stripped_piece, event_words, state_words, state_words_at}
pub use Rattle.definition.proofs.Base.{test as by}
use Rattle.words.specs.declared.Word.{Word}
use Rattle.words.specs.Left.{words_left}
use Rattle.words.specs.Next.{gap, run, word_at, next_word, piece_at, walk, moved}

map_append : (f : Piece → Piece) (xs ys : List Piece) → map f (xs ++ ys) ≡ map f xs ++ map f ys
map_append f [] ys = refl
map_append f (x ∷ xs) ys = ap (λ (l : List Piece). f x ∷ l) (map_append f xs ys)

module _ (parts : ℕ → Bool) where
  gap_more : (b : ℕ) (bs : List ℕ) → parts b ≡ true → gap parts (b ∷ bs) ≡ suc (gap parts bs)
  unfolding gap
  gap_more b bs e = rw (e, gap)

  gap_stop : (b : ℕ) (bs : List ℕ) → parts b ≡ false → gap parts (b ∷ bs) ≡ 0
  unfolding gap
  gap_stop b bs e = rw (e, gap)

  run_more : (b : ℕ) (bs : List ℕ) → parts b ≡ false → run parts (b ∷ bs) ≡ suc (run parts bs)
  unfolding run
  run_more b bs e = rw (e, run)

  run_stop : (b : ℕ) (bs : List ℕ) → parts b ≡ true → run parts (b ∷ bs) ≡ 0
  unfolding run
  run_stop b bs e = rw (e, run)

  pieces_part : (s : ℕ) (w : List ℕ) (b : ℕ) (bs : List ℕ) → parts b ≡ true → pieces parts s w (b ∷ bs) ≡ emit s w ++ pieces parts (suc (s + length w)) [] bs
  unfolding pieces
  pieces_part s w b bs e = rw (e, pieces)

  pieces_more : (s : ℕ) (w : List ℕ) (b : ℕ) (bs : List ℕ) → parts b ≡ false → pieces parts s w (b ∷ bs) ≡ pieces parts s (w ++ b ∷ []) bs
  unfolding pieces
  pieces_more s w b bs e = rw (e, pieces)

  gap_nil : gap parts [] ≡ 0
  unfolding gap
  gap_nil = refl

  pub gap_le : (bs : List ℕ) → gap parts bs ≤ length bs
  unfolding gap
  gap_le [] = omega arith
  gap_le (b ∷ bs) = by (parts b) (λ e. omega (arith, gap_more b bs e, gap_le bs)) (λ e. omega (arith, gap_stop b bs e))

  pub run_le : (bs : List ℕ) → run parts bs ≤ length bs
  unfolding run
  run_le [] = omega arith
  run_le (b ∷ bs) = by (parts b) (λ e. omega (arith, run_stop b bs e)) (λ e. omega (arith, run_more b bs e, run_le bs))

  -- past a gap a word begins, or the text ends
  gap_past : (bs : List ℕ) → gap parts (drop (gap parts bs) bs) ≡ 0
  unfolding gap
  gap_past [] = refl
  gap_past (b ∷ bs) = by (parts b) (λ e. rw (gap_more b bs e) (gap_past bs)) (λ e. rw (gap_stop b bs e) (gap_stop b bs e))

  nothing : (bs : List ℕ) → gap parts bs ≡ 0 → run parts bs ≡ 0 → bs ≡ []
  nothing [] g r = refl
  nothing (b ∷ bs) g r = by (parts b) (λ e. absurd (omega (arith, gap_more b bs e))) (λ e. absurd (omega (arith, run_more b bs e)))

  -- a gap adds no word
  skip : (s : ℕ) (bs : List ℕ) → pieces parts s [] bs ≡ pieces parts (s + gap parts bs) [] (drop (gap parts bs) bs)
  unfolding pieces emit gap
  skip s [] = refl
  skip s (b ∷ bs) =
      by (parts b)
      (λ e. let k : suc (s + 0) + gap parts bs ≡ s + suc (gap parts bs) = omega arith in pieces_part s [] b bs e ∙ skip (suc (s + 0)) bs ∙ rw (gap_more b bs e, k))
      (λ e. rw (gap_stop b bs e) (ap (λ (n : ℕ). pieces parts n [] (b ∷ bs)) (sym (add-zero s))))

  -- a run is one word, with what of it was read before
  word : (s : ℕ) (w bs : List ℕ) → pieces parts s w bs ≡ emit s (w ++ take (run parts bs) bs) ++ pieces parts (s + (length w + run parts bs)) [] (drop (run parts bs) bs)
  unfolding pieces emit run
  word s w [] = rw (append-nil w, append-nil (emit s w))
  word s w (b ∷ bs) =
      by (parts b)
      (λ e. let k : suc (s + (length w + 0) + 0) ≡ suc (s + length w) = omega arith in pieces_part s w b bs e ∙ rw (run_stop b bs e, append-nil w, pieces_part (s + (length w + 0)) [] b bs e, k))
      (λ e. let k : length w + 1 + run parts bs ≡ length w + suc (run parts bs) = omega arith in pieces_more s w b bs e ∙ word s (w ++ b ∷ []) bs ∙ rw (run_more b bs e, append_assoc w (b ∷ []) (take (run parts bs) bs), length-append w (b ∷ []), k))

  emit_some : (s : ℕ) (w : List ℕ) → 0 < length w → emit s w ≡ record { off = s; word = w } ∷ []
  unfolding emit
  emit_some s [] h = absurd (omega arith)
  emit_some s (b ∷ w) h = refl

  -- ---- one byte at a place

  module _ (v : List ℕ) (i : ℕ) where
    pub gap_again : i < length v → parts (get_or v i 0) ≡ true → i + 1 + gap parts (drop (i + 1) v) ≡ i + gap parts (drop i v)
    gap_again h e = let k : suc i + gap parts (drop (suc i) v) ≡ i + suc (gap parts (drop (suc i) v)) = omega arith in rw (add-one, k, drop-cons v i 0 h, gap_more _ _ e)

    pub gap_halt : i < length v → parts (get_or v i 0) ≡ false → i ≡ i + gap parts (drop i v)
    gap_halt h e = rw (drop-cons v i 0 h, gap_stop _ _ e, add-zero)

    pub gap_end : length v ≤ i → i ≡ i + gap parts (drop i v)
    unfolding gap
    gap_end h = rw (drop_of_length-le v h, add-zero)

    -- behind the last place that is looked at
    pub gap_last : (from : ℕ) → length v ≤ i → (from ≤ length v → i ≤ length v) → i + gap parts (drop i v) ≡ from + gap parts (drop from v) → max from (length v) ≡ from + gap parts (drop from v)
    gap_last from h k e =
        by (ltb from (length v)) (λ l. let m : from < length v = ltb-true _ _ l in let n : i ≤ length v = k (omega arith) in omega (arith, gap_end h))
        (λ l. let m : length v ≤ from = ltb-false _ _ l in let z : drop from v ≡ [] = drop_of_length-le v m in omega (arith, ap (gap parts) z, gap_nil))

  -- A run is a gap of the other bytes.
  pub run_gap : (l : List ℕ) → gap (λ (b : ℕ). not (parts b)) l ≡ run parts l
  unfolding gap run
  run_gap [] = refl
  run_gap (b ∷ bs) = go (parts b) (run_gap bs)
    where
      go : (t : Bool) → gap (λ (b : ℕ). not (parts b)) bs ≡ run parts bs → ◌≡◌ {A = ℕ} (elim (not t) [ true ↦ suc (gap (λ (b : ℕ). not (parts b)) bs) | false ↦ 0 ]) (elim t [ true ↦ 0 | false ↦ suc (run parts bs) ])
      go true e = refl
      go false e = ap suc e

  -- ---- the next word from a place on

  module _ (v : List ℕ) (from : ℕ) where
    pub next_from : from ≤ (next_word parts v from).start
    unfolding next_word word_at
    next_from = omega arith

    pub next_order : (next_word parts v from).start ≤ (next_word parts v from).end
    unfolding next_word word_at
    next_order = omega arith

    pub next_inside : from ≤ length v → (next_word parts v from).end ≤ length v
    unfolding next_word word_at
    next_inside h =
        let s : ℕ = from + gap parts (drop from v) in
        omega (arith, gap_le (drop from v), run_le (drop s v), length-drop from v, length-drop s v)

    pub next_made : (s e : ℕ) → s ≡ from + gap parts (drop from v) → e ≡ s + run parts (drop s v) → record { start = s; end = e } ≡ next_word parts v from
    unfolding next_word word_at
    next_made s e h k = rw (k, h)

    -- where no word is left, none but bytes that part words stand from here on
    pub empty_rest : (next_word parts v from).end ≤ (next_word parts v from).start → drop (next_word parts v from).start v ≡ []
    unfolding next_word word_at
    empty_rest h =
        let s : ℕ = from + gap parts (drop from v) in
        nothing (drop s v) (rw drop-drop at (gap_past (drop from v))) (omega arith)

    to_start : pieces parts from [] (drop from v) ≡ pieces parts (next_word parts v from).start [] (drop (next_word parts v from).start v)
    unfolding next_word word_at
    to_start = skip from (drop from v) ∙ ap (pieces parts (from + gap parts (drop from v)) []) (drop-drop (gap parts (drop from v)) from v)

    -- no word is left
    pub next_none : (next_word parts v from).end ≤ (next_word parts v from).start → pieces parts from [] (drop from v) ≡ []
    unfolding pieces emit
    next_none h = to_start ∙ ap (pieces parts (next_word parts v from).start []) (empty_rest h)

    -- the next word comes first, and the others are searched where it ends
    pub next_some :
        (next_word parts v from).start < (next_word parts v from).end →
        pieces parts from [] (drop from v) ≡ piece_at v (next_word parts v from) ∷ pieces parts (next_word parts v from).end [] (drop (next_word parts v from).end v)
    unfolding next_word word_at piece_at
    next_some h =
        let s : ℕ = from + gap parts (drop from v) in
        let r : ℕ = run parts (drop s v) in
        let k : s + r - s ≡ r = omega arith in
        let l : 0 < length (take r (drop s v)) = omega (arith, length-take-le r (drop s v) (run_le (drop s v))) in
        to_start ∙ word s [] (drop s v) ∙ rw (zero-add r, drop-drop r s v, emit_some s (take r (drop s v)) l, k)

    -- within the text a step gets on
    pub next_moves : from < length v → from < (next_word parts v from).end
    next_moves h =
        by (ltb from (next_word parts v from).end) (ltb-true _ _)
        (λ e.
        let n : (next_word parts v from).end ≤ from = ltb-false _ _ e in
        let m : (next_word parts v from).start ≡ from = omega (arith, next_from, next_order) in
        let z : drop from v ≡ [] = ap (λ (i : ℕ). drop i v) (sym m) ∙ empty_rest (omega (arith, next_from)) in
        absurd (omega (arith, length-drop from v, ap length z)))

    -- A word lies within the text.
    pub word_within : (next_word parts v from).start < (next_word parts v from).end → (next_word parts v from).end ≤ length v
    unfolding next_word word_at
    word_within h = let s : ℕ = from + gap parts (drop from v) in omega (arith, run_le (drop s v), length-drop s v)

    walk_more : (n : ℕ) → ltb (next_word parts v from).start (next_word parts v from).end ≡ true → walk parts v from (suc n) ≡ piece_at v (next_word parts v from) ∷ walk parts v (next_word parts v from).end n
    unfolding walk
    walk_more n e = rw (e, walk)

    walk_stop : (n : ℕ) → ltb (next_word parts v from).start (next_word parts v from).end ≡ false → walk parts v from (suc n) ≡ []
    unfolding walk
    walk_stop n e = rw (e, walk)

  -- ---- the walk

  pub walked : (v : List ℕ) (n from : ℕ) → length v - from ≤ n → walk parts v from n ≡ pieces parts from [] (drop from v)
  unfolding walk pieces emit
  walked v zero from h = let k : length v ≤ from = omega arith in ap (pieces parts from []) (sym (drop_of_length-le v k))
  walked v (suc n) from h =
      by (ltb (next_word parts v from).start (next_word parts v from).end)
      (λ e.
      let l : (next_word parts v from).start < (next_word parts v from).end = ltb-true _ _ e in
      walk_more v from n e
      ∙ ap (λ (ps : List Piece). piece_at v (next_word parts v from) ∷ ps) (walked v n (next_word parts v from).end (omega (arith, next_from v from)))
      ∙ sym (next_some v from l))
      (λ e. walk_stop v from n e ∙ sym (next_none v from (ltb-false _ _ e)))

  -- A walk from 0 gives the words of the text: offsets and words.
  pub walk_words : (v : List ℕ) → walk parts v 0 (length v) ≡ words_by parts v
  unfolding words_by
  walk_words v = walked v (length v) 0 (omega arith)

  -- ---- words of a value that lies in a longer text

  emit_moved : (o s : ℕ) (w : List ℕ) → emit (o + s) w ≡ map (moved o) (emit s w)
  unfolding emit moved
  emit_moved o s [] = refl
  emit_moved o s (b ∷ w) = refl

  -- They begin as much later as the value does.
  pub pieces_moved : (o s : ℕ) (w bs : List ℕ) → pieces parts (o + s) w bs ≡ map (moved o) (pieces parts s w bs)
  unfolding pieces
  pieces_moved o s w [] = emit_moved o s w
  pieces_moved o s w (b ∷ bs) =
      by (parts b)
      (λ e.
      let n : ℕ = suc (s + length w) in
      let k : suc (o + s + length w) ≡ o + n = omega arith in
      pieces_part (o + s) w b bs e
      ∙ ap (λ (m : ℕ). emit (o + s) w ++ pieces parts m [] bs) k
      ∙ ap (λ (ps : List Piece). emit (o + s) w ++ ps) (pieces_moved o n [] bs)
      ∙ ap (λ (ps : List Piece). ps ++ map (moved o) (pieces parts n [] bs)) (emit_moved o s w)
      ∙ sym (ap (map (moved o)) (pieces_part s w b bs e) ∙ map_append (moved o) (emit s w) (pieces parts n [] bs)))
      (λ e. pieces_more (o + s) w b bs e ∙ pieces_moved o s (w ++ b ∷ []) bs ∙ sym (ap (map (moved o)) (pieces_more s w b bs e)))

-- ---- there are no more words than bytes

module _ (parts : ℕ → Bool) where
  emit_few : (s : ℕ) (w : List ℕ) → length (emit s w) ≤ length w
  unfolding emit
  emit_few s [] = omega arith
  emit_few s (b ∷ w) = omega arith

  pieces_few : (s : ℕ) (w bs : List ℕ) → length (pieces parts s w bs) ≤ length bs + length w
  unfolding pieces
  pieces_few s w [] = omega (arith, emit_few s w)
  pieces_few s w (b ∷ bs) =
      by (parts b)
      (λ e.
      let rest : List Piece = pieces parts (suc (s + length w)) [] bs in
      omega (arith, ap length (pieces_part parts s w b bs e), length-append (emit s w) rest, emit_few s w, pieces_few (suc (s + length w)) [] bs))
      (λ e. omega (arith, ap length (pieces_more parts s w b bs e), pieces_few s (w ++ b ∷ []) bs, length-append w (b ∷ [])))

  pub words_few : (v : List ℕ) (at : ℕ) → length (words_left parts v at) ≤ length v
  unfolding words_left
  words_few v at = omega (arith, pieces_few at [] (drop at v), length-drop at v)

-- ---- one step of a walk, as an iterator takes it

-- A word that comes first among those that are left, as a search for it finds it.
pub record Step (parts : ℕ → Bool) (v : List ℕ) (at : ℕ) (p : Piece) (ps : List Piece) : Type 0 where
  pub word : Word
  pub is : word ≡ next_word parts v at
  pub some : word.start ≡ word.end → ⊥
  pub there : at < length v
  pub within : word.end ≤ length v
  pub piece : p ≡ record { off = word.start; word = take (word.end - word.start) (drop word.start v) }
  pub rest : ps ≡ words_left parts v word.end
  pub ends : p.off + length p.word ≡ word.end

pub step : (parts : ℕ → Bool) (v : List ℕ) (at : ℕ) (p : Piece) (ps : List Piece) → words_left parts v at ≡ p ∷ ps → Step parts v at p ps
unfolding words_left piece_at
step parts v at p ps e =
    by (ltb x.start x.end)
    (λ f.
    let l : x.start < x.end = ltb-true _ _ f in
    let z : p ∷ ps ≡ piece_at v x ∷ pieces parts x.end [] (drop x.end v) = sym e ∙ next_some parts v at l in
    let h : p ≡ piece_at v x = ap (λ (qs : List Piece). head_or p qs) z in
    let w : x.end ≤ length v = word_within parts v at l in
    record {
      word = x;
      is = refl;
      some = λ q. omega (arith, q, l);
      there = omega (arith, next_from parts v at, l, w);
      within = w;
      piece = h;
      rest = ap tail_of z;
      ends =
          omega (
            arith,
            ap (λ (q : Piece). q.off) h,
            ap (λ (q : Piece). length q.word) h,
            length-take-le (x.end - x.start) (drop x.start v) (omega (arith, length-drop x.start v, w, l)),
            l,
          );
    })
    (λ f. absurd (cons_nil (sym e ∙ next_none parts v at (ltb-false _ _ f))))
  where
    x : Word
    x = next_word parts v at

    head_or : Piece → List Piece → Piece
    head_or d [] = d
    head_or d (q ∷ qs) = q

    tail_of : List Piece → List Piece
    tail_of [] = []
    tail_of (q ∷ qs) = qs

    cons_nil : {q : Piece} {qs : List Piece} → q ∷ qs ≡ [] → ⊥
    cons_nil e = cc

module _ (parts : ℕ → Bool) (v : List ℕ) (at : ℕ) (x : Word) (e : x ≡ next_word parts v at) where
  pub left_none : x.start ≡ x.end → words_left parts v at ≡ []
  unfolding words_left
  left_none h = next_none parts v at (omega (arith, h, ap (λ (y : Word). y.start) e, ap (λ (y : Word). y.end) e))

  pub left_order : x.start ≤ x.end
  left_order = rw e (next_order parts v at)

  pub left_within : (x.start ≡ x.end → ⊥) → x.end ≤ length v
  left_within h = let l : x.start < x.end = omega (arith, h, left_order) in rw e (word_within parts v at (subst (λ (y : Word). y.start < y.end) e l))

  pub left_some : (x.start ≡ x.end → ⊥) → words_left parts v at ≡ record { off = x.start; word = take (x.end - x.start) (drop x.start v) } ∷ words_left parts v x.end
  unfolding words_left piece_at
  left_some h =
      let l : x.start < x.end = omega (arith, h, left_order) in
      next_some parts v at (subst (λ (y : Word). y.start < y.end) e l)
      ∙ ap (λ (y : Word). record { off = y.start; word = take (y.end - y.start) (drop y.start v) } ∷ pieces parts y.end [] (drop y.end v)) (sym e)

-- ---- event words and state words by a walk

pub event_walk : (v : List ℕ) → map stripped_piece (walk is_space v 0 (length v)) ≡ event_words v
unfolding event_words
event_walk v = ap (map stripped_piece) (walk_words is_space v)

pub state_walk : (v : List ℕ) → walk is_separator v 0 (length v) ≡ state_words v
unfolding state_words
state_walk v = walk_words is_separator v

pub state_walk_at : (o : ℕ) (v : List ℕ) → map (moved o) (walk is_separator v 0 (length v)) ≡ state_words_at o v
unfolding state_words_at words_by
state_walk_at o v =
    ap (map (moved o)) (walk_words is_separator v) ∙ sym (pieces_moved is_separator o 0 [] v) ∙ ap (λ (s : ℕ). pieces is_separator s [] v) (add-zero o)
