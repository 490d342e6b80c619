-- What the searches of this crate need of the definitions.
use Prim.Native.Nat.{ℕ, zero, suc, ◌+◌, ◌-◌, ◌≤◌, ◌<◌}
use mathlib.Core.Path.{◌≡◌, refl, sym, ap, ap₂, ◌∙◌, subst}
use mathlib.Core.Bool.{Bool, true, false}
use mathlib.Core.List.{List, [], ◌∷◌}
use native.Mathlib.Omega.{arith}
use lib.Dec.{eqb, ltb}
use lib.ListN.{length, take, drop, length-take}
use borrow.Author.Tests.{ltb-true, ltb-false}
use Rattle.definition.specs.Text.{same, bytes_at, Piece, is_separator, state_words, words_by}
use Rattle.definition.specs.Rows.{Cell, text_at, text_from, cell_at}
use Rattle.definition.specs.Look.{find_name, name_cells}
use Rattle.definition.proofs.Finds.{cells_length}
use Rattle.text.proofs.Laws.{same_empty}
use Rattle.std.proofs.Common.{Some, None, position, cond, not, unwrap_or}
use Rattle.std.specs.Bool.{MatchBool}
use Rattle.std.specs.List.{position_or_len, prefix_len, AllWithin, HoldsAt}
use Rattle.std.proofs.lemmas.List.Folds.{length-prefix_len}
use Rattle.words.proofs.Starred.{any_is}
use Rattle.words.specs.declared.Word.{Word}
use Rattle.words.specs.Left.{words_left}
use Rattle.words.specs.Next.{next_word, piece_at}
use Rattle.words.proofs.Laws.{Step, step, by, next_order, next_inside, next_moves, next_some}
use Rattle.names.specs.declared.Names.{Names}
use Rattle.names.specs.Names.{words_from, occurs, new_if, is_known, new_in, first_of, first_nonzero, counted}

-- ---- a cell's text

module _ (t : List ℕ) (at len : ℕ) (w : List ℕ) where
  abbrev here : List ℕ
  here = text_at t (record { at = at; len = len })

  pub cell_absent : at ≡ 0 → eqb (length w) 0 ≡ same here w
  unfolding text_at text_from
  cell_absent e = rw e (same_empty w)

  cell_bytes : (off : ℕ) → (at ≡ 0 → ⊥) → off ≡ at - 1 → bytes_at t (record { off = off; len = len }) ≡ here
  unfolding text_at text_from
  cell_bytes off h e = go at h e
    where
      go : (a : ℕ) → (a ≡ 0 → ⊥) → off ≡ a - 1 → bytes_at t (record { off = off; len = len }) ≡ text_from t a len
      go zero h e = absurd (h refl)
      go (suc a) h e = let z : off ≡ a = omega arith in rw z

  pub cell_same : (off long : ℕ) (r : Bool) → (at ≡ 0 → ⊥) → off ≡ at - 1 → long ≡ len → r ≡ same (bytes_at t (record { off = off; len = long })) w → r ≡ same here w
  cell_same off long r h e f g = g ∙ ap (λ (n : ℕ). same (bytes_at t (record { off = off; len = n })) w) f ∙ ap (λ (x : List ℕ). same x w) (cell_bytes off h e)

-- ---- finding a name

module _ (t w : List ℕ) where
  abbrev named : List ℕ → Bool
  named r = same (text_at t (cell_at r 0)) w

  find_is : (rows : List (List ℕ)) → position_or_len named rows ≡ find_name t (name_cells rows) w
  unfolding find_name name_cells
  find_is [] = refl
  find_is (r ∷ rows) = by (named r) (λ q. rw (q, find_name)) (λ q. rw (q, find_name) (omega (arith, find_is rows)))

  pub named_at : (rows : List (List ℕ)) → unwrap_or (position named rows) (length rows) ≡ find_name t (name_cells rows) w
  named_at rows = go (position_or_len named rows) (length rows) (omega (arith, length-prefix_len (λ (r : List ℕ). not (named r)) rows, length-take (prefix_len (λ (r : List ℕ). not (named r)) rows) rows)) ∙ find_is rows
    where
      go : (n m : ℕ) → n ≤ m → unwrap_or (cond (ltb n m) (Some n) None) m ≡ n
      go n m h = by (ltb n m) (λ f. rw f) (λ f. rw f (omega (arith, h, ltb-false n m f)))

-- ---- words of a value from a place on

module _ (v : List ℕ) (at : ℕ) (x : Word) (e : x ≡ next_word is_separator v at) where
  abbrev word : List ℕ
  word = take (x.end - x.start) (drop x.start v)

  pub word_lies : at < length v → (x.start ≤ x.end) × (x.end ≤ length v) × (at < x.end)
  word_lies h = rw e (next_order is_separator v at, next_inside is_separator v at (omega arith), next_moves is_separator v at h)

  pub words_next : (x.start ≡ x.end → ⊥) → at < length v → words_from v at ≡ record { off = x.start; word = word } ∷ words_from v x.end
  unfolding piece_at
  words_next h l =
      let k : x.start < x.end = lt (word_lies l).0 in
      next_some is_separator v at (subst (λ (y : Word). y.start < y.end) e k)
      ∙ ap (λ (y : Word). record { off = y.start; word = take (y.end - y.start) (drop y.start v) } ∷ words_from v y.end) (sym e)
    where
      lt : x.start ≤ x.end → x.start < x.end
      lt m = by (ltb x.start x.end) (ltb-true _ _) (λ f. absurd (h (omega (arith, m, ltb-false x.start x.end f))))

-- ---- a word among words

module _ (w : List ℕ) (p : Piece) (ps : List Piece) where
  pub occurs_here : same p.word w ≡ true → occurs w (p ∷ ps) ≡ true
  unfolding occurs
  occurs_here e = rw (e, occurs)

  pub occurs_later : same p.word w ≡ false → occurs w (p ∷ ps) ≡ occurs w ps
  unfolding occurs
  occurs_later e = rw (e, occurs)

pub occurs_any : (w : List ℕ) (ps : List Piece) (r : Bool) → MatchBool r ((k : ℕ) × (k < length ps) × HoldsAt (λ p. same p.word w ≡ true) ps k) (AllWithin (λ p. same p.word w ≡ false) ps 0 (length ps)) → r ≡ occurs w ps
unfolding occurs
occurs_any w = any_is (λ (p : Piece). same p.word w) (occurs w) refl (λ p ps e. sym (occurs_here w p ps e)) (λ p ps e. sym (occurs_later w p ps e))

pub occurs_none : (w : List ℕ) (ps : List Piece) → ps ≡ [] → occurs w ps ≡ false
unfolding occurs
occurs_none w ps e = rw e

-- ---- new names

module _ (w : List ℕ) (ps : List Piece) where
  pub new_known : (k : Bool) → k ≡ true → 0 ≡ new_if k w ps
  unfolding new_if
  new_known k h = rw (h, new_if)

  pub new_again : (k : Bool) → k ≡ false → (r : Bool) → r ≡ occurs w ps → r ≡ true → 0 ≡ new_if k w ps
  unfolding new_if
  new_again k h r f g = let e : occurs w ps ≡ true = sym f ∙ g in rw (h, new_if, e, new_if)

  pub new_first_lem : (k : Bool) → k ≡ false → (r : Bool) → r ≡ occurs w ps → r ≡ false → 1 ≡ new_if k w ps
  unfolding new_if
  new_first_lem k h r f g = let e : occurs w ps ≡ false = sym f ∙ g in rw (h, new_if, e, new_if)

-- A name that was looked for among all rows and found at k.
pub new_by : (rows : List (List ℕ)) (t w : List ℕ) (ps : List Piece) (k : ℕ) → k ≡ find_name t (name_cells rows) w → (c : ℕ) → c ≡ length rows
    → (n : ℕ) → n ≡ new_if (ltb k c) w ps → n ≡ new_if (is_known t (name_cells rows) w) w ps
unfolding is_known
new_by rows t w ps k e c ec n en = en ∙ ap₂ (λ (i m : ℕ). new_if (ltb i m) w ps) e (ec ∙ sym (cells_length rows))

-- ---- counting

-- refs names, new new ones among them, are counted of v, the first is own, and what is left begins at `at`.
pub record Counting (t : List ℕ) (cs : List Cell) (v : List ℕ) (own refs new at : ℕ) : Type 0 where
  pub inside : at ≤ length v
  pub few : refs ≤ at
  pub fewer : new ≤ refs
  pub first : first_nonzero own (first_of t cs (words_from v at)) ≡ first_of t cs (state_words v)
  pub all : refs + length (words_from v at) ≡ length (state_words v)
  pub news : new + new_in t cs (words_from v at) ≡ new_in t cs (state_words v)

-- The same, where the words that are left are known and not where they begin.
pub record CountingTo (t : List ℕ) (cs : List Cell) (v : List ℕ) (own refs new : ℕ) (ps : List Piece) : Type 0 where
  pub at : ℕ
  pub left : ps ≡ words_left is_separator v at
  pub counting : Counting t cs v own refs new at

pub first_zero : (a b : ℕ) → a ≡ 0 → b ≡ first_nonzero a b
unfolding first_nonzero
first_zero zero b e = refl
first_zero (suc a) b e = absurd (omega (arith, e))

pub first_other : (a b : ℕ) → (a ≡ 0 → ⊥) → a ≡ first_nonzero a b
unfolding first_nonzero
first_other zero b e = absurd (e refl)
first_other (suc a) b e = refl

first_stays : (a b c : ℕ) → first_nonzero (first_nonzero a (suc b)) c ≡ first_nonzero a (suc b)
unfolding first_nonzero
first_stays zero b c = refl
first_stays (suc a) b c = refl

first_none : (a : ℕ) → first_nonzero a 0 ≡ a
unfolding first_nonzero
first_none zero = refl
first_none (suc a) = refl

module _ (t : List ℕ) (cs : List Cell) (v : List ℕ) where
  pub counting_start : Counting t cs v 0 0 0 0
  unfolding state_words words_by first_nonzero
  counting_start = record { inside = omega arith; few = omega arith; fewer = omega arith; first = refl; all = omega arith; news = omega arith }

  module _ (own refs new at : ℕ) (k : Counting t cs v own refs new at) where
    pub counted_all : words_from v at ≡ [] → (record { own = own; refs = refs; new = new } ≡ counted t cs (state_words v)) × ((refs ≤ length v) × (new ≤ length v))
    unfolding counted new_in first_of
    counted_all e =
        let a : length (words_from v at) ≡ 0 = ap length e in
        let b : new_in t cs (words_from v at) ≡ 0 = ap (new_in t cs) e in
        let f : own ≡ first_of t cs (state_words v) = sym (ap (λ (ps : List Piece). first_nonzero own (first_of t cs ps)) e ∙ first_none own) ∙ k.first in
        let r : refs ≡ length (state_words v) = omega (arith, a, k.all) in
        let n : new ≡ new_in t cs (state_words v) = omega (arith, b, k.news) in
        ((λ i. record { own = f i; refs = r i; new = n i }), (omega (arith, k.inside, k.few), omega (arith, k.inside, k.few, k.fewer)))

    pub counting_more : (x : Word) → x ≡ next_word is_separator v at → (x.start ≡ x.end → ⊥) → at < length v
        → (j : ℕ) → j ≡ find_name t cs (take (x.end - x.start) (drop x.start v)) → (o : ℕ) → o ≡ first_nonzero own (j + 1)
        → (n : ℕ) → n ≡ new_if (is_known t cs (take (x.end - x.start) (drop x.start v))) (take (x.end - x.start) (drop x.start v)) (words_from v x.end) → n ≤ 1 → Counting t cs v o (refs + 1) (new + n) x.end
    unfolding new_in first_of
    counting_more x e h l j ej o eo n f one =
        let w : List ℕ = take (x.end - x.start) (drop x.start v) in
        let z : words_from v at ≡ record { off = x.start; word = w } ∷ words_from v x.end = words_next v at x e h l in
        let m = word_lies v at x e l in
        let a : length (words_from v at) ≡ suc (length (words_from v x.end)) = ap length z in
        let b : new_in t cs (words_from v at) ≡ n + new_in t cs (words_from v x.end) = ap (new_in t cs) z ∙ ap (λ (y : ℕ). y + new_in t cs (words_from v x.end)) (sym f) in
        let p : j + 1 ≡ suc (find_name t cs w) = omega (arith, ej) in
        let q : o ≡ first_nonzero own (suc (find_name t cs w)) = eo ∙ ap (first_nonzero own) p in
        record {
          inside = m.1;
          few = omega (arith, k.few, m.2);
          fewer = omega (arith, k.fewer, one);
          first =
              ap (λ (y : ℕ). first_nonzero y (first_of t cs (words_from v x.end))) q ∙ first_stays own (find_name t cs w) (first_of t cs (words_from v x.end))
              ∙ sym (ap (λ (ps : List Piece). first_nonzero own (first_of t cs ps)) z) ∙ k.first;
          all = omega (arith, a, k.all);
          news = omega (arith, b, k.news);
        }

-- One word more, as the iterator gives it.
module _ (t : List ℕ) (cs : List Cell) (v : List ℕ) (own refs new : ℕ) (ps : List Piece) (K : CountingTo t cs v own refs new ps) where
  pub counting_ends : ps ≡ [] → (record { own = own; refs = refs; new = new } ≡ counted t cs (state_words v)) × ((refs ≤ length v) × (new ≤ length v))
  unfolding words_left
  counting_ends e = counted_all t cs v own refs new K.at K.counting (sym K.left ∙ e)

  module _ (p : Piece) (qs : List Piece) (e : ps ≡ p ∷ qs) where
    abbrev S : Step is_separator v K.at p qs
    S = step is_separator v K.at p qs (sym K.left ∙ e)

    pub word_ends : p.off + length p.word ≤ length v
    word_ends = omega (arith, S.ends, S.within)

    pub counting_goes : (j : ℕ) → j ≡ find_name t cs p.word → (o : ℕ) → o ≡ first_nonzero own (j + 1)
        → (n : ℕ) → n ≡ new_if (is_known t cs p.word) p.word (words_from v (p.off + length p.word)) → n ≤ 1 → CountingTo t cs v o (refs + 1) (new + n) qs
    counting_goes j ej o eo n en one =
        let w : p.word ≡ take (S.word.end - S.word.start) (drop S.word.start v) = ap (λ (q : Piece). q.word) S.piece in
        record {
          at = S.word.end;
          left = S.rest;
          counting =
              counting_more t cs v own refs new K.at K.counting S.word S.is S.some S.there j (ej ∙ ap (find_name t cs) w) o eo n
              (en ∙ ap₂ (λ (x : List ℕ) (k : ℕ). new_if (is_known t cs x) x (words_from v k)) w S.ends) one;
        }

-- The element's own name w before the words of v.
pub counted_with : (rows : List (List ℕ)) (t w v : List ℕ) (r : Names) → r ≡ counted t (name_cells rows) (state_words v) → (k : ℕ) → k ≡ find_name t (name_cells rows) w
    → (one : ℕ) → one ≡ new_if (ltb k (length rows)) w (words_from v 0)
    → record { own = k + 1; refs = r.refs + 1; new = one + r.new } ≡ counted t (name_cells rows) (record { off = 0; word = w } ∷ state_words v)
unfolding counted first_of new_in state_words words_by
counted_with rows t w v r er k ek one eo =
    let a : k + 1 ≡ suc (find_name t (name_cells rows) w) = omega (arith, ek) in
    let b : r.refs + 1 ≡ suc (length (state_words v)) = omega (arith, ap (λ (x : Names). x.refs) er) in
    let c : one + r.new ≡ new_if (is_known t (name_cells rows) w) w (state_words v) + new_in t (name_cells rows) (state_words v) =
    ap₂ ◌+◌ (new_by rows t w (state_words v) k ek (length rows) refl one eo) (ap (λ (x : Names). x.new) er) in
    λ i. record { own = a i; refs = b i; new = c i }
