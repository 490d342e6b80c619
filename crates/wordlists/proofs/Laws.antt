-- Steps of the code.
use Prim.Native.Nat.{ℕ, ◌+◌, ◌-◌, ◌≤◌, ◌<◌}
use mathlib.Core.Path.{◌≡◌, refl, sym, ap, ap₂, ◌∙◌, subst}
use mathlib.Core.Bool.{Bool, true, false}
use mathlib.Core.List.{List, [], ◌∷◌, map}
use native.Mathlib.Omega.{arith}
use native.Mathlib.Numerals.{add-one}
use lib.Dec.{ltb}
use lib.ListN.{length, set, take, drop, drop_of_length-le, length-set, length-take}
use borrow.Author.Tests.{ltb-true, ltb-false}
use Rattle.definition.specs.Text.{pieces, emit, stripped, is_space, is_separator, words_by}
use Rattle.definition.specs.Rows.{Row, Table, Cell}
use Rattle.words.specs.declared.Word.{Word}
use Rattle.words.specs.Next.{parted_by, next_word, piece_at}
use Rattle.words.proofs.Laws.{by, next_order, next_inside, next_moves, next_none, next_some}
use Rattle.words.proofs.Ends.{strip_le}
use Rattle.wordlists.specs.Words.{set_all, kept, kept_cell, list_cells, word_member, word_members}

pub next_events : (e : Bool) (v : List ℕ) (at : ℕ) → e ≡ true → next_word is_space v at ≡ next_word (parted_by e) v at
unfolding parted_by
next_events true v at h = refl
next_events false v at h = absurd (bad h)
  where
    bad : false ≡ true → ⊥
    bad z = let n : ◌≡◌ {A = ℕ} 0 1 = cc in omega arith

pub next_states : (e : Bool) (v : List ℕ) (at : ℕ) → e ≡ false → next_word is_separator v at ≡ next_word (parted_by e) v at
unfolding parted_by
next_states false v at h = refl
next_states true v at h = absurd (bad h)
  where
    bad : true ≡ false → ⊥
    bad z = let n : ◌≡◌ {A = ℕ} 0 1 = cc in omega arith

pub kept_events : (e : Bool) (w : List ℕ) → e ≡ true → length (stripped w) ≡ length (kept e w)
unfolding kept
kept_events e w h = ap (λ (x : Bool). length (kept x w)) (sym h)

pub kept_states : (e : Bool) (w : List ℕ) → e ≡ false → length w ≡ length (kept e w)
unfolding kept
kept_states e w h = ap (λ (x : Bool). length (kept x w)) (sym h)

kept_le : (e : Bool) (w : List ℕ) → length (kept e w) ≤ length w
unfolding kept
kept_le true w = strip_le w
kept_le false w = omega arith

-- ---- the loop over a value's words

pub rest : Bool → ℕ → List ℕ → ℕ → List Cell
rest e b v at = map (kept_cell e b) (pieces (parted_by e) at [] (drop at v))

pub record Listing (ms₀ : Table) (used : ℕ) (v : List ℕ) (b k o : ℕ) (e : Bool) (ms : Table) (m at : ℕ) : Type 0 where
  pub inside : at ≤ length v
  pub few : m ≤ used + at
  pub total : m + length (rest e b v at) ≡ used + length (list_cells e b v)
  pub rows : set_all ms m (word_members k o (rest e b v at)) ≡ set_all ms₀ used (word_members k o (list_cells e b v))
  pub size : length ms ≡ length ms₀

rest_end : (e : Bool) (b : ℕ) (v : List ℕ) (at : ℕ) → length v ≤ at → rest e b v at ≡ []
unfolding rest pieces emit
rest_end e b v at h = ap (λ (z : List ℕ). map (kept_cell e b) (pieces (parted_by e) at [] z)) (drop_of_length-le v h)

module _ (ms₀ : Table) (used : ℕ) (v : List ℕ) (b k o : ℕ) (e : Bool) where
  pub listing_start : Listing ms₀ used v b k o e ms₀ used 0
  unfolding rest list_cells words_by
  listing_start = record { inside = omega arith; few = omega arith; total = refl; rows = refl; size = refl }

  module _ (ms : Table) (m at : ℕ) (L : Listing ms₀ used v b k o e ms m at) where
    done : rest e b v at ≡ [] → (m ≡ used + length (list_cells e b v)) × (ms ≡ set_all ms₀ used (word_members k o (list_cells e b v)))
    unfolding set_all word_members
    done z = (omega (arith, L.total, ap length z), sym (ap (λ (x : List Cell). set_all ms m (word_members k o x)) z) ∙ L.rows)

    pub listing_end : length v ≤ at → (m ≡ used + length (list_cells e b v)) × (ms ≡ set_all ms₀ used (word_members k o (list_cells e b v)))
    listing_end h = done (rest_end e b v at h)

    module _ (x : Word) (ex : x ≡ next_word (parted_by e) v at) (l : at < length v) where
      pub lies : (x.start ≤ x.end) × (x.end ≤ length v) × (at < x.end)
      lies = rw ex (next_order (parted_by e) v at, next_inside (parted_by e) v at (omega arith), next_moves (parted_by e) v at l)

      pub listing_none : x.start ≡ x.end → (m ≡ used + length (list_cells e b v)) × (ms ≡ set_all ms₀ used (word_members k o (list_cells e b v)))
      unfolding rest
      listing_none h =
          let q : (next_word (parted_by e) v at).end ≤ (next_word (parted_by e) v at).start = omega (arith, h, ap (λ (y : Word). y.start) ex, ap (λ (y : Word). y.end) ex) in
          done (ap (map (kept_cell e b)) (next_none (parted_by e) v at q))

      module _ (some : x.start ≡ x.end → ⊥) where
        abbrev word : List ℕ
        word = take (x.end - x.start) (drop x.start v)

        before : x.start < x.end
        before = let a = lies.0 in by (ltb x.start x.end) (ltb-true _ _) (λ f. absurd (some (omega (arith, a, ltb-false x.start x.end f))))

        next : rest e b v at ≡ kept_cell e b (record { off = x.start; word = word }) ∷ rest e b v x.end
        unfolding rest piece_at
        next =
            ap (map (kept_cell e b)) (
            next_some (parted_by e) v at (subst (λ (y : Word). y.start < y.end) ex before)
            ∙ ap (λ (y : Word). record { off = y.start; word = take (y.end - y.start) (drop y.start v) } ∷ pieces (parted_by e) y.end [] (drop y.end v)) (sym ex))

        pub kept_short : (w : List ℕ) (n : ℕ) → w ≡ word → n ≡ length (kept e w) → n ≤ length v
        kept_short w n ew en = omega (arith, lies, kept_le e w, ap length ew, length-take (x.end - x.start) (drop x.start v))

        pub listing_more : (w : List ℕ) (n : ℕ) → w ≡ word → n ≡ length (kept e w) → (r : Row) → r ≡ word_member k o (record { at = b + x.start + 1; len = n }) → (ms₁ : Table) → ms₁ ≡ set ms m r
            → Listing ms₀ used v b k o e ms₁ (m + 1) x.end
        unfolding set_all word_members kept_cell
        listing_more w n ew en r er ms₁ es =
            let c : r ≡ word_member k o (kept_cell e b (record { off = x.start; word = word })) =
            er ∙ ap₂ (λ (i j : ℕ). word_member k o (record { at = i; len = j })) (add-one (b + x.start)) (en ∙ ap (λ (z : List ℕ). length (kept e z)) ew) in
            record {
              inside = lies.1;
              few = omega (arith, L.few, lies);
              total = omega (arith, L.total, ap length next);
              rows =
                  ap₂ (λ (z : Table) (i : ℕ). set_all z i (word_members k o (rest e b v x.end))) (es ∙ ap (set ms m) c) (add-one m)
                  ∙ sym (ap (λ (z : List Cell). set_all ms m (word_members k o z)) next)
                  ∙ L.rows;
              size = ap length es ∙ length-set ms m r ∙ L.size;
            }
