-- From the questions to the definition's call.
use mathlib.Core.Path.{◌≡◌, refl, sym, ap, ◌∙◌}
use mathlib.Core.Bool.{Bool, true, false}
use mathlib.Core.List.{List, ◌++◌}
use Prim.Native.Nat.{ℕ, ◌≤◌, ◌<◌}
use native.Mathlib.Omega.{arith}
use lib.ListN.{length, drop}
use borrow.Author.Tests.{lt-leb, le-leb}
use Rattle.definition.specs.Limits.{limits01}
use Rattle.definition.specs.declared.Position.{Position}
use Rattle.definition.specs.Reader.{Lent, Answer, reading, call, answer_to, long_enough, in_order, refused, exists, store_of}
use Rattle.definition.specs.declared.codes.Refusal.{Refusal}
use Rattle.definition.specs.Codes.{refusal_number}
use Rattle.questions.specs.Lent.{first_two}
use Rattle.reading.specs.Bytes.{row_bytes, out_of, row_out}
use Rattle.reading.specs.Read.{Reading}
use Rattle.reading.specs.Read.{read_of, reading_of, refusal}

pub some_number : (e : Refusal) → refusal_number e ≡ 0 → ⊥
some_number e = grind arith

module _ (x : Lent) (p : Position) (t i : ℕ) {k : ℕ} (e : k ≡ first_two x p) where
  pub read_refused : (k ≡ 0 → ⊥) → refusal k ≡ reading_of (call limits01 x p (reading t i))
  unfolding first_two call refused refusal
  read_refused f = go (long_enough limits01 x) refl (in_order limits01 x p) refl
    where
      go : (a : Bool) → long_enough limits01 x ≡ a → (b : Bool) → in_order limits01 x p ≡ b → refusal k ≡ reading_of (call limits01 x p (reading t i))
      go false g b h = let z : k ≡ 1 = e ∙ rw (g, first_two) in rw (z, g, call)
      go true g false h = let z : k ≡ 2 = e ∙ rw (g, h, first_two) in rw (z, g, h, call)
      go true g true h = let z : k ≡ 0 = e ∙ rw (g, h, first_two) in let y : ⊥ = f z in absurd y

  answered : read_of (store_of x p).numbers t i ≡ reading_of (answer_to limits01 x p (reading t i))
  unfolding read_of answer_to refusal refused
  answered = go (exists (store_of x p).numbers t i) refl
    where
      go : (b : Bool) → exists (store_of x p).numbers t i ≡ b → read_of (store_of x p).numbers t i ≡ reading_of (answer_to limits01 x p (reading t i))
      go true f = rw (f, read_of, answer_to)
      go false f = rw (f, read_of, answer_to)

  pub read_asked : k ≡ 0 → read_of (store_of x p).numbers t i ≡ reading_of (call limits01 x p (reading t i))
  unfolding first_two call
  read_asked f = go (long_enough limits01 x) refl (in_order limits01 x p) refl
    where
      go : (a : Bool) → long_enough limits01 x ≡ a → (b : Bool) → in_order limits01 x p ≡ b → read_of (store_of x p).numbers t i ≡ reading_of (call limits01 x p (reading t i))
      go false g b h = let z : k ≡ 1 = e ∙ rw (g, first_two) in let y : ⊥ = omega arith in absurd y
      go true g false h = let z : k ≡ 2 = e ∙ rw (g, h, first_two) in let y : ⊥ = omega arith in absurd y
      go true g true h = let q : call limits01 x p (reading t i) ≡ answer_to limits01 x p (reading t i) = rw (g, h, call) in answered ∙ ap reading_of (sym q)

module _ (a : Answer) (out : List ℕ) where
  pub out_short : length out < 200 → out_of 1 out ≡ row_out a out
  unfolding row_out
  out_short h = rw (lt-leb 200 (length out) h, row_out)

  pub out_row : 200 ≤ length out → {r : Reading} {bs : List ℕ} → r ≡ reading_of a → bs ≡ row_bytes r.row ++ drop 200 out → out_of r.number bs ≡ row_out a out
  unfolding row_out
  out_row h e f = rw (le-leb 200 (length out) h, row_out, f, e)
