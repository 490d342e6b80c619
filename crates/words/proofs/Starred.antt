-- Whether some event word is `*`, from one test after another.
use Prim.Native.Nat.{ℕ, zero, suc, ◌<◌}
use mathlib.Core.Path.{◌≡◌, refl, ◌∙◌}
use mathlib.Core.Bool.{Bool, true, false}
use mathlib.Core.List.{List, [], ◌∷◌, map}
use native.Mathlib.Omega.{arith}
use lib.ListN.{length}
use Rattle.std.specs.Bool.{MatchBool}
use Rattle.std.specs.List.{AllWithin, HoldsAt}
use Rattle.definition.specs.Text.{Piece, stripped, stripped_piece, wildcard, same}
use Rattle.words.proofs.Laws.{by}

-- What some word has, asked of one after another.
module _ (test : Piece → Bool) (some : List Piece → Bool) (none : false ≡ some []) (here : (p : Piece) (ps : List Piece) → test p ≡ true → true ≡ some (p ∷ ps)) (past : (p : Piece) (ps : List Piece) → test p ≡ false → some ps ≡ some (p ∷ ps)) where
  one_has : (ps : List Piece) (k : ℕ) → k < length ps → HoldsAt (λ p. test p ≡ true) ps k → true ≡ some ps
  one_has [] k l h = absurd (omega arith)
  one_has (p ∷ ps) zero l h = here p ps (h p)
  one_has (p ∷ ps) (suc k) l h = by (test p) (here p ps) (λ e. one_has ps k (omega arith) h ∙ past p ps e)

  none_has : (ps : List Piece) → AllWithin (λ p. test p ≡ false) ps 0 (length ps) → false ≡ some ps
  none_has [] h = none
  none_has (p ∷ ps) h = none_has ps (λ k d z l. h (suc k) d (omega arith) (omega arith)) ∙ past p ps (h zero p (omega arith) (omega arith))

  pub any_is : (ps : List Piece) (r : Bool) → MatchBool r ((k : ℕ) × (k < length ps) × HoldsAt (λ p. test p ≡ true) ps k) (AllWithin (λ p. test p ≡ false) ps 0 (length ps)) → r ≡ some ps
  any_is ps true h = one_has ps h.0 h.1 h.2
  any_is ps false h = none_has ps h

abbrev pub starred : Piece → Bool
starred p = same (stripped p.word) (42 ∷ [])

module _ (p : Piece) (ps : List Piece) where
  here : starred p ≡ true → true ≡ wildcard (map stripped_piece (p ∷ ps))
  unfolding wildcard stripped_piece
  here e = rw (e, wildcard)

  past : starred p ≡ false → wildcard (map stripped_piece ps) ≡ wildcard (map stripped_piece (p ∷ ps))
  unfolding wildcard stripped_piece
  past e = rw (e, wildcard)

pub star_any : (ps : List Piece) (r : Bool) → MatchBool r ((k : ℕ) × (k < length ps) × HoldsAt (λ p. starred p ≡ true) ps k) (AllWithin (λ p. starred p ≡ false) ps 0 (length ps)) → r ≡ wildcard (map stripped_piece ps)
unfolding wildcard
star_any = any_is starred (λ (ps : List Piece). wildcard (map stripped_piece ps)) refl here past
