-- Rows whose names don't end as the name that is looked for are passed over.
use Prim.Native.Nat.{ℕ, zero, suc, ◌+◌, ◌-◌, ◌≤◌, ◌<◌}
use mathlib.Core.Path.{◌≡◌, refl, sym, ap, ap₂, ◌∙◌}
use mathlib.Core.Bool.{Bool, true, false}
use mathlib.Core.List.{List}
use native.Mathlib.Omega.{arith}
use lib.Dec.{eqb}
use lib.ListN.{length, get_or, take, drop, length-drop, length-take}
use lib.Seq.{get_or-take, get_or-drop, take-length}
use borrow.Author.Tests.{lt-ltb, le-ltb, eq-eqb, ne_eqb}
use Rattle.definition.specs.Text.{same, bytes_at}
use Rattle.definition.specs.Rows.{Cell, text_at, text_from}
use Rattle.definition.proofs.Base.{same_eq}
use Rattle.words.proofs.Laws.{by}
use Rattle.names.specs.Names.{ends_so}

-- ---- the two bytes

abbrev tests : Bool → Bool → Bool → Bool → Bool
tests a b c d = elim a [ false ↦ false | true ↦ elim b [ false ↦ false | true ↦ elim c [ true ↦ false | false ↦ d ] ] ]

module _ (t : List ℕ) (at before last : ℕ) where
  abbrev there : Bool
  there = eqb (get_or t (at - 1) 0) before

  pub ends_past : length t ≤ at → false ≡ ends_so t at before last
  unfolding ends_so
  ends_past h = sym (ap (λ (a : Bool). tests a (eqb (get_or t at 0) last) (eqb at 0) there) (le-ltb at (length t) h))

  module _ (h : at < length t) where
    pub ends_other : (get_or t at 0 ≡ last → ⊥) → false ≡ ends_so t at before last
    unfolding ends_so
    ends_other d = sym (ap₂ (λ (a b : Bool). tests a b (eqb at 0) there) (lt-ltb at (length t) h) (ne_eqb (get_or t at 0) last d))

    module _ (e : get_or t at 0 ≡ last) where
      ends_by : (c : Bool) → eqb at 0 ≡ c → tests true true c there ≡ ends_so t at before last
      unfolding ends_so
      ends_by c z = sym (λ i. tests (lt-ltb at (length t) h i) (eq-eqb (get_or t at 0) last e i) (z i) there)

      pub ends_none : at ≡ 0 → false ≡ ends_so t at before last
      ends_none z = ends_by true (eq-eqb at 0 z)

      pub ends_both : (at ≡ 0 → ⊥) → there ≡ ends_so t at before last
      ends_both z = ends_by false (ne_eqb at 0 z)

-- ---- who doesn't end so is another

-- What is kept of w for the rows: where its last two bytes stand, these, and the text that the rows are read in.
pub record Ending (t w : List ℕ) (start b l : ℕ) (tail : List ℕ) : Type 0 where
  pub at : start + 2 ≡ length w
  pub before : b ≡ get_or w start 0
  pub last : l ≡ get_or w (start + 1) 0
  pub rest : tail ≡ drop start t

pub ending : (t w : List ℕ) → 2 ≤ length w → Ending t w (length w - 2) (get_or w (length w - 2) 0) (get_or w (length w - 2 + 1) 0) (take (length t - (length w - 2)) (drop (length w - 2) t))
ending t w h =
    let s : ℕ = length w - 2 in
    record { at = omega (arith, h); before = refl; last = refl; rest = ap (λ (n : ℕ). take n (drop s t)) (sym (length-drop s t)) ∙ take-length (drop s t) }

module _ (t w : List ℕ) (start b l : ℕ) (tail : List ℕ) (E : Ending t w start b l tail) where
  in_tail : (j : ℕ) → get_or tail j 0 ≡ get_or t (start + j) 0
  in_tail j = ap (λ (x : List ℕ). get_or x j 0) E.rest ∙ get_or-drop start t j 0

  ends_like : (at len : ℕ) → text_at t (record { at = at; len = len }) ≡ w → ends_so tail at b l ≡ true
  unfolding text_at text_from bytes_at
  ends_like zero len e = absurd (omega (arith, E.at, ap length e))
  ends_like (suc off) len e =
      let n : length (take len (drop off t)) ≡ length w = ap length e in
      let m : length w ≤ len = omega (arith, n, length-take len (drop off t)) in
      let k : off + length w ≤ length t = omega (arith, E.at, n, length-take len (drop off t), length-drop off t) in
      let is : (j : ℕ) → j < length w → get_or t (off + j) 0 ≡ get_or w j 0 = λ j h. sym (get_or-drop off t j 0) ∙ sym (get_or-take len (drop off t) j 0 (omega (arith, h, m))) ∙ ap (λ (x : List ℕ). get_or x j 0) e in
      let x : start + suc off ≡ off + (start + 1) = omega arith in
      let y : start + (suc off - 1) ≡ off + start = omega arith in
      let last : get_or tail (suc off) 0 ≡ l = in_tail (suc off) ∙ ap (λ (j : ℕ). get_or t j 0) x ∙ is (start + 1) (omega (arith, E.at)) ∙ sym E.last in
      let before : get_or tail (suc off - 1) 0 ≡ b = in_tail (suc off - 1) ∙ ap (λ (j : ℕ). get_or t j 0) y ∙ is start (omega (arith, E.at)) ∙ sym E.before in
      let inside : suc off < length tail = omega (arith, k, E.at, ap length E.rest, length-drop start t) in
      sym (ends_both tail (suc off) b l inside last (λ z. omega (arith, z))) ∙ eq-eqb (get_or tail (suc off - 1) 0) b before

  pub like_not : (c : Cell) → ends_so tail c.at b l ≡ false → same (text_at t c) w ≡ false
  like_not c e = by (same (text_at t c) w) (λ q. other (sym (ends_like c.at c.len (same_eq (text_at t c) w q)) ∙ e)) (λ q. q)
    where
      other : ◌≡◌ {A = Bool} true false → same (text_at t c) w ≡ false
      other z = let y : ◌≡◌ {A = ℕ} 0 1 = cc in absurd (omega (arith, y))
