-- Steps of the code.
use Prim.Native.Nat.{ℕ, suc, ◌+◌, ◌-◌, ◌≤◌, ◌<◌}
use mathlib.Core.Path.{◌≡◌, refl, sym, ap, ap₂, ◌∙◌}
use mathlib.Core.List.{List, ◌∷◌}
use native.Mathlib.Omega.{arith}
use native.Mathlib.Numerals.{add-one}
use lib.Dec.{eqb, ltb}
use lib.ListN.{length, get_or, set, drop, length-set, length-append, drop_of_length-le}
use lib.Seq.{drop-cons}
use borrow.Author.Tests.{eq-eqb, ne_eqb, lt-ltb, le-ltb, ltb-true, ltb-false, eqb-true, eqb-false}
use Rattle.definition.specs.Rows.{Cell, no_cell, cell_at, with_cell}
use Rattle.definition.specs.Look.{Load, payload}
use Rattle.words.proofs.Laws.{by}
use Rattle.plain.specs.declared.Slot.{Slot}
use Rattle.definition.specs.Codes.{key_code}
use Rattle.plain.specs.Plain.{slot_bytes, loads_in}
use Rattle.plain.specs.Keyed.{no_slot}
use Rattle.fill.specs.declared.TextCell.{TextCell}
use Rattle.fill.specs.Fill.{cell, as_cell}
use Rattle.texts.specs.Texts.{text_put, texts_in, closed}

pub cell_length : (c : ℕ) (x : Cell) (r : List ℕ) → length (with_cell c x r) ≡ length r
unfolding with_cell
cell_length c x r = length-set (set r c x.at) (suc c) x.len ∙ length-set r c x.at

module _ (c : ℕ) (x : Cell) (t : List ℕ) where
  pub put_none : 32 ≤ c → t ≡ text_put c x t
  unfolding text_put
  put_none h = sym (rw (le-ltb c 32 h, text_put))

  pub put_there : c < 32 → (get_or t (c + c) 0 ≡ 0 → ⊥) → t ≡ text_put c x t
  unfolding text_put
  put_there h e = sym (rw (lt-ltb c 32 h, text_put, ne_eqb (get_or t (c + c) 0) 0 e, text_put))

  pub put_new : c < 32 → get_or t (c + c) 0 ≡ 0 → with_cell (c + c) x t ≡ text_put c x t
  unfolding text_put
  put_new h e = sym (rw (lt-ltb c 32 h, text_put, eq-eqb (get_or t (c + c) 0) 0 e, text_put))

  pub put_length : length (text_put c x t) ≡ length t
  put_length =
      by (ltb c 32)
      (λ p. by (eqb (get_or t (c + c) 0) 0) (λ q. ap length (sym (put_new (ltb-true c 32 p) (eqb-true (get_or t (c + c) 0) 0 q))) ∙ cell_length (c + c) x t) (λ q. ap length (sym (put_there (ltb-true c 32 p) (eqb-false (get_or t (c + c) 0) 0 q)))))
      (λ p. ap length (sym (put_none (ltb-false c 32 p))))

-- A cell read from the table.
pub cell_told : (t : List ℕ) (i : ℕ) (r : TextCell) → as_cell r ≡ cell_at t i → r.at ≡ get_or t i 0
unfolding as_cell cell cell_at
cell_told t i r e = ap (λ (x : Cell). x.at) e

-- A text between two places, put for a key.
pub put_between : (k at end : ℕ) (r : TextCell) (t u : List ℕ) → as_cell r ≡ cell (at + 1) (end - at) → u ≡ text_put k (as_cell r) t → u ≡ text_put k (cell (at + 1) (end - at)) t
put_between k at end r t u e f = f ∙ ap (λ (x : Cell). text_put k x t) e

pub record Texting (t₀ : List ℕ) (base : ℕ) (src : List ℕ) (ss : List Slot) (t : List ℕ) (pos i : ℕ) : Type 0 where
  pub rest : texts_in pos (loads_in src (drop i ss)) t ≡ texts_in base (loads_in src ss) t₀
  pub sum : pos + length (payload (loads_in src (drop i ss))) ≡ base + length (payload (loads_in src ss))
  pub size : length t ≡ length t₀

module _ (t₀ : List ℕ) (base : ℕ) (src : List ℕ) (ss : List Slot) where
  pub texting_start : Texting t₀ base src ss t₀ base 0
  texting_start = record { rest = refl; sum = refl; size = refl }

  module _ (t : List ℕ) (pos i : ℕ) (T : Texting t₀ base src ss t pos i) where
    pub texting_end : length ss ≤ i → t ≡ texts_in base (loads_in src ss) t₀
    unfolding texts_in loads_in
    texting_end h = sym (ap (λ (x : List Slot). texts_in pos (loads_in src x) t) (drop_of_length-le ss h)) ∙ T.rest

    module _ (h : i < length ss) (v : List ℕ) (ev : v ≡ slot_bytes src (get_or ss i no_slot)) where
      abbrev load : Load
      load = record { key = key_code (get_or ss i no_slot).code; bytes = v }

      abbrev others : List Load
      others = loads_in src (drop (i + 1) ss)

      next : loads_in src (drop i ss) ≡ load ∷ others
      unfolding loads_in
      next =
          ap (loads_in src) (drop-cons ss i no_slot h)
          ∙ ap₂ (λ (b : List ℕ) (k : ℕ). record { key = key_code (get_or ss i no_slot).code; bytes = b } ∷ loads_in src (drop k ss)) (sym ev) (sym (add-one i))

      pub text_fits : pos + length v + length (payload others) ≡ base + length (payload (loads_in src ss))
      unfolding payload
      text_fits = omega (arith, T.sum, ap (λ (x : List Load). length (payload x)) next, length-append v (payload others))

      pub texting_more : (t₁ : List ℕ) (x : Cell) → x ≡ cell (pos + 1) (pos + length v - pos) → (n : ℕ) → n ≡ key_code (get_or ss i no_slot).code → t₁ ≡ text_put n x t → Texting t₀ base src ss t₁ (pos + length v) (i + 1)
      unfolding texts_in
      texting_more t₁ x ex n en e =
          let y : pos + length v - pos ≡ length v = omega arith in
          let z : t₁ ≡ text_put load.key (cell (suc pos) (length v)) t = e ∙ ap (λ (k : ℕ). text_put k x t) en ∙ ap (λ (c : Cell). text_put load.key c t) (ex ∙ ap₂ cell (add-one pos) y) in
          record {
            rest = ap (texts_in (pos + length v) others) z ∙ sym (ap (λ (x : List Load). texts_in pos x t) next) ∙ T.rest;
            sum = text_fits;
            size = ap length z ∙ put_length load.key (cell (suc pos) (length v)) t ∙ T.size;
          }

pub closed_done : (t t₁ t₂ t₃ t₄ : List ℕ) (a q c : Cell) → t₄ ≡ with_cell 62 c t₃ → t₃ ≡ with_cell 60 q t₂ → t₂ ≡ with_cell 58 a t₁ → t₁ ≡ with_cell 0 (cell 0 0) t → t₄ ≡ closed a q c t
unfolding closed cell no_cell
closed_done t t₁ t₂ t₃ t₄ a q c e f g h = e ∙ ap (with_cell 62 c) (f ∙ ap (with_cell 60 q) (g ∙ ap (with_cell 58 a) h))
