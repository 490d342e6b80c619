-- Bytes laid one behind another.
use Prim.Native.Nat.{ℕ, ◌+◌, ◌-◌, ◌≤◌, ◌<◌}
use mathlib.Core.Path.{◌≡◌, refl, sym, ap, ap₂, ◌∙◌}
use mathlib.Core.List.{List, [], ◌∷◌, ◌++◌, append_assoc, append-nil}
use native.Mathlib.Nat.{add-zero}
use native.Mathlib.Numerals.{add-one}
use native.Mathlib.Omega.{arith}
use lib.ListN.{length, get_or, set, take, drop, length-append, length-drop, take-append-drop}
use lib.Seq.{paste, paste-suc, length-paste, take-length, length-take-le, take-suc, take_at, drop_at, drop-drop, take-add}
use Rattle.definition.specs.Look.{Load, payload}
use Rattle.std.proofs.Common.{min}
use Rattle.std.proofs.lemmas.List.{take_min}
use Rattle.plain.specs.declared.Slot.{Slot}
use Rattle.plain.specs.Plain.{slot_bytes, loads_in}
use Rattle.plain.specs.Keyed.{no_slot}
use Rattle.plain.proofs.CopyLaws.{loads_append}
use Rattle.payload.specs.Laid.{laid}

-- ---- one text

module _ (t : List ℕ) (at : ℕ) (v : List ℕ) (fits : at + length v ≤ length t) where
  pub pasted : paste t at v (length v) ≡ laid t at v
  unfolding laid
  pasted = ap (λ (x : List ℕ). take at t ++ x ++ drop (at + length v) t) (take-length v) ∙ append_assoc (take at t) v (drop (at + length v) t)

  pub paste_end : (i : ℕ) → length v ≤ i → i ≤ length v → paste t at v i ≡ laid t at v
  paste_end i h k = let e : i ≡ length v = omega arith in ap (paste t at v) e ∙ pasted

  pub paste_more : (now : List ℕ) (i : ℕ) → now ≡ paste t at v i → i < length v → set now (at + i) (get_or v i 0) ≡ paste t at v (i + 1)
  paste_more now i e h = ap (λ (x : List ℕ). set x (at + i) (get_or v i 0)) e ∙ paste-suc t at v i 0 (omega arith) h ∙ ap (paste t at v) (sym (add-one i))

  pub paste_size : (now : List ℕ) (i : ℕ) → now ≡ paste t at v i → i ≤ length v → length now ≡ length t
  paste_size now i e h = ap length e ∙ length-paste t at v i (omega arith) h

  front : length (take at t) ≡ at
  front = length-take-le at t (omega arith)

  pub laid_length : length (laid t at v) ≡ length t
  unfolding laid
  laid_length = omega (arith, length-append (take at t) (v ++ drop (at + length v) t), length-append v (drop (at + length v) t), length-drop (at + length v) t, front)

pub laid_nothing : (t : List ℕ) (at : ℕ) → t ≡ laid t at []
unfolding laid
laid_nothing t at = sym (ap (λ (n : ℕ). take at t ++ drop n t) (add-zero at) ∙ take-append-drop at t)

-- A text behind another.
pub laid_behind : (t : List ℕ) (at : ℕ) (v w : List ℕ) → at + length v ≤ length t → laid (laid t at v) (at + length v) w ≡ laid t at (v ++ w)
unfolding laid
laid_behind t at v w h =
    let f : List ℕ = take at t ++ v in
    let r : List ℕ = drop (at + length v) t in
    let a : take at t ++ (v ++ r) ≡ f ++ r = sym (append_assoc (take at t) v r) in
    let n : length f ≡ at + length v = length-append (take at t) v ∙ ap (λ (k : ℕ). k + length v) (front t at v h) in
    let p : take (at + length v) (take at t ++ (v ++ r)) ≡ f = ap (take (at + length v)) a ∙ take_at f r (at + length v) n in
    let q : drop (at + length v + length w) (take at t ++ (v ++ r)) ≡ drop (at + length (v ++ w)) t =
    sym (drop-drop (length w) (at + length v) (take at t ++ (v ++ r))) ∙ ap (drop (length w)) (ap (drop (at + length v)) a ∙ drop_at f r (at + length v) n) ∙ drop-drop (length w) (at + length v) t
    ∙ ap (λ (k : ℕ). drop k t) (sums v w) in
    ap₂ (λ (x y : List ℕ). x ++ (w ++ y)) p q ∙ append_assoc (take at t) v (w ++ drop (at + length (v ++ w)) t) ∙ ap (λ (x : List ℕ). take at t ++ x) (sym (append_assoc v w (drop (at + length (v ++ w)) t)))
  where
    sums : (v w : List ℕ) → at + length v + length w ≡ at + length (v ++ w)
    sums v w = omega (arith, length-append v w)

-- ---- all values

payload_append : (is js : List Load) → payload (is ++ js) ≡ payload is ++ payload js
unfolding payload
payload_append [] js = refl
payload_append (i ∷ is) js = ap (λ (x : List ℕ). i.bytes ++ x) (payload_append is js) ∙ sym (append_assoc i.bytes (payload is) (payload js))

-- The bytes of the first n slots.
abbrev pub bytes_of : List ℕ → List Slot → ℕ → List ℕ
bytes_of src ss n = payload (loads_in src (take n ss))

bytes_next : (src : List ℕ) (ss : List Slot) (i : ℕ) → i < length ss → bytes_of src ss (i + 1) ≡ bytes_of src ss i ++ slot_bytes src (get_or ss i no_slot)
unfolding loads_in payload
bytes_next src ss i h =
    let s : Slot = get_or ss i no_slot in
    ap (λ (xs : List Slot). payload (loads_in src xs)) (ap (λ (n : ℕ). take n ss) (add-one i) ∙ take-suc ss i no_slot h)
    ∙ ap payload (loads_append src (take i ss) (s ∷ []))
    ∙ payload_append (loads_in src (take i ss)) (loads_in src (s ∷ []))
    ∙ ap (λ (x : List ℕ). bytes_of src ss i ++ x) (append-nil (slot_bytes src s))

bytes_grow : (src : List ℕ) (ss : List Slot) (i k : ℕ) → length (bytes_of src ss i) ≤ length (bytes_of src ss (i + k))
bytes_grow src ss i k =
    let e : take (i + k) ss ≡ take i ss ++ take k (drop i ss) = take-add i k ss in
    let z : bytes_of src ss (i + k) ≡ bytes_of src ss i ++ payload (loads_in src (take k (drop i ss))) =
    ap (λ (xs : List Slot). payload (loads_in src xs)) e ∙ ap payload (loads_append src (take i ss) (take k (drop i ss))) ∙ payload_append (loads_in src (take i ss)) (loads_in src (take k (drop i ss))) in
    omega (arith, ap length z, length-append (bytes_of src ss i) (payload (loads_in src (take k (drop i ss)))))

pub record Laying (t : List ℕ) (used : ℕ) (src : List ℕ) (ss : List Slot) (now : List ℕ) (pos i : ℕ) : Type 0 where
  pub within : i ≤ length ss
  pub room : used + length (payload (loads_in src ss)) ≤ length t
  pub all : now ≡ laid t used (bytes_of src ss i)
  pub ends : pos ≡ used + length (bytes_of src ss i)

module _ (t : List ℕ) (used : ℕ) (src : List ℕ) (ss : List Slot) where
  all_of : bytes_of src ss (length ss) ≡ payload (loads_in src ss)
  all_of = ap (λ (xs : List Slot). payload (loads_in src xs)) (take-length ss)

  pub laying_start : used + length (payload (loads_in src ss)) ≤ length t → Laying t used src ss t used 0
  unfolding loads_in payload
  laying_start h = record { within = omega arith; room = h; all = laid_nothing t used; ends = omega arith }

  module _ (now : List ℕ) (pos i : ℕ) (L : Laying t used src ss now pos i) where
    fits_from : (j : ℕ) → j ≤ length ss → used + length (bytes_of src ss j) ≤ length t
    fits_from j h =
        let e : j + (length ss - j) ≡ length ss = omega arith in
        omega (arith, L.room, bytes_grow src ss j (length ss - j), ap (λ (n : ℕ). length (bytes_of src ss n)) e, ap length all_of)

    fits_now : used + length (bytes_of src ss i) ≤ length t
    fits_now = fits_from i L.within

    pub laying_size : length now ≡ length t
    laying_size = ap length L.all ∙ laid_length t used (bytes_of src ss i) fits_now

    module _ (h : i < length ss) (v : List ℕ) (ev : v ≡ slot_bytes src (get_or ss i no_slot)) where
      next : bytes_of src ss (i + 1) ≡ bytes_of src ss i ++ v
      next = bytes_next src ss i h ∙ ap (λ (x : List ℕ). bytes_of src ss i ++ x) (sym ev)

      longer : length (bytes_of src ss (i + 1)) ≡ length (bytes_of src ss i) + length v
      longer = ap length next ∙ length-append (bytes_of src ss i) v

      pub value_fits : pos + length v ≤ length now
      value_fits = omega (arith, L.ends, longer, fits_from (i + 1) (omega arith), laying_size)

      pub laying_more : (now' : List ℕ) → now' ≡ laid now pos v → Laying t used src ss now' (pos + length v) (i + 1)
      laying_more now' e =
          record {
            within = omega arith;
            room = L.room;
            all = e ∙ ap₂ (λ (x : List ℕ) (n : ℕ). laid x n v) L.all L.ends ∙ laid_behind t used (bytes_of src ss i) v fits_now ∙ ap (laid t used) (sym next);
            ends = omega (arith, L.ends, longer);
          }

    pub laying_end : length ss ≤ i → (pos ≡ used + length (payload (loads_in src ss))) × (now ≡ laid t used (payload (loads_in src ss)))
    laying_end h =
        let k : i ≡ length ss = omega (arith, L.within) in
        let e : bytes_of src ss i ≡ payload (loads_in src ss) = ap (bytes_of src ss) k ∙ all_of in
        (L.ends ∙ ap (λ (x : List ℕ). used + length x) e, L.all ∙ ap (laid t used) e)

-- The slots in use, of the 16 that there are.
pub slots_in_use : (ss : List Slot) (c n : ℕ) → length ss ≡ 16 → n ≡ min c 16 → take n ss ≡ take c ss
slots_in_use ss c n l e = ap (λ (k : ℕ). take k ss) (let z : n ≡ min c (length ss) = omega arith in z) ∙ take_min c ss
