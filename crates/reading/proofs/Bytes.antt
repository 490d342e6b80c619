-- A row written as bytes, number by number.
use mathlib.Core.Path.{◌≡◌, refl, ap, ◌∙◌}
use mathlib.Core.List.{List, [], ◌∷◌, ◌++◌, append_assoc}
use Prim.Native.Nat.{ℕ, ◌+◌, ◌*◌, ◌≤◌, ◌<◌}
use native.Mathlib.Numerals.{add-one}
use native.Mathlib.Omega.{arith}
use lib.ListN.{length, take, drop, get_or, length-append, length-drop}
use lib.Seq.{take_at, drop_at, drop-drop, take-suc, length-take-le, take_all}
use borrow.Rule.Slice.PartMut.{put_mid}
use Rattle.std.specs.Int.{to_le_bytes}
use mir.Syntax.{w32}
use Rattle.reading.specs.Bytes.{number_bytes, row_bytes}

bytes_length : (r : List ℕ) → length (row_bytes r) ≡ length r * 4
unfolding row_bytes number_bytes
bytes_length [] = refl
bytes_length (v ∷ r) = omega (arith, bytes_length r)

bytes_snoc : (r : List ℕ) (v : ℕ) → row_bytes (r ++ (v ∷ [])) ≡ row_bytes r ++ number_bytes v
unfolding row_bytes number_bytes
bytes_snoc [] v = refl
bytes_snoc (x ∷ r) v = ap (λ (l : List ℕ). number_bytes x ++ l) (bytes_snoc r v)

pub le_bytes : (v : ℕ) → to_le_bytes w32 v ≡ number_bytes v
unfolding number_bytes
le_bytes v = refl

-- c numbers are written; what lies beyond is as it was.
pub record Written (old row : List ℕ) (c : ℕ) (new : List ℕ) : Type 0 where
  pub most : c ≤ 50
  pub length_kept : length new ≡ length old
  pub is : new ≡ row_bytes (take c row) ++ drop (c * 4) old

module _ (old row : List ℕ) (enough : 200 ≤ length old) (wide : length row ≡ 50) where
  pub written_none : Written old row 0 old
  unfolding row_bytes
  written_none = record { most = omega arith; length_kept = refl; is = refl }

  pub written_all : (c : ℕ) (new : List ℕ) → 50 ≤ c → Written old row c new → new ≡ row_bytes row ++ drop 200 old
  written_all c new h w =
      let e : c ≡ 50 = omega (arith, w.most) in
      let l : take 50 row ≡ row = take_all 50 row (omega arith) in
      w.is ∙ rw (e, l)

  module _ (c : ℕ) (new : List ℕ) (h : c < 50) (w : Written old row c new) where
    abbrev done : List ℕ
    done = row_bytes (take c row)

    done_length : length done ≡ c * 4
    done_length = bytes_length (take c row) ∙ ap (λ (n : ℕ). n * 4) (length-take-le c row (omega arith))

    pub written_more : {bytes : List ℕ} → bytes ≡ number_bytes (get_or row c 0) → Written old row (c + 1) (put_mid (c * 4) 4 new bytes)
    unfolding number_bytes
    written_more {bytes} e =
        let t : take (c * 4) new ≡ done = ap (take (c * 4)) w.is ∙ take_at done (drop (c * 4) old) (c * 4) done_length in
        let d : drop 4 (drop (c * 4) new) ≡ drop ((c + 1) * 4) old =
        ap (λ (l : List ℕ). drop 4 (drop (c * 4) l)) w.is ∙ ap (drop 4) (drop_at done (drop (c * 4) old) (c * 4) done_length) ∙ drop-drop 4 (c * 4) old ∙ ap (λ (n : ℕ). drop n old) (omega arith) in
        let r : row_bytes (take (c + 1) row) ≡ done ++ number_bytes (get_or row c 0) = rw add-one (ap row_bytes (take-suc row c 0 (omega arith)) ∙ bytes_snoc (take c row) (get_or row c 0)) in
        let is : put_mid (c * 4) 4 new bytes ≡ row_bytes (take (c + 1) row) ++ drop ((c + 1) * 4) old = rw (t, d, r, e, append_assoc) refl in
        record {
          most = omega arith;
          length_kept =
              ap length is
              ∙ omega (arith, length-append (row_bytes (take (c + 1) row)) (drop ((c + 1) * 4) old), bytes_length (take (c + 1) row), length-take-le (c + 1) row (omega arith), length-drop ((c + 1) * 4) old);
          is = is;
        }
