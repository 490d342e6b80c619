-- As many bytes as there is room for, put behind the first ones of a buffer.
use mathlib.Core.Path.{◌≡◌, refl, sym, ap, ◌∙◌}
use mathlib.Core.Bool.{Bool, true, false}
use mathlib.Core.List.{List, ◌++◌}
use Prim.Native.Nat.{ℕ, suc, ◌+◌, ◌-◌, ◌≤◌, ◌<◌}
use native.Mathlib.Omega.{arith}
use lib.Dec.{leb}
use lib.ListN.{length, take, drop, length-append, length-drop}
use lib.Seq.{take_all, length-take-le, take-append-add}
use borrow.Author.Tests.{leb-true, leb-false}
use borrow.Rule.Slice.PartMut.{put_mid}
use Rattle.std.proofs.lemmas.Slice.{take-put_mid}
use Rattle.printing.specs.Added.{Added}

module _ (a w : List ℕ) (i n : ℕ) (room : i + n ≤ length a) (some : n ≤ length w) (all : n < length w → i + n ≡ length a) where
  front : length (take i a) ≡ i
  front = length-take-le i a (omega arith)

  put : length (take n w) ≡ n
  put = length-take-le n w some

  long : length (put_mid i n a (take n w)) ≡ length a
  long = omega (arith, length-append (take i a) (take n w ++ drop n (drop i a)), length-append (take n w) (drop n (drop i a)), length-drop n (drop i a), length-drop i a, front, put)

  same : take (length a - i) w ≡ take n w
  same = go (leb (suc n) (length w)) refl
    where
      go : (b : Bool) → leb (suc n) (length w) ≡ b → take (length a - i) w ≡ take n w
      go true e = let l : n < length w = leb-true (suc n) (length w) e in ap (λ (m : ℕ). take m w) (omega (arith, all l))
      go false e = let l : length w ≤ n = omega (arith, leb-false (suc n) (length w) e) in take_all (length a - i) w (omega arith) ∙ sym (take_all n w l)

  pub bytes_put : Added a i (put_mid i n a (take n w)) (i + n) w
  bytes_put =
      record {
        long = long;
        within = omega (arith, long);
        told =
            take-put_mid i n a (take n w) (i + n) (omega (arith, put)) (omega arith)
            ∙ ap (λ (x : List ℕ). take i a ++ x) (sym same)
            ∙ sym (take-append-add (take i a) w (length a - i))
            ∙ ap (λ (m : ℕ). take m (take i a ++ w)) (omega (arith, front, long));
      }
