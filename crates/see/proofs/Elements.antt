-- A kind past the last is seen as `end`, an element past the last as `unknown`.
use Prim.Native.Nat.{ℕ, zero, suc, ◌<◌}
use mathlib.Core.Bool.{Bool, false, ◌&&◌}
use lib.Dec.{eqb}
use borrow.Author.Tests.{ne_eqb}
use native.Mathlib.Omega.{arith}
use mathlib.Core.Path.{◌≡◌, refl, ◌∙◌}
use Rattle.definition.specs.declared.Position.{Position}
use Rattle.std.specs.Prelude.{Option, [], length}
use Rattle.definition.specs.Rows.{Table, opened, num, last_of}
use Rattle.plan.specs.Ids.{kind_counted, tag_counted}
use Rattle.plan.specs.Seen.{closes, closed_at}
use Rattle.plan.specs.declared.Closing.{Closing}
use Rattle.plan.proofs.Elements.{suc28, by_tag}
use Rattle.see.specs.Masked.{is_start, is_both, is_open, is_else, is_part, is_invoked, is_childish, closes_own, does_close, bool_if, closing_if}
use Rattle.see.specs.Scans.{is_child_in}
use Rattle.see.specs.View.{default_for, family_of, seen_by}

no : (h c : ℕ) → c < 28 → eqb (suc28 h) c ≡ false
no h c l = ne_eqb (suc28 h) c (omega (arith, l))

else_none : (h : ℕ) → is_else (suc28 h) ≡ is_else 0
unfolding is_else
else_none h = rw (no h 12 (omega arith), no h 13 (omega arith))

part_none : (h : ℕ) → is_part (suc28 h) ≡ is_part 0
unfolding is_part
part_none h = rw (no h 14 (omega arith), no h 15 (omega arith))

invoked_none : (h : ℕ) → is_invoked (suc28 h) ≡ is_invoked 0
unfolding is_invoked
invoked_none h = rw (no h 11 (omega arith), no h 14 (omega arith), no h 15 (omega arith))

childish_none : (h : ℕ) → is_childish (suc28 h) ≡ is_childish 0
unfolding is_childish
childish_none h = rw (no h 2 (omega arith), no h 3 (omega arith), no h 5 (omega arith))

own_none : (h : ℕ) → closes_own (suc28 h) ≡ closes_own 0
unfolding closes_own
own_none h = rw (no h 11 (omega arith), no h 16 (omega arith), no h 17 (omega arith), no h 18 (omega arith), no h 24 (omega arith), no h 25 (omega arith))

-- What closes nothing.
closed_none : (k h : ℕ) (x y : Option Closing) → closing_if (does_close k (suc28 h)) x ≡ closing_if (does_close k 0) y
unfolding does_close is_open is_else closes_own closing_if
closed_none zero h x y = rw (else_none h)
closed_none (suc k) h x y = rw (else_none h, own_none h)

default_none : (h : ℕ) (j : Bool) (p s : ℕ) → default_for (suc28 h) j p s ≡ default_for 0 j p s
unfolding default_for
default_none h j p s = rw (default_for, no h 2 (omega arith))

module _ (o : ℕ) (p : Position) (c s t e i m w r : Table) where
  kinds : (k g : ℕ) → seen_by (kind_counted k) g o p c s t e i m w r ≡ seen_by k g o p c s t e i m w r
  unfolding seen_by kind_counted family_of is_start is_both is_open does_close
  kinds zero g = refl
  kinds (suc zero) g = refl
  kinds (suc (suc zero)) g = refl
  kinds (suc (suc (suc k))) g = refl

  none : (k h : ℕ) → seen_by k (suc28 h) o p c s t e i m w r ≡ seen_by k 0 o p c s t e i m w r
  unfolding seen_by family_of
  none k h =
      rw (
        closed_none k h (closed_at (closes (suc28 h)) r (length r) p.current.0) (closed_at (closes 0) r (length r) p.current.0),
        else_none h,
        part_none h,
        invoked_none h,
        no h 16 (omega arith),
        childish_none h,
        default_none h (bool_if (is_start k && is_childish 0) (is_child_in (num (last_of [] w) opened.state) o m)) (num (last_of [] w) opened.state) o,
        no h 1 (omega arith),
        no h 2 (omega arith),
      )

  pub seen_counted : (k g : ℕ) {a b : ℕ} → a ≡ kind_counted k → b ≡ tag_counted g → seen_by a b o p c s t e i m w r ≡ seen_by k g o p c s t e i m w r
  seen_counted k g ek eg = (λ z. seen_by (ek z) (eg z) o p c s t e i m w r) ∙ kinds k (tag_counted g) ∙ by_tag (λ h. seen_by k h o p c s t e i m w r) (none k) g
