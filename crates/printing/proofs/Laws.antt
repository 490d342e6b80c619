-- A buffer filled from the front; escapes and lists piece by piece.
use mathlib.Core.Path.{◌≡◌, refl, ap, ap₂, sym, ◌∙◌}
use mathlib.Core.List.{List, [], ◌∷◌, ◌++◌, append_assoc, append-nil}
use mathlib.Core.Bool.{Bool, true, false}
use Prim.Native.Nat.{ℕ, zero, suc, ◌+◌, ◌≤◌, ◌<◌}
use native.Mathlib.Numerals.{add-one}
use native.Mathlib.Omega.{arith}
use lib.ListN.{length, get_or, take, drop, length-append, drop_of_length-le}
use lib.Seq.{take_all, drop-cons, length-take-le}
use borrow.Author.Tests.{eq-eqb, ne_eqb}
use Rattle.words.proofs.Laws.{by}
use Rattle.definition.specs.Text.{decimal}
use Rattle.std.proofs.Common.{Bor, map, filter}
use Rattle.definition.specs.Rows.{Row, Table, num, listed, same_list, values_of}
use Rattle.printing.specs.Added.{Added}
use Rattle.printing.specs.Put.{Put, Begun}
use Rattle.printing.specs.declared.page.Page.{Page}
use Rattle.printing.specs.Lines.{escape, escaped, gap, spaced_from, line}

-- ---- a buffer filled from the front

-- what is cut off once may be cut off at the end
take_over : (n : ℕ) (x v : List ℕ) → take n (take n x ++ v) ≡ take n (x ++ v)
take_over zero x v = refl
take_over (suc n) [] v = refl
take_over (suc n) (b ∷ x) v = ap (λ (l : List ℕ). b ∷ l) (take_over n x v)

pub added_none : (a : List ℕ) (i : ℕ) → i ≤ length a → Added a i a i []
added_none a i h =
    record { long = refl; within = h; told = sym (take_all (length a) (take i a ++ []) (omega (arith, length-append (take i a) [], length-take-le i a h)) ∙ append-nil (take i a)) }

pub added_then : {a b c w v : List ℕ} {i j k : ℕ} → Added a i b j w → Added b j c k v → Added a i c k (w ++ v)
added_then {a} {b} {c} {w} {v} {i} {j} {k} x y =
    record {
      long = y.long ∙ x.long;
      within = y.within;
      told =
          y.told ∙ ap₂ (λ (n : ℕ) (l : List ℕ). take n (l ++ v)) y.long x.told ∙ take_over (length b) (take i a ++ w) v
          ∙ ap (take (length b)) (append_assoc (take i a) w v)
          ∙ ap (λ (n : ℕ). take n (take i a ++ (w ++ v))) (sym y.long);
    }

pub added_is : {a b w v : List ℕ} {i j : ℕ} → w ≡ v → Added a i b j w → Added a i b j v
added_is {a} {b} {w} {v} {i} {j} e x = record { long = x.long; within = x.within; told = x.told ∙ ap (λ (l : List ℕ). take (length b) (take i a ++ l)) e }

-- ---- what is filled, piece by piece

pub put_none : (x : Page) → x.at ≤ length x.buffer.now → Put x x []
put_none x h = record { added = added_none x.buffer.now x.at h; loan = refl }

pub put_then : {x y z : Page} {w v : List ℕ} → Put x y w → Put y z v → Put x z (w ++ v)
put_then p q = record { added = added_then p.added q.added; loan = q.loan ∙ p.loan }

pub put_is : {x y : Page} {w v : List ℕ} → w ≡ v → Put x y w → Put x y v
put_is e p = record { added = added_is e p.added; loan = p.loan }

pub begun : (x : Page) (whole : List ℕ) → x.at ≤ length x.buffer.now → Begun x x whole whole
begun x whole h = record { part = []; put = put_none x h; joined = refl }

pub goes_on : {x y z : Page} {v rest₀ rest whole : List ℕ} → Begun x y rest₀ whole → rest₀ ≡ v ++ rest → Put y z v → Begun x z rest whole
goes_on {v = v} {rest = rest} g e q =
    record {
      part = g.part ++ v;
      put = put_then g.put q;
      joined = append_assoc g.part v rest ∙ ap (λ (l : List ℕ). g.part ++ l) (sym e) ∙ g.joined;
    }

pub ended : {x y : Page} {rest whole : List ℕ} → Begun x y rest whole → rest ≡ [] → Put x y whole
ended g e = put_is (sym (append-nil g.part) ∙ ap (λ (l : List ℕ). g.part ++ l) (sym e) ∙ g.joined) g.put

-- ---- escapes

module _ (b : ℕ) where
  pub escape_line : b ≡ 10 → escape b ≡ 92 ∷ 110 ∷ []
  unfolding escape
  escape_line e = rw (eq-eqb _ _ e, escape)

  pub escape_slash : b ≡ 92 → escape b ≡ 92 ∷ 92 ∷ []
  unfolding escape
  escape_slash e = rw e

  pub escape_other : (b ≡ 10 → ⊥) → (b ≡ 92 → ⊥) → escape b ≡ b ∷ []
  unfolding escape
  escape_other h k = rw (ne_eqb _ _ h, escape) (rw (ne_eqb _ _ k, escape))

module _ (w : List ℕ) (i : ℕ) where
  pub escaped_more : i < length w → escaped (drop i w) ≡ escape (get_or w i 0) ++ escaped (drop (i + 1) w)
  unfolding escaped
  escaped_more h = rw (drop-cons w i 0 h, add-one)

  pub escaped_end : length w ≤ i → escaped (drop i w) ≡ []
  unfolding escaped
  escaped_end h = rw (drop_of_length-le w h)

-- ---- lists

pub listed_filter : (l o : ℕ) (ms : Table) → filter (same_list l o) ms ≡ listed l o ms
unfolding listed
listed_filter l o [] = refl
listed_filter l o (m ∷ ms) =
    by (same_list l o m) (λ e. rw (e, listed) (ap (λ (x : Table). m ∷ x) (listed_filter l o ms)))
    (λ e. rw (e, listed) (listed_filter l o ms))

-- what stands before the next number of a list
pub gap_after : Bool → List ℕ → List ℕ
gap_after first [] = gap first
gap_after first (n ∷ ns) = gap false

pub gap_first : gap_after true [] ≡ []
unfolding gap_after gap
gap_first = refl

pub gap_next : (first : Bool) (ns : List ℕ) (n : ℕ) → gap_after first (ns ++ n ∷ []) ≡ 32 ∷ []
unfolding gap_after gap
gap_next first [] n = refl
gap_next first (m ∷ ns) n = refl

gap_false : (ns : List ℕ) → gap_after false ns ≡ gap false
unfolding gap_after
gap_false [] = refl
gap_false (n ∷ ns) = refl

pub spaced_more : (first : Bool) (ns : List ℕ) (n : ℕ) → spaced_from first (ns ++ n ∷ []) ≡ spaced_from first ns ++ (gap_after first ns ++ decimal n)
unfolding spaced_from gap_after
spaced_more first [] n = append-nil (gap first ++ decimal n)
spaced_more first (m ∷ ns) n =
    ap (λ (x : List ℕ). (gap first ++ decimal m) ++ x) (spaced_more false ns n ∙ ap (λ (x : List ℕ). spaced_from false ns ++ (x ++ decimal n)) (gap_false ns))
    ∙ sym (append_assoc (gap first ++ decimal m) (spaced_from false ns) (gap false ++ decimal n))

-- the numbers of the members that came
abbrev pub numbers_in : List (Bor Row) → List ℕ
numbers_in rows = values_of (map (λ (r : Bor Row). r.now) rows)

pub numbers_more : (rows : List (Bor Row)) (r : Bor Row) → numbers_in (rows ++ r ∷ []) ≡ numbers_in rows ++ num r.now 2 ∷ []
unfolding values_of
numbers_more [] r = refl
numbers_more (q ∷ rows) r = ap (λ (x : List ℕ). num q.now 2 ∷ x) (numbers_more rows r)

-- ---- lines

pub line_put : {x y z u : Page} {h v : List ℕ} → Put x y h → Put y z v → Put z u (10 ∷ []) → Put x u (line h v)
unfolding line
line_put p q r = put_then (put_then p q) r
