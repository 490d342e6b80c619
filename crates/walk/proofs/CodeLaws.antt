-- What the functions need of the walk's definition.
use Prim.Native.Nat.{ℕ, ◌+◌, ◌≤◌}
use mathlib.Core.Path.{◌≡◌, refl, sym, ap, ap₂, ◌∙◌}
use mathlib.Core.Bool.{Bool, true, false, ◌&&◌}
use mathlib.Core.Option.{Option, none, some}
use mathlib.Core.List.{List, ◌++◌}
use native.Mathlib.Omega.{arith}
use lib.Dec.{leb}
use lib.ListN.{length, drop, length-append}
use lib.Seq.{drop-append_seam}
use borrow.Author.Tests.{leb-true}
use Rattle.definition.specs.Text.{str, place_in}
use Rattle.definition.specs.Elements.{tag_of, key_of}
use Rattle.definition.specs.Event as E
use Rattle.definition.specs.Event.{Line, after, headed, line_of, kind_names, legible}
use Rattle.std.specs.Prelude as std
use Rattle.lines.specs.Escapes as L
use Rattle.definition.proofs.Base.{true_is_false, and_right}
use Rattle.definition.proofs.Events.{after_split}
use Rattle.walk.specs.Views.{Scan}
use Rattle.walk.specs.Views.{measured, counted, scan_of}
use Rattle.lines.specs.Lines.{has_head}
use Rattle.parts.specs.declared.Part.{Part}
use Rattle.parts.specs.Walked.{Walked}
use Rattle.walk.specs.Views.{Found}
use Rattle.parts.specs.Parts as P
use Rattle.parts.specs.Parts.{part_at, with_kind, with_name, with_key, with_text, added_value}
use Rattle.walk.specs.Walk.{AsWritten, fits, written, found, name_fits, key_fits, value_fits, text_fits, on_event, on_name, on_key, on_value}

-- ---- a line by its head

head_split : (h l : List ℕ) → has_head h l ≡ true → l ≡ h ++ drop (length h) l
unfolding has_head
head_split h l e = go (after h l) refl
  where
    go : (o : Option (List ℕ)) → after h l ≡ o → l ≡ h ++ drop (length h) l
    go none q = true_is_false (sym (rw (q, has_head) at e))
    go (some v) q =
        let z : l ≡ h ++ v = after_split h l v q in
        let y : drop (length h) l ≡ v = ap (drop (length h)) z ∙ drop-append_seam h v in
        z ∙ ap (λ (x : List ℕ). h ++ x) (sym y)

pub head_length : (h l : List ℕ) → has_head h l ≡ true → length h ≤ length l
head_length h l e = omega (arith, ap length (head_split h l e), length-append h (drop (length h) l))

module _ (l : List ℕ) where
  pub as_event : has_head (str "event=") l ≡ true → line_of l ≡ E.event (drop 6 l)
  unfolding line_of str
  as_event e = ap line_of (head_split (str "event=") l e)

  pub as_name : has_head (str "name=") l ≡ true → line_of l ≡ E.name (drop 5 l)
  unfolding line_of str
  as_name e = ap line_of (head_split (str "name=") l e)

  pub as_key : has_head (str "key=") l ≡ true → line_of l ≡ E.key (drop 4 l)
  unfolding line_of str
  as_key e = ap line_of (head_split (str "key=") l e)

  pub as_value : has_head (str "value=") l ≡ true → line_of l ≡ E.value (drop 6 l)
  unfolding line_of str
  as_value e = ap line_of (head_split (str "value=") l e)

  pub as_text : has_head (str "text=") l ≡ true → line_of l ≡ E.text (drop 5 l)
  unfolding line_of str
  as_text e = ap line_of (head_split (str "text=") l e)

-- What holds of a line with no head holds of the line, if it holds of each head that the line may have.
headed_of : (P : Line → Type 0) (h : List ℕ) (make : List ℕ → Line) (other : Line) (l : List ℕ) → ((v : List ℕ) → has_head h l ≡ true → P (make v)) → P other → P (headed h make other l)
unfolding headed has_head
headed_of P h make other l f g = go (after h l) refl
  where
    go : (o : Option (List ℕ)) → after h l ≡ o → P (headed h make other l)
    go none q = rw (q, headed) g
    go (some v) q = rw (q, headed) (f v (rw (q, has_head)))

line_of_lem : (P : Line → Type 0) (l : List ℕ) → ((v : List ℕ) → has_head (str "value=") l ≡ true → P (E.value v)) → ((v : List ℕ) → has_head (str "key=") l ≡ true → P (E.key v))
    → ((v : List ℕ) → has_head (str "event=") l ≡ true → P (E.event v)) → ((v : List ℕ) → has_head (str "name=") l ≡ true → P (E.name v))
    → ((v : List ℕ) → has_head (str "text=") l ≡ true → P (E.text v)) → P E.junk → P (line_of l)
unfolding line_of
line_of_lem P l a b c d e f =
    headed_of P (str "value=") E.value _ l a (headed_of P (str "key=") E.key _ l b (headed_of P (str "event=") E.event _ l c (headed_of P (str "name=") E.name _ l d (headed_of P (str "text=") E.text _ l e f))))

never : {X : Type 0} {p : Bool} → p ≡ false → p ≡ true → X
never e f = true_is_false (sym f ∙ e)

module _ (l : List ℕ) (at : ℕ) (d : Walked) where
  pub not_event : has_head (str "event=") l ≡ false → P.broken d ≡ on_event (line_of l) d
  unfolding on_event
  not_event e = line_of_lem (λ (x : Line). P.broken d ≡ on_event x d) l (λ v f. refl) (λ v f. refl) (λ v f. never e f) (λ v f. refl) (λ v f. refl) refl

  pub not_name : has_head (str "name=") l ≡ false → P.broken d ≡ on_name at (line_of l) d
  unfolding on_name
  not_name e = line_of_lem (λ (x : Line). P.broken d ≡ on_name at x d) l (λ v f. refl) (λ v f. refl) (λ v f. refl) (λ v f. never e f) (λ v f. refl) refl

  pub not_key : has_head (str "text=") l ≡ false → has_head (str "key=") l ≡ false → P.broken d ≡ on_key at (line_of l) d
  unfolding on_key
  not_key g e = line_of_lem (λ (x : Line). P.broken d ≡ on_key at x d) l (λ v f. refl) (λ v f. never e f) (λ v f. refl) (λ v f. refl) (λ v f. never g f) refl

  pub not_value : has_head (str "value=") l ≡ false → P.broken d ≡ on_value at (line_of l) d
  unfolding on_value
  not_value e = line_of_lem (λ (x : Line). P.broken d ≡ on_value at x d) l (λ v f. never e f) (λ v f. refl) (λ v f. refl) (λ v f. refl) (λ v f. refl) refl

-- A scan as code gives it.
pub scan_is : (x : List ℕ) (o : std.Option ℕ) → o ≡ L.scanned x → scan_of o ≡ measured x
unfolding measured counted L.scanned L.counted
scan_is x o e = ap scan_of e ∙ go (legible x)
  where
    go : (q : Option (List ℕ)) → scan_of (L.counted 0 q) ≡ counted 0 q
    go none = refl
    go (some v) = refl

-- ---- a line in form, and one whose part is not within its limits

module _ (low high at : ℕ) (x : List ℕ) where
  found_by : (p : Bool) → fits low high (measured x) ≡ p → found low high at x ≡ elim p as (λ q. Found) [ true ↦ record { ok = true; part = written at x } | false ↦ record { ok = false; part = part_at 0 0 0 } ]
  unfolding found
  found_by true e = rw (e, found)
  found_by false e = rw (e, found)

  fits_found : (p : Bool) → (found low high at x).ok ≡ p → fits low high (measured x) ≡ p
  fits_found p e = go (fits low high (measured x)) refl
    where
      go : (q : Bool) → fits low high (measured x) ≡ q → q ≡ p
      go true f = sym (ap (λ (y : Found). y.ok) (found_by true f)) ∙ e
      go false f = sym (ap (λ (y : Found). y.ok) (found_by false f)) ∙ e

  found_part : fits low high (measured x) ≡ true → (found low high at x).part ≡ written at x
  found_part e = ap (λ (y : Found). y.part) (found_by true e)

  -- As the code finds it.
  module _ (top : ℕ) (s : Scan) (es : s ≡ measured x) (et : top ≡ high) where
    fits_is : (s.ok && leb low s.len && leb s.len top) ≡ fits low high (measured x)
    unfolding fits
    fits_is = ap₂ (λ (q : Scan) (t : ℕ). q.ok && leb low q.len && leb q.len t) es et

    pub not_found : (s.ok && leb low s.len && leb s.len top) ≡ false → record { ok = false; part = part_at 0 0 0 } ≡ found low high at x
    not_found f = sym (found_by false (sym fits_is ∙ f))

    pub is_found : (s.ok && leb low s.len && leb s.len top) ≡ true → record { ok = true; part = part_at at (length x) s.len } ≡ found low high at x
    unfolding written
    is_found f = ap (λ (q : Scan). record { ok = true; part = part_at at (length x) q.len }) es ∙ sym (found_by true (sym fits_is ∙ f))

    pub size_small : (s.ok && leb low s.len && leb s.len top) ≡ true → s.len ≤ high
    size_small f = omega (arith, et, leb-true s.len top (and_right (s.ok && leb low s.len) (leb s.len top) f))

pub as_found : (high at : ℕ) (x : List ℕ) → AsWritten high x → record { ok = true; part = part_at at (length x) (length x) } ≡ found 1 high at x
unfolding written
as_found high at x a = ap (λ (n : ℕ). record { ok = true; part = part_at at (length x) n }) (sym a.long) ∙ sym (found_by 1 high at x true a.within)

-- What a line with a part makes, r, by whether the part is within its limits: `put` is what the part adds to d.
module _ (low high at : ℕ) (x : List ℕ) (m : Found) (em : m ≡ found low high at x) (d r : Walked) (put : Part → Walked)
    (by : (p : Bool) → fits low high (measured x) ≡ p → r ≡ elim p as (λ q. Walked) [ true ↦ put (written at x) | false ↦ P.broken d ]) where
  fits_by : (p : Bool) → m.ok ≡ p → fits low high (measured x) ≡ p
  fits_by p q = fits_found low high at x p (sym (ap (λ (y : Found). y.ok) em) ∙ q)

  part_good : m.ok ≡ true → put m.part ≡ r
  part_good t = ap put (ap (λ (y : Found). y.part) em ∙ found_part low high at x (fits_by true t)) ∙ sym (by true (fits_by true t))

  part_bad : m.ok ≡ false → P.broken d ≡ r
  part_bad t = sym (by false (fits_by false t))

module _ (l : List ℕ) (at : ℕ) (d : Walked) (x : List ℕ) (m : Found) where
  module _ (e : has_head (str "name=") l ≡ true) (ex : x ≡ drop 5 l) (em : m ≡ found 1 64 (at + 5) x) where
    name_by : (p : Bool) → fits 1 64 (measured x) ≡ p → on_name at (line_of l) d ≡ elim p as (λ q. Walked) [ true ↦ with_name (tag_of x) (written (at + 5) x) d | false ↦ P.broken d ]
    unfolding on_name name_fits
    name_by p z = ap (λ (y : Line). on_name at y d) (as_name l e ∙ ap E.name (sym ex)) ∙ go p z
      where
        go : (p : Bool) → name_fits x ≡ p → on_name at (E.name x) d ≡ elim p as (λ q. Walked) [ true ↦ with_name (tag_of x) (written (at + 5) x) d | false ↦ P.broken d ]
        go true y = rw (y, on_name) refl
        go false y = rw (y, on_name)

    pub name_good : (g : ℕ) → g ≡ tag_of x → m.ok ≡ true → with_name g m.part d ≡ on_name at (line_of l) d
    name_good g f t = ap (λ (n : ℕ). with_name n m.part d) f ∙ part_good 1 64 (at + 5) x m em d (on_name at (line_of l) d) (λ (y : Part). with_name (tag_of x) y d) name_by t

    pub name_bad : m.ok ≡ false → P.broken d ≡ on_name at (line_of l) d
    name_bad t = part_bad 1 64 (at + 5) x m em d (on_name at (line_of l) d) (λ (y : Part). with_name (tag_of x) y d) name_by t

  module _ (e : has_head (str "text=") l ≡ true) (ex : x ≡ drop 5 l) (em : m ≡ found 0 4096 (at + 5) x) where
    text_by : (p : Bool) → fits 0 4096 (measured x) ≡ p → on_key at (line_of l) d ≡ elim p as (λ q. Walked) [ true ↦ with_text (written (at + 5) x) d | false ↦ P.broken d ]
    unfolding on_key text_fits
    text_by p z = ap (λ (y : Line). on_key at y d) (as_text l e ∙ ap E.text (sym ex)) ∙ go p z
      where
        go : (p : Bool) → text_fits x ≡ p → on_key at (E.text x) d ≡ elim p as (λ q. Walked) [ true ↦ with_text (written (at + 5) x) d | false ↦ P.broken d ]
        go true y = rw (y, on_key) refl
        go false y = rw (y, on_key)

    pub text_good : m.ok ≡ true → with_text m.part d ≡ on_key at (line_of l) d
    text_good t = part_good 0 4096 (at + 5) x m em d (on_key at (line_of l) d) (λ (y : Part). with_text y d) text_by t

    pub text_bad : m.ok ≡ false → P.broken d ≡ on_key at (line_of l) d
    text_bad t = part_bad 0 4096 (at + 5) x m em d (on_key at (line_of l) d) (λ (y : Part). with_text y d) text_by t

  module _ (e : has_head (str "key=") l ≡ true) (ex : x ≡ drop 4 l) (em : m ≡ found 1 64 (at + 4) x) where
    key_by : (p : Bool) → fits 1 64 (measured x) ≡ p → on_key at (line_of l) d ≡ elim p as (λ q. Walked) [ true ↦ with_key (key_of x) (written (at + 4) x) d | false ↦ P.broken d ]
    unfolding on_key key_fits
    key_by p z = ap (λ (y : Line). on_key at y d) (as_key l e ∙ ap E.key (sym ex)) ∙ go p z
      where
        go : (p : Bool) → key_fits x ≡ p → on_key at (E.key x) d ≡ elim p as (λ q. Walked) [ true ↦ with_key (key_of x) (written (at + 4) x) d | false ↦ P.broken d ]
        go true y = rw (y, on_key) refl
        go false y = rw (y, on_key)

    pub key_good : (c : ℕ) → c ≡ key_of x → m.ok ≡ true → with_key c m.part d ≡ on_key at (line_of l) d
    key_good c f t = ap (λ (n : ℕ). with_key n m.part d) f ∙ part_good 1 64 (at + 4) x m em d (on_key at (line_of l) d) (λ (y : Part). with_key (key_of x) y d) key_by t

    pub key_bad : m.ok ≡ false → P.broken d ≡ on_key at (line_of l) d
    key_bad t = part_bad 1 64 (at + 4) x m em d (on_key at (line_of l) d) (λ (y : Part). with_key (key_of x) y d) key_by t

  module _ (e : has_head (str "value=") l ≡ true) (ex : x ≡ drop 6 l) (em : m ≡ found 0 1024 (at + 6) x) where
    value_by : (p : Bool) → fits 0 1024 (measured x) ≡ p → on_value at (line_of l) d ≡ elim p as (λ q. Walked) [ true ↦ added_value (written (at + 6) x) d | false ↦ P.broken d ]
    unfolding on_value value_fits
    value_by p z = ap (λ (y : Line). on_value at y d) (as_value l e ∙ ap E.value (sym ex)) ∙ go p z
      where
        go : (p : Bool) → value_fits x ≡ p → on_value at (E.value x) d ≡ elim p as (λ q. Walked) [ true ↦ added_value (written (at + 6) x) d | false ↦ P.broken d ]
        go true y = rw (y, on_value) refl
        go false y = rw (y, on_value)

    pub value_good : m.ok ≡ true → added_value m.part d ≡ on_value at (line_of l) d
    value_good t = part_good 0 1024 (at + 6) x m em d (on_value at (line_of l) d) (λ (y : Part). added_value y d) value_by t

    pub value_bad : m.ok ≡ false → P.broken d ≡ on_value at (line_of l) d
    value_bad t = part_bad 0 1024 (at + 6) x m em d (on_value at (line_of l) d) (λ (y : Part). added_value y d) value_by t

pub event_good : (l : List ℕ) (d : Walked) (x : List ℕ) (k : ℕ) → has_head (str "event=") l ≡ true → x ≡ drop 6 l → k ≡ place_in kind_names x → with_kind k d ≡ on_event (line_of l) d
unfolding on_event
event_good l d x k e ex ek = ap (λ (n : ℕ). with_kind n d) ek ∙ sym (ap (λ (q : Line). on_event q d) (as_event l e ∙ ap E.event (sym ex)))
