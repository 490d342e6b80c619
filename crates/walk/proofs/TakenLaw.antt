-- THE LAW of the walk: what it carries at the end is the event that the definition reads.
use Prim.Native.Nat.{ℕ, ◌+◌, ◌<◌}
use mathlib.Core.Path.{◌≡◌, refl, sym, ap, ◌∙◌, subst}
use mathlib.Core.Bool.{Bool, true, false}
use mathlib.Core.Option.{Option, none, some}
use mathlib.Core.List.{List, [], ◌∷◌, map}
use lib.ListN.{length, take}
use lib.Dec.{leb}
use borrow.Author.Tests.{leb-false}
use native.Mathlib.Omega.{arith}
use Rattle.definition.specs.Text.{place_in}
use Rattle.definition.specs.Elements.{tag_of}
use Rattle.definition.specs.Event as E
use Rattle.definition.specs.Event.{Body, Event, lines_from, tail_from, is_nil, lines_of, legible, body_of, event_with, named_event, event_of_lines, kind_names, read_event, between}
use Rattle.definition.proofs.Base.{none_is_some}
use Rattle.definition.proofs.Events.{with_split}
use Rattle.walk.specs.Views.{measured}
use Rattle.parts.specs.declared.Part.{Part}
use Rattle.parts.specs.Walked.{Walked}
use Rattle.parts.specs.Parts.{begun, broken, with_kind, with_name}
use Rattle.walk.specs.Walk.{Placed, line, placed_lines, written, name_fits, on_event, on_name, step, walk, walked_lines, walked}
use Rattle.walk.proofs.Standing.{Stands, AllStand, cons, raw_stands, decoded, decoded_lines}
use Rattle.walk.proofs.Plain.{tag_plain}
use Rattle.walk.specs.Reads.{Reads, Pairs, no_pairs_lem}
use Rattle.walk.proofs.WalkLaw.{Fits, yes, no, fits_of, TextReads, Fitting, Stopped, Went, good, bad, Before, walk_at, walk_at_lem, walk_stays, stopped, body}

name_limits : (n : List ℕ) → Fits 1 64 (legible n) (name_fits n)
unfolding name_fits measured
name_limits n = fits_of 1 64 (legible n)

-- d carries the event e, written in raw.
pub record Carries (raw : List ℕ) (d : Walked) (e : Event) : Type 0 where
  pub kind : d.kind ≡ e.kind
  pub tag : d.tag ≡ tag_of e.name
  pub name : Reads raw d.name e.name
  pub count : d.count ≡ length e.attributes
  pub pairs : Pairs raw (take d.count d.pairs) e.attributes
  pub text : TextReads raw d e.text

-- All of question 3 but the kind.
pub record Within (e : Event) : Type 0 where
  pub name : between 1 64 e.name ≡ true
  pub rest : Fitting 0 (record { attributes = e.attributes; text = e.text })

pub data Taken (raw : List ℕ) (w : Walked) (o : Option Event) : Type 0 where
  whole : (e : Event) → o ≡ some e → Within e → Carries raw w e → Taken raw w o
  too_long : Stopped w → 49152 < length raw → Taken raw w o
  none_of : Stopped w → ((e : Event) → o ≡ some e → Within e → ⊥) → Taken raw w o

module _ (raw : List ℕ) where
  nothing : (ls : List Placed) (w : Walked) → w.next ≡ 5 → Taken raw (walk ls w) none
  nothing ls w e = none_of (stopped (walk ls w) (walk_stays ls w e)) (λ b f g. none_is_some b f)

  -- The first two lines are there.
  named : (k : ℕ) (at : ℕ) (n : List ℕ) (ls : List Placed) → Stands raw at (E.name n) → AllStand raw ls
      → Taken raw (walk ls (on_name at (E.name n) (with_kind k begun))) (event_with k (legible n) (body_of none (map decoded ls)))
  unfolding Stands on_name with_name with_kind broken begun written measured event_with
  named k at n ls sn s = go (name_fits n) refl (name_limits n)
    where
      o : Option Body
      o = body_of none (map decoded ls)

      p : Part
      p = written (at + 5) n

      d : Walked
      d = with_name (tag_of n) p (with_kind k begun)

      before : Before raw d []
      before = record { count = refl; room = omega arith; size = refl; pairs = no_pairs_lem }

      from : (x : List ℕ) → legible n ≡ some x → between 1 64 x ≡ true → (measured n).len ≡ length x → (w : Walked) → Went raw d w [] o → Taken raw w (event_with k (legible n) o)
      from x ex bx lx w (good b e f kept count pairs text) =
          whole (record { kind = k; name = x; attributes = b.attributes; text = b.text }) (rw (ex, e) refl) (record { name = bx; rest = f })
          (record {
            kind = kept.kind;
            tag = kept.tag ∙ tag_plain n x ex;
            name = subst (λ (q : Part). Reads raw q x) (sym kept.name) (record { shown = ap legible sn ∙ ex; long = lx });
            count = count;
            pairs = pairs;
            text = text;
          })
      from x ex bx lx w (bad t f) =
          none_of t
          (λ e g h.
          let z = with_split k (legible n) o e g in
          let i : Within (record { kind = k; name = z.0; attributes = z.1.attributes; text = z.1.text }) = subst Within (sym z.4) h in
          f z.1 z.3 i.rest)

      go : (q : Bool) → name_fits n ≡ q → Fits 1 64 (legible n) q → Taken raw (walk ls (on_name at (E.name n) (with_kind k begun))) (event_with k (legible n) o)
      go true q (yes x ex bx lx) =
          let z : on_name at (E.name n) (with_kind k begun) ≡ d = rw (q, on_name) in
          subst (λ (c : Walked). Taken raw (walk ls c) (event_with k (legible n) o)) (sym z)
          (subst (λ (c : Walked). Taken raw c (event_with k (legible n) o)) (sym (walk_at_lem ls d)) (from x ex bx lx (walk_at 2 ls d) (body raw ls d [] refl before s)))
      go false q (no f) =
          let c : Walked = broken (with_kind k begun) in
          let z : on_name at (E.name n) (with_kind k begun) ≡ c = rw (q, on_name) in
          subst (λ (y : Walked). Taken raw (walk ls y) (event_with k (legible n) o)) (sym z)
          (none_of (stopped (walk ls c) (walk_stays ls c refl))
          (λ e g h.
          let y = with_split k (legible n) o e g in
          let i : Within (record { kind = k; name = y.0; attributes = y.1.attributes; text = y.1.text }) = subst Within (sym y.4) h in
          f y.0 y.2 i.name))

  taken_by : (ls : List Placed) → AllStand raw ls → Taken raw (walk ls begun) (event_of_lines (map decoded ls))
  unfolding walk step on_event on_name with_kind broken begun event_of_lines named_event decoded
  taken_by [] s = none_of ((λ f. omega (arith, f)), (λ f. omega (arith, f))) (λ b f g. none_is_some b f)
  taken_by (line at (E.event k) ∷ []) s = none_of ((λ f. omega (arith, f)), (λ f. omega (arith, f))) (λ b f g. none_is_some b f)
  taken_by (line at (E.event k) ∷ line b (E.name n) ∷ ls) (cons t (cons sn s)) = named (place_in kind_names k) b n ls sn s
  taken_by (line at (E.event k) ∷ line b (E.event x) ∷ ls) s = nothing ls _ refl
  taken_by (line at (E.event k) ∷ line b (E.key x) ∷ ls) s = nothing ls _ refl
  taken_by (line at (E.event k) ∷ line b (E.value x) ∷ ls) s = nothing ls _ refl
  taken_by (line at (E.event k) ∷ line b (E.text x) ∷ ls) s = nothing ls _ refl
  taken_by (line at (E.event k) ∷ line b E.junk ∷ ls) s = nothing ls _ refl
  taken_by (line at (E.name x) ∷ ls) s = nothing ls _ refl
  taken_by (line at (E.key x) ∷ ls) s = nothing ls _ refl
  taken_by (line at (E.value x) ∷ ls) s = nothing ls _ refl
  taken_by (line at (E.text x) ∷ ls) s = nothing ls _ refl
  taken_by (line at E.junk ∷ ls) s = nothing ls _ refl

  -- An event whose last line is ended.
  taken : is_nil (tail_from [] raw) ≡ true → Taken raw (walked_lines raw) (read_event raw)
  unfolding walked_lines read_event lines_of
  taken q =
      let z : read_event raw ≡ event_of_lines (map decoded (placed_lines 0 (lines_from [] raw))) = rw (q, read_event) (ap event_of_lines (sym (decoded_lines 0 (lines_from [] raw)))) in
      let y : walked_lines raw ≡ walk (placed_lines 0 (lines_from [] raw)) begun = rw (q, walked_lines) in
      subst (λ (w : Walked). Taken raw w (read_event raw)) (sym y) (subst (Taken raw (walk (placed_lines 0 (lines_from [] raw)) begun)) (sym z) (taken_by (placed_lines 0 (lines_from [] raw)) (raw_stands raw)))

  -- An event whose last line is not.
  not_ended : is_nil (tail_from [] raw) ≡ false → Taken raw (walked_lines raw) (read_event raw)
  unfolding walked_lines read_event broken
  not_ended q =
      let z : read_event raw ≡ none = rw (q, read_event) in
      let y : walked_lines raw ≡ broken (walk (placed_lines 0 (lines_from [] raw)) begun) = rw (q, walked_lines) in
      none_of (stopped (walked_lines raw) (ap (λ (w : Walked). w.next) y)) (λ e f g. none_is_some e (sym z ∙ f))

  by_lines : Taken raw (walked_lines raw) (read_event raw)
  by_lines = go (is_nil (tail_from [] raw)) refl
    where
      go : (p : Bool) → is_nil (tail_from [] raw) ≡ p → Taken raw (walked_lines raw) (read_event raw)
      go true q = taken q
      go false q = not_ended q

-- What the walk carries, on all bytes.
pub taken_law : (raw : List ℕ) → Taken raw (walked raw) (read_event raw)
unfolding walked broken
taken_law raw = go (leb (length raw) 49152) refl
  where
    go : (p : Bool) → leb (length raw) 49152 ≡ p → Taken raw (walked raw) (read_event raw)
    go true q = let y : walked raw ≡ walked_lines raw = rw (q, walked) in subst (λ (w : Walked). Taken raw w (read_event raw)) (sym y) (by_lines raw)
    go false q =
        let y : walked raw ≡ broken begun = rw (q, walked) in
        too_long (stopped (walked raw) (ap (λ (w : Walked). w.next) y)) (leb-false (length raw) 49152 q)
