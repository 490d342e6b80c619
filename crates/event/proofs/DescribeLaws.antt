-- The end of a description.
use Prim.Native.Nat.{ℕ, zero, suc, ◌≤◌, ◌<◌}
use mathlib.Core.Path.{◌≡◌, refl, sym, ap, ap₂, ◌∙◌, subst}
use mathlib.Core.Bool.{Bool, true, false, ◌||◌}
use mathlib.Core.Option.{Option}
use mathlib.Core.List.{List}
use lib.Dec.{eqb}
use lib.ListN.{length, take}
use borrow.Author.Tests.{ne_eqb, eqb-false}
use native.Mathlib.Omega.{arith}
use Rattle.definition.specs.Elements.{key_of, holds_text}
use Rattle.definition.specs.Event.{Attribute, read_event}
use Rattle.definition.proofs.Base.{true_is_false}
use Rattle.lines.specs.Parts.{or_nothing}
use Rattle.parts.specs.Walked.{Pair}
use Rattle.walk.specs.Reads.{Pairs, no_pairs_lem, pair}
use Rattle.walk.proofs.TakenLaw as T
use Rattle.walk.proofs.TakenLaw.{Taken, taken_law}
use Rattle.parts.specs.Walked.{Walked}
use Rattle.lines.specs.Lines.{event_length}
use Rattle.std.specs.Prelude as std
use Rattle.std.proofs.Common.{Some, None, Result, Ok, Err, MatchResult}
use Rattle.std.specs.Result.{is_err}
use Rattle.std.specs.Option.{is_some, is_none}
use Rattle.definition.specs.declared.codes.Kind.{Kind}
use Rattle.definition.specs.declared.codes.Refusal.{Refusal}
use Rattle.definition.specs.Codes.{kind_code, kind_number, tag_number, refusal_number}
use Rattle.parts.specs.declared.Part.{Part}
use Rattle.parts.specs.declared.Pair as code
use Rattle.parts.specs.declared.Heading.{Heading}
use Rattle.parts.specs.Parts.{no_pairs, begun, broken, pairs_of, next_of, text_of, made_by, walked_by, at_most16}
use Rattle.parts.proofs.MostLaws.{take_most}
use Rattle.parts.proofs.PairLaws.{pairs_length, pairs_take}
use Rattle.walk.specs.Walk.{walked}
use Rattle.walk.specs.Stream.{first_event, settled}
use Rattle.walk.proofs.WalkLaw.{Stopped, TextReads, walk_no_text, walk_text}
use Rattle.walk.proofs.StreamLaws.{event_within, settled_out, settled_in}
use Rattle.walk.proofs.SecondEvent.{second_event}
use Rattle.event.specs.Description.{Described}
use Rattle.event.specs.declared.Head.{Head}
use Rattle.event.specs.Described.{Coded, read, blank, described_by, told_by, description_of, shape_fits, in_shape, pair_keys, all_differ, finished, described}
use Rattle.event.proofs.EventLaw.{finish_out, finish_in}

-- ---- the end of a walk

shape_next : (k n c : ℕ) (h : Bool) → eqb n 2 ≡ false → eqb n 4 ≡ false → shape_fits k n c h ≡ false
unfolding shape_fits
shape_next zero n c h a b = rw a
shape_next (suc zero) n c h a b = a
shape_next (suc (suc zero)) n c h a b = rw b
shape_next (suc (suc (suc zero))) n c h a b = rw a
shape_next (suc (suc (suc (suc k)))) n c h a b = refl

-- An event that awaits a line, or is out of form.
pub stopped_out : (raw : List ℕ) (w : Walked) → Stopped w → finished raw w ≡ blank 3
unfolding in_shape
stopped_out raw w s = finish_out raw w (shape_next w.kind w.next w.count (holds_text w.tag) (ne_eqb w.next 2 s.0) (ne_eqb w.next 4 s.1))

settled_finished : (raw : List ℕ) (w : Walked) → finished raw (settled w) ≡ finished raw w
unfolding settled broken
settled_finished raw w = go (eqb w.next 2) refl (eqb w.next 4) refl
  where
    go : (p : Bool) → eqb w.next 2 ≡ p → (q : Bool) → eqb w.next 4 ≡ q → finished raw (settled w) ≡ finished raw w
    go true e q f = let z : settled w ≡ w = rw (e, settled) in ap (finished raw) z
    go false e true f = let z : settled w ≡ w = rw (e, f, settled) in ap (finished raw) z
    go false e false f =
        let z : settled w ≡ broken begun = rw (e, f, settled) in
        ap (finished raw) z ∙ stopped_out raw (broken begun) ((λ g. omega (arith, g)), (λ g. omega (arith, g))) ∙ sym (stopped_out raw w (eqb-false w.next 2 e, eqb-false w.next 4 f))

-- ---- the numbers of keys

pairs_coded : {raw : List ℕ} {ps : List Pair} {ats : List Attribute} → Pairs raw ps ats → Coded raw ps
unfolding Coded read or_nothing
pairs_coded no_pairs_lem = tt
pairs_coded (pair {p} {a} r h) = (r.code ∙ ap key_of (sym (ap or_nothing r.key.shown)), pairs_coded h)

complete : {raw : List ℕ} {d : Walked} {t : Option (List ℕ)} → TextReads raw d t → (eqb d.next 2 || eqb d.next 4) ≡ true
complete (walk_no_text e) = ap (λ (m : ℕ). eqb m 2 || eqb m 4) e
complete (walk_text v e r) = ap (λ (m : ℕ). eqb m 2 || eqb m 4) e

coded_walk : (raw : List ℕ) (w : Walked) → w ≡ settled (walked raw) → in_shape w ≡ true → Coded raw (take w.count w.pairs)
unfolding in_shape shape_fits broken begun
coded_walk raw w e f = go (taken_law raw)
  where
    out : Stopped (walked raw) → Coded raw (take w.count w.pairs)
    out st = true_is_false (sym f ∙ ap in_shape (e ∙ settled_out (walked raw) st))

    go : Taken raw (walked raw) (read_event raw) → Coded raw (take w.count w.pairs)
    go (T.whole ev o wi ca) =
        subst (λ (y : Walked). Coded raw (take y.count y.pairs)) (sym (e ∙ settled_in (walked raw) (complete ca.text))) (pairs_coded ca.pairs)
    go (T.too_long st h) = out st
    go (T.none_of st h) = out st

-- ---- what the code answers

pub no_text_next : (t : std.Option Part) → is_none t ≡ eqb (next_of t) 2
no_text_next None = refl
no_text_next (Some p) = refl

pub text_next : (t : std.Option Part) → is_some t ≡ eqb (next_of t) 4
text_next None = refl
text_next (Some p) = refl

module _ (raw : List ℕ) (ps : List code.Pair) where
  -- No heading, and a heading without a kind.
  pub no_heading : blank 3 ≡ finished raw (walked_by None ps)
  unfolding walked_by
  no_heading = sym (stopped_out raw (walked_by None ps) ((λ g. omega (arith, g)), (λ g. omega (arith, g))))

  module _ (h : Heading) where
    abbrev w : Walked
    w = walked_by (Some h) ps

    pub no_kind : h.kind ≡ None → blank 3 ≡ finished raw w
    unfolding in_shape shape_fits walked_by made_by
    no_kind e = sym (finish_out raw w (ap (λ (k : std.Option Kind). shape_fits (kind_code k) (next_of h.text) h.count (holds_text (tag_number h.tag))) e))

    module _ (k : Kind) (ek : h.kind ≡ Some k) {b : Bool} (es : b ≡ shape_fits (kind_number k) (next_of h.text) h.count (holds_text (tag_number h.tag))) where
      shape_is : in_shape w ≡ b
      unfolding in_shape walked_by made_by
      shape_is = ap (λ (o : std.Option Kind). shape_fits (kind_code o) (next_of h.text) h.count (holds_text (tag_number h.tag))) ek ∙ sym es

      pub wrong_shape : b ≡ false → blank 3 ≡ finished raw w
      wrong_shape f = sym (finish_out raw w (shape_is ∙ f))

      module _ (f : b ≡ true) (qs : List code.Pair) (n : ℕ) (eq : qs ≡ take n ps) (en : n ≡ at_most16 h.count) (long : length ps ≡ 16) where
        -- Of 16 attributes the first n are the first `count`.
        first_most : pairs_of qs ≡ take h.count (pairs_of ps)
        first_most = ap pairs_of eq ∙ pairs_take ps n ∙ take_most (pairs_of ps) h.count (pairs_length ps ∙ long) n (omega (arith, en)) (omega (arith, en))

        pub coded_in : w ≡ settled (walked raw) → Coded raw (pairs_of qs)
        unfolding walked_by made_by
        coded_in e = subst (Coded raw) (sym first_most) (coded_walk raw w e (shape_is ∙ f))

        module _ {c : Bool} (ec : c ≡ all_differ (pair_keys raw (pairs_of qs))) where
          differ_is : all_differ (pair_keys raw (take w.count w.pairs)) ≡ c
          unfolding walked_by made_by
          differ_is = sym (ec ∙ ap (λ (x : List Pair). all_differ (pair_keys raw x)) first_most)

          pub repeated : c ≡ false → blank 4 ≡ finished raw w
          repeated g = sym (finish_in raw w (shape_is ∙ f) false (differ_is ∙ g))

          pub taken_apart : c ≡ true → described_by (record { kind = k; tag = h.tag; name = h.name; count = h.count; text = h.text }) ps ≡ finished raw w
          unfolding described_by description_of walked_by made_by
          taken_apart g =
              ap (λ (n : ℕ). record { number = 0; kind = n; tag = tag_number h.tag; name = h.name; count = h.count; pairs = pairs_of ps; text = text_of h.text }) (sym (ap kind_code ek))
              ∙ sym (finish_in raw w (shape_is ∙ f) true (differ_is ∙ g))

-- The bytes of the first event, cut out.
module _ (s : List ℕ) (end : ℕ) (ee : end ≡ event_length s) where
  pub end_within : end ≤ length s
  end_within = omega (arith, ee, event_within s)

  pub cut_out : take end s ≡ first_event s
  cut_out = ap (λ (n : ℕ). take n s) ee

-- What is finished of a stream's first event is its description.
pub first_described : (s raw : List ℕ) (o : std.Option Heading) (ps : List code.Pair) → walked_by o ps ≡ settled (walked (first_event s)) → raw ≡ first_event s → finished raw (walked_by o ps) ≡ described (first_event s)
unfolding described
first_described s raw o ps e f = ap₂ finished f e ∙ settled_finished (first_event s) (walked (first_event s))

-- A refusal, and no attributes beside it.
pub refused_is : (r : Refusal) (ps : List code.Pair) → pairs_of ps ≡ no_pairs → told_by (Err r) ps ≡ blank (refusal_number r)
unfolding told_by blank
refused_is r ps e = rw e

-- The answer, with the attributes beside it: none where it is a refusal.
module _ (e : Result Head Refusal) (ps : List code.Pair) (x : Described) (h : MatchResult e (λ d. described_by d ps ≡ x) (λ r. blank (refusal_number r) ≡ x)) where
  pub refused : is_err e ≡ true → (qs : List code.Pair) → pairs_of qs ≡ no_pairs → told_by e qs ≡ x
  refused t qs z = go e h t
    where
      go : (e : Result Head Refusal) → MatchResult e (λ d. described_by d ps ≡ x) (λ r. blank (refusal_number r) ≡ x) → is_err e ≡ true → told_by e qs ≡ x
      go (Ok d) m t = true_is_false (sym t)
      go (Err r) m t = refused_is r qs z ∙ m

  pub accepted : is_err e ≡ false → told_by e ps ≡ x
  unfolding told_by
  accepted t = go e h t
    where
      go : (e : Result Head Refusal) → MatchResult e (λ d. described_by d ps ≡ x) (λ r. blank (refusal_number r) ≡ x) → is_err e ≡ false → told_by e ps ≡ x
      go (Ok d) m t = m
      go (Err r) m t = true_is_false t

-- Bytes in which a second event begins are out of form.
pub out_of_one : (raw : List ℕ) → event_length raw < length raw → blank 3 ≡ described raw
unfolding described
out_of_one raw h = sym (stopped_out raw (walked raw) (second_event raw h))
