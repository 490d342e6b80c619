-- The walk line by line, as the code takes them.
use Prim.Native.Nat.{ℕ, ◌+◌, ◌≤◌, ◌<◌}
use mathlib.Core.Path.{◌≡◌, refl, sym, ap, ◌∙◌, subst}
use mathlib.Core.Bool.{Bool, true, false, ◌||◌}
use mathlib.Core.List.{List}
use native.Mathlib.Omega.{arith}
use lib.Dec.{leb}
use lib.ListN.{length, drop, set}
use Rattle.definition.specs.Text.{str}
use Rattle.definition.specs.Event.{Line, line_of}
use Rattle.definition.proofs.Base.{true_is_false}
use Rattle.lines.specs.Lines.{has_head, event_length}
use Rattle.lines.specs.Blocks.{all, is_within_line}
use Rattle.parts.specs.declared.Part.{Part}
use Rattle.parts.specs.Walked.{Pair}
use Rattle.parts.specs.Walked.{Walked}
use Rattle.parts.specs.Parts.{part_at, no_pairs, begun, broken, with_kind, with_name, with_key, with_value, with_text, added_value}
use Rattle.parts.proofs.CodeLaws.{value_full, value_added}
use Rattle.walk.specs.Views.{Lined}
use Rattle.walk.specs.Views.{Last}
use Rattle.walk.specs.Walk.{on_event, on_name, on_key, on_value, step, walked}
use Rattle.walk.specs.Stream.{first_event, settled, line_in, Takes, Reached, made, closed, Ends, Closes}
use Rattle.walk.proofs.CodeLaws.{not_key}
use Rattle.walk.proofs.LineIn.{line_head}
use Rattle.walk.proofs.StreamLaws.{is_over, over_is, head_on, reached_start, reached_goes, reached_lost, takes_lost, broken_lost, reached_end}

abbrev Lost : List ℕ → Type 0
Lost s = broken begun ≡ settled (walked (first_event s))

next_later : (s : List ℕ) (at : ℕ) (f : Line → Walked → Walked) (g : Walked → Walked) (r : Lined) → Takes s at f g r → r.ok ≡ true → 0 < r.next
next_later s at f g r t o = omega (arith, (t.good o).next)

-- ---- the first two lines

module _ (s : List ℕ) (e : Lined) (t : Takes s 0 on_event (with_kind e.code) e) where
  pub event_lost : e.ok ≡ false → Lost s
  unfolding step begun
  event_lost o = takes_lost s 0 begun (reached_start s) on_event (with_kind e.code) e t o (λ l. refl) (λ p. ((λ f. omega (arith, f)), (λ f. omega (arith, f))))

  module _ (o : e.ok ≡ true) where
    named : Reached s e.next (with_kind e.code begun)
    unfolding step begun
    named = reached_goes s 0 begun (reached_start s) on_event (with_kind e.code) e.next (t.good o) (λ l. refl)

    pub event_within : e.next ≤ length s
    event_within = named.within

    module _ (n : Lined) (u : Takes s e.next (on_name e.next) (with_name n.code n.part) n) where
      pub name_lost : n.ok ≡ false → Lost s
      unfolding step with_kind
      name_lost q =
          takes_lost s e.next (with_kind e.code begun) named (on_name e.next) (with_name n.code n.part) n u q (λ l. refl)
          (λ p. ((λ f. omega (arith, f)), (λ f. omega (arith, f))))

      pub name_reached : n.ok ≡ true → (0 < n.next) × Reached s n.next (made e.code n.code n.part 0 no_pairs)
      unfolding step with_kind with_name begun
      name_reached q = (
        next_later s e.next (on_name e.next) (with_name n.code n.part) n u q,
        reached_goes s e.next (with_kind e.code begun) named (on_name e.next) (with_name n.code n.part) n.next (u.good q) (λ l. refl),
      )

-- ---- a pair

module _ (s : List ℕ) (at : ℕ) (kind tag : ℕ) (name : Part) (count : ℕ) (ps : List Pair) (re : Reached s at (made kind tag name count ps))
    (h : has_head (str "key=") (drop at s) ≡ true) (k : Lined) (t : Takes s at (on_key at) (with_key k.code k.part) k) where
  abbrev before : Walked
  before = made kind tag name count ps

  pub key_lost : k.ok ≡ false → Lost s
  unfolding step str
  key_lost o = takes_lost s at before re (on_key at) (with_key k.code k.part) k t o (λ l. refl) (λ p. true_is_false (sym p ∙ head_on s at 107 _ refl h))

  module _ (o : k.ok ≡ true) where
    abbrev keyed : Walked
    keyed = with_key k.code k.part before

    key_reached : Reached s k.next keyed
    unfolding step
    key_reached = reached_goes s at before re (on_key at) (with_key k.code k.part) k.next (t.good o) (λ l. refl)

    pub key_within : k.next ≤ length s
    key_within = key_reached.within

    module _ (v : Lined) (u : Takes s k.next (on_value k.next) (added_value v.part) v) where
      pub value_lost : v.ok ≡ false → Lost s
      unfolding step with_key
      value_lost q =
          takes_lost s k.next keyed key_reached (on_value k.next) (added_value v.part) v u q (λ l. refl)
          (λ p. ((λ f. omega (arith, f)), (λ f. omega (arith, f))))

      module _ (q : v.ok ≡ true) where
        value_reached : Reached s v.next (added_value v.part keyed)
        unfolding step with_key
        value_reached = reached_goes s k.next keyed key_reached (on_value k.next) (added_value v.part) v.next (u.good q) (λ l. refl)

        pub pairs_full : 16 ≤ count → Lost s
        unfolding with_key broken
        pairs_full f = broken_lost s v.next (added_value v.part keyed) value_reached (sym (ap (λ (w : Walked). w.next) (value_full v.part keyed f)))

        pub pair_reached : count < 16 → (x : Pair) → x ≡ record { code = k.code; key = k.part; value = v.part } → (qs : List Pair) → qs ≡ set ps count x
            → (0 < v.next) × Reached s v.next (made kind tag name (count + 1) qs)
        unfolding with_key with_value
        pair_reached f x ex qs eq =
            let z : added_value v.part keyed ≡ made kind tag name (count + 1) qs =
            sym (value_added v.part keyed f) ∙ ap (made kind tag name (count + 1)) (sym (eq ∙ ap (set ps count) ex)) in
            (next_later s k.next (on_value k.next) (added_value v.part) v u q, subst (Reached s v.next) z value_reached)

        pub pair_further : (at < v.next) × (v.next ≤ length s)
        pair_further = (omega (arith, (t.good o).next, (u.good q).next), value_reached.within)

-- ---- what follows the pairs

pub takes_within : (s : List ℕ) (at : ℕ) (f : Line → Walked → Walked) (g : Walked → Walked) (r : Lined) → Takes s at f g r → r.ok ≡ true → r.next ≤ length s
takes_within s at f g r t o = omega (arith, (t.good o).next, (t.good o).ended)

module _ (s : List ℕ) (at : ℕ) (l : Last) where
  lost_by : ((w : Walked) → Reached s at w → w.next ≡ 2 → Lost s) → l.next ≡ 5 → Closes s at l
  lost_by f e kind tag name count ps re =
      record { lost = λ x. f (made kind tag name count ps) re refl; whole = λ n. absurd (n e); end = λ n. absurd (n e) }

  ends_by : (w : Walked) → (l.next ≡ 5 → ⊥) → (closed l w ≡ settled (walked (first_event s))) × (l.end ≡ event_length s) → Ends s w l
  ends_by w n e = record { lost = λ x. absurd (n x); whole = λ x. e.0; end = λ x. e.1 }

module _ (s : List ℕ) (at : ℕ) where
  by_key_lem : (w : Walked) → w.next ≡ 2 → (l : Line) → step w.next at l w ≡ on_key at l w
  unfolding step
  by_key_lem w two l = ap (λ (m : ℕ). step m at l w) two

  module _ (p : 0 < at) {o : Bool} (eo : o ≡ (has_head (str "event=") (drop at s) || leb (length s) at)) where
    pub on_lost : has_head (str "key=") (drop at s) ≡ false → has_head (str "text=") (drop at s) ≡ false → o ≡ false → (l : Last) → l.next ≡ 5 → Closes s at l
    unfolding str all is_within_line
    on_lost hk ht f l =
        lost_by s at l
        (λ w re two.
        reached_lost s at w re (λ q. true_is_false (sym q ∙ over_is s at p eo ∙ f))
        (λ e i j. by_key_lem w two (line_of (line_in s at)) ∙ sym (not_key (line_in s at) at w (line_head (str "text=") refl s at ht) (line_head (str "key=") refl s at hk))))

    pub on_end : o ≡ true → (x : Part) → x ≡ part_at 0 0 0 → Closes s at (record { next = 2; text = x; end = at })
    on_end f x ex kind tag name count ps re =
        let w : Walked = made kind tag name count ps in
        let l : Last = record { next = 2; text = x; end = at } in
        let z = reached_end s at w re (over_is s at p eo ∙ f) refl in
        ends_by s at l w (λ e. omega (arith, e)) (ap (λ (y : Part). closed (record { next = 2; text = y; end = at }) w) ex ∙ z.0, z.1)

  module _ (h : has_head (str "text=") (drop at s) ≡ true) (t : Lined) (k : Takes s at (on_key at) (with_text t.part) t) where
    pub text_lost : t.ok ≡ false → (l : Last) → l.next ≡ 5 → Closes s at l
    unfolding str
    text_lost o l =
        lost_by s at l (λ w re two. takes_lost s at w re (on_key at) (with_text t.part) t k o (by_key_lem w two) (λ p. true_is_false (sym p ∙ head_on s at 116 _ refl h)))

    module _ (o : t.ok ≡ true) {b : Bool} (eb : b ≡ (has_head (str "event=") (drop t.next s) || leb (length s) t.next)) where
      over : is_over s t.next ≡ b
      over = over_is s t.next (next_later s at (on_key at) (with_text t.part) t k o) eb

      text_reached : (w : Walked) → Reached s at w → w.next ≡ 2 → Reached s t.next (with_text t.part w)
      text_reached w re two = reached_goes s at w re (on_key at) (with_text t.part) t.next (k.good o) (by_key_lem w two)

      pub text_more : b ≡ false → (l : Last) → l.next ≡ 5 → Closes s at l
      unfolding with_text step
      text_more f l = lost_by s at l (λ w re two. reached_lost s t.next (with_text t.part w) (text_reached w re two) (λ q. true_is_false (sym q ∙ over ∙ f)) (λ e i j. refl))

      pub text_end : b ≡ true → Closes s at (record { next = 4; text = t.part; end = t.next })
      unfolding with_text
      text_end f kind tag name count ps re =
          let w : Walked = made kind tag name count ps in
          ends_by s at (record { next = 4; text = t.part; end = t.next }) w (λ e. omega (arith, e))
          (reached_end s t.next (with_text t.part w) (text_reached w re refl) (over ∙ f) refl)
