-- From an event's bytes to the definition's answer.
use Prim.Native.Nat.{ℕ}
use mathlib.Core.Path.{◌≡◌, refl, sym, ap, ◌∙◌, subst}
use mathlib.Core.Bool.{Bool, true, false}
use mathlib.Core.Option.{Option, none, some}
use mathlib.Core.List.{List}
use native.Mathlib.Omega.{arith}
use Rattle.definition.specs.declared.Position.{Position}
use Rattle.definition.specs.Limits.{limits01}
use Rattle.definition.specs.Event.{Event, read_event, in_form, keys_differ}
use Rattle.definition.specs.Rows.{Store}
use Rattle.definition.specs.Look.{look, text_after}
use Rattle.definition.specs.Reader.{Lent, Answer, event, long_enough, in_order, store_of, Reply, settled, decided, reply_to, event_reply, answer_of, answer_to, refused}
use Rattle.definition.proofs.Base.{true_is_false}
use Rattle.event.specs.Description.{Described}
use Rattle.event.specs.Described.{blank, described}
use Rattle.event.specs.Agrees.{Agrees, out_of_form, keys_repeat, in_form_lem}
use Rattle.event.proofs.EventLaw.{agrees}
use Rattle.plain.specs.declared.Plain.{Plain}
use Rattle.plain.specs.Plain.{Parsed, parsed_in, parsed_raw, plainly, PlainOf, copy_size, Space}
use Rattle.plain.proofs.TotalLaw as total
use Rattle.plain.proofs.TotalLaw.{plain_total, space_total, parsed_total}
use Rattle.questions.specs.Lent.{first_two}
use Rattle.settle.specs.Settled.{InForm}
use Rattle.conclude.specs.Fed.{given, Answers}

-- ---- an event's bytes

both_yes : (x : Lent) (p : Position) → first_two x p ≡ 0 → (long_enough limits01 x ≡ true) × (in_order limits01 x p ≡ true)
unfolding first_two
both_yes x p = at (long_enough limits01 x) (in_order limits01 x p)
  where
    at : (a b : Bool) → ◌≡◌ {A = ℕ} (elim a [ false ↦ 1 | true ↦ elim b [ false ↦ 2 | true ↦ 0 ] ]) 0 → (a ≡ true) × (b ≡ true)
    at true true e = (refl, refl)
    at true false e = absurd (omega (arith, e))
    at false b e = absurd (omega (arith, e))

module _ (s : Store) where
  out : (o : Option Event) → ((e : Event) → o ≡ some e → in_form limits01 e ≡ true → ⊥) → reply_to limits01 s o ≡ record { number = 3; store = s }
  unfolding reply_to
  out none f = refl
  out (some e) f =
      at (elim (keys_differ e.attributes) [ false ↦ record { number = 4; store = s } | true ↦ settled s (text_after s e) (decided limits01 s.numbers (look s e)) ]) (in_form limits01 e) (f e refl)
    where
      at : (y : Reply) (b : Bool) → (b ≡ true → ⊥) → ◌≡◌ {A = Reply} (elim b [ false ↦ record { number = 3; store = s } | true ↦ y ]) (record { number = 3; store = s })
      at y true n = absurd (n refl)
      at y false n = refl

  repeated : (e : Event) → in_form limits01 e ≡ true → keys_differ e.attributes ≡ false → reply_to limits01 s (some e) ≡ record { number = 4; store = s }
  unfolding reply_to
  repeated e = at (settled s (text_after s e) (decided limits01 s.numbers (look s e))) (in_form limits01 e) (keys_differ e.attributes)
    where
      at : (y : Reply) (b c : Bool) → b ≡ true → c ≡ false
          → ◌≡◌ {A = Reply} (elim b [ false ↦ record { number = 3; store = s } | true ↦ elim c [ false ↦ record { number = 4; store = s } | true ↦ y ] ]) (record { number = 4; store = s })
      at y true true f g = true_is_false g
      at y true false f g = refl
      at y false c f g = true_is_false (sym f)

pub alike : (x : Lent) (p : Position) (v w : Parsed) → v ≡ w → (a : Answer) → Answers x p v a → Answers x p w a
alike x p v w e a h = subst (λ (z : Parsed). Answers x p z a) e h

module _ (x : Lent) (p : Position) (raw : List ℕ) where
  -- 3 OR 4.
  pub out_of : (d : Described) → d ≡ described raw → (d.number ≡ 0 → ⊥) → given d.number p x ≡ answer_to limits01 x p (event raw)
  unfolding blank answer_to event_reply answer_of refused
  out_of d ed = go d (subst (Agrees raw) (sym ed) (agrees raw))
    where
      go : (d : Described) → Agrees raw d → (d.number ≡ 0 → ⊥) → given d.number p x ≡ answer_of x p (reply_to limits01 (store_of x p) (read_event raw))
      go d (out_of_form e f) n = ap (λ (z : Described). given z.number p x) e ∙ ap (answer_of x p) (sym (out (store_of x p) (read_event raw) f))
      go d (keys_repeat w e g f k) n =
          ap (λ (z : Described). given z.number p x) e ∙ ap (answer_of x p) (sym (ap (reply_to limits01 (store_of x p)) g ∙ repeated (store_of x p) w f k))
      go d (in_form_lem e g f k h) n = absurd (n h.number)

  module _ (d : Described) (ed : d ≡ described raw) where
    pub room : Space raw d copy_size
    room = subst (λ (z : Described). Space raw z copy_size) (sym ed) (space_total raw copy_size (omega arith) (omega arith))

    -- Its parts where they are written.
    pub plainly_parsed : (b : Bool) → b ≡ plainly d → b ≡ true → (q : Plain) → PlainOf d q → parsed_in raw q ≡ parsed_raw raw d
    plainly_parsed b eb f q h = plain_total raw q (sym (ap plainly ed) ∙ (sym eb ∙ f)) (subst (λ (z : Described). PlainOf z q) ed h) ∙ ap (parsed_raw raw) (sym ed)

    module _ (yes : first_two x p ≡ 0) (z : d.number ≡ 0) where
      formed : total.InForm raw (described raw)
      formed = parsed_total raw (ap (λ (u : Described). u.number) (sym ed) ∙ z)

      pub in_form_here : InForm x p (parsed_raw raw d)
      in_form_here =
          let F : total.InForm raw (described raw) = formed in
          record {
            event = F.event;
            parsed = ap (parsed_raw raw) ed ∙ F.parsed;
            form = F.form;
            differ = F.differ;
            long = (both_yes x p yes).0;
            order = (both_yes x p yes).1;
          }

      pub answered : (v : Parsed) → v ≡ parsed_raw raw d → (a : Answer) → Answers x p v a → a ≡ answer_to limits01 x p (event raw)
      unfolding answer_to event_reply in_form_here
      answered v ev a h =
          alike x p v (parsed_raw raw d) ev a h in_form_here ∙ ap (λ (o : Option Event). answer_of x p (reply_to limits01 (store_of x p) o)) (sym formed.reads)
