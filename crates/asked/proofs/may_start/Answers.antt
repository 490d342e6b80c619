use mathlib.Core.Path.{ap, sym, ◌∙◌}
use mathlib.Core.Bool.{Bool, not, ◌&&◌}
use lib.Dec.{eqb}
use Rattle.definition.specs.Codes.{kind_number}
use Rattle.definition.specs.declared.codes.Tag.TheVariants as T
use Rattle.definition.specs.declared.codes.Kind.TheVariants as K
use Rattle.plain.specs.Plain.{parsed_in}
use Rattle.plain.proofs.Codes.{tag_same, kind_is, kind_not}
use borrow.Author.Tests.{eq-eqb, ne_eqb, lt-ltb, le-ltb}
use Rattle.asked.specs.Asked.{asked_in}
use Prim.Native.Nat.{ℕ}
use Rattle.definition.specs.Nesting.{parent_allowed}
use Rattle.asked.proofs.AskedLaws.{start_end, no_7, no_8, no_9, no_10, start_yes, neither, either}
use Rattle.asked.proofs.may_start.Goals as goal

pub returns-then-eq : goal.returns-then-eq
unfolding asked_in parsed_in
returns-then-eq c = sym (start_end (asked_in (parsed_in c.args.event.now.src.now c.args.event.now.plain.now)).start (asked_in (parsed_in c.args.event.now.src.now c.args.event.now.plain.now)).tag (asked_in (parsed_in c.args.event.now.src.now c.args.event.now.plain.now)).complete c.args.place.depth c.args.place.parent c.args.place.root (ap not (eq-eqb (kind_number c.args.event.now.plain.now.kind) 3 (kind_is c.args.event.now.plain.now.kind K.End c.if-eq.ensures))))

pub returns-then-place-ge-OPENED : goal.returns-then-place-ge-OPENED
unfolding asked_in parsed_in
returns-then-place-ge-OPENED c = no_7 (asked_in (parsed_in c.args.event.now.src.now c.args.event.now.plain.now)).start (asked_in (parsed_in c.args.event.now.src.now c.args.event.now.plain.now)).tag (asked_in (parsed_in c.args.event.now.src.now c.args.event.now.plain.now)).complete c.args.place.depth c.args.place.parent c.args.place.root (ap not (ne_eqb (kind_number c.args.event.now.plain.now.kind) 3 (kind_not c.args.event.now.plain.now.kind K.End c.if-eq.ensures))) (le-ltb c.args.place.depth 32 c.if-place-ge-OPENED.true)

pub returns-then-not-parent_allowed : goal.returns-then-not-parent_allowed
unfolding asked_in parsed_in
returns-then-not-parent_allowed c = no_8 (asked_in (parsed_in c.args.event.now.src.now c.args.event.now.plain.now)).start (asked_in (parsed_in c.args.event.now.src.now c.args.event.now.plain.now)).tag (asked_in (parsed_in c.args.event.now.src.now c.args.event.now.plain.now)).complete c.args.place.depth c.args.place.parent c.args.place.root (ap not (ne_eqb (kind_number c.args.event.now.plain.now.kind) 3 (kind_not c.args.event.now.plain.now.kind K.End c.if-eq.ensures))) (lt-ltb c.args.place.depth 32 c.if-place-ge-OPENED.false) (ap (λ (x : ℕ). parent_allowed x c.args.place.parent) (sym c.number.ensures) ∙ sym c.parent_allowed.ensures ∙ c.if-not-parent_allowed.true)

pub returns-then-eq-place : goal.returns-then-eq-place
unfolding asked_in parsed_in
returns-then-eq-place c = no_9 (asked_in (parsed_in c.args.event.now.src.now c.args.event.now.plain.now)).start (asked_in (parsed_in c.args.event.now.src.now c.args.event.now.plain.now)).tag (asked_in (parsed_in c.args.event.now.src.now c.args.event.now.plain.now)).complete c.args.place.depth c.args.place.parent c.args.place.root (ap not (ne_eqb (kind_number c.args.event.now.plain.now.kind) 3 (kind_not c.args.event.now.plain.now.kind K.End c.if-eq.ensures))) (lt-ltb c.args.place.depth 32 c.if-place-ge-OPENED.false) (ap (λ (x : ℕ). parent_allowed x c.args.place.parent) (sym c.number.ensures) ∙ sym c.parent_allowed.ensures ∙ c.if-not-parent_allowed.false) (neither _ _ (ap (λ (b : Bool). b && not (eqb c.args.place.root 0)) (sym (c.eq-2.ensures ∙ tag_same c.args.event.now.plain.now.tag T.Scxml)) ∙ c.if-eq-place.true))

pub returns-then-not-complete : goal.returns-then-not-complete
unfolding asked_in parsed_in
returns-then-not-complete c = no_10 (asked_in (parsed_in c.args.event.now.src.now c.args.event.now.plain.now)).start (asked_in (parsed_in c.args.event.now.src.now c.args.event.now.plain.now)).tag (asked_in (parsed_in c.args.event.now.src.now c.args.event.now.plain.now)).complete c.args.place.depth c.args.place.parent c.args.place.root (ap not (ne_eqb (kind_number c.args.event.now.plain.now.kind) 3 (kind_not c.args.event.now.plain.now.kind K.End c.if-eq.ensures))) (lt-ltb c.args.place.depth 32 c.if-place-ge-OPENED.false) (ap (λ (x : ℕ). parent_allowed x c.args.place.parent) (sym c.number.ensures) ∙ sym c.parent_allowed.ensures ∙ c.if-not-parent_allowed.false) (either _ _ (ap (λ (b : Bool). b && not (eqb c.args.place.root 0)) (sym (c.eq-2.ensures ∙ tag_same c.args.event.now.plain.now.tag T.Scxml)) ∙ c.if-eq-place.false)) (sym c.complete.ensures ∙ c.if-not-complete.true)

pub returns : goal.returns
unfolding asked_in parsed_in
returns c = sym (start_yes (asked_in (parsed_in c.args.event.now.src.now c.args.event.now.plain.now)).start (asked_in (parsed_in c.args.event.now.src.now c.args.event.now.plain.now)).tag (asked_in (parsed_in c.args.event.now.src.now c.args.event.now.plain.now)).complete c.args.place.depth c.args.place.parent c.args.place.root (ap not (ne_eqb (kind_number c.args.event.now.plain.now.kind) 3 (kind_not c.args.event.now.plain.now.kind K.End c.if-eq.ensures))) (lt-ltb c.args.place.depth 32 c.if-place-ge-OPENED.false) (ap (λ (x : ℕ). parent_allowed x c.args.place.parent) (sym c.number.ensures) ∙ sym c.parent_allowed.ensures ∙ c.if-not-parent_allowed.false) (either _ _ (ap (λ (b : Bool). b && not (eqb c.args.place.root 0)) (sym (c.eq-2.ensures ∙ tag_same c.args.event.now.plain.now.tag T.Scxml)) ∙ c.if-eq-place.false)) (sym c.complete.ensures ∙ c.if-not-complete.false))
