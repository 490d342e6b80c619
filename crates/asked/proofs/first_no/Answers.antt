use Rattle.std.proofs.lemmas.Result.{err_from_is_err_and}
use mathlib.Core.Path.{ap, ap₂, sym, ◌∙◌}
use mathlib.Core.Bool.{Bool, not, ◌&&◌}
use Rattle.definition.specs.declared.codes.Kind.TheVariants as K
use Rattle.plain.specs.Plain.{parsed_in}
use Rattle.plain.proofs.Codes.{kind_same}
use Rattle.asked.specs.Asked.{asked_in}
use Rattle.asked.proofs.AskedLaws.{neither, either, refused, taken_no, taken_yes, no_5, no_6, no_start, no_11, no_12, no_none}
use Rattle.asked.proofs.first_no.Goals as goal

pub returns-then-eq-place : goal.returns-then-eq-place
unfolding asked_in parsed_in
returns-then-eq-place c = no_5 (parsed_in c.args.event.now.src.now c.args.event.now.plain.now) c.args.h c.args.place.innermost c.args.place.depth c.args.place.parent c.args.place.root (neither _ _ (ap (λ (b : Bool). b && not c.args.place.innermost) (sym (c.eq.ensures ∙ kind_same c.args.event.now.plain.now.kind K.End)) ∙ c.if-eq-place.true))

pub returns-then-left_out : goal.returns-then-left_out
unfolding asked_in parsed_in
returns-then-left_out c = no_6 (parsed_in c.args.event.now.src.now c.args.event.now.plain.now) c.args.h c.args.place.innermost c.args.place.depth c.args.place.parent c.args.place.root (either _ _ (ap (λ (b : Bool). b && not c.args.place.innermost) (sym (c.eq.ensures ∙ kind_same c.args.event.now.plain.now.kind K.End)) ∙ c.if-eq-place.false)) (sym c.left_out.ensures ∙ c.if-left_out.true)

pub returns-in_err-may_start : goal.returns-in_err-may_start
unfolding asked_in parsed_in
returns-in_err-may_start c = let p = err_from_is_err_and c.from_residual.result c.from_residual.ensures.1 in rw (p.1, p.2) (no_start (parsed_in c.args.event.now.src.now c.args.event.now.plain.now) c.args.h c.args.place.innermost c.args.place.depth c.args.place.parent c.args.place.root (either _ _ (ap (λ (b : Bool). b && not c.args.place.innermost) (sym (c.eq.ensures ∙ kind_same c.args.event.now.plain.now.kind K.End)) ∙ c.if-eq-place.false)) (sym c.left_out.ensures ∙ c.if-left_out.false) _ c.in_err-may_start.ensures (refused c.in_err-may_start.field-0.0))

pub returns-then-not-keys_apart-text_apart : goal.returns-then-not-keys_apart-text_apart
unfolding asked_in parsed_in
returns-then-not-keys_apart-text_apart c = no_11 (parsed_in c.args.event.now.src.now c.args.event.now.plain.now) c.args.h c.args.place.innermost c.args.place.depth c.args.place.parent c.args.place.root (either _ _ (ap (λ (b : Bool). b && not c.args.place.innermost) (sym (c.eq.ensures ∙ kind_same c.args.event.now.plain.now.kind K.End)) ∙ c.if-eq-place.false)) (sym c.left_out.ensures ∙ c.if-left_out.false) c.in_ok-may_start.ensures (sym (ap₂ ◌&&◌ c.keys_apart.ensures c.text_apart.ensures) ∙ c.if-not-keys_apart-text_apart.true)

pub returns-then-h : goal.returns-then-h
unfolding asked_in parsed_in
returns-then-h c = no_12 (parsed_in c.args.event.now.src.now c.args.event.now.plain.now) c.args.h c.args.place.innermost c.args.place.depth c.args.place.parent c.args.place.root (either _ _ (ap (λ (b : Bool). b && not c.args.place.innermost) (sym (c.eq.ensures ∙ kind_same c.args.event.now.plain.now.kind K.End)) ∙ c.if-eq-place.false)) (sym c.left_out.ensures ∙ c.if-left_out.false) c.in_ok-may_start.ensures (sym (ap₂ ◌&&◌ c.keys_apart.ensures c.text_apart.ensures) ∙ c.if-not-keys_apart-text_apart.false) (taken_no c.args.h.binding c.args.h.history 2 3 c.if-h.true)

pub returns : goal.returns
unfolding asked_in parsed_in
returns c = sym (no_none (parsed_in c.args.event.now.src.now c.args.event.now.plain.now) c.args.h c.args.place.innermost c.args.place.depth c.args.place.parent c.args.place.root (either _ _ (ap (λ (b : Bool). b && not c.args.place.innermost) (sym (c.eq.ensures ∙ kind_same c.args.event.now.plain.now.kind K.End)) ∙ c.if-eq-place.false)) (sym c.left_out.ensures ∙ c.if-left_out.false) c.in_ok-may_start.ensures (sym (ap₂ ◌&&◌ c.keys_apart.ensures c.text_apart.ensures) ∙ c.if-not-keys_apart-text_apart.false) (taken_yes c.args.h.binding c.args.h.history 2 3 c.if-h.false))
