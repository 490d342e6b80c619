use Rattle.std.proofs.Common.{Option, ◌≡◌, arith, ap, ◌∙◌, refl, subst, take}
use Rattle.definition.specs.Codes.{kind_number}
use Rattle.definition.specs.Elements.{holds_text}
use Rattle.parts.specs.declared.Heading.{Heading}
use Rattle.parts.specs.Parts.{next_of, walked_by}
use Rattle.walk.specs.Walk.{walked}
use Rattle.walk.specs.Stream.{settled}
use Rattle.event.specs.Described.{shape_fits}
use Rattle.event.proofs.DescribeLaws.{no_heading, no_kind, wrong_shape, coded_in, repeated, taken_apart}
use Rattle.event.proofs.head_of.Goals as goal

pub returns-in_default : goal.returns-in_default
returns-in_default c = rw c.in_default.is (no_heading c.args.raw.now c.args.pairs.now)

pub returns-in_default-kind : goal.returns-in_default-kind
returns-in_default-kind c = rw c.in-Some.is (no_kind c.args.raw.now c.args.pairs.now c.in-Some.w c.in_default-kind.is)

pub returns-then-not-shape_fits : goal.returns-then-not-shape_fits
returns-then-not-shape_fits c = rw c.in-Some.is (wrong_shape c.args.raw.now c.args.pairs.now c.in-Some.w c.in-Some-kind.kind c.in-Some-kind.is (c.shape_fits.ensures ∙ ap (shape_fits (kind_number c.in-Some-kind.kind) (next_of c.in-Some.w.text) c.in-Some.w.count) (c.holds_text.ensures ∙ ap holds_text c.number.ensures)) c.if-not-shape_fits.true)

pub keys_differ-requires : goal.keys_differ-requires
keys_differ-requires c = coded_in c.args.raw.now c.args.pairs.now c.in-Some.w c.in-Some-kind.kind c.in-Some-kind.is (c.shape_fits.ensures ∙ ap (shape_fits (kind_number c.in-Some-kind.kind) (next_of c.in-Some.w.text) c.in-Some.w.count) (c.holds_text.ensures ∙ ap holds_text c.number.ensures)) c.if-not-shape_fits.false (take c.at_most_16.result c.args.pairs.now) c.at_most_16.result refl c.at_most_16.ensures.value (omega arith) (subst (λ (o : Option Heading). walked_by o c.args.pairs.now ≡ settled (walked c.args.raw.now)) c.in-Some.is c.requires.heading_value)

pub returns-then-not-keys_differ : goal.returns-then-not-keys_differ
returns-then-not-keys_differ c = rw c.in-Some.is (repeated c.args.raw.now c.args.pairs.now c.in-Some.w c.in-Some-kind.kind c.in-Some-kind.is (c.shape_fits.ensures ∙ ap (shape_fits (kind_number c.in-Some-kind.kind) (next_of c.in-Some.w.text) c.in-Some.w.count) (c.holds_text.ensures ∙ ap holds_text c.number.ensures)) c.if-not-shape_fits.false (take c.at_most_16.result c.args.pairs.now) c.at_most_16.result refl c.at_most_16.ensures.value (omega arith) c.keys_differ.ensures c.if-not-keys_differ.true)

pub returns : goal.returns
returns c = rw c.in-Some.is (taken_apart c.args.raw.now c.args.pairs.now c.in-Some.w c.in-Some-kind.kind c.in-Some-kind.is (c.shape_fits.ensures ∙ ap (shape_fits (kind_number c.in-Some-kind.kind) (next_of c.in-Some.w.text) c.in-Some.w.count) (c.holds_text.ensures ∙ ap holds_text c.number.ensures)) c.if-not-shape_fits.false (take c.at_most_16.result c.args.pairs.now) c.at_most_16.result refl c.at_most_16.ensures.value (omega arith) c.keys_differ.ensures c.if-not-keys_differ.false)
