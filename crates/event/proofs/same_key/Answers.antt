use Rattle.std.proofs.Common.{List, ℕ, not, ap, ap₂, sym, ◌∙◌}
use Rattle.definition.specs.Codes.{key_code}
use Rattle.definition.specs.Text.{same}
use Rattle.definition.specs.Event.{legible}
use Rattle.definition.proofs.Base.{true_is_false}
use Rattle.lines.specs.Parts.{part, or_nothing}
use Rattle.parts.specs.Parts.{pair_of}
use Rattle.event.specs.Described.{read}
use Rattle.event.proofs.KeyLaws.{other_code}
use Rattle.event.proofs.SameKeys.{same_codes}
use Rattle.event.proofs.same_key.Goals as goal

pub returns-then-ne : goal.returns-then-ne
unfolding pair_of
returns-then-ne c =
    other_code (read c.args.raw.now c.args.p.key) (read c.args.raw.now c.args.q.key) (key_code c.args.p.code) (key_code c.args.q.code) c.requires.p_value c.requires.q_value
    (λ e. true_is_false (sym c.if-ne.true ∙ c.ne.ensures ∙ ap not (same_codes c.args.p.code c.args.q.code e)))

pub returns : goal.returns
unfolding read
returns c =
    let one = c.part_of.ensures ∙ ap₂ (part c.args.raw.now) c.from.ensures c.from-2.ensures in
    let two = c.part_of-2.ensures ∙ ap₂ (part c.args.raw.now) c.from-3.ensures c.from-4.ensures in
    c.same_text.ensures ∙ ap₂ (λ (x y : List ℕ). same (or_nothing (legible x)) (or_nothing (legible y))) one two
