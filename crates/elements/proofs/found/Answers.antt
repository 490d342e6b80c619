use Rattle.std.proofs.Common.{ℕ, Option, unwrap_or, ap, ◌∙◌, subst}
use Rattle.definition.specs.declared.codes.Tag.{Tag}
use Rattle.definition.specs.declared.codes.Tag.TheVariants.{Unknown}
use Rattle.definition.specs.Codes.{tag_number}
use Rattle.marks.specs.Marks.{element_marks, NotAny}
use Rattle.marks.proofs.Marks.{tag_unsized, tag_unmarked, tag_found}
use Rattle.elements.proofs.found.Goals as goal

pub returns-in_err-mark_of : goal.returns-in_err-mark_of
returns-in_err-mark_of c = rw c.from_residual.ensures (tag_unsized c.args.name.now c.in_err-mark_of.ensures)

pub returns-in_err-word : goal.returns-in_err-word
returns-in_err-word c = rw c.from_residual-in_err-word.ensures (tag_unmarked c.args.name.now (subst (λ (m : ℕ). NotAny m element_marks) c.in_ok-mark_of.ensures c.in_err-word.ensures))

pub returns : goal.returns
returns c =
    ap (λ (o : Option Tag). tag_number (unwrap_or o Unknown)) c.only.ensures
    ∙ tag_found c.args.name.now c.in_ok-word.word.now c.in_ok-word.tag (c.in_ok-word.ensures.0, c.in_ok-word.ensures.1 ∙ c.in_ok-mark_of.ensures)
