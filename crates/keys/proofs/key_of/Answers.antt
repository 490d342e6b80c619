use Rattle.std.proofs.Common.{ℕ, ap, ◌∙◌, subst}
use Rattle.definition.specs.Codes.{key_code}
use Rattle.marks.specs.Marks.{key_marks, NotAny}
use Rattle.marks.proofs.Marks.{key_unsized, key_unmarked, key_found}
use Rattle.keys.proofs.key_of.Goals as goal

pub returns-in_err-mark_of : goal.returns-in_err-mark_of
returns-in_err-mark_of c = rw c.from_residual.ensures (key_unsized c.args.key.now c.in_err-mark_of.ensures)

pub returns-in_err-name : goal.returns-in_err-name
returns-in_err-name c = rw c.from_residual-in_err-name.ensures (key_unmarked c.args.key.now (subst (λ (m : ℕ). NotAny m key_marks) c.in_ok-mark_of.ensures c.in_err-name.ensures))

pub returns : goal.returns
returns c =
    ap key_code c.only.ensures
    ∙ key_found c.args.key.now c.in_ok-name.name.now c.in_ok-name.found (c.in_ok-name.ensures.0, c.in_ok-name.ensures.1 ∙ c.in_ok-mark_of.ensures)
