use mathlib.Core.Path.{refl, sym, ◌∙◌}
use Rattle.std.proofs.lemmas.Result.{err_from_is_err_and}
use Rattle.definition.specs.Reader.{store_of, taken, counts}
use Rattle.rows.specs.Lent.{seen_of}
use Rattle.reading.proofs.Calls.{read_refused, read_asked, some_number}
use Rattle.reading.proofs.Laws.{no_kind}
use Rattle.reading.proofs.read_row.Goals as goal

pub returns-in_err-asked : goal.returns-in_err-asked
returns-in_err-asked c =
    let p = err_from_is_err_and c.from_residual.result c.from_residual.ensures.1 in rw (p.1, p.2) (read_refused _ _ _ _ c.in_err-asked.ensures (some_number c.in_err-asked.field-0.0))

pub returns-in_err-kind : goal.returns-in_err-kind
returns-in_err-kind c =
    let p = err_from_is_err_and c.from_residual-in_err-kind.result c.from_residual-in_err-kind.ensures.1 in
    rw (p.1, p.2, c.in_err-kind.ensures.0) (no_kind (store_of (seen_of c.args.tables) c.args.p).numbers c.args.kind c.args.number c.in_err-kind.ensures.1 ∙ read_asked _ _ _ _ c.in_ok-asked.ensures refl)

pub returns : goal.returns
unfolding store_of taken counts
returns c =
    c.read.ensures (store_of (seen_of c.args.tables) c.args.p).numbers (sym c.in_use.ensures.chart) (sym c.in_use.ensures.states) (sym c.in_use.ensures.transitions) (sym c.in_use.ensures.regions)
    (sym c.in_use.ensures.entries) (sym c.in_use.ensures.invokes) (sym c.in_use.ensures.datums) (sym c.in_use.ensures.parameters) (sym c.in_use.ensures.members)
    ∙ rw c.in_ok-kind.ensures (read_asked _ _ _ _ c.in_ok-asked.ensures refl)
