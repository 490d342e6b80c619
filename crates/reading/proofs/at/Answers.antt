use mathlib.Core.List.{[]}
use mathlib.Core.Path.{◌∙◌, ap}
use Rattle.std.proofs.lemmas.Result.{err_from_is_err_and}
use Rattle.reading.specs.Read.{shown_with}
use Rattle.reading.proofs.Laws.{at_none, at_some}
use Rattle.reading.proofs.at.Goals as goal

pub returns-in_err-row : goal.returns-in_err-row
returns-in_err-row g c = let p = err_from_is_err_and c.from_residual.result c.from_residual.ensures.1 in rw (p.1, p.2, c.in_err-row.ensures.0) (at_none [] 0 _ _ c.in_err-row.ensures.1)

pub returns : goal.returns
returns g c = at_some [] 0 c.args.place c.args.rows.now c.in_ok-row.ensures.0 (c.show.ensures ∙ ap (shown_with [] 0) c.in_ok-row.ensures.1)
