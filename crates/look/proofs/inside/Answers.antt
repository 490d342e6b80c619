use mathlib.Core.Path.{sym}
use Rattle.look.proofs.Laws.{last_none, last_some}
use Rattle.look.proofs.inside.Goals as goal

pub returns-in-Some : goal.returns-in-Some
returns-in-Some c = last_some c.args.opened.now c.in-Some.row.now (sym c.in-Some.ensures.value) c.args.c

pub returns-in-None : goal.returns-in-None
returns-in-None c = last_none c.args.opened.now (sym c.in-None.ensures.value) c.args.c
