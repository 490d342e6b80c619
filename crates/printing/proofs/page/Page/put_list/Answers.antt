use Rattle.std.proofs.Common.{rules, tests}
use Rattle.std.proofs.lemmas.Iterator.{YieldsList-from_slice}
use Rattle.std.proofs.lemmas.Iterator.Consumers.{YieldsList-at, YieldsList-from_filter, YieldsList-end}
use mathlib.Core.Bool.{true}
use mathlib.Core.Path.{sym, ap, ◌∙◌}
use Rattle.definition.specs.Rows.{Table, same_list, values_of}
use Rattle.definition.specs.Text.{decimal}
use Rattle.printing.specs.Lines.{spaced, numbers_of, spaced_from}
use Rattle.printing.proofs.Laws.{put_none, put_then, put_is, gap_after, gap_first, gap_next, spaced_more, listed_filter, numbers_in, numbers_more}
use Rattle.printing.proofs.page.Page.put_list.Goals as goal

pub loop-row-init : goal.loop-row-init
unfolding spaced spaced_from values_of
loop-row-init c = (search rules, search rules, sym gap_first, put_none _ c.args.self.now.within)

pub loop-row-preserved : goal.loop-row-preserved
unfolding spaced
loop-row-preserved c =
    let (_, _, before, put) = c.loop-row.invariant in (
      search rules,
      search rules,
      sym (ap (gap_after true) (numbers_more c.loop-row.yielded c.in-Some.row) ∙ gap_next true (numbers_in c.loop-row.yielded) _),
      put_is
          (sym (ap (spaced_from true) (numbers_more c.loop-row.yielded c.in-Some.row) ∙ spaced_more true (numbers_in c.loop-row.yielded) _))
          (put_then put (put_then (put_is before c.put_bytes.ensures) (put_is (ap decimal c.from.ensures) c.put_number.ensures))),
    )

pub returns : goal.returns
unfolding spaced numbers_of same_list
returns c =
    let seen = YieldsList-end
    (YieldsList-at c.into_iter-row-iterator.ensures.into_iter_gives
    (YieldsList-from_filter _ (same_list c.args.list c.args.owner) (YieldsList-from_slice c.args.members.now cc) c.filter-row-items.ensures.closure (λ x r q k. search (rules, tests))))
    c.loop-row.yielded _ c.loop-row.yielded_by _ _ c.in-None.is c.next.ensures.steps in
    let (_, _, _, put) = c.loop-row.invariant in
    put_is (ap (λ (rows : Table). spaced (values_of rows)) (seen.0 ∙ listed_filter c.args.list c.args.owner c.args.members.now)) put
