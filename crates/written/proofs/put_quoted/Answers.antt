use Rattle.written.proofs.Laws.{quoted_part}
use Rattle.words.proofs.Ends.{part_fits, part_trimmed}
use Prim.Native.Nat.{ℕ}
use mathlib.Core.Path.{sym, ◌∙◌, ap}
use mathlib.Core.List.{List}
use native.Mathlib.Omega.{arith}
use Rattle.written.specs.Written.{written, written_length, in_quotes}
use Rattle.written.proofs.put_quoted.Goals as goal

pub overflow_add-end : goal.overflow_add-end
overflow_add-end c = omega (arith, part_fits c.args.v.now c.trim-part.result c.trim-part.ensures)

pub slice_bounds-put_in_quotes-end : goal.slice_bounds-put_in_quotes-end
slice_bounds-put_in_quotes-end c = omega (arith, part_fits c.args.v.now c.trim-part.result c.trim-part.ensures)

pub returns-clause-value : goal.returns-clause-value
returns-clause-value c = c.put_in_quotes.ensures.value ∙ ap (λ (x : List ℕ). written_length x c.args.out.now) (ap in_quotes (part_trimmed c.args.v.now c.trim-part.result c.trim-part.ensures) ∙ sym (quoted_part c.args.v.now))

pub returns-clause-out_after : goal.returns-clause-out_after
returns-clause-out_after c = c.put_in_quotes.ensures.out_after ∙ ap (λ (x : List ℕ). written x c.args.out.now) (ap in_quotes (part_trimmed c.args.v.now c.trim-part.result c.trim-part.ensures) ∙ sym (quoted_part c.args.v.now))
