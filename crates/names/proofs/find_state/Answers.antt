use Rattle.std.proofs.Common.{List, [], ℕ, ap, sym, ◌∙◌, arith}
use Rattle.definition.specs.Rows.{text_at, cell_at}
use Rattle.definition.specs.Text.{same}
use Rattle.definition.specs.Look.{name_cells}
use Rattle.definition.proofs.Finds.{find_le, cells_length}
use Rattle.names.proofs.ApartLaws.{found_apart}
use Rattle.names.proofs.find_state.Goals as goal

pub returns-then-is_named-clause-value : goal.returns-then-is_named-clause-value
returns-then-is_named-clause-value c =
    found_apart c.args.states.now c.args.text.now c.args.w.now c.requires c.args.near c.in-Some.ensures.lookup.3.0
    (ap (λ (r : List ℕ). same (text_at c.args.text.now (cell_at r 0)) c.args.w.now) (sym (c.in-Some.ensures.lookup.3.1 [])) ∙ sym c.is_named.ensures ∙ c.if-is_named.true)

pub returns-then-w-text-clause-upper_bound : goal.returns-then-w-text-clause-upper_bound
returns-then-w-text-clause-upper_bound c = omega (arith, c.find_short.ensures, find_le c.args.text.now (name_cells c.args.states.now) c.args.w.now, cells_length c.args.states.now)

pub returns-clause-upper_bound : goal.returns-clause-upper_bound
returns-clause-upper_bound c = omega (arith, c.find_last.ensures, find_le c.args.text.now (name_cells c.args.states.now) c.args.w.now, cells_length c.args.states.now)
