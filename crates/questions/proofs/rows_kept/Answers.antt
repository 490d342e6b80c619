use lib.ListN.{replicate}
use Rattle.definition.specs.Rows.{free, chart_columns, state_columns, transition_columns, region_columns, entry_columns, invoke_columns, datum_columns, parameter_columns, member_columns, opened_columns, open_region_columns}
use Rattle.rules.proofs.Each.{each_row}
use Rattle.questions.proofs.Laws.{rows_is}
use Rattle.questions.proofs.rows_kept.Goals as goal

pub returns : goal.returns
returns c = λ s e.
    rows_is s c.args.tables.chart.now c.args.tables.states.now c.args.tables.transitions.now c.args.tables.regions.now c.args.tables.entries.now c.args.tables.invokes.now c.args.tables.datums.now c.args.tables.parameters.now c.args.tables.members.now c.args.tables.opened.now c.args.tables.open_names.now c.args.tables.open_regions.now
    (each_row s chart_columns _ c.rows_keep.ensures (λ x b h. h s e))
    (each_row s state_columns _ c.rows_keep-2.ensures (λ x b h. h s e))
    (each_row s transition_columns _ c.rows_keep-3.ensures (λ x b h. h s e))
    (each_row s region_columns _ c.rows_keep-4.ensures (λ x b h. h s e))
    (each_row s entry_columns _ c.rows_keep-5.ensures (λ x b h. h s e))
    (each_row s invoke_columns _ c.rows_keep-6.ensures (λ x b h. h s e))
    (each_row s datum_columns _ c.rows_keep-7.ensures (λ x b h. h s e))
    (each_row s parameter_columns _ c.rows_keep-8.ensures (λ x b h. h s e))
    (each_row s member_columns _ c.rows_keep-9.ensures (λ x b h. h s e))
    (each_row s opened_columns _ c.rows_keep-10.ensures (λ x b h. h s e))
    (each_row s (replicate 64 free) _ c.rows_keep-11.ensures (λ x b h. h s e))
    (each_row s open_region_columns _ c.rows_keep-12.ensures (λ x b h. h s e))
