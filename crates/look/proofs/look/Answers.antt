use mathlib.Core.Path.{ap, ap₂, ◌∙◌}
use Prim.Native.Nat.{ℕ}
use native.Mathlib.Omega.{arith}
use Rattle.definition.specs.Look.{is_innermost}
use Rattle.plain.specs.Plain.{parsed_in}
use Rattle.look.specs.Looked.{looked_in}
use Rattle.look.proofs.Laws.{own_small, found_small, looked_is}
use Rattle.look.proofs.look.Goals as goal

pub overflow_cast-names : goal.overflow_cast-names
overflow_cast-names c = omega (arith, own_small c.args.used.text.now c.args.used.states.now c.args.position.names _ c.requires.states_len_bound.0 _ c.look_names-names.ensures)

pub overflow_cast-row : goal.overflow_cast-row
overflow_cast-row c = omega (arith, found_small c.args.used.text.now c.args.used.datums.now _ _ c.requires.states_len_bound.1 _ c.found-row.ensures)

pub returns : goal.returns
returns c =
    looked_is c.args.used.chart.now c.args.used.states.now c.args.used.datums.now c.args.used.opened.now c.args.used.open_names.now c.args.used.text.now c.args.position c.index-event.result.src.now c.index-event.result.plain.now _
    c.look_names-names.ensures _ c.inside.ensures _ c.found-row.ensures _ c.heard-heard.ensures _ c.bytes_of.ensures.result_value _
    (c.is_innermost.ensures ∙ ap (λ (g : ℕ). is_innermost c.args.used.opened.now c.args.used.open_names.now g c.bytes_of.result.now) c.number.ensures) _ c.inside-parent.ensures _ c.root_of-root.ensures _
    c.first_no.ensures _ c.is_made-made.ensures _ c.charge.ensures.value
    ∙ ap (looked_in c.args.used.chart.now c.args.used.states.now c.args.used.datums.now c.args.used.opened.now c.args.used.open_names.now c.args.used.text.now c.args.position)
    (ap₂ parsed_in c.index-event.ensures.src_value c.index-event.ensures.plain_value)
