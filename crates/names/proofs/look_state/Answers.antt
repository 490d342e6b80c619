use Rattle.names.proofs.FoundNames.{own_given, own_made}
use Rattle.written.proofs.GeneratedLaw.{made_fits, made_name}
use Rattle.plain.specs.Plain.{slots_of, loads_in, parsed_in}
use Rattle.definition.specs.Look.{name_cells}
use Rattle.definition.specs.Text.{generated_name}
use lib.ListN.{replicate}
use native.Mathlib.Omega.{arith}
use native.Mathlib.Numerals.{add-one}
use mathlib.Core.Path.{refl, ap, ◌∙◌}
use Prim.Native.Nat.{◌+◌}
use Rattle.names.proofs.look_state.Goals as goal

pub returns-then-has : goal.returns-then-has
unfolding parsed_in
returns-then-has c = own_given c.args.text.now (name_cells c.args.states.now) c.args.drawn (loads_in c.args.event.now.src.now (slots_of c.args.event.now.plain.now)) _ c.has.ensures _ c.value-initial.ensures.result_value _ c.if-has.true _ c.value.ensures.result_value c.count_with.ensures

pub slice_bounds-count_with-end : goal.slice_bounds-count_with-end
slice_bounds-count_with-end c = omega (arith, made_fits (c.args.drawn + 1) (replicate 24 0) refl c.put_generated-n.result c.put_generated-n.ensures.value)

pub returns : goal.returns
unfolding parsed_in
returns c = own_made c.args.text.now (name_cells c.args.states.now) c.args.drawn (loads_in c.args.event.now.src.now (slots_of c.args.event.now.plain.now)) _ c.has.ensures _ c.value-initial.ensures.result_value _ c.if-has.false _ (made_name (c.args.drawn + 1) (replicate 24 0) refl c.put_generated-n.result c.put_generated-n.ensures.value _ c.put_generated-n.ensures.out_after ∙ ap generated_name (add-one c.args.drawn)) c.count_with-2.ensures
