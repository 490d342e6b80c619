use mathlib.Core.Path.{refl, ◌∙◌}
use Rattle.definition.specs.Reader.{state_kept}
use Rattle.definition.specs.Rules.{has_own_number}
use Rattle.definition.specs.Elements.{among}
use Rattle.reading.proofs.Laws.{any_states, plain_read, own_read, chart_read_lem, parameter_read_lem}
use Rattle.reading.proofs.read.Goals as goal

pub returns-in-Chart : goal.returns-in-Chart
unfolding state_kept has_own_number among
returns-in-Chart c = λ n ch st tr re en iv da pa me. rw c.in-Chart.is (rw (c.read_chart.ensures, ← ch) (chart_read_lem n c.args.number))

pub returns-in-State : goal.returns-in-State
unfolding state_kept has_own_number among
returns-in-State c = λ n ch st tr re en iv da pa me. rw c.in-State.is (c.at.ensures ∙ any_states c.args.used.states.now _ _ ∙ plain_read n 1 c.args.number st st refl refl refl refl c.place_in.ensures.value refl)

pub returns-in-Transition : goal.returns-in-Transition
unfolding state_kept has_own_number among
returns-in-Transition c = λ n ch st tr re en iv da pa me. rw c.in-Transition.is (c.read_own.ensures ∙ any_states c.args.used.states.now _ _ ∙ own_read n 2 c.args.number st tr refl refl refl refl refl)

pub returns-in-Region : goal.returns-in-Region
unfolding state_kept has_own_number among
returns-in-Region c = λ n ch st tr re en iv da pa me. rw c.in-Region.is (c.read_own-in-Region.ensures ∙ any_states c.args.used.states.now _ _ ∙ own_read n 3 c.args.number st re refl refl refl refl refl)

pub returns-in-Entry : goal.returns-in-Entry
unfolding state_kept has_own_number among
returns-in-Entry c = λ n ch st tr re en iv da pa me. rw c.in-Entry.is (c.named_at.ensures ∙ plain_read n 4 c.args.number st en refl refl refl refl c.place_in-place.ensures.value refl)

pub returns-in-Invoke : goal.returns-in-Invoke
unfolding state_kept has_own_number among
returns-in-Invoke c = λ n ch st tr re en iv da pa me. rw c.in-Invoke.is (c.named_at-in-Invoke.ensures ∙ plain_read n 5 c.args.number st iv refl refl refl refl c.place_in-place-in-Invoke.ensures.value refl)

pub returns-in-Datum : goal.returns-in-Datum
unfolding state_kept has_own_number among
returns-in-Datum c = λ n ch st tr re en iv da pa me. rw c.in-Datum.is (c.at-in-Datum.ensures ∙ any_states c.args.used.states.now _ _ ∙ plain_read n 6 c.args.number st da refl refl refl refl c.place_in-in-Datum.ensures.value refl)

pub returns-in-Parameter : goal.returns-in-Parameter
unfolding state_kept has_own_number among
returns-in-Parameter c = λ n ch st tr re en iv da pa me. rw c.in-Parameter.is (rw (c.read_parameter.ensures, ← pa, ← st) (parameter_read_lem n c.args.number))

pub returns-in-Member : goal.returns-in-Member
unfolding state_kept has_own_number among
returns-in-Member c = λ n ch st tr re en iv da pa me. rw c.in-Member.is (c.at-in-Member.ensures ∙ any_states c.args.used.states.now _ _ ∙ plain_read n 8 c.args.number st me refl refl refl refl c.place_in-in-Member.ensures.value refl)
