-- What a plan needs of an event, by its values.
use Rattle.std.specs.Prelude.{ℕ, Bool, true, false, List, length, eqb}
use Rattle.definition.specs.Elements.{key}
use Rattle.definition.specs.Event.{kind}
use Rattle.definition.specs.Look.{Load, has_load, code_of, word_spans}
use Rattle.definition.specs.Actions.{type_of}
use Rattle.plain.specs.Plain.{Parsed}
use Rattle.plain.specs.Keyed.{value_in}
use Rattle.plan.specs.declared.Heard.{Heard}
use Rattle.plan.specs.Ids.{state_id}

unfoldable pub or_else : Bool → ℕ → ℕ → ℕ
or_else true x d = x
or_else false x d = d

-- The code of a key's value on the element g; d without it.
unfoldable pub code_in : ℕ → ℕ → ℕ → List Load → ℕ
unfolding or_else
code_in d g k is = or_else (has_load k is) (code_of g k (value_in k is)) d

unfoldable pub words_in : ℕ → ℕ → List Load → ℕ
words_in g k is = length (word_spans g k (value_in k is))

-- own: the number of its first state; found: of the data that it repeats.
unfoldable pub heard_in : ℕ → ℕ → Parsed → Heard
unfolding code_in words_in type_of
heard_in own found v =
    record {
      whole = eqb v.kind kind.whole;
      own = state_id own;
      initial = has_load key.initial v.values;
      expr = has_load key.expr v.values;
      binds = has_load key.binding v.values;
      binding = code_in 0 v.tag key.binding v.values;
      mode = type_of (code_in 0 v.tag key.type v.values);
      history = code_in 1 v.tag key.type v.values;
      wildcard = code_of v.tag key.event (value_in key.event v.values);
      forward = code_of v.tag key.autoforward (value_in key.autoforward v.values);
      events = words_in v.tag key.event v.values;
      names = words_in v.tag key.namelist v.values;
      found = found;
    }
