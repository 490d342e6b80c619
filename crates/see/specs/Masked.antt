-- What an event's plan reads: the costly reads are made only for the elements and kinds that need them, and are 0, none or no walk for the others.
use Rattle.std.specs.Prelude.{ℕ, zero, suc, Bool, true, false, Option, None, not, ◌||◌, ◌&&◌, eqb}
use Rattle.definition.specs.Elements.{tag}
use Rattle.plan.specs.declared.Walked.{Walked}
use Rattle.plan.specs.declared.Walked.TheVariants as W
use Rattle.plan.specs.declared.Seen.{Seen}
use Rattle.plan.specs.declared.Closing.{Closing}
use Rattle.plan.specs.Ids.{state_id}

-- Of the kinds open, empty, whole and end, as the plan goes by them: all but the last begin an element, and two of these end it as well.
unfoldable pub is_start : ℕ → Bool
is_start zero = true
is_start (suc zero) = true
is_start (suc (suc zero)) = true
is_start (suc (suc (suc k))) = false

unfoldable pub is_both : ℕ → Bool
is_both zero = false
is_both (suc zero) = true
is_both (suc (suc zero)) = true
is_both (suc (suc (suc k))) = false

unfoldable pub is_open : ℕ → Bool
is_open zero = true
is_open (suc k) = false

unfoldable pub is_else : ℕ → Bool
is_else g = eqb g tag.else || eqb g tag.elseif

-- The elements that close their own region where they end.
unfoldable pub closes_own : ℕ → Bool
closes_own g =
    eqb g tag.finalize
    || (eqb g tag.transition || (eqb g tag.onentry || (eqb g tag.onexit || (eqb g tag.if || eqb g tag.foreach))))

-- Whether an event closes a region.
unfoldable pub does_close : ℕ → ℕ → Bool
unfolding is_open is_else closes_own
does_close k g = is_else g || (not (is_open k) && closes_own g)

unfoldable pub is_part : ℕ → Bool
is_part g = eqb g tag.param || eqb g tag.content

unfoldable pub is_invoked : ℕ → Bool
is_invoked g = eqb g tag.finalize || eqb g tag.param || eqb g tag.content

unfoldable pub is_childish : ℕ → Bool
is_childish g = eqb g tag.state || eqb g tag.parallel || eqb g tag.final

unfoldable pub number_if : Bool → ℕ → ℕ
number_if true n = n
number_if false n = 0

unfoldable pub bool_if : Bool → Bool → Bool
bool_if true b = b
bool_if false b = false

unfoldable pub walked_if : Bool → Walked → Walked
walked_if true w = w
walked_if false w = W.NoIf

unfoldable pub closing_if : Bool → Option Closing → Option Closing
closing_if true x = x
closing_if false x = None

unfoldable pub masked : ℕ → ℕ → Seen → Seen
unfolding is_start is_both is_else is_part is_invoked is_childish number_if bool_if walked_if does_close closing_if
masked k g v =
    record {
      state = v.state;
      transition = v.transition;
      parent = v.parent;
      current = v.current;
      ids = v.ids;
      docs = v.docs;
      regions = v.regions;
      entries = v.entries;
      invokes = v.invokes;
      datums = v.datums;
      parameters = v.parameters;
      closed = closing_if (does_close k g) v.closed;
      walk = walked_if (is_else g) v.walk;
      entry = number_if (is_part g) v.entry;
      kind = number_if (is_part g) v.kind;
      invoke = number_if (is_invoked g) v.invoke;
      place = number_if (not (is_start k) && eqb g tag.transition) v.place;
      initial = v.initial;
      donedata = v.donedata;
      first = state_id (number_if (not (is_start k) && eqb g tag.state) v.first.0);
      root = v.root;
      begins = v.begins;
      child = state_id (number_if (not (is_start k) && eqb g tag.scxml) v.child.0);
      joined = bool_if (is_start k && is_childish g) v.joined;
      own = v.own;
      eldest = state_id (number_if (is_both k && (eqb g tag.scxml || eqb g tag.state)) v.eldest.0);
    }
