-- The reading position after an event.
use Rattle.std.specs.Prelude.{ℕ, zero, suc, ◌+◌, ◌-◌, ◌<◌, ◌≤◌, ◌≡◌, Bool}
use Rattle.definition.specs.declared.Position.{Position}
use Rattle.definition.specs.Look.{one_if}
use Rattle.plan.specs.declared.Plan.{Plan}
use Rattle.plan.specs.Decided.{one_there}
use Rattle.arena.specs.declared.Written.{Written}

-- One more is open, as many, or one less.
unfoldable pub opened_by : ℕ → ℕ → ℕ
opened_by zero n = n + 1
opened_by (suc zero) n = n
opened_by (suc (suc zero)) n = n
opened_by (suc (suc (suc k))) n = n - 1

-- k: the event's kind; w: what was written of its texts and names; g: whether a name was generated; c: its charge.
unfoldable pub position_by : Position → Plan → ℕ → Bool → ℕ → Written → Position
unfolding opened_by one_there one_if
position_by p q k g c w =
    record {
      opened = opened_by k p.opened;
      states = w.states;
      transitions = p.transitions + one_there q.transitions.added;
      regions = p.regions + one_there q.regions.one + one_there q.regions.two;
      entries = p.entries + one_there q.entries.added;
      invokes = p.invokes + one_there q.invokes.added;
      datums = p.datums + one_there q.datums.added;
      parameters = p.parameters + one_there q.parameters;
      members = w.members + one_there q.members.one + one_there q.members.two;
      open_regions = q.pending.kept + one_there q.pending.one + one_there q.pending.two;
      current = q.counters.current;
      ids = q.counters.ids;
      docs = q.counters.docs;
      names = p.names + one_if g;
      used = w.used;
      charge = p.charge + c;
    }

-- No number of a position leaves 16 bits, on the way to the new ones too; there is room for one more open element where one opens, and for a name.
pub record InRange (p : Position) (q : Plan) (k : ℕ) (g : Bool) (c : ℕ) (w : Written) : Type 0 where
  pub opened : k ≡ 0 → p.opened < 32
  pub states : w.states < 65536
  pub transitions : p.transitions < 65536
  pub regions : p.regions < 65536
  pub entries : p.entries < 65536
  pub invokes : p.invokes < 65536
  pub datums : p.datums < 65536
  pub parameters : p.parameters < 65536
  pub members : w.members < 65536
  pub pending : q.pending.kept < 65536
  pub names : p.names + one_if g ≤ 65535
  pub used : w.used < 65536
  pub charge : p.charge + c < 65536
