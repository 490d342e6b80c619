-- Document 01, 'Where to use each form': "The reading position has methods push, pop, draw a number, that take it by value and return it." What each does.
use Rattle.std.specs.Prelude.{ℕ, suc, ◌-◌, true, false, ltb}
use Rattle.definition.specs.declared.Limits.{Limits}
use Rattle.definition.specs.declared.Position.{Position}

-- One more, and at the limit no more: questions 7 and 15 are asked before. (At 0, one less is 0.)
unfoldable pub one_more : ℕ → ℕ → ℕ
one_more limit n = elim (ltb n limit) [ true ↦ suc n | false ↦ n ]

-- The position with other numbers of open elements, drawn numbers, doc ids and generated names.
unfoldable pub counting : ℕ → ℕ → ℕ → ℕ → Position → Position
counting o i d g p =
    record {
      opened = o;
      states = p.states;
      transitions = p.transitions;
      regions = p.regions;
      entries = p.entries;
      invokes = p.invokes;
      datums = p.datums;
      parameters = p.parameters;
      members = p.members;
      open_regions = p.open_regions;
      current = p.current;
      ids = i;
      docs = d;
      names = g;
      used = p.used;
      charge = p.charge;
    }

unfoldable pub pushed_at : Limits → Position → Position
unfolding counting one_more
pushed_at L p = counting (one_more L.opened p.opened) p.ids p.docs p.names p

unfoldable pub popped_at : Position → Position
unfolding counting
popped_at p = counting (p.opened - 1) p.ids p.docs p.names p

unfoldable pub id_drawn : Limits → Position → Position
unfolding counting one_more
id_drawn L p = counting p.opened (one_more L.drawn p.ids) p.docs p.names p

unfoldable pub doc_drawn : Limits → Position → Position
unfolding counting one_more
doc_drawn L p = counting p.opened p.ids (one_more L.drawn p.docs) p.names p

unfoldable pub name_drawn : Limits → Position → Position
unfolding counting one_more
name_drawn L p = counting p.opened p.ids p.docs (one_more L.drawn p.names) p
