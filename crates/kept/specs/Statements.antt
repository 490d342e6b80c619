-- What is claimed of every store that keeps the chart rules.
use Rattle.std.specs.Prelude.{ℕ, suc, ◌+◌, ◌≡◌, true, List, length, leb}
use Rattle.definition.specs.declared.Limits.{Limits}
use Rattle.definition.specs.declared.Position.{Position}
use Rattle.definition.specs.Rows.{Store, table, table_of}
use Rattle.definition.specs.Actions.{else_walk}
use Rattle.definition.specs.Rules.{keeps_rules}
use Rattle.definition.specs.Reader.{event_reply, Lent, Call, call, long_enough, in_order}

-- An accepted event keeps the rules; counters and text charge cover all rows and text. An open name's row has 64 bytes.
abbrev pub RulesKept : Type 0
RulesKept =
    (L : Limits) (s : Store) (raw : List ℕ) → leb L.name 64 ≡ true → keeps_rules L s ≡ true → (event_reply L s raw).number ≡ 0 → keeps_rules L (event_reply L s raw).store ≡ true

-- What a call leaves and gives back is in order again: the questions 1 and 2 are yes for the next call.
abbrev pub StaysInOrder : Type 0
StaysInOrder =
    (L : Limits) (x : Lent) (p : Position) (c : Call) → leb L.name 64 ≡ true → long_enough L x ≡ true → in_order L x p ≡ true
    → (long_enough L (call L x p c).lent ≡ true) × (in_order L (call L x p c).lent (call L x p c).position ≡ true)

-- The walk of else and elseif from a region (`walk_from`): with more steps than there are regions it answers the same. So 14 there says that the walk meets a
-- region that does not end with an if, and never that the steps were too few. In region 0 the walk does not start.
abbrev pub StepsEnough : Type 0
StepsEnough =
    (L : Limits) (s : Store) (r k : ℕ) → keeps_rules L s ≡ true
    → else_walk (length (table_of s.numbers table.regions) + k) s.numbers (suc r) ≡ else_walk (length (table_of s.numbers table.regions)) s.numbers (suc r)
