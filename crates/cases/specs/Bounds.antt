-- "Would the chart stay within the limits? 15": a case at and one past each limit, from made-up stores.
use Rattle.std.specs.Prelude.{ℕ, suc, ◌-◌, List, [], ◌∷◌, ◌++◌}
use Prim.Native.String.{String}
use Rattle.definition.specs.Text.{str}
use Rattle.definition.specs.Elements.{tag}
use Rattle.definition.specs.Rows.{table, entry, state}
use Rattle.definition.specs.Stars.{number}
use Rattle.cases.specs.Made.{limit, position, Alter, cell, field, bound, altered_by, Case}
use Rattle.cases.specs.Base.{good}
use Rattle.cases.specs.Internal.{inside, answers}

-- In an element g, in state 1 and region 4: an event that fills the limit f up to v, and is one past v - 1.
abbrev fills : ℕ → ℕ → ℕ → String → List Case
fills g f v e = answers 0 (bound f v ∷ inside g 1 1 4) e [] ∷ answers 15 (bound f (v - 1) ∷ inside g 1 1 4) e [] ∷ []

-- The same of a counter, of which v numbers are drawn before: the event draws the last.
abbrev draws : ℕ → ℕ → ℕ → String → List Case
draws g f v e = answers 0 (field f v ∷ inside g 1 1 4) e [] ∷ answers 15 (field f (suc v) ∷ inside g 1 1 4) e [] ∷ []

unfoldable pub row_limits : List Case
unfolding altered_by good str
row_limits =
    fills tag.state limit.states 3 "event=open\nname=state\nkey=id\nvalue=c\n"
    -- Two new names, one of them twice.
    ++ fills tag.state limit.states 4 "event=open\nname=transition\nkey=target\nvalue=c a d c\n"
    ++ answers 0 (bound limit.states 2 ∷ inside tag.state 1 1 4) "event=open\nname=state\nkey=id\nvalue=b\nkey=initial\nvalue=a b\n" []
    ∷ fills tag.state limit.transitions 3 "event=open\nname=transition\n"
    ++ fills tag.state limit.transitions 3 "event=open\nname=state\nkey=id\nvalue=b\nkey=initial\nvalue=\n"
    -- An ending state's own transition.
    ++ answers 0 (bound limit.transitions 3 ∷ cell table.states 1 state.initial 0 ∷ inside tag.state 1 1 4) "event=end\nname=state\n" []
    ∷ answers 15 (bound limit.transitions 2 ∷ cell table.states 1 state.initial 0 ∷ inside tag.state 1 1 4) "event=end\nname=state\n" []
    ∷ fills tag.state limit.regions 6 "event=open\nname=onentry\n"
    ++ fills tag.if limit.regions 7 "event=open\nname=elseif\nkey=cond\nvalue=x\n"
    ++ fills tag.onentry limit.entries 5 "event=empty\nname=raise\nkey=event\nvalue=x\n"
    ++ fills tag.if limit.entries 5 "event=open\nname=elseif\nkey=cond\nvalue=x\n"
    ++ answers 0 (bound limit.entries 4 ∷ inside tag.onentry 1 1 4) "event=empty\nname=log\n" []
    ∷ fills tag.state limit.invokes 2 "event=open\nname=invoke\n"
    ++ fills tag.datamodel limit.datums 2 "event=empty\nname=data\nkey=id\nvalue=z\n"
    -- "`data` repeated in a state replaces the value in its row and takes no new row."
    ++ answers 0 (bound limit.datums 1 ∷ inside tag.datamodel 1 1 4) "event=empty\nname=data\nkey=id\nvalue=i\n" []
    ∷ fills tag.invoke limit.parameters 5 "event=open\nname=param\nkey=name\nvalue=p\n"
    -- Two event words, two targets, and the transition among its state's.
    ++ fills tag.state limit.members 14 "event=open\nname=transition\nkey=event\nvalue=x y\nkey=target\nvalue=a a\n"
    ++ fills tag.state limit.members 10 "event=open\nname=state\nkey=id\nvalue=c\n"
    -- Already a child.
    ++ answers 0 (bound limit.members 9 ∷ inside tag.state 1 1 4) "event=open\nname=state\nkey=id\nvalue=b\n" []
    ∷ fills tag.state limit.members 11 "event=open\nname=invoke\nkey=namelist\nvalue=x y\n"
    ++ fills tag.onexit limit.members 10 "event=end\nname=onexit\n"

-- "65,535 numbers drawn from each counter (doc ids and generated names too)."
unfoldable pub drawn_limits : List Case
unfolding altered_by good str
drawn_limits =
    draws tag.state position.ids 65534 "event=open\nname=onexit\n"
    ++ draws tag.state position.ids 65533 "event=open\nname=transition\n"
    ++ draws tag.if position.ids 65533 "event=empty\nname=elseif\nkey=cond\nvalue=x\n"
    ++ draws tag.state position.docs 65534 "event=open\nname=state\nkey=id\nvalue=b\n"
    ++ draws tag.state position.docs 65533 "event=open\nname=state\nkey=id\nvalue=b\nkey=initial\nvalue=a\n"
    ++ draws tag.state position.names 65534 "event=open\nname=state\n"
    -- What draws nothing passes.
    ++ answers 0 (field position.ids 65535 ∷ field position.docs 65535 ∷ field position.names 65535 ∷ inside tag.onentry 1 1 4) "event=empty\nname=send\n" []
    ∷ []

-- "Text charge, at most 65,535: over accepted events, the lengths of all values, texts (assign: twice and two more) and generated names." 14 are charged before.
unfoldable pub charge_limits : List Case
unfolding altered_by good str
charge_limits =
    fills tag.onentry limit.charge 16 "event=empty\nname=raise\nkey=event\nvalue=xy\n"
    -- A key that no element has, and an unknown element.
    ++ fills tag.onentry limit.charge 18 "event=open\nname=other\nkey=any\nvalue=wxyz\n"
    -- Blanks are trimmed and charged; an escaped byte is one.
    ++ fills tag.onentry limit.charge 18 "event=whole\nname=script\ntext= x\\n \n"
    ++ fills tag.onentry limit.charge 22 "event=whole\nname=assign\nkey=location\nvalue=xy\ntext=zz\n"
    ++ fills tag.onentry limit.charge 17 "event=whole\nname=assign\nkey=location\nvalue=x\ntext=\n"
    -- The name `__id3`.
    ++ fills tag.state limit.charge 19 "event=open\nname=state\n"
    -- A known name is charged again.
    ++ fills tag.state limit.charge 15 "event=open\nname=state\nkey=id\nvalue=b\n"
    ++ answers 0 (bound limit.charge 14 ∷ inside tag.onentry 1 1 4) "event=empty\nname=log\n" []
    ∷ []

-- An else in the if of region 2, which goes on there: the walk begins at its last entry, the if 1. "14" is put before "15", and so are 12 and 13.
abbrev in_else : ℕ → List Alter
in_else k = bound limit.regions k ∷ inside tag.if 1 1 4 ++ field position.open_regions 1 ∷ []

unfoldable pub before_limits : List Case
unfolding altered_by good str
before_limits =
    answers 0 (cell table.entries 1 entry.else 0 ∷ in_else 6) "event=empty\nname=else\n" (number table.entries 1 entry.else 8 ∷ [])
    ∷ answers 15 (cell table.entries 1 entry.else 0 ∷ in_else 5) "event=empty\nname=else\n" []
    ∷ answers 14 (in_else 6) "event=empty\nname=else\n" []
    ∷ answers 14 (in_else 5) "event=empty\nname=else\n" []
    ∷ answers 13 (bound limit.transitions 2 ∷ inside tag.initial 1 1 4) "event=empty\nname=transition\n" []
    ∷ answers 15 (bound limit.transitions 2 ∷ inside tag.initial 2 1 4) "event=empty\nname=transition\n" []
    ∷ answers 12 (bound limit.transitions 2 ∷ inside tag.state 1 1 4) "event=empty\nname=transition\nkey=type\nvalue=x\n" []
    ∷ answers 7 (bound limit.opened 3 ∷ bound limit.states 2 ∷ inside tag.state 1 1 4) "event=open\nname=state\n" []
    ∷ []

-- The event's own limits, which are question 3: lengths are counted unescaped.
unfoldable pub own_limits : List Case
unfolding altered_by good str
own_limits =
    answers 0 (bound limit.text 3 ∷ inside tag.onentry 1 1 4) "event=whole\nname=script\ntext=abc\n" []
    ∷ answers 3 (bound limit.text 2 ∷ inside tag.onentry 1 1 4) "event=whole\nname=script\ntext=abc\n" []
    ∷ answers 0 (bound limit.text 2 ∷ inside tag.onentry 1 1 4) "event=whole\nname=script\ntext=\\n\\\\\n" []
    ∷ answers 3 (bound limit.text 1 ∷ inside tag.onentry 1 1 4) "event=whole\nname=script\ntext=\\n\\\\\n" []
    ∷ answers 0 (bound limit.value 1 ∷ inside tag.onentry 1 1 4) "event=empty\nname=raise\nkey=event\nvalue=\\n\n" []
    ∷ answers 3 (bound limit.value 0 ∷ inside tag.onentry 1 1 4) "event=empty\nname=raise\nkey=event\nvalue=\\n\n" []
    ∷ []
