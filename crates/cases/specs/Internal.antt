-- Question 2 put after 12: "where the Rust meets an internal error outside the else walk." One lent store for each, beside one that differs in a number and
-- is answered on. The innermost open element is altered in the good store.
use Rattle.std.specs.Prelude.{ℕ, List, [], ◌∷◌, ◌++◌}
use Prim.Native.String.{String}
use Rattle.definition.specs.Text.{str}
use Rattle.definition.specs.Elements.{tag}
use Rattle.definition.specs.Rows.{table, chart, state, transition, entry, invoke, opened, open_region}
use Rattle.definition.specs.Reader.{event}
use Rattle.definition.specs.Stars.{Held, rows, number}
use Rattle.cases.specs.Made.{limit, position, Alter, cell, field, bound, altered_by, Case}
use Rattle.cases.specs.Base.{good}

-- Inside an element g, with the current state s, transition t and region r, and no open region.
abbrev pub inside : ℕ → ℕ → ℕ → ℕ → List Alter
inside g s t r =
    cell table.opened 3 opened.tag g
    ∷ cell table.opened 3 opened.state s
    ∷ cell table.opened 3 opened.transition t
    ∷ field position.current r
    ∷ field position.open_regions 0
    ∷ []

abbrev pub answers : ℕ → List Alter → String → List Held → Case
answers k as' e hs = record { made = altered_by as' good; call = event (str e); breaks = []; answer = k; row = []; holds = hs }

abbrev error : List Alter → String → Case
error as' e = answers 2 as' e []

abbrev passes : List Alter → String → Case
passes as' e = answers 0 as' e []

-- In an element g and the region r: an error without a current state, and none in the state s.
abbrev needs_state : ℕ → ℕ → ℕ → String → List Case
needs_state g s r e = error (inside g 0 1 r) e ∷ passes (inside g s 1 r) e ∷ []

-- An error without a current region, and none in region 4.
abbrev needs_region : ℕ → String → List Case
needs_region g e = error (inside g 1 1 0) e ∷ passes (inside g 1 1 4) e ∷ []

abbrev param : String
param = "event=open\nname=param\nkey=name\nvalue=p\n"

abbrev content : String
content = "event=whole\nname=content\ntext=t\n"

-- The current state is 0 in: data, initial, transition, invoke, donedata, send, param or content of invoke or donedata, the end of state, onentry, onexit,
-- finalize. The root is 0 at scxml's end; the current transition is 0 at transition's end (docs/DECISIONS.md, 54).
unfoldable pub without_state : List Case
unfolding altered_by good str
without_state =
    needs_state tag.datamodel 1 4 "event=empty\nname=data\nkey=id\nvalue=z\n"
    ++ needs_state tag.state 2 4 "event=open\nname=initial\n"
    ++ needs_state tag.state 1 4 "event=open\nname=transition\n"
    ++ needs_state tag.state 1 4 "event=open\nname=invoke\n"
    ++ needs_state tag.final 1 4 "event=open\nname=donedata\n"
    ++ needs_state tag.onentry 1 4 "event=open\nname=send\n"
    ++ needs_state tag.invoke 1 4 param
    ++ needs_state tag.invoke 1 4 content
    ++ needs_state tag.donedata 2 4 param
    ++ needs_state tag.donedata 2 4 content
    ++ needs_state tag.state 1 4 "event=end\nname=state\n"
    ++ needs_state tag.onentry 1 4 "event=end\nname=onentry\n"
    ++ needs_state tag.onexit 1 4 "event=end\nname=onexit\n"
    ++ needs_state tag.finalize 1 4 "event=end\nname=finalize\n"
    -- An invoke's state may be 0, and is not looked up then.
    ++ error (inside tag.invoke 0 0 4 ++ cell table.invokes 1 invoke.state 0 ∷ []) param
    ∷ error (inside tag.scxml 1 0 4 ++ cell table.chart 1 chart.root 0 ∷ []) "event=end\nname=scxml\n"
    ∷ passes (inside tag.scxml 1 0 4) "event=end\nname=scxml\n"
    ∷ error (inside tag.transition 1 0 4) "event=end\nname=transition\n"
    ∷ answers 0 (inside tag.transition 1 1 4) "event=end\nname=transition\n" (number table.transitions 1 transition.content 4 ∷ [])
    ∷ []

-- The current region is 0 when an entry is added or a region is closed, in the recursion too.
unfoldable pub without_region : List Case
unfolding altered_by good str
without_region =
    needs_region tag.onentry "event=open\nname=if\nkey=cond\nvalue=x\n"
    ++ needs_region tag.onentry "event=open\nname=foreach\nkey=array\nvalue=x\nkey=item\nvalue=y\n"
    ++ needs_region tag.onentry "event=empty\nname=script\n"
    ++ needs_region tag.onentry "event=empty\nname=log\nkey=expr\nvalue=x\n"
    ++ needs_region tag.onentry "event=empty\nname=assign\nkey=location\nvalue=x\n"
    ++ needs_region tag.onentry "event=whole\nname=assign\nkey=location\nvalue=x\ntext=y\n"
    ++ needs_region tag.onentry "event=empty\nname=raise\nkey=event\nvalue=x\n"
    ++ needs_region tag.onentry "event=empty\nname=cancel\nkey=sendid\nvalue=x\n"
    ++ needs_region tag.onentry "event=empty\nname=send\n"
    ++ needs_region tag.transition "event=end\nname=transition\n"
    ++ needs_region tag.onentry "event=end\nname=onentry\n"
    ++ needs_region tag.onexit "event=end\nname=onexit\n"
    ++ needs_region tag.finalize "event=end\nname=finalize\n"
    ++ needs_region tag.if "event=end\nname=if\n"
    ++ needs_region tag.foreach "event=end\nname=foreach\n"
    -- With no open region left, the current one is 0 and the walk does not start.
    ++ needs_region tag.if "event=open\nname=else\n"
    ++ needs_region tag.if "event=open\nname=elseif\nkey=cond\nvalue=x\n"
    -- An if is closed over a foreach's open region, which goes on in region 0.
    ++ error (inside tag.if 1 1 4 ++ field position.open_regions 1 ∷ cell table.open_regions 1 open_region.tag tag.foreach ∷ cell table.open_regions 1 open_region.region 0 ∷ []) "event=end\nname=if\n"
    ∷ passes (inside tag.if 1 1 4 ++ field position.open_regions 1 ∷ cell table.open_regions 1 open_region.tag tag.foreach ∷ []) "event=end\nname=if\n"
    ∷ error (inside tag.if 1 1 4 ++ field position.open_regions 1 ∷ cell table.open_regions 1 open_region.tag tag.foreach ∷ cell table.open_regions 1 open_region.region 0 ∷ []) "event=open\nname=else\n"
    ∷ []

-- param in send: the region is missing or empty, or its last entry is no send. content in send: the region is empty or its last entry is no send. The
-- state has no invoke at param, content or finalize's end; donedata absent at its param or content.
unfoldable pub without_owner : List Case
unfolding altered_by good str
without_owner =
    error (inside tag.send 1 0 0) param
    ∷ error (inside tag.send 1 0 5) param
    ∷ error (inside tag.send 1 0 4) param
    ∷ answers 0 (inside tag.send 1 0 3) param (number table.parameters 5 1 2 ∷ [])
    ∷ error (inside tag.send 1 0 5) content
    ∷ error (inside tag.send 1 0 4) content
    ∷ answers 0 (inside tag.send 1 0 3) content (number table.entries 2 entry.has_content 1 ∷ [])
    ∷ error (inside tag.invoke 2 0 4) param
    ∷ error (inside tag.invoke 2 0 4) content
    ∷ error (inside tag.finalize 2 0 4) "event=end\nname=finalize\n"
    ∷ error (inside tag.donedata 1 0 4) param
    ∷ error (inside tag.donedata 1 0 4) content
    ∷ []

-- No errors, and answered on (docs/DECISIONS.md, 55): content in send with current region 0 (skipped), log without expr in region 0, state or history with current state 0 (parent
-- 0), the end of a transition over leftover open regions (all are popped, the current region is 0 then, content is the innermost).
unfoldable pub answered_on : List Case
unfolding altered_by good str
answered_on =
    answers 0 (inside tag.send 1 0 0) content (number table.entries 2 entry.has_content 1 ∷ number table.entries 4 entry.has_content 0 ∷ [])
    ∷ answers 0 (inside tag.onentry 1 0 0) "event=empty\nname=log\nkey=label\nvalue=x\n" (rows table.entries 4 ∷ [])
    ∷ answers 0 (inside tag.state 0 0 4) "event=open\nname=state\nkey=id\nvalue=c\n" (
    rows table.states 3 ∷ number table.states 3 state.parent 0 ∷ rows table.members 9 ∷ [])
    ∷ answers 0 (inside tag.state 0 0 4) "event=open\nname=history\nkey=id\nvalue=c\n" (
    rows table.states 3 ∷ number table.states 3 state.parent 0 ∷ rows table.members 9 ∷ [])
    ∷ answers 0 (inside tag.transition 1 1 4 ++ field position.open_regions 2 ∷ cell table.opened 2 opened.tag tag.if ∷ []) "event=end\nname=transition\n" (
    number table.transitions 1 transition.content 4 ∷ rows table.open_regions 0 ∷ [])
    ∷ answers 0 (inside tag.if 1 1 4) "event=open\nname=else\n" (rows table.open_regions 1 ∷ number table.entries 4 entry.else 0 ∷ rows table.regions 6 ∷ [])
    -- After 12, and before 13, 14 and 15.
    ∷ answers 12 (inside tag.state 0 0 4) "event=open\nname=transition\nkey=type\nvalue=x\n" []
    ∷ answers 10 (inside tag.onentry 1 0 0) "event=empty\nname=raise\n" []
    ∷ answers 13 (inside tag.state 1 0 4) "event=open\nname=initial\n" []
    ∷ answers 2 (inside tag.state 0 0 4 ++ bound limit.invokes 1 ∷ []) "event=open\nname=invoke\n" []
    ∷ answers 15 (inside tag.state 1 0 4 ++ bound limit.invokes 1 ∷ []) "event=open\nname=invoke\n" []
    ∷ []
