-- Demand 3 put to use: a literal list of calls and its partner, in which two state names change places and masked texts are replaced.
use Prim.Native.Nat.{ℕ}
use mathlib.Core.Path.{◌≡◌, refl}
use mathlib.Core.List.{List, [], ◌∷◌, ◌++◌}
use Rattle.definition.specs.declared.Limits.{Limits}
use Rattle.definition.specs.Text.{str, all_allowed, is_allowed, is_word, no_separator, is_separator, starts_generated}
use Rattle.definition.specs.Elements.{role_of, is_masked, is_name, is_names, names_state, among, tag_of, key_of}
use Rattle.definition.specs.Event.{line_of, lines_from, tail_from, is_nil, legible}
use Rattle.definition.specs.Reader.{Call, event, reading, Answer, run, start, zeros}
use Rattle.renaming.specs.Renaming.{Renaming, rename_words, ValueRel, LinesRel, CallRel, CallsRel, AnswersRel, last_line, all_lines, tag_written, key_written, element_in, key_before, is_free}
use Rattle.renaming.proofs.Swap.{swap, swap_renaming}
use Rattle.renaming.proofs.Demand3.{demand3}

aa_zz : Renaming (swap (str "aa") (str "zz"))
unfolding str all_allowed is_allowed is_word no_separator is_separator starts_generated
aa_zz = swap_renaming (str "aa") (str "zz") refl tt tt tt tt (λ t. t) (λ t. t)

-- The list, in the names a and w (a list of names) and the masked texts c, d, e. The same condition stands twice, and is replaced each time on its own; an
-- escape more makes the partner's line longer; a send's id is a state's name and stays, as an unknown element's does, whose condition is masked too; an event's `name=` line comes last; a value can't be unescaped.
abbrev calls : List ℕ → List ℕ → List ℕ → List ℕ → List ℕ → List Call
calls a w c d e =
    event (str "event=open\nname=scxml\n")
    ∷ event (str "event=open\nname=state\nkey=id\nvalue=" ++ a ++ str "\nkey=initial\nvalue=" ++ w ++ str "\n")
    ∷ event (str "event=open\nname=onentry\n")
    ∷ event (str "event=empty\nname=send\nkey=id\nvalue=aa\n")
    ∷ event (str "event=open\nname=if\nkey=cond\nvalue=" ++ c ++ str "\n")
    ∷ event (str "event=open\nname=if\nkey=cond\nvalue=" ++ d ++ str "\n")
    ∷ event (str "event=empty\nname=x\nkey=cond\nvalue=" ++ c ++ str "\nkey=id\nvalue=aa\n")
    ∷ event (str "key=id\nvalue=" ++ a ++ str "\nkey=cond\nvalue=" ++ e ++ str "\nname=state\n")
    ∷ event (str "event=open\nname=state\nkey=id\nvalue=\\q\n")
    ∷ reading 4 1
    ∷ reading 1 2
    ∷ reading 7 1
    ∷ []

pub one : List Call
unfolding str
one = calls (str "aa") (str " zz aa") (str "x>1") (str "x>1") (str "x>1")

pub two : List Call
unfolding str
two = calls (str "zz") (str " aa zz") (str "y<2") (str "\\\\\\n!") (str "yes")

partners : CallsRel (swap (str "aa") (str "zz")) one two
unfolding one two str all_lines lines_from tail_from last_line is_nil line_of element_in tag_written key_written tag_of key_of role_of is_masked is_name is_names names_state among key_before is_free legible rename_words swap
partners =
    CallsRel.next (CallRel.events _ _ (LinesRel.kept _ refl (LinesRel.kept _ refl LinesRel.done)) refl)
    (CallsRel.next
    (CallRel.events _ _
    (LinesRel.kept _ refl (LinesRel.kept _ refl (LinesRel.kept _ refl
    (LinesRel.moved (str "aa") (str "zz") (ValueRel.legibly (str "aa") (str "zz") refl refl refl)
    (LinesRel.kept _ refl
    (LinesRel.moved (str " zz aa") (str " aa zz") (ValueRel.legibly (str " zz aa") (str " aa zz") refl refl refl) LinesRel.done)))))) refl)
    (CallsRel.next (CallRel.events _ _ (LinesRel.kept _ refl (LinesRel.kept _ refl LinesRel.done)) refl)
    (CallsRel.next
    (CallRel.events _ _
    (LinesRel.kept _ refl (LinesRel.kept _ refl (LinesRel.kept _ refl
    (LinesRel.moved (str "aa") (str "aa") (ValueRel.legibly (str "aa") (str "aa") refl refl refl) LinesRel.done)))) refl)
    (CallsRel.next
    (CallRel.events _ _
    (LinesRel.kept _ refl (LinesRel.kept _ refl (LinesRel.kept _ refl
    (LinesRel.moved (str "x>1") (str "y<2") (ValueRel.legibly (str "x>1") (str "y<2") refl refl refl) LinesRel.done)))) refl)
    (CallsRel.next
    (CallRel.events _ _
    (LinesRel.kept _ refl (LinesRel.kept _ refl (LinesRel.kept _ refl
    (LinesRel.moved (str "x>1") (str "\\\\\\n!") (ValueRel.legibly (str "x>1") (str "\\\n!") refl refl refl) LinesRel.done)))) refl)
    (CallsRel.next
    (CallRel.events _ _
    (LinesRel.kept _ refl (LinesRel.kept _ refl (LinesRel.kept _ refl
    (LinesRel.moved (str "x>1") (str "y<2") (ValueRel.legibly (str "x>1") (str "y<2") refl refl refl)
    (LinesRel.kept _ refl (LinesRel.moved (str "aa") (str "aa") (ValueRel.legibly (str "aa") (str "aa") refl refl refl) LinesRel.done)))))) refl)
    (CallsRel.next
    (CallRel.events _ _
    (LinesRel.kept _ refl
    (LinesRel.moved (str "aa") (str "zz") (ValueRel.legibly (str "aa") (str "zz") refl refl refl)
    (LinesRel.kept _ refl
    (LinesRel.moved (str "x>1") (str "yes") (ValueRel.legibly (str "x>1") (str "yes") refl refl refl) (LinesRel.kept _ refl LinesRel.done))))) refl)
    (CallsRel.next
    (CallRel.events _ _
    (LinesRel.kept _ refl (LinesRel.kept _ refl (LinesRel.kept _ refl (LinesRel.moved (str "\\q") (str "\\q") (ValueRel.illegible refl refl) LinesRel.done)))) refl)
    (CallsRel.next (CallRel.readings 4 1) (CallsRel.next (CallRel.readings 1 2) (CallsRel.next (CallRel.readings 7 1) CallsRel.stop)))))))))))

-- So their runs agree, whatever the limits and however long the slices are, too short ones included.
pub alike : (L : Limits) (ks : List ℕ) (k : ℕ) → AnswersRel (swap (str "aa") (str "zz")) one (run L (zeros ks k) start one) (run L (zeros ks k) start two)
alike L ks k = demand3 (swap (str "aa") (str "zz")) aa_zz L ks k one two partners

-- ---- the list is no empty promise: in small slices its events are taken, and only the two that are out of form and the reading of no parameter are refused

abbrev small : Limits
small =
    record {
      name = 64;
      attributes = 16;
      key = 64;
      value = 1024;
      text = 4096;
      opened = 6;
      states = 4;
      transitions = 2;
      regions = 3;
      entries = 3;
      invokes = 1;
      datums = 1;
      parameters = 1;
      members = 6;
      drawn = 20;
      charge = 60;
    }

abbrev sizes : List ℕ
sizes = 1 ∷ 4 ∷ 2 ∷ 3 ∷ 3 ∷ 1 ∷ 1 ∷ 1 ∷ 6 ∷ 6 ∷ 6 ∷ 12 ∷ []

pub numbers_of : List Answer → List ℕ
numbers_of [] = []
numbers_of (a ∷ as₁) = a.number ∷ numbers_of as₁

pub taken : numbers_of (run small (zeros sizes 60) start one) ≡ 0 ∷ 0 ∷ 0 ∷ 0 ∷ 0 ∷ 0 ∷ 0 ∷ 3 ∷ 3 ∷ 0 ∷ 0 ∷ 16 ∷ []
unfolding numbers_of run zeros start one
taken = refl

pub too_short_lem : numbers_of (run small (zeros [] 60) start one) ≡ 1 ∷ 1 ∷ 1 ∷ 1 ∷ 1 ∷ 1 ∷ 1 ∷ 1 ∷ 1 ∷ 1 ∷ 1 ∷ 1 ∷ []
unfolding numbers_of run zeros start one
too_short_lem = refl
