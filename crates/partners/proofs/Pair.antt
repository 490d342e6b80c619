-- Demand 3 used on a literal pair in which every element that names a state, every masked key, every kind of event, odd lines and every kind of row occur.
use Prim.Native.Nat.{ℕ}
use mathlib.Core.Path.{◌≡◌, refl, ◌∙◌}
use mathlib.Core.List.{List, [], ◌∷◌, ◌++◌, map}
use lib.ListN.{replicate}
use Rattle.definition.specs.declared.Limits.{Limits}
use Rattle.definition.specs.Text.{str, all_allowed, is_allowed, is_word, no_separator, is_separator, starts_generated}
use Rattle.definition.specs.Reader.{Call, event, reading, Answer, run, start, zeros}
use Rattle.renaming.specs.Renaming.{Renaming, CallsRel, AnswersRel}
use Rattle.renaming.proofs.Swap.{swap, swap_renaming}
use Rattle.renaming.proofs.Demand3.{demand3}
use Rattle.renaming.proofs.Uses.{numbers_equal}
use Rattle.partners.proofs.Checked.{calls_fit, calls_fit_lem}

abbrev ρ : List ℕ → List ℕ
ρ = swap (str "aanamed") (str "zznamed")

renaming : Renaming ρ
unfolding str all_allowed is_allowed is_word no_separator is_separator starts_generated
renaming = swap_renaming (str "aanamed") (str "zznamed") refl tt tt tt tt (λ t. t) (λ t. t)

-- Names that begin nearly like generated ones may be renamed.
pub nearly_generated : Renaming (swap (str "__i1") (str "__ID"))
unfolding str all_allowed is_allowed is_word no_separator is_separator starts_generated
nearly_generated = swap_renaming (str "__i1") (str "__ID") refl tt tt tt tt (λ t. t) (λ t. t)

-- The list, in the names a and z and in masked texts of one to four bytes. What is written out is no state's name and stays, though it reads like one.
abbrev calls : List ℕ → List ℕ → List ℕ → List ℕ → List ℕ → List ℕ → List Call
calls a z c d e f =
    event (str "event=open\nname=scxml\nkey=id\nvalue=" ++ a ++ str "\nkey=initial\nvalue=" ++ z ++ str " b\t" ++ a ++ str "\nkey=name\nvalue=aanamed\nkey=cond\nvalue=" ++ f ++ str "\n")
    ∷ event (str "event=open\nname=x\nkey=id\nvalue=aanamed\nkey=target\nvalue=aanamed\nkey=cond\nvalue=" ++ c ++ str "\nkey=expr\nvalue=" ++ e ++ str "\nkey=array\nvalue=\n")
    ∷ event (str "event=end\nname=x\n")
    ∷ event (str "event=open\nname=datamodel\n")
    ∷ event (str "event=empty\nname=data\nkey=id\nvalue=aanamed\nkey=expr\nvalue=" ++ d ++ str "\n")
    ∷ event (str "event=end\nname=datamodel\n")
    ∷ event (str "event=open\nname=parallel\nkey=array\nvalue=" ++ e ++ str "\nkey=id\nvalue=" ++ z ++ str "\n")
    ∷ event (str "event=open\nname=history\nkey=id\nvalue=h\nkey=initial\nvalue=" ++ a ++ str "\nkey=expr\nvalue=" ++ f ++ str "\nkey=type\nvalue=deep\n")
    ∷ event (str "event=empty\nname=transition\nkey=target\nvalue=" ++ a ++ str "\u{c}" ++ z ++ str "\nkey=event\nvalue=aanamed\nkey=cond\nvalue=" ++ e ++ str "\n")
    ∷ event (str "event=end\nname=history\n")
    ∷ event (str "event=open\nname=invoke\nkey=id\nvalue=aanamed\nkey=namelist\nvalue=aanamed zznamed\n")
    ∷ event (str "event=empty\nname=param\nkey=name\nvalue=aanamed\nkey=expr\nvalue=" ++ c ++ str "\n")
    ∷ event (str "event=end\nname=invoke\n")
    ∷ event (str "event=open\nname=onentry\n")
    ∷ event (str "event=open\nname=foreach\nkey=array\nvalue=" ++ d ++ str "\nkey=item\nvalue=aanamed\n")
    ∷ event (str "event=empty\nname=send\nkey=id\nvalue=aanamed\nkey=target\nvalue=aanamed\nkey=namelist\nvalue=aanamed zznamed\n")
    ∷ event (str "event=empty\nname=log\nkey=expr\nvalue=" ++ f ++ str "\n")
    ∷ event (str "event=whole\nname=script\nkey=id\nvalue=aanamed\ntext=aanamed\n")
    ∷ event (str "event=whole\nname=assign\nkey=location\nvalue=aanamed\nkey=expr\nvalue=\ntext=cond\n")
    ∷ event (str "event=end\nname=foreach\n")
    ∷ event (str "event=end\nname=onentry\n")
    ∷ event (str "event=end\nname=parallel\n")
    ∷ event (str "event=empty\nname=final\nkey=id\nvalue=" ++ z ++ str "\n")
    ∷ event (str "event=empty\nname=state\nkey=id\nvalue=" ++ z ++ str "\nkey=initial\nvalue=h " ++ a ++ str "\n")
    ∷ event (str "event=open\nname=final\nkey=id\nvalue=" ++ a)
    ∷ event (str "event=open\nname=state\nname=send\nkey=id\nvalue=" ++ a ++ str "\n")
    ∷ event (str "event=open\nname=send\nname=state\nkey=id\nvalue=aanamed\n")
    ∷ event (str "event=open\nname=state\nvalue=aanamed\nkey=id\nkey=cond\nvalue=" ++ c ++ str "\nvalue=aanamed\n")
    ∷ event (str "event=open\nname=state\nkey=id\nvalue=\u{80}\nkey=cond\nvalue=a\\\nkey=expr\nvalue=" ++ c ++ str "\n")
    ∷ event (str "key=id\nvalue=aanamed\nkey=expr\nvalue=" ++ c ++ str "\n")
    ∷ event (str "event=open\nname=sta\\te\nkey=id\nvalue=aanamed\nkey=i\\\\d\nvalue=aanamed\nkey=co\\nd\nvalue=a\n")
    ∷ map (λ (t : ℕ). reading t 1) (0 ∷ 1 ∷ 2 ∷ 4 ∷ 5 ∷ 6 ∷ 7 ∷ 8 ∷ 9 ∷ [])
    ++ reading 3 4 ∷ reading 1 0 ∷ []

pub one : List Call
unfolding str
one = calls (str "aanamed") (str "zznamed") (str "c") (str "xs") (str "e f") (str "true")

pub two : List Call
unfolding str
two = calls (str "zznamed") (str "aanamed") (str "d") (str "*.") (str "g\th") (str "\\n\\\\\\\\a")

partners : CallsRel ρ one two
unfolding one two calls_fit swap
partners = calls_fit_lem ρ one two refl

pub alike : (L : Limits) (ks : List ℕ) (k : ℕ) → AnswersRel ρ one (run L (zeros ks k) start one) (run L (zeros ks k) start two)
alike L ks k = demand3 ρ renaming L ks k one two partners

-- ---- the list is no empty promise: in small slices all but the odd lines are taken, and a row of every kind is read

abbrev small : Limits
small =
    record {
      name = 64;
      attributes = 16;
      key = 64;
      value = 1024;
      text = 4096;
      opened = 6;
      states = 4;
      transitions = 4;
      regions = 4;
      entries = 5;
      invokes = 1;
      datums = 1;
      parameters = 1;
      members = 20;
      drawn = 20;
      charge = 300;
    }

abbrev sizes : List ℕ
sizes = 1 ∷ 4 ∷ 4 ∷ 4 ∷ 5 ∷ 1 ∷ 1 ∷ 1 ∷ 20 ∷ 6 ∷ 6 ∷ 12 ∷ []

abbrev numbers : List Call → List ℕ
numbers cs = map (λ (a : Answer). a.number) (run small (zeros sizes 300) start cs)

pub taken : numbers one ≡ replicate 24 0 ++ replicate 7 3 ++ replicate 8 0 ++ 16 ∷ 0 ∷ 16 ∷ []
unfolding run zeros start one
taken = refl

-- So are the partner's: nothing of it is computed here.
pub taken_too : numbers two ≡ replicate 24 0 ++ replicate 7 3 ++ replicate 8 0 ++ 16 ∷ 0 ∷ 16 ∷ []
taken_too = numbers_equal ρ renaming small sizes 300 one two partners ∙ taken
