-- The numbers of kinds of event, elements, keys, entries, owners and lists, as rows and definitions have them; of refusals; of what may be refused; and of a kind or a key that may be none.
use Rattle.std.specs.Prelude.{ℕ, Option, Some, None, Result, Ok, Err}
use Rattle.definition.specs.declared.codes.Kind.{Kind}
use Rattle.definition.specs.declared.codes.Kind.TheVariants as K
use Rattle.definition.specs.declared.codes.Tag.{Tag}
use Rattle.definition.specs.declared.codes.Tag.TheVariants as T
use Rattle.definition.specs.declared.codes.Key.{Key}
use Rattle.definition.specs.declared.codes.Key.TheVariants as Y
use Rattle.definition.specs.declared.codes.EntryKind.{EntryKind}
use Rattle.definition.specs.declared.codes.EntryKind.TheVariants as E
use Rattle.definition.specs.declared.codes.OwnerKind.{OwnerKind}
use Rattle.definition.specs.declared.codes.OwnerKind.TheVariants as O
use Rattle.definition.specs.declared.codes.ListKind.{ListKind}
use Rattle.definition.specs.declared.codes.ListKind.TheVariants as L
use Rattle.definition.specs.declared.codes.Refusal.{Refusal}
use Rattle.definition.specs.declared.codes.Refusal.TheVariants as R

abbrev pub kind_number : Kind → ℕ
kind_number K.Open = 0
kind_number K.Empty = 1
kind_number K.Whole = 2
kind_number K.End = 3

abbrev pub tag_number : Tag → ℕ
tag_number T.Unknown = 0
tag_number T.Scxml = 1
tag_number T.State = 2
tag_number T.Parallel = 3
tag_number T.Datamodel = 4
tag_number T.Final = 5
tag_number T.History = 6
tag_number T.Initial = 7
tag_number T.Invoke = 8
tag_number T.Data = 9
tag_number T.Donedata = 10
tag_number T.Finalize = 11
tag_number T.Else = 12
tag_number T.Elseif = 13
tag_number T.Param = 14
tag_number T.Content = 15
tag_number T.Transition = 16
tag_number T.Onentry = 17
tag_number T.Onexit = 18
tag_number T.Send = 19
tag_number T.Raise = 20
tag_number T.Cancel = 21
tag_number T.Log = 22
tag_number T.Assign = 23
tag_number T.If = 24
tag_number T.Foreach = 25
tag_number T.Script = 26
tag_number T.Include = 27

abbrev pub key_number : Key → ℕ
key_number Y.Id = 1
key_number Y.Initial = 2
key_number Y.Name = 3
key_number Y.Datamodel = 4
key_number Y.Binding = 5
key_number Y.Version = 6
key_number Y.Type = 7
key_number Y.Typeexpr = 8
key_number Y.Src = 9
key_number Y.Srcexpr = 10
key_number Y.Idlocation = 11
key_number Y.Namelist = 12
key_number Y.Autoforward = 13
key_number Y.Event = 14
key_number Y.Eventexpr = 15
key_number Y.Cond = 16
key_number Y.Target = 17
key_number Y.Targetexpr = 18
key_number Y.Expr = 19
key_number Y.Array = 20
key_number Y.Item = 21
key_number Y.Index = 22
key_number Y.Sendid = 23
key_number Y.Sendidexpr = 24
key_number Y.Delay = 25
key_number Y.Delayexpr = 26
key_number Y.Location = 27
key_number Y.Label = 28

abbrev pub entry_number : EntryKind → ℕ
entry_number E.If = 1
entry_number E.Script = 2
entry_number E.Log = 3
entry_number E.Foreach = 4
entry_number E.Send = 5
entry_number E.Raise = 6
entry_number E.Cancel = 7
entry_number E.Assign = 8

abbrev pub owner_number : OwnerKind → ℕ
owner_number O.Send = 1
owner_number O.Invoke = 2
owner_number O.Donedata = 3

abbrev pub list_number : ListKind → ℕ
list_number L.Children = 1
list_number L.History = 2
list_number L.Onentry = 3
list_number L.Onexit = 4
list_number L.Transitions = 5
list_number L.Targets = 6
list_number L.Events = 7
list_number L.SendNames = 8
list_number L.InvokeNames = 9

abbrev pub refusal_number : Refusal → ℕ
refusal_number R.TooShort = 1
refusal_number R.OutOfOrder = 2
refusal_number R.NotInForm = 3
refusal_number R.RepeatedKey = 4
refusal_number R.WrongEnd = 5
refusal_number R.LeftOut = 6
refusal_number R.TooDeep = 7
refusal_number R.WrongParent = 8
refusal_number R.SecondScxml = 9
refusal_number R.Missing = 10
refusal_number R.Together = 11
refusal_number R.UnknownWord = 12
refusal_number R.InitialSet = 13
refusal_number R.NoIf = 14
refusal_number R.Full = 15
refusal_number R.NoRow = 16

-- The number of what may be refused: 0 where nothing is.
abbrev pub outcome : {A : Type 0} → Result A Refusal → ℕ
outcome (Ok x) = 0
outcome (Err r) = refusal_number r

-- Where a word names no kind the number is 4, and 0 is no key's.
abbrev pub kind_code : Option Kind → ℕ
kind_code None = 4
kind_code (Some k) = kind_number k

abbrev pub key_code : Option Key → ℕ
key_code None = 0
key_code (Some k) = key_number k
