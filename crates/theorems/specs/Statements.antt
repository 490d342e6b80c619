-- From the empty chart the answer 2 never occurs, and every store reached keeps the rules.
use Rattle.std.specs.Prelude.{ℕ, ◌≡◌, true, List, leb}
use Rattle.definition.specs.declared.Limits.{Limits}
use Rattle.definition.specs.Rows.{empty}
use Rattle.definition.specs.Rules.{keeps_rules}
use Rattle.definition.specs.Reader.{store_of, long_enough, Call, Answer, run, start, zeros, stream}
use Rattle.reached.specs.Fed.{fed}
use Rattle.reached.specs.Statements.{NoneIsTwo}
use Rattle.runs.specs.Statements.{Every}

-- Whatever is called, in slices of zeros of any lengths. Element names of more than 64 bytes would not fit a row of open names.
abbrev pub TwoNeverAnswered : Type 0
TwoNeverAnswered = (L : Limits) → leb L.name 64 ≡ true → (ks : List ℕ) (k : ℕ) (cs : List Call) → NoneIsTwo (run L (zeros ks k) start cs)

abbrev pub TwoNeverStreamed : Type 0
TwoNeverStreamed = (L : Limits) → leb L.name 64 ≡ true → (ks : List ℕ) (k : ℕ) (text : List ℕ) → ¬ ((stream L (zeros ks k) start text).number ≡ 2)

-- Every list of events leads to a store that keeps the rules.
abbrev pub ReachedKeepsRules : Type 0
ReachedKeepsRules = (L : Limits) → leb L.name 64 ≡ true → (raws : List (List ℕ)) → keeps_rules L (fed L empty raws) ≡ true

-- So does every store after a call of any list, in slices that are long enough.
abbrev pub RunsKeepRules : Type 0
RunsKeepRules =
    (L : Limits) → leb L.name 64 ≡ true → (ks : List ℕ) (k : ℕ) → long_enough L (zeros ks k) ≡ true → (cs : List Call)
    → Every (λ (a : Answer). keeps_rules L (store_of a.lent a.position) ≡ true) (run L (zeros ks k) start cs)
