-- From the empty chart the answer 2 never occurs.
use Prim.Native.Nat.{ℕ}
use mathlib.Core.Path.{◌≡◌}
use mathlib.Core.Bool.{true}
use mathlib.Core.List.{List, [], ◌∷◌}
use lib.Dec.{leb}
use Rattle.definition.specs.declared.Limits.{Limits}
use Rattle.definition.specs.Rows.{Store, empty}
use Rattle.definition.specs.Rules.{keeps_rules}
use Rattle.definition.specs.Reader.{event_reply, start, zeros}
use Rattle.reached.specs.Fed.{fed}
use Rattle.reached.proofs.Runs.{run_none_two, stream_not_two, empty_keeps, zeros_sound}
use Rattle.kept.proofs.RulesKept.{rules_kept_lem, all_kept}
use Rattle.runs.proofs.Runs.{run_keeps_rules}
use Rattle.theorems.specs.Statements.{TwoNeverAnswered, TwoNeverStreamed, ReachedKeepsRules, RunsKeepRules}

pub two_never_answered : TwoNeverAnswered
two_never_answered L short = run_none_two L (λ s raw reached rules accepted. rules_kept_lem L s raw short rules accepted)

pub two_never_streamed : TwoNeverStreamed
two_never_streamed L short = stream_not_two L (λ s raw reached rules accepted. rules_kept_lem L s raw short rules accepted)

fed_keeps : (L : Limits) → leb L.name 64 ≡ true → (s : Store) → keeps_rules L s ≡ true → (raws : List (List ℕ)) → keeps_rules L (fed L s raws) ≡ true
unfolding fed
fed_keeps L short s k [] = k
fed_keeps L short s k (r ∷ rs) = fed_keeps L short (event_reply L s r).store (all_kept L s r short k) rs

pub reached_keeps_rules : ReachedKeepsRules
reached_keeps_rules L short raws = fed_keeps L short empty (empty_keeps L) raws

pub runs_keep_rules : RunsKeepRules
runs_keep_rules L short ks k long cs =
    run_keeps_rules L (zeros ks k) start cs short long (zeros_sound L (λ s raw reached rules accepted. rules_kept_lem L s raw short rules accepted) ks k long).order
